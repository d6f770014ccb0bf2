-- The limits of the book's figures and of its table.
use Rattle.std.specs.Prelude.{ℕ}

-- Pools are numbered from 1 to 99,999.
abbrev pub pool_limit : ℕ
pool_limit = 99999

-- No term runs past day 3,400.
abbrev pub term_ends : ℕ
term_ends = 3400

-- A volume posted for a day is at most 10,000,000 m³.
abbrev pub posted_limit : ℕ
posted_limit = 10000000

-- A point's suspension allowance for a day is at most 10,000,000 m³.
abbrev pub allowance_limit : ℕ
allowance_limit = 10000000

-- A ledger has places for 64 terms.
abbrev pub term_places : ℕ
term_places = 64
