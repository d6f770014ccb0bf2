-- The days of the ledger: day 1 is 1 January 2024, and day 3,653, 31 December 2033, is the last.
use Rattle.std.specs.Prelude.{ℕ, Bool, ◌&&◌, nat_le}

abbrev pub last_day : ℕ
last_day = 3653

-- The months of these days, counted from 0.
abbrev pub month_count : ℕ
month_count = 120

abbrev pub is_day : ℕ → Bool
is_day day = nat_le 1 day && nat_le day last_day
