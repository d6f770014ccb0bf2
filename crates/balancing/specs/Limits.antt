-- The limits of a term's figures.
use Rattle.std.specs.Prelude.{ℕ, ◌*◌}

-- The daily contracted volume (MDV) is at most 500,000 m³.
abbrev pub mdv_limit : ℕ
mdv_limit = 500000

-- A term runs at most 366 days.
abbrev pub term_days : ℕ
term_days = 366

-- The largest volume of a term is that of the largest MDV on the most days: 183,000,000 m³.
abbrev pub volume_limit : ℕ
volume_limit = mdv_limit * term_days
