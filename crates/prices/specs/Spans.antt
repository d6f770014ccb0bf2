-- Spans of days, both ends within them.
use Rattle.std.specs.Prelude.{ℕ, Bool, ◌&&◌, nat_le}
use Rattle.calendar.specs.Days.{last_day}

-- A span lies within the days 1 to 3,653 and does not run backwards.
abbrev pub is_span : ℕ → ℕ → Bool
is_span from to = nat_le 1 from && (nat_le from to && nat_le to last_day)
