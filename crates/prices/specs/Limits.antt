-- The limits of prices, of their totals and of tolls.
use Rattle.std.specs.Prelude.{ℕ, ◌*◌}
use Rattle.calendar.specs.Days.{last_day}

-- A price is at most 10,000,000 micros, ten dollars, for a m³.
abbrev pub price_limit : ℕ
price_limit = 10000000

-- The total of the prices over the days of a span is at most that of the largest price on every day.
abbrev pub total_limit : ℕ
total_limit = price_limit * last_day

-- A toll is within 1,000,000 of 0, on either side.
abbrev pub toll_limit : ℕ
toll_limit = 1000000
