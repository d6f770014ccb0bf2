-- What a price source means.
use Rattle.std.specs.Prelude.{ℕ, ◌≤◌, Ok, Err, Result}
use Rattle.prices.specs.declared.point.Point.{Point}
use Rattle.prices.specs.declared.source.Lack.{Lack}
use Rattle.prices.specs.Limits.{price_limit}
use Rattle.calendar.specs.Days.{last_day}

-- For a point and the first and last day of a span: a price, or a day that the source lacks one for.
abbrev pub Quote : Type 0
Quote = Point → ℕ → ℕ → Result ℕ Lack

-- A price is 0 to 10,000,000 micros for a m³; a lacking day is a day, 1 to 3,653. It need not lie in the span.
abbrev pub Fair : Result ℕ Lack → Type 0
Fair (Ok p) = p ≤ price_limit
Fair (Err l) = (1 ≤ l.day) × (l.day ≤ last_day)

-- A fair source answers so for every point, over every span of the calendar.
abbrev pub FairQuote : Quote → Type 0
FairQuote q = (p : Point) (from to : ℕ) → 1 ≤ from → from ≤ to → to ≤ last_day → Fair (q p from to)
