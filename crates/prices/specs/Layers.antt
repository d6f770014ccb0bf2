-- Layers: each turns the price beneath it into another, and hands a lack up as it is.
use Rattle.std.specs.Prelude.{ℕ, ◌+◌, ◌*◌, ◌/◌, min, Bool, ◌&&◌, ℤ, pos, negsuc, neg_ℤ, ◌+ℤ◌, int_le, nat_le}
use Rattle.prices.specs.declared.point.Point.{Point}
use Rattle.prices.specs.declared.by_point.ByPoint.{ByPoint}
use Rattle.prices.specs.Over.{over}
use Rattle.prices.specs.Points.{at_point}
use Rattle.prices.specs.Quotes.{Quote}
use Rattle.prices.specs.Limits.{price_limit, toll_limit}

-- No price is above 10,000,000.
abbrev pub capped : ℕ → ℕ
capped p = min p price_limit

-- A share is 1 to 300 per cent.
abbrev pub is_percent : ℕ → Bool
is_percent percent = nat_le 1 percent && nat_le percent 300

-- A share of a price is rounded to the nearest, a half up, and capped.
abbrev pub share_of : ℕ → ℕ → ℕ
share_of percent p = capped ((p * percent + 50) / 100)

abbrev pub shared : ℕ → Quote → Quote
shared percent q = λ point from to. over (share_of percent) (q point from to)

-- Tolls are a signed figure for each point.
abbrev pub Tolls : Type 0
Tolls = ByPoint ℤ

-- A toll is within 1,000,000 of 0, on either side.
abbrev pub is_toll : ℤ → Bool
is_toll toll = int_le (neg_ℤ (pos toll_limit)) toll && int_le toll (pos toll_limit)

abbrev pub are_tolls : Tolls → Bool
are_tolls t = is_toll t.western && (is_toll t.dawn && is_toll t.ontario)

abbrev pub toll_at : Tolls → Point → ℤ
toll_at = at_point

-- A sum below 0 counts as 0.
abbrev pub at_least_0 : ℤ → ℕ
at_least_0 (pos n) = n
at_least_0 (negsuc n) = 0

-- A toll is added to a price, and the sum is capped.
abbrev pub with_toll : ℤ → ℕ → ℕ
with_toll toll p = capped (at_least_0 (pos p +ℤ toll))

abbrev pub tolled : Tolls → Quote → Quote
tolled t q = λ point from to. over (with_toll (toll_at t point)) (q point from to)
