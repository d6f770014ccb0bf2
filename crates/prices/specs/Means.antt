-- The mean of a price for each day, over the days of a span.
use Rattle.std.specs.Prelude.{ℕ, ◌+◌, ◌-◌, ◌*◌, ◌/◌, ◌≤◌, List, [], ◌∷◌, length}
use Rattle.std.specs.Prelude.{Some, None, Ok, Err, sum, Option, Result}
use Rattle.std.specs.List.{range_with_len}
use Rattle.prices.specs.declared.source.Lack.{Lack}
use Rattle.prices.specs.Over.{over}
use Rattle.prices.specs.Limits.{price_limit}

-- What is said of a day's price holds of a day that has none.
abbrev pub Priced : (ℕ → Type 0) → Option ℕ → Type 0
Priced P (Some p) = P p
Priced P None = Unit {0}

-- A day's price is at most 10,000,000.
abbrev pub FairDay : Option ℕ → Type 0
FairDay o = Priced (λ p. p ≤ price_limit) o

-- The days of a span, both ends within it.
abbrev pub span_days : ℕ → ℕ → List ℕ
span_days from to = range_with_len from (to + 1 - from)

-- The prices of a list of days, or the first of them that has none.
abbrev pub led_by : ℕ → Option ℕ → Result (List ℕ) Lack → Result (List ℕ) Lack
led_by d None rest = Err (record { day = d })
led_by d (Some p) (Ok ps) = Ok (p ∷ ps)
led_by d (Some p) (Err l) = Err l

abbrev pub prices_on : (ℕ → Option ℕ) → List ℕ → Result (List ℕ) Lack
prices_on price [] = Ok []
prices_on price (d ∷ ds) = led_by d (price d) (prices_on price ds)

-- The mean of n prices with the sum S is (2 × S + n) / (2 × n), the fraction dropped.
abbrev pub rounded : ℕ → ℕ → ℕ
rounded total n = (2 * total + n) / (2 * n)

abbrev pub mean_price : List ℕ → ℕ
mean_price ps = rounded (sum ps) (length ps)

-- The mean over the days of a span, or the first day of it that has no price.
unfoldable pub mean_of : (ℕ → Option ℕ) → ℕ → ℕ → Result ℕ Lack
mean_of price from to = over mean_price (prices_on price (span_days from to))
