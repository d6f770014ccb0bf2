-- The total over the days of a span, from which the mean is taken.
use Rattle.std.specs.Prelude.{◌≡◌, ℕ, ◌+◌, ◌-◌, ◌≤◌, Ok, Err, Option, Result}
use Rattle.prices.specs.declared.source.Lack.{Lack}
use Rattle.prices.specs.Means.{rounded, mean_of}
use Rattle.prices.specs.Limits.{total_limit, price_limit}

-- A total is small enough to be doubled, and rounds to the mean, which is a price.
pub record IsTotal (price : ℕ → Option ℕ) (from to total : ℕ) : Type 0 where
  pub small : total ≤ total_limit
  pub fair : rounded total (to + 1 - from) ≤ price_limit
  pub mean : Ok (rounded total (to + 1 - from)) ≡ mean_of price from to

abbrev pub Totals : (ℕ → Option ℕ) → ℕ → ℕ → Result ℕ Lack → Type 0
Totals price from to (Ok total) = IsTotal price from to total
Totals price from to (Err l) = Err l ≡ mean_of price from to
