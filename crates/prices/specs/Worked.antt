-- Worked figures: three days at 100,000, 100,001 and 100,001 have the mean 100,001; 120 per cent of it is 120,001, and
-- 80 per cent 80,001.
use Rattle.std.specs.Prelude.{◌≡◌, [], ◌∷◌, Ok}
use Rattle.prices.specs.declared.point.Point.TheVariants.{Dawn}
use Rattle.prices.specs.Quotes.{Quote}
use Rattle.prices.specs.Ends.{daily_quote}
use Rattle.prices.specs.Layers.{shared}

abbrev pub three_days : Quote
three_days = daily_quote 1 (100000 ∷ 100001 ∷ 100001 ∷ [])

abbrev pub WorkedPrices : Type 0
WorkedPrices =
    (three_days Dawn 1 3 ≡ Ok 100001)
    × (shared 120 three_days Dawn 1 3 ≡ Ok 120001)
    × (shared 80 three_days Dawn 1 3 ≡ Ok 80001)
