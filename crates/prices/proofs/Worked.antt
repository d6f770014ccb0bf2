-- The worked figures, computed from the definitions.
use Rattle.std.proofs.Common.{refl}
use Rattle.prices.specs.Means.{mean_of}
use Rattle.prices.specs.Worked.{WorkedPrices}

pub worked_prices : WorkedPrices
unfolding mean_of
worked_prices = (refl, refl, refl)
