-- The table of worked figures: of the prices, and of the edges and the split.
use Rattle.balancing.specs.Worked.{WorkedEdges}
use Rattle.prices.specs.Worked.{WorkedPrices}

pub record Worked : Type 0 where
  pub prices : WorkedPrices
  pub edges : WorkedEdges
