use Rattle.balancing.proofs.Figures.{worked_edges}
use Rattle.prices.proofs.Worked.{worked_prices}
use Rattle.zones.proofs.worked.figures_stand.Goals as goal

pub returns : goal.returns
returns c = record { prices = worked_prices; edges = worked_edges }
