use Rattle.std.proofs.Common.{w32}
use Rattle.std.proofs.lemmas.Int.{to_z-of_z}
use Rattle.balancing.proofs.Bills.{split_same}
use Rattle.balancing.proofs.Figures.{worked_edges}
use Rattle.balancing.proofs.settling.settle.Goals as goal

pub returns : goal.returns
returns g c =
    record {
      split = split_same c.edges.ensures (to_z-of_z w32 _ c.ranges.balance) c.split.ensures;
      worked = worked_edges;
    }
