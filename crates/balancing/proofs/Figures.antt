-- The worked figures, by computation from the definitions.
use Rattle.std.proofs.Common.{refl}
use Rattle.balancing.specs.Worked.{WorkedEdges}

pub worked_edges : WorkedEdges
worked_edges = (refl, refl, refl, refl, refl, refl)
