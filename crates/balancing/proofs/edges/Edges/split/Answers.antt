use Rattle.std.proofs.Common.{arith}
use Rattle.std.proofs.lemmas.Int.{ints, to_z-of_z}
use Rattle.balancing.specs.Edges.{band_of}
use Rattle.balancing.proofs.Bills.{splits}
use Rattle.balancing.proofs.edges.Edges.split.Goals as goal

pub returns : goal.returns
returns c =
    splits (band_of c.args.self.now) c.args.balance _ _ c.args.self.now.ordered (grind (arith, to_z-of_z))
    (omega (arith, ints))
