use Rattle.std.proofs.Common.{arith}
use Rattle.std.proofs.lemmas.Int.{ints}
use Rattle.balancing.specs.Bounds.{egd_most}
use Rattle.balancing.proofs.egd.EgdBalancingRule.edges.Goals as goal

pub invariant_of-result : goal.invariant_of-result
invariant_of-result c = let h = egd_most c.args.extent.mdv c.args.extent.days in record {
  ordered = omega (arith, ints);
  floor = omega (arith, ints);
  ceiling = omega (arith, ints);
}
