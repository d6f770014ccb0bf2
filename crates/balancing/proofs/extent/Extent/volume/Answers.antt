use Rattle.std.proofs.Common.{arith}
use Rattle.std.proofs.lemmas.Bool.Decides.{nat_tests}
use Rattle.balancing.specs.Bounds.{term_most}
use Rattle.balancing.proofs.extent.Extent.volume.Goals as goal

pub overflow_mul-result : goal.overflow_mul-result
overflow_mul-result c = omega (arith, term_most c.args.self.mdv c.args.self.days (grind (arith, nat_tests)))

pub returns-clause-most : goal.returns-clause-most
returns-clause-most c = term_most c.args.self.mdv c.args.self.days (grind (arith, nat_tests))
