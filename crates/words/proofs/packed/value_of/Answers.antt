use Rattle.std.proofs.lemmas.Nat.{and_mask}
use Rattle.words.proofs.packed.value_of.Goals as goal

pub returns : goal.returns
returns c = and_mask c.args.bits 28
