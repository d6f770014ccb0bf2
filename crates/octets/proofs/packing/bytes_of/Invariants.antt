use Rattle.std.proofs.Common.{◌≡◌, ◌++◌, drop, vec_items}
use Rattle.octets.specs.Packing.{packed}
use Rattle.octets.proofs.packing.bytes_of.Given as goal

abbrev pub invariant-loop-word : goal.invariant-loop-word
invariant-loop-word l = vec_items l.bytes ++ packed (drop l.word-index l.words) ≡ packed l.words
