use Rattle.std.proofs.Common.{arith}
use Rattle.octets.proofs.Words.{bytes, byte_more, bytes_all}
use Rattle.octets.proofs.packing.bytes_of.Goals as goal

pub loop-word-preserved : goal.loop-word-preserved
loop-word-preserved c =
    rw c.in_ok-extend_from_slice.ensures.items
    (byte_more _ _ _ _ c.loop-word-test.true (grind (arith, bytes)) c.loop-word.invariant)

pub returns : goal.returns
returns c = bytes_all _ _ _ c.loop-word-test.false c.loop-word.invariant
