use Rattle.std.proofs.Common.{Ok, ◌≡◌, ◌*◌, ◌/◌, ◌%◌, ◌<◌, ◌++◌, drop, length, map, refl, rules, arith}
use Rattle.std.specs.Int.{w32, from_le_bytes}
use Rattle.std.proofs.lemmas.Iterator.{YieldsList-from_slice, YieldsList-from_map, items_from_collect}
use Rattle.std.proofs.lemmas.Bool.Decides.{nat_tests}
use Rattle.octets.specs.Packing.{words_of}
use Rattle.octets.proofs.Words.{chunks_so_far, words_whole, words_cut}
use Rattle.octets.proofs.packing.words_in.Goals as goal
use Rattle.octets.proofs.packing.words_in.Goals.{then-not-is_empty+in_ok-push, else-not-is_empty}

pub returns : goal.returns
returns c =
    let collected = items_from_collect _ c.collect.ensures.ran
    (YieldsList-from_map _ (from_le_bytes w32) (YieldsList-from_slice c.as_chunks.result.0.now (cc)) (cc)
    (λ x r q k. search rules)) in
    let was : c.collect.result ≡ Ok c.in_ok-words.words = c.in_ok-words.was in
    let made : c.in_ok-words.words.items ≡ map (from_le_bytes w32) c.as_chunks.result.0.now =
    rw was at collected in
    let bytes = c.args.bytes.now in
    let front = c.as_chunks.ensures.front in
    let so_far : c.in_ok-words.words.items ++ words_of (drop (4 * (length bytes / 4)) bytes) ≡ words_of bytes =
    rw (made, front) (chunks_so_far (length bytes / 4) bytes (omega arith)) in
    elim c.if-not-is_empty.branch [
      | then-not-is_empty+in_ok-push w ↦
          let some : 0 < length bytes % 4 = grind (arith, nat_tests) in
          rw (w.words-is, w.in_ok-push.ensures.items) (words_cut _ bytes _ so_far refl some)
      | else-not-is_empty w ↦
          let none : length bytes % 4 ≡ 0 = grind (arith, nat_tests) in
          rw w.words-is (words_whole _ bytes _ so_far refl none)
    ]
