use Rattle.std.proofs.Common.{◌≡◌, ◌≤◌, true, take, vec_items, vec_len}
use Rattle.words.specs.Lists.{calls_words, all_fit}
use Rattle.words.proofs.writer.write_calls.Given as goal

abbrev pub invariant-loop-call : goal.invariant-loop-call
invariant-loop-call l = (vec_items l.out ≡ calls_words (take l.call-index l.calls))
    × (all_fit (take l.call-index l.calls) ≡ true) × (vec_len l.out ≤ 8192)
