use Rattle.std.proofs.Common.{◌≡◌, ◌+◌, ◌≤◌, ◌++◌, length}
use Rattle.words.specs.WordRows.{listed}
use Rattle.words.specs.Writing.{figure_words, call_words}
use Rattle.words.proofs.written.words_of.Given as goal

abbrev pub invariant-loop-kind : goal.invariant-loop-kind
invariant-loop-kind l =
    (goal.iterator-loop-kind).can_next l.kind-iterator
    × (goal.iterator-loop-kind).is_finite l.kind-iterator
    × (l.words.len + length l.kind-iterator.a.rest.now ≤ 9)
    × (listed l.words ++ figure_words l.kind-iterator.a.rest.now l.kind-iterator.b.rest.now ≡ call_words l.call)
