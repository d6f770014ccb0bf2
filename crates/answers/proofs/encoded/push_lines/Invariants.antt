use Rattle.std.proofs.Common.{◌≡◌, ◌+◌, ◌*◌, ◌++◌, take}
use Rattle.words.specs.WordRows.{listed}
use Rattle.answers.specs.Writing.{lines_words}
use Rattle.answers.proofs.encoded.push_lines.Given as goal

abbrev pub invariant-loop-line : goal.invariant-loop-line
invariant-loop-line l = (listed l.words ≡ listed l.initial.words ++ lines_words (take l.line-index l.lines))
    × (l.words.len ≡ 8 + 2 * l.line-index)
