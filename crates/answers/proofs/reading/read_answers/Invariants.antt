use Rattle.std.proofs.Common.{◌≡◌, drop, vec_items}
use Rattle.answers.specs.Answers.{read_answers}
use Rattle.words.proofs.Wholes.{behind}
use Rattle.answers.proofs.reading.read_answers.Given as goal

abbrev pub invariant-loop-call : goal.invariant-loop-call
invariant-loop-call l = (l.reader.words.now ≡ l.words)
    × (behind (vec_items l.answers) l.reader.place
    (read_answers (drop l.call-index l.calls) (drop l.reader.place l.words)) ≡ read_answers l.calls l.words)
