use Rattle.std.proofs.Common.{◌≡◌, ◌-◌, length, drop, vec_items}
use Rattle.words.specs.Journal.{read_calls}
use Rattle.words.proofs.Wholes.{behind}
use Rattle.words.proofs.journal.read_calls.Given as goal

abbrev pub invariant-loop-reader : goal.invariant-loop-reader
invariant-loop-reader l = (l.reader.words.now ≡ l.words)
    × (behind (vec_items l.calls) l.reader.place (read_calls (drop l.reader.place l.words)) ≡ read_calls l.words)

abbrev pub decreases-loop-reader : goal.decreases-loop-reader
decreases-loop-reader l = length l.words - l.reader.place
