use Rattle.std.proofs.Common.{◌≡◌, ◌-◌, length}
use Rattle.tables.specs.View.{view}
use Rattle.journal.proofs.Loops.{Going}
use Rattle.journal.proofs.running.run.Given as goal

abbrev pub invariant-calls : goal.invariant-calls
invariant-calls g l =
    Going (g.Z.RateZone.means l.initial.ledger.zone) l.words (length l.initial.answers) (view l.initial.ledger.tables)
    l.initial.answers l.answers l.written l.reader.place (view l.ledger.tables)
    × (l.ledger.zone ≡ l.initial.ledger.zone)
    × (l.reader.words.now ≡ l.words)

abbrev pub decreases-calls : goal.decreases-calls
decreases-calls g l = length l.words - l.reader.place
