use Rattle.std.proofs.Common.{◌≡◌, ◌-◌, length, vec_items}
use Rattle.report.specs.Shown.{Seen}
use Rattle.report.proofs.reading.read_report.Given as goal

abbrev pub invariant-calls : goal.invariant-calls
invariant-calls l =
    Seen l.journal l.answers (vec_items l.entries) l.day l.asked.place l.replies.place
    × (l.asked.words.now ≡ l.journal)
    × (l.replies.words.now ≡ l.answers)

abbrev pub decreases-calls : goal.decreases-calls
decreases-calls l = length l.journal - l.asked.place
