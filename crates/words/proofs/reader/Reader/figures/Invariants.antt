use Rattle.std.proofs.Common.{◌≡◌, ◌+◌, drop}
use Rattle.words.specs.Reading.{read_figures}
use Rattle.words.specs.WordRows.{listed}
use Rattle.words.proofs.Readings.{onto}
use Rattle.words.proofs.reader.Reader.figures.Given as goal

abbrev pub invariant-loop-kind : goal.invariant-loop-kind
invariant-loop-kind l =
    (l.self.words.now ≡ l.initial.self.words.now)
    × (l.self.place ≡ l.initial.self.place + l.kind-index)
    × (l.figures.len ≡ l.kind-index)
    × (onto (listed l.figures) (read_figures (drop l.kind-index l.kinds)
    (drop (l.initial.self.place + l.kind-index) l.initial.self.words.now))
    ≡ read_figures l.kinds (drop l.initial.self.place l.initial.self.words.now))
