use Rattle.std.proofs.Common.{◌≡◌, ◌+◌, Some, Ok, length, drop, sym, refl, ap, ◌∙◌, subst, arith}
use Rattle.std.proofs.lemmas.Option.{MatchOption-at_some}
use Rattle.std.proofs.lemmas.Result.{err_from_is_err_and}
use Rattle.words.specs.Reading.{Missed, read_figures, call_of}
use Rattle.words.specs.Shapes.{shape_of}
use Rattle.words.specs.WordRows.{listed}
use Rattle.words.proofs.Readings.{stopped_figure, used_all}
use Rattle.words.proofs.reader.Reader.call.Goals as goal

pub returns-in_err-figures-clause-read : goal.returns-in_err-figures-clause-read
returns-in_err-figures-clause-read c =
    let p = err_from_is_err_and c.from_residual-in_err-figures.result c.from_residual-in_err-figures.ensures.1 in
    let shape : shape_of c.in_ok-number.number ≡ Some c.in_ok-kinds.kinds.now =
    MatchOption-at_some _ (λ kinds. shape_of c.in_ok-number.number ≡ Some kinds.now) c.in_ok-kinds.kinds
    c.in_ok-kinds.ensures.ok_part c.shape.ensures.row in
    let first = c.in_ok-number.ensures in
    let missed : Missed c.in_ok-kinds.kinds.now c.args.self.now.words.now (c.args.self.now.place + 1)
    c.in_err-figures.field-0.0.place
    = subst (λ s. Missed c.in_ok-kinds.kinds.now s (c.args.self.now.place + 1) c.in_err-figures.field-0.0.place)
    first.same (subst (λ q. Missed c.in_ok-kinds.kinds.now c.value.new.self.words.now q
    c.in_err-figures.field-0.0.place) first.read.1 c.in_err-figures.ensures.read) in
    rw (p.1, p.2) (
      stopped_figure c.args.self.now.words.now c.args.self.now.place c.in_ok-number.number first.read.0
          c.in_ok-kinds.kinds.now shape c.in_err-figures.field-0.0.place missed,
      refl,
    )

pub returns-clause-read : goal.returns-clause-read
returns-clause-read c =
    let shape : shape_of c.in_ok-number.number ≡ Some c.in_ok-kinds.kinds.now =
    MatchOption-at_some _ (λ kinds. shape_of c.in_ok-number.number ≡ Some kinds.now) c.in_ok-kinds.kinds
    c.in_ok-kinds.ensures.ok_part c.shape.ensures.row in
    let first = c.in_ok-number.ensures in
    let read = c.in_ok-figures.ensures.read in
    let is : c.call_of.result ≡ call_of c.in_ok-number.number (listed c.in_ok-figures.figures)
    = c.call_of.ensures ∙ ap (call_of c.in_ok-number.number) c.deref.ensures in
    let after : c.figures.new.self.place ≡ c.args.self.now.place + 1 + length c.in_ok-kinds.kinds.now
    = omega (arith, read.1, first.read.1) in
    let figures : read_figures c.in_ok-kinds.kinds.now (drop (c.args.self.now.place + 1) c.args.self.now.words.now)
    ≡ Ok (listed c.in_ok-figures.figures)
    = sym (ap (λ q. read_figures c.in_ok-kinds.kinds.now (drop q c.value.new.self.words.now)) first.read.1
    ∙ ap (λ s. read_figures c.in_ok-kinds.kinds.now (drop (c.args.self.now.place + 1) s)) first.same) ∙ read.0 in
    rw (is, after) (used_all c.args.self.now.words.now c.args.self.now.place c.in_ok-number.number first.read.0
    c.in_ok-kinds.kinds.now shape (listed c.in_ok-figures.figures) figures)
