use Rattle.std.proofs.Common.{◌≡◌, ◌+◌, [], ◌∷◌, length, drop, Result, List, ℕ, sym, ap, ◌∙◌, subst, arith}
use Rattle.std.proofs.lemmas.Result.{err_from_is_err_and}
use Rattle.words.specs.Reading.{read_figures, Missed}
use Rattle.words.specs.WordRows.{listed}
use Rattle.words.specs.declared.kind.Kind.{Kind}
use Rattle.words.specs.declared.row.WordRow.{WordRow}
use Rattle.words.proofs.Readings.{onto, figure_more, figure_missed, figures_all}
use Rattle.words.proofs.WordRows.{listed_long}
use Rattle.words.proofs.reader.Reader.figures.Goals as goal

long : {n i : ℕ} (r : WordRow n) → r.len ≡ i → length (listed r) ≡ i
long r e = listed_long r ∙ e

-- what was read at the place, as said of the words and the place that the loop began with
at_start : (k : Kind) {words ws : List ℕ} {place at : ℕ} {r : Result (List ℕ) ℕ} → words ≡ ws → place ≡ at
    → read_figures (k ∷ []) (drop place words) ≡ r → read_figures (k ∷ []) (drop at ws) ≡ r
at_start k {words} {ws} {place} {at} {r} same here e =
    sym (ap (λ s. read_figures (k ∷ []) (drop place s)) same ∙ ap (λ p. read_figures (k ∷ []) (drop p ws)) here) ∙ e

pub returns-in_err-value-clause-read : goal.returns-in_err-value-clause-read
returns-in_err-value-clause-read c =
    let inv = c.loop-kind.invariant in
    let p = err_from_is_err_and c.from_residual.result c.from_residual.ensures.1 in
    let read = c.in_err-value.ensures.read in
    rw (p.1, p.2) (subst (Missed c.args.kinds.now c.args.self.now.words.now c.args.self.now.place)
    (sym (read.1 ∙ inv.1))
    (figure_missed c.args.kinds.now c.args.self.now.words.now (listed c.loop-kind.figures) c.args.self.now.place
    c.loop-kind.kind-index (long c.loop-kind.figures inv.2) inv.3 c.loop-kind-test.true
    (at_start _ inv.0 inv.1 read.0)))

pub loop-kind-preserved : goal.loop-kind-preserved
loop-kind-preserved c =
    let inv = c.loop-kind.invariant in
    let read = c.in_ok-value.ensures.read in
    let i = c.loop-kind.kind-index in (
      c.in_ok-value.ensures.same ∙ inv.0,
      omega (arith, read.1, inv.1),
      omega (arith, c.push.ensures.len, inv.2),
      ap (λ s. onto s (read_figures (drop (i + 1) c.args.kinds.now)
          (drop (c.args.self.now.place + (i + 1)) c.args.self.now.words.now))) c.push.ensures.words
          ∙ figure_more c.args.kinds.now c.args.self.now.words.now (listed c.loop-kind.figures) c.args.self.now.place
          i (long c.loop-kind.figures inv.2) inv.3 c.loop-kind-test.true c.in_ok-value.field-0
          (at_start _ inv.0 inv.1 read.0),
    )

pub returns-clause-read : goal.returns-clause-read
returns-clause-read c =
    let inv = c.loop-kind.invariant in (
      figures_all c.args.kinds.now c.args.self.now.words.now (listed c.loop-kind.figures) c.args.self.now.place
          c.loop-kind.kind-index (long c.loop-kind.figures inv.2) inv.3 (omega arith),
      omega (arith, inv.1),
    )
