use Rattle.std.proofs.Common.{[], ◌∷◌, ◌++◌, length, sym, ap, ◌∙◌, ⊎_elim, inl, inr, arith}
use Rattle.std.proofs.lemmas.List.{append-nil, append_assoc}
use Rattle.words.specs.WordRows.{listed}
use Rattle.words.specs.Writing.{figure_words}
use Rattle.words.proofs.Writings.{none_left}
use Rattle.words.proofs.written.words_of.Goals as goal

pub returns : goal.returns
returns c =
    let e = none_left c.loop-kind.kind-iterator.a.rest.now c.loop-kind.kind-iterator.b.rest.now
    (⊎_elim (λ h. inl h.1.0) (λ h. inr h.1.0) c.in-None.ensures.steps) in
    sym (append-nil (listed c.loop-kind.words)) ∙ ap (λ s. listed c.loop-kind.words ++ s) (sym e)
    ∙ c.loop-kind.invariant.3

pub loop-kind-preserved : goal.loop-kind-preserved
loop-kind-preserved c =
    let inv = c.loop-kind.invariant in
    let steps = c.in-Some.ensures.steps in
    let ws = listed c.loop-kind.words in
    let w = c.word-in-loop-kind.result in
    let ks = c.next.new.self.a.rest.now in
    let vs = c.next.new.self.b.rest.now in (
      inv.0,
      inv.1,
      omega (arith, c.push-in-loop-kind.ensures.len, inv.2, ap length steps.0),
      ap (λ s. s ++ figure_words ks vs) c.push-in-loop-kind.ensures.words
          ∙ append_assoc ws (w ∷ []) (figure_words ks vs)
          ∙ ap (λ x. ws ++ x ∷ figure_words ks vs) c.word-in-loop-kind.ensures
          ∙ sym (ap (λ s. ws ++ figure_words s c.loop-kind.kind-iterator.b.rest.now) steps.0
          ∙ ap (λ s. ws ++ figure_words (c.in-Some.kind.now ∷ ks) s) steps.1) ∙ inv.3,
    )
