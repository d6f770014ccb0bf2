-- The first place where two lists of words differ.
use Rattle.std.proofs.Common.{◌≡◌, ◌==◌, ℕ, suc, ◌+◌, ◌≤◌, Bool, cond, not, eqb, ltb, List, [], ◌∷◌, ◌++◌, length}
use Rattle.std.proofs.Common.{drop, Some, None, Option, sym, refl, ap, ◌∙◌, subst, inl, inr, arith}
use Rattle.std.specs.List.{position_from, zip}
use Rattle.std.specs.Bool.{then_some}
use Rattle.std.specs.Option.{option_or}
use Rattle.std.proofs.lemmas.List.{length-drop}
use Rattle.std.proofs.lemmas.Bool.{cases_Bool, cases_lt, eq-eqb, eqb-true, lt-ltb, le-ltb}
use Rattle.std.proofs.lemmas.Bool.{cond-true, cond-false, cond_both}
use Rattle.calls.specs.declared.call.Answer.{Answer}
use Rattle.calls.specs.declared.call.Answer.TheVariants.{Done, Stated, Refused}
use Rattle.calls.specs.declared.call.Call.{Call}
use Rattle.answers.specs.Answers.{differs, onward, answer_in, read_answer, checked, Replied, Unreplied}
use Rattle.answers.specs.Writing.{answer_words}

abbrev pub shifted : ℕ → Option ℕ → Option ℕ
shifted i None = None
shifted i (Some at) = Some (at + i)

pub shifted_none : (o : Option ℕ) → shifted 0 o ≡ o
shifted_none None = refl
shifted_none (Some at) = ap Some (omega arith)

shifted_onward : (i : ℕ) (o : Option ℕ) → shifted i (onward o) ≡ shifted (i + 1) o
shifted_onward i None = refl
shifted_onward i (Some at) = ap Some (omega arith)

-- a pair of words that are not the same
abbrev pub unlike : ℕ × ℕ → Bool
unlike p = not (p.1 == p.0)

-- the end of the words, where they are too few
abbrev pub end_of : ℕ → List ℕ → List ℕ → Option ℕ
end_of i es ws = then_some (ltb (length ws) (length es)) (length ws + i)

end_more : (e w : ℕ) (es ws : List ℕ) (i : ℕ) → end_of i (e ∷ es) (w ∷ ws) ≡ end_of (i + 1) es ws
end_more e w es ws i = elim (cases_lt (length ws) (length es)) [
  | inl h ↦ ap (λ b. then_some b (suc (length ws) + i)) (lt-ltb (suc (length ws)) (suc (length es)) (omega arith))
      ∙ ap Some (omega arith) ∙ sym (ap (λ b. then_some b (length ws + (i + 1))) (lt-ltb _ _ h))
  | inr h ↦ ap (λ b. then_some b (suc (length ws) + i)) (le-ltb (suc (length ws)) (suc (length es)) (omega arith))
      ∙ sym (ap (λ b. then_some b (length ws + (i + 1))) (le-ltb _ _ h))
]

-- the first pair that is unlike, or the end of the words
by_pairs : (es ws : List ℕ) (i : ℕ)
    → option_or (position_from unlike i (zip es ws)) (end_of i es ws) ≡ shifted i (differs es ws)
by_pairs [] ws i = ap (λ b. then_some b (length ws + i)) (le-ltb (length ws) 0 (omega arith))
by_pairs (e ∷ es) [] i = ap (λ b. then_some b (0 + i)) (lt-ltb 0 (suc (length es)) (omega arith))
by_pairs (e ∷ es) (w ∷ ws) i =
    let rest = position_from unlike (i + 1) (zip es ws) in
    elim (cases_Bool (w == e)) [
      | inl t ↦ ap (λ b. option_or (cond (not b) (Some i) rest) (end_of i (e ∷ es) (w ∷ ws))) t
          ∙ ap (option_or rest) (end_more e w es ws i)
          ∙ by_pairs es ws (i + 1)
          ∙ sym (shifted_onward i (differs es ws))
          ∙ sym (ap (shifted i) (cond-true (w == e) (onward (differs es ws)) (Some 0) t))
      | inr f ↦ ap (λ b. option_or (cond (not b) (Some i) rest) (end_of i (e ∷ es) (w ∷ ws))) f
          ∙ ap Some (omega arith)
          ∙ sym (ap (shifted i) (cond-false (w == e) (onward (differs es ws)) (Some 0) f))
    ]

pub paired : (es ws : List ℕ) → option_or (position_from unlike 0 (zip es ws)) (end_of 0 es ws) ≡ differs es ws
paired es ws = by_pairs es ws 0 ∙ shifted_none (differs es ws)

-- a difference stands within the words or at their end, and where there is none the words begin as expected
abbrev Tells : List ℕ → List ℕ → Option ℕ → Type 0
Tells es ws None = (ws ≡ es ++ drop (length es) ws) × (length es ≤ length ws)
Tells es ws (Some at) = at ≤ length ws

tells_onward : (e w : ℕ) (es ws : List ℕ) → w ≡ e → (o : Option ℕ) → Tells es ws o → Tells (e ∷ es) (w ∷ ws) (onward o)
tells_onward e w es ws is None t = (ap (λ x. x ∷ ws) is ∙ ap (λ s. e ∷ s) t.0, omega arith)
tells_onward e w es ws is (Some at) t = omega arith

tells : (es ws : List ℕ) → Tells es ws (differs es ws)
tells [] ws = (refl, omega arith)
tells (e ∷ es) [] = omega arith
tells (e ∷ es) (w ∷ ws) = cond_both (eqb w e) _ _ (Tells (e ∷ es) (w ∷ ws))
    (λ t. tells_onward e w es ws (eqb-true w e t) (differs es ws) (tells es ws)) (λ _. omega arith)

pub differs_within : (es ws : List ℕ) (at : ℕ) → Some at ≡ differs es ws → at ≤ length ws
differs_within es ws at e = subst (Tells es ws) (sym e) (tells es ws)

pub same_front : (es ws : List ℕ) → None ≡ differs es ws → (ws ≡ es ++ drop (length es) ws) × (length es ≤ length ws)
same_front es ws e = subst (Tells es ws) (sym e) (tells es ws)

pub differs_self : (es ws : List ℕ) → differs es (es ++ ws) ≡ None
differs_self [] ws = refl
differs_self (e ∷ es) ws = cond-true _ _ _ (eq-eqb e e refl) ∙ ap onward (differs_self es ws)

answer_some : (a : Answer) → 1 ≤ length (answer_words a)
answer_some (Done n) = omega arith
answer_some (Stated s) = omega arith
answer_some (Refused r) = omega arith

-- the answer at a place
module _ (c : Call) (ws : List ℕ) (place : ℕ) (a : Answer) (is : a ≡ answer_in c (drop place ws)) where
  read_by : (o : Option ℕ) → o ≡ differs (answer_words a) (drop place ws) → read_answer c (drop place ws) ≡ checked a o
  read_by o e = ap (λ b. checked b (differs (answer_words b) (drop place ws))) (sym is) ∙ ap (checked a) (sym e)

  pub unreplied : (off : ℕ) → Some off ≡ differs (answer_words a) (drop place ws) → Unreplied c ws place (place + off)
  unreplied off e = record { off = off; read = read_by (Some off) e; here = refl }

  pub replied : None ≡ differs (answer_words a) (drop place ws) → (n : ℕ) → n ≡ length (answer_words a)
      → Replied c ws place a (place + n)
  replied e n is = record {
    used = length (answer_words a);
    read = read_by None e;
    moved = ap (λ m. place + m) is;
    within = omega (arith, (same_front (answer_words a) (drop place ws) e).1, length-drop place ws, answer_some a);
  }
