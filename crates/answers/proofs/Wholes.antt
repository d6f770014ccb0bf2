-- Reading answers on to the end: what was read so far, and what is read of the words that are left.
use Rattle.std.proofs.Common.{◌≡◌, ℕ, ◌+◌, ◌<◌, ◌≤◌, List, [], ◌∷◌, ◌++◌, length, get_or}
use Rattle.std.proofs.Common.{drop, Ok, Err, Result, sym, ap, ◌∙◌, arith}
use Rattle.std.proofs.lemmas.List.{append-nil, drop_all, drop_more, drop-drop, at_drop_more, at_drop_all}
use Rattle.answers.specs.Answers.{read_answer, read_answers, Replied, Unreplied}
use Rattle.calls.specs.declared.call.Answer.{Answer}
use Rattle.calls.specs.declared.call.Call.{Call}
use Rattle.calls.specs.declared.call.Call.TheVariants.{Day}
use Rattle.words.specs.Journal.{whole, halted, next, ended}
use Rattle.words.proofs.Wholes.{behind, behind_add}

-- the answers to the calls from a place on
module _ (cs : List Call) (ws : List ℕ) (xs : List Answer) (i place : ℕ)
    (so_far : behind xs place (read_answers (drop i cs) (drop place ws)) ≡ read_answers cs ws) where
  turn : i < length cs → (r : Result (Answer × ℕ) ℕ) → read_answer (get_or cs i Day) (drop place ws) ≡ r
      → behind xs place (next r (λ used. read_answers (drop (i + 1) cs) (drop used (drop place ws))))
      ≡ read_answers cs ws
  turn h r e =
      sym (ap (behind xs place) (at_drop_more (λ s. read_answers s (drop place ws)) cs i Day h
      ∙ ap (λ q. next q (λ used. read_answers (drop (i + 1) cs) (drop used (drop place ws)))) e)) ∙ so_far

  pub answer_more : i < length cs → (a : Answer) (after : ℕ) → Replied (get_or cs i Day) ws place a after
      → (zs : List Answer) → zs ≡ xs ++ a ∷ []
      → behind zs after (read_answers (drop (i + 1) cs) (drop after ws)) ≡ read_answers cs ws
  answer_more h a after u zs is =
      ap (λ s. behind s after (read_answers (drop (i + 1) cs) (drop after ws))) is
      ∙ ap (λ n. behind (xs ++ a ∷ []) n (read_answers (drop (i + 1) cs) (drop n ws))) u.moved
      ∙ ap (λ s. behind (xs ++ a ∷ []) (place + u.used) (read_answers (drop (i + 1) cs) s))
      (sym (drop-drop u.used place ws))
      ∙ sym (behind_add xs place a u.used (read_answers (drop (i + 1) cs) (drop u.used (drop place ws))))
      ∙ turn h (Ok (a, u.used)) u.read

  pub answer_stop : i < length cs → (at : ℕ) → Unreplied (get_or cs i Day) ws place at
      → (ys : List Answer) × (read_answers cs ws ≡ halted ys at)
  answer_stop h at s = (xs ++ [], sym (turn h (Err s.off) s.read) ∙ ap (halted (xs ++ [])) (sym s.here))

  at_end : length cs ≤ i → behind xs place (ended (drop place ws)) ≡ read_answers cs ws
  at_end h = sym (ap (behind xs place) (at_drop_all (λ s. read_answers s (drop place ws)) cs i h)) ∙ so_far

  pub answer_left : length cs ≤ i → place < length ws → (ys : List Answer) × (read_answers cs ws ≡ halted ys place)
  answer_left h k = (
    xs ++ [],
    sym (at_end h) ∙ ap (λ s. behind xs place (ended s)) (drop_more ws place 0 k)
        ∙ ap (halted (xs ++ [])) (omega arith),
  )

  pub answer_all : length cs ≤ i → length ws ≤ place → read_answers cs ws ≡ whole xs
  answer_all h k = sym (at_end h) ∙ ap (λ s. behind xs place (ended s)) (drop_all place ws k) ∙ ap whole (append-nil xs)
