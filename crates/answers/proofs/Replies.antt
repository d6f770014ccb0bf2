-- Answers: written and read back, and read and written again.
use Rattle.std.proofs.Common.{◌≡◌, ℕ, zero, suc, ◌+◌, ◌*◌, ◌/◌, ◌%◌, ◌<◌, Bool, true, false, not, ◌||◌, eqb, ltb}
use Rattle.std.proofs.Common.{List, [], ◌∷◌, ◌++◌, length, get_or, drop, ℤ, pos, negsuc, neg_ℤ, nat_abs, Some}
use Rattle.std.proofs.Common.{None, Ok, Option, unwrap_or, sym, refl, ap, ◌∙◌, subst, inl, inr, arith, lit<}
use native.Mathlib.Nat.{mod-mod}
use Rattle.std.proofs.lemmas.List.{drop_at}
use Rattle.std.proofs.lemmas.Nat.{mod_below, div-add-mod'}
use Rattle.std.proofs.lemmas.Bool.{and_parts, not-true, both_ways, ltb-true, ltb-false, lt-ltb, eqb-true}
use Rattle.std.proofs.lemmas.Bool.{cond-true, cond-false, cond_both, or_left, or_right, or_from, cases_lt}
use Rattle.calls.specs.Refusals.{number_of, lacking_day}
use Rattle.calls.specs.Statuses.{status_number, status_at}
use Rattle.calls.specs.declared.call.Answer.{Answer}
use Rattle.calls.specs.declared.call.Answer.TheVariants.{Done, Stated, Refused}
use Rattle.calls.specs.declared.call.Call.{Call}
use Rattle.calls.specs.declared.call.StatedTerm.{StatedTerm}
use Rattle.calls.specs.declared.refusal.Refusal.{Refusal}
use Rattle.calls.specs.declared.refusal.Refusal.TheVariants.{BadWord, LastDay, NoTerm, WrongStatus}
use Rattle.calls.specs.declared.refusal.Refusal.TheVariants.{OutOfRange, Full, Overlap, Untimely}
use Rattle.calls.specs.declared.refusal.Refusal.TheVariants.{GasLimit, ChargeLimit, Lacking, NoRoom}
use Rattle.calls.specs.declared.status.Status.{Status}
use Rattle.calls.specs.declared.status.Status.TheVariants.{Waiting, Active, Expired}
use Rattle.answers.specs.Answers.{is_below, signed_by, signed_in, line_in, lines_in, stated_in, refusal_in}
use Rattle.answers.specs.Answers.{is_statement, answer_in, differs, checked, read_answer, read_answers}
use Rattle.answers.specs.Answers.{answers_words, answer_fits, answers_fit, answer_count, line_highs, stated_fits}
use Rattle.words.specs.Journal.{Reading, whole, halted, add, next}
use Rattle.words.specs.Kinds.{value_in, word}
use Rattle.answers.specs.Writing.{signed_word, part_word, lines_words, answer_words}
use Rattle.words.specs.Writing.{fit}
use Rattle.words.specs.declared.kind.Kind.TheVariants as kind
use Rattle.words.proofs.Codec.{kind_word, value_word}
use Rattle.answers.proofs.Differences.{differs_self, same_front}

-- one word of a signed figure: its size, and whether it is below 0
signed_returns : (x : ℤ) → nat_abs x < 268435456 → signed_in (signed_word x) ≡ x
signed_returns (pos n) h = ap (λ k. signed_by (eqb k 7) (value_in (word kind.Figure n))) (kind_word kind.Figure n)
    ∙ ap pos (value_word kind.Figure n h)
signed_returns (negsuc n) h = ap (λ k. signed_by (eqb k 7) (value_in (word kind.Below (suc n))))
    (kind_word kind.Below (suc n)) ∙ ap (λ v. neg_ℤ (pos v)) (value_word kind.Below (suc n) h)

part_size : (x : ℤ) (p : ℕ) → p < 268435456 → value_in (part_word x p) ≡ p
part_size (pos n) p h = value_word kind.Figure p h
part_size (negsuc n) p h = cond_both (ltb 0 p) _ _ (λ w. value_in w ≡ p) (λ _. value_word kind.Below p h)
    (λ f. omega (arith, ltb-false 0 p f))

part_positive : (n p : ℕ) → is_below (part_word (pos n) p) ≡ false
part_positive n p = ap (λ k. eqb k 7) (kind_word kind.Figure p)

part_negative : (n p : ℕ) → 0 < p → is_below (part_word (negsuc n) p) ≡ true
part_negative n p h = ap is_below (cond-true (ltb 0 p) _ _ (lt-ltb 0 p h)) ∙ ap (λ k. eqb k 7) (kind_word kind.Below p)

-- a line's two words
line_size : (x : ℤ) → nat_abs x / 100000000 < 268435456
    → value_in (part_word x (nat_abs x / 100000000)) * 100000000
    + value_in (part_word x (nat_abs x % 100000000)) % 100000000 ≡ nat_abs x
line_size x h =
    let below = mod_below (nat_abs x) 100000000 (lit< tt) in
    ap (λ v. v * 100000000 + value_in (part_word x (nat_abs x % 100000000)) % 100000000)
    (part_size x (nat_abs x / 100000000) h)
    ∙ ap (λ v. nat_abs x / 100000000 * 100000000 + v % 100000000) (part_size x (nat_abs x % 100000000) (omega arith))
    ∙ ap (λ v. nat_abs x / 100000000 * 100000000 + v) (mod-mod (nat_abs x) 100000000)
    ∙ div-add-mod' (nat_abs x) 100000000

signed_same : {a b : Bool} {m n : ℕ} → a ≡ b → m ≡ n → signed_by a m ≡ signed_by b n
signed_same {b = b} {m = m} p q = ap (λ x. signed_by x m) p ∙ ap (signed_by b) q

line_negative : (n : ℕ) → (is_below (part_word (negsuc n) (suc n / 100000000))
    || is_below (part_word (negsuc n) (suc n % 100000000))) ≡ true
line_negative n =
    elim (cases_lt 0 (suc n / 100000000)) [
      | inl h ↦ or_left _ _ (part_negative n (suc n / 100000000) h)
      | inr h ↦ or_right (is_below (part_word (negsuc n) (suc n / 100000000))) _
          (part_negative n (suc n % 100000000) (omega (arith, div-add-mod' (suc n) 100000000)))
    ]

line_returns : (x : ℤ) → nat_abs x / 100000000 < 268435456
    → line_in (part_word x (nat_abs x / 100000000)) (part_word x (nat_abs x % 100000000)) ≡ x
line_returns (pos n) h = signed_same (or_from _ _ (part_positive n (n / 100000000)) (part_positive n (n % 100000000)))
    (line_size (pos n) h)
line_returns (negsuc n) h = signed_same (line_negative n) (line_size (negsuc n) h)

lines_past : (n at w : ℕ) (ws : List ℕ) → lines_in n (suc at) (w ∷ ws) ≡ lines_in n at ws
lines_past zero at w ws = refl
lines_past (suc n) at w ws = ap (λ s. line_in (get_or ws at 0) (get_or ws (suc at) 0) ∷ s)
    (lines_past n (suc (suc at)) w ws)

lines_return : (xs : List ℤ) (ws : List ℕ) → fit (line_highs xs) ≡ true
    → lines_in (length xs) 0 (lines_words xs ++ ws) ≡ xs
lines_return [] ws h = refl
lines_return (x ∷ xs) ws h =
    let p = and_parts _ (fit (line_highs xs)) h in
    let a = part_word x (nat_abs x / 100000000) in
    let b = part_word x (nat_abs x % 100000000) in
    let rest = lines_words xs ++ ws in
    ap (λ y. y ∷ lines_in (length xs) 2 (a ∷ b ∷ rest)) (line_returns x (ltb-true _ _ p.0))
    ∙ ap (λ s. x ∷ s) (lines_past (length xs) 1 a (b ∷ rest) ∙ lines_past (length xs) 0 b rest ∙ lines_return xs ws p.1)

status_returns : (s : Status) → unwrap_or (status_at (value_in (word kind.Status (status_number s)))) Waiting ≡ s
status_returns Waiting = refl
status_returns Active = refl
status_returns Expired = refl

refusal_returns : (r : Refusal) (ws : List ℕ) → lacking_day r < 268435456
    → refusal_in (word kind.Refused (number_of r) ∷ word kind.Figure (lacking_day r) ∷ ws) ≡ r
refusal_returns BadWord ws h = refl
refusal_returns LastDay ws h = refl
refusal_returns NoTerm ws h = refl
refusal_returns WrongStatus ws h = refl
refusal_returns OutOfRange ws h = refl
refusal_returns Full ws h = refl
refusal_returns Overlap ws h = refl
refusal_returns Untimely ws h = refl
refusal_returns GasLimit ws h = refl
refusal_returns ChargeLimit ws h = refl
refusal_returns (Lacking l) ws h = ap (λ d. Lacking (record { day = d })) (value_word kind.Figure l.day h)
refusal_returns NoRoom ws h = refl

abbrev stated_of : ℕ → ℕ → Status → ℕ → ℤ → ℕ → List ℤ → StatedTerm
stated_of term pool status next balance offer lines =
    record {
      term = term;
      pool = pool;
      status = status;
      next = next;
      balance = balance;
      on_offer = offer;
      lines = lines;
    }

stated_same : {t t' p p' : ℕ} {s s' : Status} {n n' : ℕ} {b b' : ℤ} {o o' : ℕ} {l l' : List ℤ} → t ≡ t' → p ≡ p'
    → s ≡ s' → n ≡ n' → b ≡ b' → o ≡ o' → l ≡ l' → stated_of t p s n b o l ≡ stated_of t' p' s' n' b' o' l'
stated_same e₁ e₂ e₃ e₄ e₅ e₆ e₇ = cc

stated_returns : (s : StatedTerm) (ws : List ℕ) → stated_fits s ≡ true → stated_in (answer_words (Stated s) ++ ws) ≡ s
stated_returns s ws f =
    let whole = and_parts _ (eqb (length s.lines) 5) f in
    let a = and_parts _ _ whole.0 in
    let b = and_parts _ _ a.1 in
    let c = and_parts _ _ b.1 in
    let d = and_parts _ _ c.1 in
    let e = and_parts _ (fit (line_highs s.lines)) d.1 in
    let n : length s.lines ≡ 5 = eqb-true _ _ whole.1 in
    stated_same (value_word kind.Number s.term (ltb-true _ _ a.0)) (value_word kind.Number s.pool (ltb-true _ _ b.0))
    (status_returns s.status)
    (value_word kind.Day s.next (ltb-true _ _ c.0)) (signed_returns s.balance (ltb-true _ _ d.0))
    (value_word kind.Volume s.on_offer (ltb-true _ _ e.0))
    (ap (λ m. lines_in m 0 (lines_words s.lines ++ ws)) (sym n) ∙ lines_return s.lines ws e.1)

pub answer_decodes : (c : Call) (a : Answer) (ws : List ℕ) → answer_fits c a ≡ true
    → answer_in c (answer_words a ++ ws) ≡ a
answer_decodes c (Done n) ws f =
    let p = and_parts (not (is_statement c)) _ f in
    cond-false _ _ _ (ap (λ k. eqb k 9) (kind_word kind.Done n)) ∙ cond-false _ _ _ (not-true _ p.0)
    ∙ ap Done (value_word kind.Done n (ltb-true _ _ p.1))
answer_decodes c (Stated s) ws f =
    let p = and_parts (is_statement c) (stated_fits s) f in
    cond-true _ _ _ p.0 ∙ ap Stated (stated_returns s ws p.1)
answer_decodes c (Refused r) ws f =
    cond-true _ _ _ (ap (λ k. eqb k 9) (kind_word kind.Refused (number_of r)))
    ∙ ap Refused (refusal_returns r ws (ltb-true _ _ f))

pub answer_returns : (c : Call) (a : Answer) (ws : List ℕ) → answer_fits c a ≡ true
    → read_answer c (answer_words a ++ ws) ≡ Ok (a, length (answer_words a))
answer_returns c a ws f =
    ap (λ b. checked b (differs (answer_words b) (answer_words a ++ ws))) (answer_decodes c a ws f)
    ∙ ap (checked a) (differs_self (answer_words a) ws)

pub answers_return : (cs : List Call) (rs : List Answer) → answers_fit cs rs ≡ true
    → read_answers cs (answers_words rs) ≡ whole rs
answers_return [] [] f = refl
answers_return [] (a ∷ rs) f = absurd (both_ways false refl f)
answers_return (c ∷ cs) [] f = absurd (both_ways false refl f)
answers_return (c ∷ cs) (a ∷ rs) f =
    let p = and_parts (answer_fits c a) (answers_fit cs rs) f in
    ap (λ r. next r (λ used. read_answers cs (drop used (answers_words (a ∷ rs)))))
    (answer_returns c a (answers_words rs) p.0)
    ∙ ap (λ ws. add a (length (answer_words a)) (read_answers cs ws))
    (drop_at (answer_words a) (answers_words rs) (length (answer_words a)) refl)
    ∙ ap (add a (length (answer_words a))) (answers_return cs rs p.1)

-- what a reading to the end says of its words
abbrev Tells : List ℕ → Reading Answer → Type 0
Tells ws (whole rs) = answers_words rs ≡ ws
Tells ws (halted rs at) = Unit {0}

tells_add : (ws : List ℕ) (a : Answer) → ws ≡ answer_words a ++ drop (length (answer_words a)) ws
    → (s : Reading Answer) → Tells (drop (length (answer_words a)) ws) s
    → Tells ws (add a (length (answer_words a)) s)
tells_add ws a e (whole rs) t = ap (λ s. answer_words a ++ s) t ∙ sym e
tells_add ws a e (halted rs at) t = tt

tells_next : (ws : List ℕ) (a : Answer) (more : ℕ → Reading Answer) → ((used : ℕ) → Tells (drop used ws) (more used))
    → (o : Option ℕ) → o ≡ differs (answer_words a) ws → Tells ws (next (checked a o) more)
tells_next ws a more ih None e = tells_add ws a (same_front (answer_words a) ws e).0 (more (length (answer_words a)))
    (ih (length (answer_words a)))
tells_next ws a more ih (Some at) e = tt

tells : (cs : List Call) (ws : List ℕ) → Tells ws (read_answers cs ws)
tells [] [] = refl
tells [] (w ∷ ws) = tt
tells (c ∷ cs) ws = tells_next ws (answer_in c ws) (λ used. read_answers cs (drop used ws))
    (λ used. tells cs (drop used ws)) (differs (answer_words (answer_in c ws)) ws) refl

pub answer_words_return : (cs : List Call) (ws : List ℕ) (rs : List Answer) → read_answers cs ws ≡ whole rs
    → answers_words rs ≡ ws
answer_words_return cs ws rs e = subst (Tells ws) e (tells cs ws)

lines_long : (xs : List ℤ) → length (lines_words xs) ≡ 2 * length xs
lines_long [] = refl
lines_long (x ∷ xs) = omega (arith, lines_long xs)

pub answers_are_counted : (c : Call) (a : Answer) → answer_fits c a ≡ true → length (answer_words a) ≡ answer_count a
answers_are_counted c (Done n) f = refl
answers_are_counted c (Stated s) f =
    let p = and_parts (is_statement c) (stated_fits s) f in
    let n = eqb-true (length s.lines) 5 (and_parts _ (eqb (length s.lines) 5) p.1).1 in
    omega (arith, lines_long s.lines)
answers_are_counted c (Refused r) f = refl
