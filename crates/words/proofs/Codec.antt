-- Words, figures and calls: written and read back, and read and written again.
use Rattle.std.proofs.Common.{◌≡◌, ℕ, zero, suc, ◌+◌, ◌*◌, ◌%◌, ◌<◌, true, eqb, List, [], ◌∷◌, ◌++◌}
use Rattle.std.proofs.Common.{length, get_or, drop, IfOk, Some, None, Ok, Err, Option, Result, unwrap_or}
use Rattle.std.proofs.Common.{sym, refl, ap, ◌∙◌, subst, inl, inr, mod-eq_of_lt, add-one, arith, lit<}
use Rattle.std.proofs.lemmas.Nat.{div-mul-add, mod-mul-add, mod_below, div-add-mod'}
use Rattle.std.proofs.lemmas.List.{drop_more, drop_all}
use Rattle.std.proofs.lemmas.Bool.{and_parts, and_from, ltb-true, lt-ltb, eqb-true}
use Rattle.std.proofs.lemmas.Bool.{eq-eqb, cases_Bool, cond-true, cond-false, cond_both}
use Rattle.calls.specs.declared.call.Call.{Call}
use Rattle.calls.specs.declared.call.Call.TheVariants.{Day, Open, Post, Statement}
use Rattle.words.specs.Kinds.{kind_number, kind_in, value_in, word}
use Rattle.words.specs.Reading.{read_figures, further, read_call, call_of, called, with_shape}
use Rattle.words.specs.Shapes.{shapes, shape_in, shape_of, call_number, figures_of}
use Rattle.words.specs.Writing.{fit, figure_words, call_words}
use Rattle.words.specs.declared.kind.Kind.{Kind}
use Rattle.words.specs.declared.kind.Kind.TheVariants as kind
use Rattle.words.proofs.Writings.{shape_long}

-- a word's two parts
pub kind_word : (k : Kind) (v : ℕ) → kind_in (word k v) ≡ kind_number k
kind_word k v = div-mul-add (kind_number k) 268435456 (v % 268435456) (mod_below v 268435456 (lit< tt))

pub value_word : (k : Kind) (v : ℕ) → v < 268435456 → value_in (word k v) ≡ v
value_word k v h = mod-mul-add (kind_number k) 268435456 (v % 268435456) (mod_below v 268435456 (lit< tt))
    ∙ mod-eq_of_lt h

pub word_parts : (k : Kind) (w : ℕ) → kind_in w ≡ kind_number k → word k (value_in w) ≡ w
word_parts k w e =
    ap (λ x. kind_number k * 268435456 + x) (mod-eq_of_lt (mod_below w 268435456 (lit< tt)))
    ∙ ap (λ x. x * 268435456 + w % 268435456) (sym e) ∙ div-add-mod' w 268435456

-- figures that fit, written and read back
pub figures_return : (ks : List Kind) (vs ws : List ℕ) → length ks ≡ length vs → fit vs ≡ true
    → read_figures ks (figure_words ks vs ++ ws) ≡ Ok vs
figures_return [] [] ws l f = refl
figures_return [] (v ∷ vs) ws l f = absurd (omega arith)
figures_return (k ∷ ks) [] ws l f = absurd (omega arith)
figures_return (k ∷ ks) (v ∷ vs) ws l f =
    let p = and_parts _ (fit vs) f in
    cond-true _ _ _ (eq-eqb (kind_in (word k v)) (kind_number k) (kind_word k v))
    ∙ ap (λ r. further r (value_in (word k v))) (figures_return ks vs ws (omega arith) p.1)
    ∙ ap (λ x. Ok (x ∷ vs)) (value_word k v (ltb-true v 268435456 p.0))

head_of : (c : Call) (ws : List ℕ) → read_call (call_words c ++ ws)
    ≡ called (call_number c) (read_figures (unwrap_or (shape_of (call_number c)) [])
    (figure_words (unwrap_or (shape_of (call_number c)) []) (figures_of c) ++ ws))
head_of Day ws = refl
head_of (Open o) ws = refl
head_of (Post p) ws = refl
head_of (Statement term) ws = refl

named : (c : Call) → called (call_number c) (Ok (figures_of c)) ≡ Ok (c, length (call_words c))
named Day = refl
named (Open o) = refl
named (Post p) = refl
named (Statement term) = refl

pub call_returns : (c : Call) (ws : List ℕ) → fit (figures_of c) ≡ true
    → read_call (call_words c ++ ws) ≡ Ok (c, length (call_words c))
call_returns c ws f = head_of c ws ∙ ap (called (call_number c))
    (figures_return (unwrap_or (shape_of (call_number c)) []) (figures_of c) ws (shape_long c) f) ∙ named c

-- the first figures of a list, by their places
abbrev firsts : ℕ → ℕ → List ℕ → List ℕ
firsts at zero vs = []
firsts at (suc n) vs = get_or vs at 0 ∷ firsts (suc at) n vs

firsts_drop : (at n : ℕ) (vs : List ℕ) → at + n ≡ length vs → firsts at n vs ≡ drop at vs
firsts_drop at zero vs h = sym (drop_all at vs (omega arith))
firsts_drop at (suc n) vs h =
    ap (λ s. get_or vs at 0 ∷ s) (firsts_drop (suc at) n vs (omega arith) ∙ ap (λ m. drop m vs) (sym (add-one at)))
    ∙ sym (drop_more vs at 0 (omega arith))

firsts_all : (n : ℕ) (vs : List ℕ) → length vs ≡ n → firsts 0 n vs ≡ vs
firsts_all n vs h = firsts_drop 0 n vs (omega arith)

-- A row of the table: a call of this number with as many figures as kinds has this number and these figures.
abbrev Row : ℕ → List Kind → Type 0
Row n ks = (vs : List ℕ) → length vs ≡ length ks → (call_number (call_of n vs) ≡ n) × (figures_of (call_of n vs) ≡ vs)

abbrev Rows : List (ℕ × List Kind) → Type 0
Rows [] = Unit {0}
Rows (s ∷ ss) = Row s.0 s.1 × Rows ss

rows : Rows shapes
rows = (
  (λ vs h. (refl, firsts_all 0 vs h)),
  (
    (λ vs h. (refl, firsts_all 5 vs h)),
    (
      (λ vs h. (refl, firsts_all 3 vs h)),
      ((λ vs h. (refl, firsts_all 1 vs h)), tt),
    ),
  ),
)

row_in : (ss : List (ℕ × List Kind)) → Rows ss → (n : ℕ) (ks : List Kind) → shape_in ss n ≡ Some ks → Row n ks
row_in [] r n ks e = let z : ◌≡◌ {A = ℕ} 0 1 = cc in absurd (omega arith)
row_in (s ∷ ss) r n ks e =
    elim (cases_Bool (eqb s.0 n)) [
      | inl t ↦ let a : s.0 ≡ n = eqb-true s.0 n t in
          let b : s.1 ≡ ks = cc (cond-true _ (Some s.1) (shape_in ss n) t) in
          subst (λ m. Row m ks) a (subst (Row s.0) b r.0)
      | inr f ↦ row_in ss r.1 n ks (sym (cond-false _ (Some s.1) (shape_in ss n) f) ∙ e)
    ]

-- figures that were read: as many as kinds, written again the words that they were read from, and all fit
pub record Figured (ks : List Kind) (ws vs : List ℕ) : Type 0 where
  pub long : length vs ≡ length ks
  pub words : ws ≡ figure_words ks vs ++ drop (length vs) ws
  pub fits : fit vs ≡ true

figured_more : (k : Kind) (ks : List Kind) (w : ℕ) (ws : List ℕ) → kind_in w ≡ kind_number k → (r : Result (List ℕ) ℕ)
    → IfOk r (Figured ks ws) → IfOk (further r (value_in w)) (Figured (k ∷ ks) (w ∷ ws))
figured_more k ks w ws e (Ok vs) f = record {
  long = ap suc f.long;
  words = ap (λ x. x ∷ ws) (sym (word_parts k w e)) ∙ ap (λ s. word k (value_in w) ∷ s) f.words;
  fits = and_from _ (fit vs) (lt-ltb (value_in w) 268435456 (mod_below w 268435456 (lit< tt))) f.fits;
}
figured_more k ks w ws e (Err at) f = tt

pub figured : (ks : List Kind) (ws : List ℕ) → IfOk (read_figures ks ws) (Figured ks ws)
figured [] ws = record { long = refl; words = refl; fits = refl }
figured (k ∷ ks) [] = tt
figured (k ∷ ks) (w ∷ ws) =
    cond_both (eqb (kind_in w) (kind_number k)) _ _ (λ r. IfOk r (Figured (k ∷ ks) (w ∷ ws)))
    (λ t. figured_more k ks w ws (eqb-true _ _ t) (read_figures ks ws) (figured ks ws)) (λ _. tt)

figure_long : (ks : List Kind) (vs : List ℕ) → length vs ≡ length ks → length (figure_words ks vs) ≡ length vs
figure_long [] [] h = refl
figure_long [] (v ∷ vs) h = absurd (omega arith)
figure_long (k ∷ ks) [] h = absurd (omega arith)
figure_long (k ∷ ks) (v ∷ vs) h = ap suc (figure_long ks vs (omega arith))

-- a call that was read: written again, it is the words that it was read from, and its figures fit
pub record Front (ws : List ℕ) (p : Call × ℕ) : Type 0 where
  pub long : p.1 ≡ length (call_words p.0)
  pub words : ws ≡ call_words p.0 ++ drop p.1 ws
  pub fits : fit (figures_of p.0) ≡ true

module _ (w : ℕ) (ws : List ℕ) (e : kind_in w ≡ 1) where
  front_called : (ks : List Kind) → Row (value_in w) ks → shape_of (value_in w) ≡ Some ks → (r : Result (List ℕ) ℕ)
      → IfOk r (Figured ks ws) → IfOk (called (value_in w) r) (Front (w ∷ ws))
  front_called ks row s (Err at) f = tt
  front_called ks row s (Ok vs) f =
      let n = value_in w in
      let c = call_of n vs in
      let p = row vs f.long in
      let is : call_words c ≡ word kind.Call n ∷ figure_words ks vs
      = ap (λ m. word kind.Call m ∷ figure_words (unwrap_or (shape_of m) []) (figures_of c)) p.0
      ∙ ap (λ o. word kind.Call n ∷ figure_words (unwrap_or o []) (figures_of c)) s
      ∙ ap (λ us. word kind.Call n ∷ figure_words ks us) p.1 in
      record {
        long = add-one (length vs) ∙ ap suc (sym (figure_long ks vs f.long)) ∙ sym (ap length is);
        words =
            ap (λ x. x ∷ ws) (sym (word_parts kind.Call w e))
            ∙ ap (λ s. word kind.Call n ∷ s) f.words
            ∙ ap (λ m. word kind.Call n ∷ (figure_words ks vs ++ drop m (w ∷ ws))) (sym (add-one (length vs)))
            ∙ ap (λ s. s ++ drop (length vs + 1) (w ∷ ws)) (sym is);
        fits = ap fit p.1 ∙ f.fits;
      }

  front_shaped : (o : Option (List Kind)) → shape_of (value_in w) ≡ o
      → IfOk (with_shape (value_in w) o ws) (Front (w ∷ ws))
  front_shaped None s = tt
  front_shaped (Some ks) s = front_called ks (row_in shapes rows (value_in w) ks s) s (read_figures ks ws)
      (figured ks ws)

pub front : (ws : List ℕ) → IfOk (read_call ws) (Front ws)
front [] = tt
front (w ∷ ws) =
    cond_both (eqb (kind_in w) 1) _ _ (λ r. IfOk r (Front (w ∷ ws)))
    (λ t. front_shaped w ws (eqb-true _ _ t) (shape_of (value_in w)) refl) (λ _. tt)
