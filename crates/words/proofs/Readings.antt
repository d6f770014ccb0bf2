-- Reading figures word by word, and the call at a place.
use Rattle.std.proofs.Common.{◌≡◌, ℕ, suc, ◌+◌, ◌<◌, ◌≤◌, eqb, List, [], ◌∷◌, ◌++◌, length, get_or, drop, IfOk}
use Rattle.std.proofs.Common.{Some, None, Ok, Err, Result, sym, refl, ap, ◌∙◌, inl, inr, arith}
use Rattle.std.proofs.lemmas.List.{drop_all, drop_more, length-drop, drop-drop}
use Rattle.std.proofs.lemmas.Result.{IfOk-at_ok}
use Rattle.std.proofs.lemmas.Bool.{cases_Bool, cond-true, cond-false, cond_both}
use Rattle.words.specs.Kinds.{kind_number, kind_in, value_in}
use Rattle.words.specs.Reading.{read_figures, further, read_call, call_of, called, with_shape, Used, Stopped, Missed}
use Rattle.words.specs.Shapes.{shape_of}
use Rattle.words.specs.declared.kind.Kind.{Kind}
use Rattle.words.specs.declared.kind.Kind.TheVariants as kind

-- figures read before what is read after them
abbrev pub onto : List ℕ → Result (List ℕ) ℕ → Result (List ℕ) ℕ
onto [] r = r
onto (v ∷ vs) r = further (onto vs r) v

onto_push : (vs : List ℕ) (v : ℕ) (r : Result (List ℕ) ℕ) → onto (vs ++ v ∷ []) r ≡ onto vs (further r v)
onto_push [] v r = refl
onto_push (x ∷ vs) v r = ap (λ s. further s x) (onto_push vs v r)

onto_ok : (vs : List ℕ) → onto vs (Ok []) ≡ Ok vs
onto_ok [] = refl
onto_ok (v ∷ vs) = ap (λ s. further s v) (onto_ok vs)

onto_err : (vs : List ℕ) (at : ℕ) → onto vs (Err at) ≡ Err (length vs + at)
onto_err [] at = ap Err (omega arith)
onto_err (v ∷ vs) at = ap (λ s. further s v) (onto_err vs at) ∙ ap Err (omega arith)

-- one word of a kind, and the words behind it
one_more : (k : Kind) (ks : List Kind) (ws : List ℕ) (v : ℕ) → read_figures (k ∷ []) ws ≡ Ok (v ∷ [])
    → read_figures (k ∷ ks) ws ≡ further (read_figures ks (drop 1 ws)) v
one_more k ks [] v e = cc
one_more k ks (w ∷ ws) v e = elim (cases_Bool (eqb (kind_in w) (kind_number k))) [
  | inl t ↦ let is : value_in w ≡ v = cc (cond-true {A = Result (List ℕ) ℕ} _ (Ok (value_in w ∷ [])) (Err 0) t) in
      cond-true _ _ _ t ∙ ap (further (read_figures ks ws)) is
  | inr f ↦ cc (cond-false {A = Result (List ℕ) ℕ} _ (Ok (value_in w ∷ [])) (Err 0) f)
]

one_lost : (k : Kind) (ks : List Kind) (ws : List ℕ) → read_figures (k ∷ []) ws ≡ Err 0
    → read_figures (k ∷ ks) ws ≡ Err 0
one_lost k ks [] e = refl
one_lost k ks (w ∷ ws) e = elim (cases_Bool (eqb (kind_in w) (kind_number k))) [
  | inl t ↦ let z : ◌≡◌ {A = Result (List ℕ) ℕ} (Ok (value_in w ∷ [])) (Err 0) = sym (cond-true _ _ _ t) ∙ e in cc
  | inr f ↦ cond-false _ _ _ f
]

-- the figure at a place of the kinds, as many words past the place
module _ (ks : List Kind) (ws vs : List ℕ) (start i : ℕ) (long : length vs ≡ i)
    (so_far : onto vs (read_figures (drop i ks) (drop (start + i) ws)) ≡ read_figures ks (drop start ws)) where
  pub figure_more : i < length ks → (v : ℕ)
      → read_figures (get_or ks i kind.Call ∷ []) (drop (start + i) ws) ≡ Ok (v ∷ [])
      → onto (vs ++ v ∷ []) (read_figures (drop (i + 1) ks) (drop (start + (i + 1)) ws))
      ≡ read_figures ks (drop start ws)
  figure_more h v e =
      let n : start + (i + 1) ≡ start + i + 1 = omega arith in
      onto_push vs v (read_figures (drop (i + 1) ks) (drop (start + (i + 1)) ws))
      ∙ ap (λ m. onto vs (further (read_figures (drop (i + 1) ks) (drop m ws)) v)) n
      ∙ ap (λ s. onto vs (further (read_figures (drop (i + 1) ks) s) v)) (sym (drop-drop 1 (start + i) ws))
      ∙ sym (ap (onto vs) (one_more (get_or ks i kind.Call) (drop (i + 1) ks) (drop (start + i) ws) v e))
      ∙ ap (λ s. onto vs (read_figures s (drop (start + i) ws))) (sym (drop_more ks i kind.Call h))
      ∙ so_far

  pub figure_missed : i < length ks → read_figures (get_or ks i kind.Call ∷ []) (drop (start + i) ws) ≡ Err 0
      → Missed ks ws start (start + i)
  figure_missed h e = record {
    off = i;
    read = sym so_far
        ∙ ap (λ s. onto vs (read_figures s (drop (start + i) ws))) (drop_more ks i kind.Call h)
        ∙ ap (onto vs) (one_lost (get_or ks i kind.Call) (drop (i + 1) ks) (drop (start + i) ws) e)
        ∙ onto_err vs 0 ∙ ap Err (omega (arith, long));
    here = refl;
  }

  pub figures_all : length ks ≤ i → read_figures ks (drop start ws) ≡ Ok vs
  figures_all h = sym so_far
      ∙ ap (λ s. onto vs (read_figures s (drop (start + i) ws))) (drop_all i ks h) ∙ onto_ok vs

-- as many figures as kinds, and as many words at least
abbrev Long : ℕ → ℕ → List ℕ → Type 0
Long kinds words vs = (length vs ≡ kinds) × (kinds ≤ words)

further_long : (m n v : ℕ) (r : Result (List ℕ) ℕ) → IfOk r (Long m n) → IfOk (further r v) (Long (suc m) (suc n))
further_long m n v (Ok vs) h = (omega arith, omega arith)
further_long m n v (Err at) h = tt

figures_long : (ks : List Kind) (ws : List ℕ) → IfOk (read_figures ks ws) (Long (length ks) (length ws))
figures_long [] ws = (refl, omega arith)
figures_long (k ∷ ks) [] = tt
figures_long (k ∷ ks) (w ∷ ws) =
    cond_both (eqb (kind_in w) (kind_number k)) (further (read_figures ks ws) (value_in w)) (Err 0)
    (λ r. IfOk r (Long (suc (length ks)) (suc (length ws))))
    (λ _. further_long (length ks) (length ws) (value_in w) (read_figures ks ws) (figures_long ks ws)) (λ _. tt)

-- the call word
call_word : (ws : List ℕ) (n : ℕ) → read_figures (kind.Call ∷ []) ws ≡ Ok (n ∷ [])
    → read_call ws ≡ with_shape n (shape_of n) (drop 1 ws)
call_word [] n e = cc
call_word (w ∷ ws) n e = elim (cases_Bool (eqb (kind_in w) 1)) [
  | inl t ↦ let is : value_in w ≡ n = cc (cond-true {A = Result (List ℕ) ℕ} _ (Ok (value_in w ∷ [])) (Err 0) t) in
      cond-true _ _ _ t ∙ ap (λ m. with_shape m (shape_of m) ws) is
  | inr f ↦ cc (cond-false {A = Result (List ℕ) ℕ} _ (Ok (value_in w ∷ [])) (Err 0) f)
]

no_call_word : (ws : List ℕ) → read_figures (kind.Call ∷ []) ws ≡ Err 0 → read_call ws ≡ Err 0
no_call_word [] e = refl
no_call_word (w ∷ ws) e = elim (cases_Bool (eqb (kind_in w) 1)) [
  | inl t ↦ let z : ◌≡◌ {A = Result (List ℕ) ℕ} (Ok (value_in w ∷ [])) (Err 0) = sym (cond-true _ _ _ t) ∙ e in cc
  | inr f ↦ cond-false _ _ _ f
]

-- the call at a place
module _ (ws : List ℕ) (place : ℕ) where
  pub stopped_kind : read_figures (kind.Call ∷ []) (drop place ws) ≡ Err 0 → Stopped ws place place
  stopped_kind e = record { off = 0; read = no_call_word (drop place ws) e; here = omega arith }

  module _ (n : ℕ) (e : read_figures (kind.Call ∷ []) (drop place ws) ≡ Ok (n ∷ [])) where
    opened : read_call (drop place ws) ≡ with_shape n (shape_of n) (drop (place + 1) ws)
    opened = call_word (drop place ws) n e ∙ ap (with_shape n (shape_of n)) (drop-drop 1 place ws)

    pub stopped_number : shape_of n ≡ None → Stopped ws place place
    stopped_number s = record {
      off = 0;
      read = opened ∙ ap (λ o. with_shape n o (drop (place + 1) ws)) s;
      here = omega arith;
    }

    module _ (ks : List Kind) (s : shape_of n ≡ Some ks) where
      shaped : read_call (drop place ws) ≡ called n (read_figures ks (drop (place + 1) ws))
      shaped = opened ∙ ap (λ o. with_shape n o (drop (place + 1) ws)) s

      pub stopped_figure : (at : ℕ) → Missed ks ws (place + 1) at → Stopped ws place at
      stopped_figure at m = record {
        off = m.off + 1;
        read = shaped ∙ ap (called n) m.read;
        here = omega (arith, m.here);
      }

      pub used_all : (vs : List ℕ) → read_figures ks (drop (place + 1) ws) ≡ Ok vs
          → Used ws place (call_of n vs) (place + 1 + length ks)
      used_all vs r =
          let first = IfOk-at_ok (Long 1 (length (drop place ws))) e (figures_long (kind.Call ∷ []) (drop place ws)) in
          let l = IfOk-at_ok (Long (length ks) (length (drop (place + 1) ws))) r
          (figures_long ks (drop (place + 1) ws)) in
          record {
            used = length vs + 1;
            read = shaped ∙ ap (called n) r;
            moved = omega (arith, l.0);
            some = omega arith;
            within = omega (arith, first.1, l.1, length-drop place ws, length-drop (place + 1) ws);
          }
