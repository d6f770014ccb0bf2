-- Reading on to the end: what was read so far, and what is read of the words that are left.
use Rattle.std.proofs.Common.{◌≡◌, ℕ, ◌+◌, ◌<◌, ◌≤◌, List, [], ◌∷◌, ◌++◌, length}
use Rattle.std.proofs.Common.{drop, IfOk, Ok, Err, Result, sym, refl, ap, ◌∙◌, arith}
use Rattle.std.proofs.lemmas.List.{append_assoc, append-nil, drop_all}
use Rattle.std.proofs.lemmas.List.{drop-drop, length-append, length-drop}
use Rattle.calls.specs.declared.call.Call.{Call}
use Rattle.words.specs.Ends.{read_of}
use Rattle.words.specs.Journal.{Reading, whole, halted, add, next, read_by, read_calls}
use Rattle.words.specs.Reading.{read_call, Used, Stopped}
use Rattle.words.proofs.Codec.{Front, front}

abbrev pub behind : {X : Type 0} → List X → ℕ → Reading X → Reading X
behind xs place (whole ys) = whole (xs ++ ys)
behind xs place (halted ys at) = halted (xs ++ ys) (place + at)

pub behind_none : {X : Type 0} (s : Reading X) → behind [] 0 s ≡ s
behind_none (whole ys) = refl
behind_none (halted ys at) = ap (halted ys) (omega arith)

-- what was read so far is read of the whole: one call or answer at least
pub kept_more : {X : Type 0} (xs : List X) (x : X) (place : ℕ) (s r : Reading X) → behind (xs ++ x ∷ []) place s ≡ r
    → 1 ≤ length (read_of r)
kept_more xs x place (whole ys) r e =
    omega (arith, ap (λ s. length (read_of s)) e, length-append (xs ++ x ∷ []) ys, length-append xs (x ∷ []))
kept_more xs x place (halted ys at) r e =
    omega (arith, ap (λ s. length (read_of s)) e, length-append (xs ++ x ∷ []) ys, length-append xs (x ∷ []))

pub behind_add : {X : Type 0} (xs : List X) (place : ℕ) (x : X) (used : ℕ) (s : Reading X)
    → behind xs place (add x used s) ≡ behind (xs ++ x ∷ []) (place + used) s
behind_add xs place x used (whole ys) = ap whole (sym (append_assoc xs (x ∷ []) ys))
behind_add xs place x used (halted ys at) =
    ap (λ zs. halted zs (place + (used + at))) (sym (append_assoc xs (x ∷ []) ys))
    ∙ ap (halted ((xs ++ x ∷ []) ++ ys)) (omega arith)

-- any list that is long enough serves
enough_next : (f g ws : List ℕ) → ((used : ℕ) → 1 ≤ used → read_by f (drop used ws) ≡ read_by g (drop used ws))
    → (r : Result (Call × ℕ) ℕ) → IfOk r (Front ws)
    → next r (λ used. read_by f (drop used ws)) ≡ next r (λ used. read_by g (drop used ws))
enough_next f g ws ih (Ok p) t = ap (add p.0 p.1) (ih p.1 (omega (arith, t.long)))
enough_next f g ws ih (Err at) t = refl

enough : (f g ws : List ℕ) → length ws ≤ length f → length ws ≤ length g → read_by f ws ≡ read_by g ws
enough [] [] ws h k = refl
enough [] (y ∷ g) [] h k = refl
enough [] (y ∷ g) (w ∷ ws) h k = absurd (omega arith)
enough (x ∷ f) [] [] h k = refl
enough (x ∷ f) [] (w ∷ ws) h k = absurd (omega arith)
enough (x ∷ f) (y ∷ g) [] h k = refl
enough (x ∷ f) (y ∷ g) (w ∷ ws) h k =
    enough_next f g (w ∷ ws)
    (λ used l. let d = length-drop used (w ∷ ws) in enough f g (drop used (w ∷ ws)) (omega arith) (omega arith))
    (read_call (w ∷ ws)) (front (w ∷ ws))

pub calls_step : (ws : List ℕ) (c : Call) (used : ℕ) → read_call ws ≡ Ok (c, used) → 1 ≤ used
    → read_calls ws ≡ add c used (read_calls (drop used ws))
calls_step [] c used e h = let z : ◌≡◌ {A = ℕ} 0 1 = cc in absurd (omega arith)
calls_step (w ∷ ws) c used e h =
    let d = length-drop used (w ∷ ws) in
    ap (λ r. next r (λ u. read_by ws (drop u (w ∷ ws)))) e
    ∙ ap (add c used) (enough ws (drop used (w ∷ ws)) (drop used (w ∷ ws)) (omega arith) (omega arith))

pub calls_stop : (ws : List ℕ) (at : ℕ) → 0 < length ws → read_call ws ≡ Err at → read_calls ws ≡ halted [] at
calls_stop [] at h e = absurd (omega arith)
calls_stop (w ∷ ws) at h e = ap (λ r. next r (λ u. read_by ws (drop u (w ∷ ws)))) e

module _ (ws : List ℕ) (xs : List Call) (place : ℕ)
    (so_far : behind xs place (read_calls (drop place ws)) ≡ read_calls ws) where
  pub read_more : (c : Call) (after : ℕ) → Used ws place c after → (zs : List Call) → zs ≡ xs ++ c ∷ []
      → behind zs after (read_calls (drop after ws)) ≡ read_calls ws
  read_more c after u zs is =
      ap (λ s. behind s after (read_calls (drop after ws))) is
      ∙ ap (λ n. behind (xs ++ c ∷ []) n (read_calls (drop n ws))) u.moved
      ∙ ap (λ s. behind (xs ++ c ∷ []) (place + u.used) (read_calls s)) (sym (drop-drop u.used place ws))
      ∙ sym (behind_add xs place c u.used (read_calls (drop u.used (drop place ws))))
      ∙ sym (ap (behind xs place) (calls_step (drop place ws) c u.used u.read u.some))
      ∙ so_far

  pub read_stop : place < length ws → (at : ℕ) → Stopped ws place at → (ys : List Call) × (read_calls ws ≡ halted ys at)
  read_stop h at s = (
    xs ++ [],
    sym so_far
        ∙ ap (behind xs place) (calls_stop (drop place ws) s.off (omega (arith, length-drop place ws)) s.read)
        ∙ ap (halted (xs ++ [])) (sym s.here),
  )

  pub read_all : length ws ≤ place → read_calls ws ≡ whole xs
  read_all h = sym so_far ∙ ap (λ s. behind xs place (read_calls s)) (drop_all place ws h) ∙ ap whole (append-nil xs)
