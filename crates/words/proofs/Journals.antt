-- Writing lists of calls, one call after the other.
use Rattle.std.proofs.Common.{◌≡◌, ℕ, zero, suc, ◌+◌, ◌<◌, ◌≤◌, true, false, leb, List, [], ◌∷◌, ◌++◌, length, get_or}
use Rattle.std.proofs.Common.{take, drop, Ok, Err, sym, refl, ap, ◌∙◌, le_of_suc-le-suc, not-suc-le-zero, arith}
use Rattle.std.proofs.lemmas.List.{append_assoc, append-nil, length-append, take-append-drop, take_more, take_all}
use Rattle.std.proofs.lemmas.Bool.{and_from, and_left, and_right, and_parts, lt-leb, le-leb}
use Rattle.calls.specs.declared.call.Call.{Call}
use Rattle.calls.specs.declared.call.Call.TheVariants.{Day}
use Rattle.words.specs.Lists.{calls_words, all_fit, writable, Put, UnwrittenAll}
use Rattle.words.specs.Shapes.{figures_of}
use Rattle.words.specs.Writing.{call_words, fit}
use Rattle.words.specs.declared.fault.Unwritten.{Unwritten}
use Rattle.words.specs.declared.fault.Unwritten.TheVariants.{OutOfRange, NoMemory}

pub calls_append : (cs ds : List Call) → calls_words (cs ++ ds) ≡ calls_words cs ++ calls_words ds
calls_append [] ds = refl
calls_append (c ∷ cs) ds = ap (λ s. call_words c ++ s) (calls_append cs ds)
    ∙ sym (append_assoc (call_words c) (calls_words cs) (calls_words ds))

calls_push : (cs : List Call) (c : Call) → calls_words (cs ++ c ∷ []) ≡ calls_words cs ++ call_words c
calls_push cs c = calls_append cs (c ∷ []) ∙ ap (λ s. calls_words cs ++ s) (append-nil (call_words c))

fit_push : (cs : List Call) (c : Call) → all_fit cs ≡ true → fit (figures_of c) ≡ true → all_fit (cs ++ c ∷ []) ≡ true
fit_push [] c h k = and_from (fit (figures_of c)) true k refl
fit_push (d ∷ cs) c h k =
    let p = and_parts (fit (figures_of d)) (all_fit cs) h in
    and_from (fit (figures_of d)) (all_fit (cs ++ c ∷ [])) p.0 (fit_push cs c p.1 k)

unfit : (cs : List Call) (i : ℕ) → i < length cs → fit (figures_of (get_or cs i Day)) ≡ false → all_fit cs ≡ false
unfit [] i h e = absurd (not-suc-le-zero h)
unfit (c ∷ cs) zero h e = and_left (fit (figures_of c)) (all_fit cs) e
unfit (c ∷ cs) (suc i) h e = and_right (fit (figures_of c)) (all_fit cs) (unfit cs i (le_of_suc-le-suc h) e)

-- the call at a place of the list
module _ (cs : List Call) (i : ℕ) (h : i < length cs) (ws after : List ℕ) where
  pub call_more : ws ≡ calls_words (take i cs) → all_fit (take i cs) ≡ true
      → Put {T = Unit {0}} (get_or cs i Day) ws (Ok tt) after
      → (after ≡ calls_words (take (i + 1) cs)) × (all_fit (take (i + 1) cs) ≡ true)
  call_more e f p = (
    p.words ∙ ap (λ s. s ++ call_words (get_or cs i Day)) e
        ∙ sym (ap calls_words (take_more cs i Day h) ∙ calls_push (take i cs) (get_or cs i Day)),
    ap all_fit (take_more cs i Day h) ∙ fit_push (take i cs) (get_or cs i Day) f p.fits,
  )

  pub call_unfit : ws ≡ calls_words (take i cs) → all_fit (take i cs) ≡ true → length ws ≤ 8192 → (e : Unwritten)
      → Put {T = Unit {0}} (get_or cs i Day) ws (Err e) after → UnwrittenAll cs e
  call_unfit is f l OutOfRange p = and_left (all_fit cs) _ (unfit cs i h p.fault)
  call_unfit is f l NoMemory p = record {
    before = i;
    more = h;
    written = and_from (all_fit (take i cs)) _ f
        (le-leb (length (calls_words (take i cs))) 8192 (omega (arith, ap length is)));
    fits = ap all_fit (take_more cs i Day h) ∙ fit_push (take i cs) (get_or cs i Day) f p.fault;
  }

pub too_long : (cs : List Call) (n : ℕ) → 8192 < length (calls_words (take n cs)) → writable cs ≡ false
too_long cs n h =
    let e : length (calls_words cs) ≡ length (calls_words (take n cs)) + length (calls_words (drop n cs))
    = ap (λ s. length (calls_words s)) (sym (take-append-drop n cs))
    ∙ ap length (calls_append (take n cs) (drop n cs))
    ∙ length-append (calls_words (take n cs)) (calls_words (drop n cs)) in
    and_right (all_fit cs) (leb (length (calls_words cs)) 8192) (lt-leb (length (calls_words cs)) 8192 (omega arith))

pub calls_all : (cs : List Call) (i : ℕ) (ws : List ℕ) → length cs ≤ i → ws ≡ calls_words (take i cs)
    → all_fit (take i cs) ≡ true → length ws ≤ 8192 → (ws ≡ calls_words cs) × (writable cs ≡ true)
calls_all cs i ws h e f l =
    let whole = take_all i cs h in
    let is : ws ≡ calls_words cs = e ∙ ap calls_words whole in (
      is,
      and_from (all_fit cs) _ (ap all_fit (sym whole) ∙ f)
          (le-leb (length (calls_words cs)) 8192 (omega (arith, ap length is))),
    )
