-- Lists of calls: written and read back, and read and written again.
use Rattle.std.proofs.Common.{◌≡◌, ℕ, ◌≤◌, true, List, [], ◌∷◌, ◌++◌, length, drop, IfOk}
use Rattle.std.proofs.Common.{Ok, Err, Result, sym, refl, ap, ◌∙◌, subst, arith}
use Rattle.std.proofs.lemmas.List.{append_assoc, drop_at, length-append, length-drop}
use Rattle.std.proofs.lemmas.Bool.{and_parts, and_from}
use Rattle.calls.specs.declared.call.Call.{Call}
use Rattle.words.specs.Journal.{Reading, whole, halted, add, next, read_by, read_calls, Halt}
use Rattle.words.specs.Lists.{calls_words, all_fit}
use Rattle.words.specs.Reading.{read_call}
use Rattle.words.specs.Shapes.{figures_of}
use Rattle.words.specs.Writing.{call_words, fit}
use Rattle.words.proofs.Codec.{call_returns, Front, front}

-- a list as long as the words is enough
by_returns : (cs : List Call) (fuel : List ℕ) → length (calls_words cs) ≤ length fuel → all_fit cs ≡ true
    → read_by fuel (calls_words cs) ≡ whole cs
by_returns [] [] h f = refl
by_returns [] (u ∷ fuel) h f = refl
by_returns (c ∷ cs) [] h f = absurd (omega (arith, length-append (call_words c) (calls_words cs)))
by_returns (c ∷ cs) (u ∷ fuel) h f =
    let p = and_parts (fit (figures_of c)) (all_fit cs) f in
    ap (λ r. next r (λ used. read_by fuel (drop used (calls_words (c ∷ cs))))) (call_returns c (calls_words cs) p.0)
    ∙ ap (λ ws. add c (length (call_words c)) (read_by fuel ws))
    (drop_at (call_words c) (calls_words cs) (length (call_words c)) refl)
    ∙ ap (add c (length (call_words c)))
    (by_returns cs fuel (omega (arith, length-append (call_words c) (calls_words cs))) p.1)

pub calls_return : (cs : List Call) → all_fit cs ≡ true → read_calls (calls_words cs) ≡ whole cs
calls_return cs f = by_returns cs (calls_words cs) (omega arith) f

-- what a reading says of its words
abbrev Tells : List ℕ → Reading Call → Type 0
Tells ws (whole cs) = (calls_words cs ≡ ws) × (all_fit cs ≡ true)
Tells ws (halted cs at) = Halt ws cs at

tells_add : (ws : List ℕ) (p : Call × ℕ) → Front ws p → (s : Reading Call) → Tells (drop p.1 ws) s
    → Tells ws (add p.0 p.1 s)
tells_add ws p f (whole cs) t = (
  ap (λ s. call_words p.0 ++ s) t.0 ∙ sym f.words,
  and_from (fit (figures_of p.0)) (all_fit cs) f.fits t.1,
)
tells_add ws p f (halted cs at) t = record {
  rest = t.rest;
  off = t.off;
  words = f.words ∙ ap (λ s. call_words p.0 ++ s) t.words ∙ sym (append_assoc (call_words p.0) (calls_words cs) t.rest);
  stop = t.stop;
  here = omega (arith, f.long, t.here, length-append (call_words p.0) (calls_words cs));
  fits = and_from (fit (figures_of p.0)) (all_fit cs) f.fits t.fits;
}

tells_next : (ws : List ℕ) (more : ℕ → Reading Call) → ((used : ℕ) → 1 ≤ used → Tells (drop used ws) (more used))
    → (r : Result (Call × ℕ) ℕ) → read_call ws ≡ r → IfOk r (Front ws) → Tells ws (next r more)
tells_next ws more ih (Ok p) e f = tells_add ws p f (more p.1) (ih p.1 (omega (arith, f.long)))
tells_next ws more ih (Err at) e f =
    record { rest = ws; off = at; words = refl; stop = e; here = omega arith; fits = refl }

by_tells : (fuel ws : List ℕ) → length ws ≤ length fuel → Tells ws (read_by fuel ws)
by_tells [] [] h = (refl, refl)
by_tells [] (w ∷ ws) h = absurd (omega arith)
by_tells (u ∷ fuel) [] h = (refl, refl)
by_tells (u ∷ fuel) (w ∷ ws) h =
    tells_next (w ∷ ws) (λ used. read_by fuel (drop used (w ∷ ws)))
    (λ used k. by_tells fuel (drop used (w ∷ ws)) (omega (arith, length-drop used (w ∷ ws))))
    (read_call (w ∷ ws)) refl (front (w ∷ ws))

tells : (ws : List ℕ) → Tells ws (read_calls ws)
tells ws = by_tells ws ws (omega arith)

pub words_return : (ws : List ℕ) (cs : List Call) → read_calls ws ≡ whole cs
    → (calls_words cs ≡ ws) × (all_fit cs ≡ true)
words_return ws cs e = subst (Tells ws) e (tells ws)

pub stops_are_exact : (ws : List ℕ) (cs : List Call) (at : ℕ) → read_calls ws ≡ halted cs at → Halt ws cs at
stops_are_exact ws cs at e = subst (Tells ws) e (tells ws)
