-- A run so far: what is written, before what is still to come.
use Rattle.std.proofs.Common.{◌≡◌, ℕ, ◌+◌, ◌-◌, ◌<◌, ◌≤◌, List, [], ◌++◌, length, take, drop}
use Rattle.std.proofs.Common.{Some, None, Ok, Err, Option, sym, refl, ap, ◌∙◌, subst, arith}
use Rattle.std.proofs.lemmas.List.{append_assoc, append-nil, length-append, length-take-le}
use Rattle.std.proofs.lemmas.List.{length-drop, take-append-drop, take_at, drop_at, drop-drop, drop_all}
use Rattle.std.proofs.lemmas.Bool.{cond-false, le-ltb}
use Rattle.calls.specs.declared.call.Answer.{Answer}
use Rattle.calls.specs.declared.call.Call.{Call}
use Rattle.calls.specs.declared.refusal.Refusal.TheVariants.{BadWord, NoRoom}
use Rattle.book.specs.State.{State}
use Rattle.book.specs.Meanings.{Meaning}
use Rattle.book.specs.Rulings.{Meets}
use Rattle.book.specs.Step.{step}
use Rattle.words.specs.Limits.{journal_words}
use Rattle.words.specs.Reading.{read_call, Used}
use Rattle.answers.specs.Writing.{answer_words}
use Rattle.journal.specs.Runs.{Runs, answering, run_from, run}
use Rattle.journal.specs.declared.ran.Ran.{Ran}
use Rattle.journal.specs.declared.stop.Stop.{Stop}
use Rattle.journal.proofs.Steps.{run_wrong, run_full, run_more}

-- the whole run is what is written, and then the run from the place on
abbrev pub SoFar : Meaning → List ℕ → ℕ → State → List ℕ → ℕ → ℕ → State → Type 0
SoFar m words room start answers written place s =
    run_from m words 0 0 room start ≡ answering (take written answers)
    (run_from m (drop place words) place 0 (room - written) s)

-- the answer memory with an answer at a place
abbrev pub with_answer : List ℕ → ℕ → List ℕ → List ℕ
with_answer answers written a = take written answers ++ (a ++ drop (written + length a) answers)

front_length : (answers a : List ℕ) (written : ℕ) → written ≤ length answers
    → length (take written answers ++ a) ≡ written + length a
front_length answers a written h = length-append (take written answers) a
    ∙ ap (λ n. n + length a) (length-take-le written answers h)

pub front : (answers a : List ℕ) (written : ℕ) → written ≤ length answers
    → take (written + length a) (with_answer answers written a) ≡ take written answers ++ a
front answers a written h =
    ap (take (written + length a)) (sym (append_assoc (take written answers) a (drop (written + length a) answers)))
    ∙ take_at (take written answers ++ a) (drop (written + length a) answers) (written + length a)
    (front_length answers a written h)

pub back : (answers a : List ℕ) (written : ℕ) → written ≤ length answers
    → drop (written + length a) (with_answer answers written a) ≡ drop (written + length a) answers
back answers a written h =
    ap (drop (written + length a)) (sym (append_assoc (take written answers) a (drop (written + length a) answers)))
    ∙ drop_at (take written answers ++ a) (drop (written + length a) answers) (written + length a)
    (front_length answers a written h)

-- a run on its way: what it is so far, and the memory behind what is written as it was before
pub record Going (m : Meaning) (words : List ℕ) (room : ℕ) (start : State) (before answers : List ℕ) (written place : ℕ)
    (s : State) : Type 0 where
  pub so_far : SoFar m words room start answers written place s
  pub behind : drop written answers ≡ drop written before
  pub inside : written ≤ length answers

module _ (m : Meaning) (words : List ℕ) (room : ℕ) (start : State) (before answers : List ℕ) (written place : ℕ)
    (s : State) (going : Going m words room start before answers written place s) where
  -- one call more
  goes_on : (read : Call × ℕ) → place < length words → read_call (drop place words) ≡ Ok read → 1 ≤ read.1
      → length (answer_words (step m s read.0).answer) ≤ room - written
      → SoFar m words room start (with_answer answers written (answer_words (step m s read.0).answer))
      (written + length (answer_words (step m s read.0).answer)) (place + read.1) (step m s read.0).after
  goes_on read h e some fits =
      let a = answer_words (step m s read.0).answer in
      let left : room - written - length a ≡ room - (written + length a) = omega arith in
      let more = run_more m (drop place words) place (room - written) s read (simp length-drop (omega arith)) e some
      fits in
      rw (going.so_far, more, front answers a written going.inside, append_assoc, drop-drop read.1 place words, left)

  -- the same, by what reading, the call and the writing ensure
  pub step_on : (call : Call) (after : ℕ) (answer : Answer) (t : State) (encoded out : List ℕ) → place < length words
      → Used words place call after → Meets (step m s call) answer t → encoded ≡ answer_words answer
      → length encoded ≤ room - written → out ≡ with_answer answers written encoded
      → written + length encoded ≤ length out → Going m words room start before out (written + length encoded) after t
  step_on call after answer t encoded out h u met e fits o inside =
      let n : encoded ≡ answer_words (step m s call).answer = e ∙ ap answer_words met.answers in
      record {
        so_far = rw (o, n, u.moved, met.leaves) (goes_on (call, u.used) h u.read u.some (rw n at fits));
        behind = rw o (back answers encoded written going.inside
            ∙ sym (drop-drop (length encoded) written answers)
            ∙ ap (drop (length encoded)) going.behind
            ∙ drop-drop (length encoded) written before);
        inside = inside;
      }

  -- the run's end, by what is left of it
  ends : (stop : Option Stop) → run_from m (drop place words) place 0 (room - written) s
      ≡ record { after = s; words = []; stop = stop }
      → Runs (run_from m words 0 0 room start) (record { written = written; stop = stop }) before answers s
  ends stop e =
      rw (going.so_far, e, append-nil) (record {
        state = refl;
        count = sym (length-take-le written answers going.inside);
        memory = rw (← going.behind) (sym (take-append-drop written answers));
        stops = refl;
      })

  pub ends_whole : length words ≤ place
      → Runs (run_from m words 0 0 room start) (record { written = written; stop = None }) before answers s
  ends_whole h = ends None (rw (drop_all place words h))

  pub ends_wrong : (off at : ℕ) → place < length words → read_call (drop place words) ≡ Err off → at ≡ place + off
      → Runs (run_from m words 0 0 room start)
      (record { written = written; stop = Some (record { refusal = BadWord; place = at }) }) before answers s
  ends_wrong off at h e here =
      ends _ (rw here (run_wrong m (drop place words) place (room - written) s off (simp length-drop (omega arith)) e))

  pub ends_full : (read : Call × ℕ) → place < length words → read_call (drop place words) ≡ Ok read
      → room - written < length (answer_words (step m s read.0).answer)
      → Runs (run_from m words 0 0 room start)
      (record { written = written; stop = Some (record { refusal = NoRoom; place = place }) }) before answers s
  ends_full read h e full =
      ends _ (run_full m (drop place words) place (room - written) s read (simp length-drop (omega arith)) e full)

-- a journal of at most 8,192 words is read
pub reads : (m : Meaning) (words : List ℕ) (room : ℕ) (start s : State) (r : Ran) (before answers : List ℕ)
    → length words ≤ journal_words → Runs (run_from m words 0 0 room start) r before answers s
    → Runs (run m words room start) r before answers s
reads m words room start s r before answers h x =
    subst (λ e. Runs e r before answers s) (sym (cond-false _ _ _ (le-ltb journal_words (length words) h))) x
