-- One call of a run: passed over once it is read, stopped, or answered.
use Rattle.std.proofs.Common.{◌≡◌, ℕ, zero, suc, ◌+◌, ◌-◌, ◌<◌, ◌≤◌, List, [], ◌∷◌}
use Rattle.std.proofs.Common.{length, drop, Ok, Err, refl, ap, ◌∙◌, arith}
use Rattle.std.proofs.lemmas.Bool.{lt-ltb, le-ltb}
use Rattle.calls.specs.declared.call.Call.{Call}
use Rattle.calls.specs.declared.refusal.Refusal.TheVariants.{BadWord, NoRoom}
use Rattle.book.specs.State.{State}
use Rattle.book.specs.Meanings.{Meaning}
use Rattle.book.specs.Step.{step}
use Rattle.words.specs.Reading.{read_call}
use Rattle.answers.specs.Writing.{answer_words}
use Rattle.journal.specs.Runs.{stopped, answering, run_from}

module _ (m : Meaning) where
  -- the words of a call are passed over
  pub skip_all : (ws : List ℕ) (place k room : ℕ) (s : State)
      → run_from m ws place k room s ≡ run_from m (drop k ws) (place + k) 0 room s
  skip_all [] place zero room s = refl
  skip_all [] place (suc k) room s = refl
  skip_all (w ∷ ws) place zero room s = ap (λ p. run_from m (w ∷ ws) p 0 room s) (omega arith)
  skip_all (w ∷ ws) place (suc k) room s = skip_all ws (place + 1) k room s
      ∙ ap (λ p. run_from m (drop k ws) p 0 room s) (omega arith)

  past_call : (w : ℕ) (ws : List ℕ) (place used room : ℕ) (s : State) → 1 ≤ used
      → run_from m ws (place + 1) (used - 1) room s ≡ run_from m (drop used (w ∷ ws)) (place + used) 0 room s
  past_call w ws place used room s h =
      let e : suc (used - 1) ≡ used = omega arith in
      skip_all ws (place + 1) (used - 1) room s
      ∙ ap (λ p. run_from m (drop (used - 1) ws) p 0 room s) (omega arith)
      ∙ ap (λ u. run_from m (drop u (w ∷ ws)) (place + used) 0 room s) e

  -- reading stops at a word
  pub run_wrong : (ws : List ℕ) (place room : ℕ) (s : State) (at : ℕ) → 0 < length ws → read_call ws ≡ Err at
      → run_from m ws place 0 room s ≡ stopped s BadWord (place + at)
  run_wrong [] place room s at h e = absurd (omega arith)
  run_wrong (w ∷ ws) place room s at h e = rw e

  -- the call's answer does not fit
  pub run_full : (ws : List ℕ) (place room : ℕ) (s : State) (read : Call × ℕ) → 0 < length ws → read_call ws ≡ Ok read
      → room < length (answer_words (step m s read.0).answer) → run_from m ws place 0 room s ≡ stopped s NoRoom place
  run_full [] place room s read h e f = absurd (omega arith)
  run_full (w ∷ ws) place room s read h e f = rw (e, lt-ltb room _ f)

  -- the call is answered, and the rest goes on after its words
  pub run_more : (ws : List ℕ) (place room : ℕ) (s : State) (read : Call × ℕ) → 0 < length ws → read_call ws ≡ Ok read
      → 1 ≤ read.1 → length (answer_words (step m s read.0).answer) ≤ room
      → run_from m ws place 0 room s ≡ answering (answer_words (step m s read.0).answer)
      (run_from m (drop read.1 ws) (place + read.1) 0 (room - length (answer_words (step m s read.0).answer))
      (step m s read.0).after)
  run_more [] place room s read h e some f = absurd (omega arith)
  run_more (w ∷ ws) place room s read h e some f =
      rw (e, le-ltb room _ f, past_call w ws place read.1 _ (step m s read.0).after some)
