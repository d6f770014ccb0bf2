-- What running a journal comes to, over the book: the answers' words, the state after, and where and why it stopped.
use Rattle.std.specs.Prelude.{◌≡◌, ℕ, zero, suc, ◌+◌, ◌-◌, cond, List, [], ◌∷◌, ◌++◌}
use Rattle.std.specs.Prelude.{length, drop, Some, None, Ok, Err, Option, Result, nat_lt}
use Rattle.calls.specs.declared.call.Call.{Call}
use Rattle.calls.specs.declared.refusal.Refusal.{Refusal}
use Rattle.calls.specs.declared.refusal.Refusal.TheVariants.{BadWord, OutOfRange, NoRoom}
use Rattle.book.specs.State.{State}
use Rattle.book.specs.Meanings.{Meaning}
use Rattle.book.specs.Rulings.{Outcome}
use Rattle.book.specs.Step.{step}
use Rattle.words.specs.Limits.{journal_words}
use Rattle.words.specs.Reading.{read_call}
use Rattle.answers.specs.Writing.{answer_words}
use Rattle.journal.specs.declared.ran.Ran.{Ran}
use Rattle.journal.specs.declared.stop.Stop.{Stop}

pub record Ending : Type 0 where
  pub after : State
  pub words : List ℕ
  pub stop : Option Stop

abbrev pub stopped : State → Refusal → ℕ → Ending
stopped s refusal place = record { after = s; words = []; stop = Some (record { refusal = refusal; place = place }) }

-- the words of one call's answer before those of the rest
abbrev pub answering : List ℕ → Ending → Ending
answering ws r = record { after = r.after; words = ws ++ r.words; stop = r.stop }

-- A call that is read whole is stopped with 19, at its own place, if its answer does not fit the room that is left;
-- else it is made, and the rest goes on. A word that is wrong, unknown or missing stops with 1, at its place.
abbrev pub if_it_fits : ℕ → ℕ → State → Outcome → (State → ℕ → Ending) → Ending
if_it_fits place room s o rest =
    cond (nat_lt room (length (answer_words o.answer))) (stopped s NoRoom place)
    (answering (answer_words o.answer) (rest o.after (room - length (answer_words o.answer))))

abbrev pub go : Meaning → ℕ → ℕ → State → Result (Call × ℕ) ℕ → (ℕ → State → ℕ → Ending) → Ending
go m place room s (Err at) rest = stopped s BadWord (place + at)
go m place room s (Ok read) rest = if_it_fits place room s (step m s read.0) (rest (read.1 - 1))

-- From a place on, with so much room for answers: `skip` words of a call that has been read are passed over first.
abbrev pub run_from : Meaning → List ℕ → ℕ → ℕ → ℕ → State → Ending
run_from m [] place skip room s = record { after = s; words = []; stop = None }
run_from m (w ∷ ws) place (suc skip) room s = run_from m ws (place + 1) skip room s
run_from m (w ∷ ws) place zero room s =
    go m place room s (read_call (w ∷ ws)) (λ skip t left. run_from m ws (place + 1) skip left t)

-- A journal of more than 8,192 words is refused with 5 at place 0, unread; any other is run from its first word.
abbrev pub run : Meaning → List ℕ → ℕ → State → Ending
run m words room s = cond (nat_lt journal_words (length words)) (stopped s OutOfRange 0) (run_from m words 0 0 room s)

-- A run is the book's: the state after it, the words that it wrote at the front of the answer memory and how many
-- they are, the memory past them as it was, and where and why it stopped.
pub record Runs (e : Ending) (r : Ran) (before after : List ℕ) (s : State) : Type 0 where
  pub state : s ≡ e.after
  pub count : r.written ≡ length e.words
  pub memory : after ≡ e.words ++ drop r.written before
  pub stops : r.stop ≡ e.stop

-- A run that stopped at a place, with so many words written.
abbrev pub stopped_at : ℕ → Refusal → ℕ → Ran
stopped_at written refusal place = record
    { written = written; stop = Some (record { refusal = refusal; place = place }) }
