-- What is shown of a run: calls and answers, as they stand in the words, each with the day on which it was made.
use Rattle.std.specs.Prelude.{◌≡◌, ℕ, ◌+◌, Bool, true, List, [], ◌∷◌, ◌++◌, drop, is_err, Ok, Err, Result}
use Rattle.calls.specs.declared.call.Answer.{Answer}
use Rattle.calls.specs.declared.call.Answer.TheVariants.{Done, Stated, Refused}
use Rattle.calls.specs.declared.call.Call.{Call}
use Rattle.calls.specs.declared.call.Call.TheVariants.{Day, Open, Post, Statement}
use Rattle.answers.specs.Answers.{read_answer}
use Rattle.words.specs.Reading.{read_call}
use Rattle.report.specs.declared.entry.Entry.{Entry}

-- A done call day answers the new day; any other call leaves the day.
abbrev pub day_after : ℕ → Call → Answer → ℕ
day_after day Day (Done d) = d
day_after day Day (Stated s) = day
day_after day Day (Refused r) = day
day_after day (Open o) a = day
day_after day (Post p) a = day
day_after day (Statement term) a = day

-- Each entry is the next call of the journal with the next answer, and has the day on which it was made; the day and
-- the two places are those after the last entry.
pub data Seen : List ℕ → List ℕ → List Entry → ℕ → ℕ → ℕ → Type 0 where
  start : {journal answers : List ℕ} → Seen journal answers [] 1 0 0
  more : {journal answers : List ℕ} {es : List Entry} {day asked replied : ℕ} (e : Entry) (used taken : ℕ)
      → Seen journal answers es day asked replied → e.day ≡ day → read_call (drop asked journal) ≡ Ok (e.call, used)
      → read_answer e.call (drop replied answers) ≡ Ok (e.answer, taken)
      → Seen journal answers (es ++ e ∷ []) (day_after day e.call e.answer) (asked + used) (replied + taken)

-- No call can be read from here on, or no answer to it.
abbrev pub none_next : Result (Call × ℕ) ℕ → List ℕ → Bool
none_next (Err at) answers = true
none_next (Ok read) answers = is_err (read_answer read.0 answers)

-- The entries go on as long as a call can be read and its answer beside it: behind the last one, at the places of the
-- two, there is none.
pub record Shown (journal answers : List ℕ) (entries : List Entry) : Type 0 where
  pub day : ℕ
  pub asked : ℕ
  pub replied : ℕ
  pub seen : Seen journal answers entries day asked replied
  pub over : none_next (read_call (drop asked journal)) (drop replied answers) ≡ true
