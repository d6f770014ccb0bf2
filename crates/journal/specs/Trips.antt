-- A run told by its calls: which were made, what the book answers to them one after the other, and why no more were.
use Rattle.std.specs.Prelude.{◌≡◌, ℕ, ◌+◌, ◌<◌, ◌⊎◌, List, [], ◌∷◌, ◌++◌, length, take, Some, None, Option}
use Rattle.answers.specs.Answers.{answers_words}
use Rattle.calls.specs.declared.call.Answer.{Answer}
use Rattle.calls.specs.declared.call.Call.{Call}
use Rattle.calls.specs.declared.refusal.Refusal.TheVariants.{BadWord, OutOfRange, NoRoom}
use Rattle.book.specs.State.{State}
use Rattle.book.specs.Meanings.{Meaning}
use Rattle.book.specs.Step.{step}
use Rattle.words.specs.Ends.{read_of}
use Rattle.words.specs.Journal.{whole, halted, read_calls}
use Rattle.words.specs.Lists.{calls_words}
use Rattle.journal.specs.declared.ran.Ran.{Ran}
use Rattle.journal.specs.declared.stop.Stop.{Stop}

-- The book's answers to calls that are made one after the other, and the state after them.
abbrev pub answers_of : Meaning → State → List Call → List Answer
answers_of m s [] = []
answers_of m s (c ∷ cs) = (step m s c).answer ∷ answers_of m (step m s c).after cs

abbrev pub state_after : Meaning → State → List Call → State
state_after m s [] = s
state_after m s (c ∷ cs) = state_after m (step m s c).after cs

-- The words are calls to their end, and all of these were made.
pub record AllMade (words : List ℕ) (calls : List Call) (stop : Option Stop) : Type 0 where
  pub read : read_calls words ≡ whole calls
  pub stops : stop ≡ None

-- The calls before a word that cannot be read were made, and the stop is 1 at that word's place.
pub record MadeToWord (words : List ℕ) (place : ℕ) (calls : List Call) (stop : Option Stop) : Type 0 where
  pub at : ℕ
  pub read : read_calls words ≡ halted calls at
  pub stops : stop ≡ Some (record { refusal = BadWord; place = place + at })

-- The calls before one whose answer does not fit the room behind theirs were made, and the stop is 19 at its own place.
pub record MadeToRoom (m : Meaning) (words : List ℕ) (place room : ℕ) (s : State) (calls : List Call)
    (stop : Option Stop) : Type 0 where
  pub next : Call
  pub rest : List Call
  pub read : read_of (read_calls words) ≡ calls ++ next ∷ rest
  pub full : room < length (answers_words (answers_of m s (calls ++ next ∷ [])))
  pub stops : stop ≡ Some (record { refusal = NoRoom; place = place + length (calls_words calls) })

-- Words that stand at a place of the journal are run to their end, to a word, or to the end of the room.
abbrev pub Which : Meaning → List ℕ → ℕ → ℕ → State → List Call → Option Stop → Type 0
Which m words place room s calls stop =
    AllMade words calls stop ⊎ (MadeToWord words place calls stop ⊎ MadeToRoom m words place room s calls stop)

-- A journal of more than 8,192 words is not read: no call was made, and the stop is 5 at place 0.
pub record NoneMade (words : List ℕ) (calls : List Call) (stop : Option Stop) : Type 0 where
  pub long : 8192 < length words
  pub none : calls ≡ []
  pub stops : stop ≡ Some (record { refusal = OutOfRange; place = 0 })

-- What is written is the words of the answers to the calls that were made, at the front of the answer memory.
pub record Told (m : Meaning) (words : List ℕ) (room : ℕ) (s : State) (r : Ran) (memory : List ℕ) (after : State)
    : Type 0 where
  pub calls : List Call
  pub which : NoneMade words calls r.stop ⊎ Which m words 0 room s calls r.stop
  pub count : r.written ≡ length (answers_words (answers_of m s calls))
  pub written : take r.written memory ≡ answers_words (answers_of m s calls)
  pub state : after ≡ state_after m s calls
