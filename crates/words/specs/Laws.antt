-- What holds of every call and of all words.
use Rattle.std.specs.Prelude.{◌≡◌, ℕ, true, List, ◌++◌, length, Ok}
use Rattle.calls.specs.declared.call.Call.{Call}
use Rattle.words.specs.Journal.{whole, halted, read_calls, Halt}
use Rattle.words.specs.Lists.{calls_words, all_fit}
use Rattle.words.specs.Reading.{read_call}
use Rattle.words.specs.Shapes.{figures_of}
use Rattle.words.specs.Writing.{call_words, fit}

-- A call whose figures fit, written and read back, is the same call, whatever words follow, and those are left unread.
abbrev pub CallReturns : Type 0
CallReturns = (c : Call) (ws : List ℕ) → fit (figures_of c) ≡ true
    → read_call (call_words c ++ ws) ≡ Ok (c, length (call_words c))

-- A list of such calls, written and read back, is the same list.
abbrev pub CallsReturn : Type 0
CallsReturn = (cs : List Call) → all_fit cs ≡ true → read_calls (calls_words cs) ≡ whole cs

-- Words that are read to the end as calls are the writing of these calls, which all fit.
abbrev pub WordsReturn : Type 0
WordsReturn = (ws : List ℕ) (cs : List Call) → read_calls ws ≡ whole cs → (calls_words cs ≡ ws) × (all_fit cs ≡ true)

-- Where reading stops, the words before the stop's call are exactly the writing of the calls read.
abbrev pub StopsAreExact : Type 0
StopsAreExact = (ws : List ℕ) (cs : List Call) (at : ℕ) → read_calls ws ≡ halted cs at → Halt ws cs at
