-- Reading the words of a journal, call after call.
use Rattle.std.specs.Prelude.{◌≡◌, ℕ, ◌+◌, true, List, [], ◌∷◌, ◌++◌, length, drop, Ok, Err, Result}
use Rattle.calls.specs.declared.call.Call.{Call}
use Rattle.words.specs.Lists.{calls_words, all_fit}
use Rattle.words.specs.Reading.{read_call}

-- What was read, call by call or answer by answer, to the end of the words or to a stop at a place.
pub data Reading (X : Type 0) : Type 0 where
  whole : List X → Reading X
  halted : List X → ℕ → Reading X

abbrev pub add : {X : Type 0} → X → ℕ → Reading X → Reading X
add x used (whole xs) = whole (x ∷ xs)
add x used (halted xs at) = halted (x ∷ xs) (used + at)

abbrev pub next : {X : Type 0} → Result (X × ℕ) ℕ → (ℕ → Reading X) → Reading X
next (Ok p) rest = add p.0 p.1 (rest p.1)
next (Err at) rest = halted [] at

abbrev pub ended : {X : Type 0} → List ℕ → Reading X
ended [] = whole []
ended (w ∷ ws) = halted [] 0

-- A call has a word at least, so a list as long as the words has enough for every call.
abbrev pub read_by : List ℕ → List ℕ → Reading Call
read_by [] ws = ended ws
read_by (f ∷ fuel) [] = whole []
read_by (f ∷ fuel) (w ∷ ws) = next (read_call (w ∷ ws)) (λ used. read_by fuel (drop used (w ∷ ws)))

abbrev pub read_calls : List ℕ → Reading Call
read_calls ws = read_by ws ws

-- A stop: the words are those of the calls read before it and then words that are no call; the stop stands in these.
pub record Halt (ws : List ℕ) (cs : List Call) (at : ℕ) : Type 0 where
  pub rest : List ℕ
  pub off : ℕ
  pub words : ws ≡ calls_words cs ++ rest
  pub stop : read_call rest ≡ Err off
  pub here : at ≡ length (calls_words cs) + off
  pub fits : all_fit cs ≡ true
