-- Writing lists of calls.
use Rattle.std.specs.Prelude.{◌≡◌, ℕ, ◌+◌, ◌<◌, Bool, true, false, cond, ◌&&◌, List, [], ◌∷◌, ◌++◌, length, take, codes}
use Rattle.std.specs.Prelude.{is_ok, IfOk, IfErr, Some, None, Ok, Err, vec_items, Option, Result, Vec, nat_le}
use Rattle.std.specs.declared.alloc.Global.{Global}
use Rattle.calls.specs.declared.call.Call.{Call}
use Rattle.calls.specs.declared.refusal.Refusal.{Refusal}
use Rattle.calls.specs.declared.refusal.Refusal.TheVariants as refusal
use Rattle.words.specs.Shapes.{figures_of}
use Rattle.words.specs.Writing.{call_words, fit}
use Rattle.words.specs.declared.fault.Unwritten.{Unwritten}
use Rattle.words.specs.declared.fault.Unwritten.TheVariants.{OutOfRange, NoMemory}

-- The calls' words, one call after the other.
abbrev pub calls_words : List Call → List ℕ
calls_words [] = []
calls_words (c ∷ cs) = call_words c ++ calls_words cs

-- Every figure of every call fits 28 bits.
abbrev pub all_fit : List Call → Bool
all_fit [] = true
all_fit (c ∷ cs) = fit (figures_of c) && all_fit cs

-- Calls can be written whose figures all fit, and whose words are no more than 8,192.
abbrev pub writable : List Call → Bool
writable cs = all_fit cs && nat_le (length (calls_words cs)) 8192

-- Out of range says that the test failed, and want of memory that it did not.
abbrev pub Says : Bool → Unwritten → Type 0
Says test OutOfRange = test ≡ false
Says test NoMemory = test ≡ true

-- A call is written whole behind what was there, or not at all.
pub record Put {T : Type 0} (c : Call) (before : List ℕ) (r : Result T Unwritten) (after : List ℕ) : Type 0 where
  pub words : after ≡ cond (is_ok r) (before ++ call_words c) before
  pub fits : IfOk r (λ _. fit (figures_of c) ≡ true)
  pub fault : IfErr r (Says (fit (figures_of c)))

-- Memory was wanting at a call whose figures fit, behind calls that can be written.
pub record Wanting (cs : List Call) : Type 0 where
  pub before : ℕ
  pub more : before < length cs
  pub written : writable (take before cs) ≡ true
  pub fits : all_fit (take (before + 1) cs) ≡ true

-- Why calls were not written.
abbrev pub UnwrittenAll : List Call → Unwritten → Type 0
UnwrittenAll cs OutOfRange = writable cs ≡ false
UnwrittenAll cs NoMemory = Wanting cs

-- The words of all the calls, where they can be written.
abbrev pub WrittenAll : List Call → Result (Vec ℕ Global) Unwritten → Type 0
WrittenAll cs (Ok v) = (vec_items v ≡ calls_words cs) × (writable cs ≡ true)
WrittenAll cs (Err e) = UnwrittenAll cs e

-- The refusal that it stands for: 5 where a figure or the number of words is out of range.
abbrev pub unwritten_refusal : Unwritten → Option Refusal
unwritten_refusal OutOfRange = Some refusal.OutOfRange
unwritten_refusal NoMemory = None

-- What is written of calls that were not.
abbrev pub unwritten_text : Unwritten → List ℕ
unwritten_text OutOfRange = codes "a figure or the number of words is out of range"
unwritten_text NoMemory = codes "out of memory"
