-- A ruling: what the book has to say of a call. The first refusal whose condition holds is the answer, and changes
-- nothing.
use Rattle.std.specs.Prelude.{◌≡◌, ℕ, Bool, cond, List, [], ◌∷◌, Some, None, Ok, Err, Option, Result}
use Rattle.calls.specs.declared.call.Answer.{Answer}
use Rattle.calls.specs.declared.call.Answer.TheVariants.{Done, Stated, Refused}
use Rattle.calls.specs.declared.call.StatedTerm.{StatedTerm}
use Rattle.calls.specs.declared.refusal.Refusal.{Refusal}
use Rattle.book.specs.State.{State}

-- A done call replies with a figure, or with a term's statement: never with a refusal.
pub data Reply : Type 0 where
  figure : ℕ → Reply
  statement : StatedTerm → Reply

abbrev pub said : Reply → Answer
said (figure n) = Done n
said (statement t) = Stated t

-- The refusals of a call in their order, each with its condition; what it replies where none holds, and the state
-- after.
pub record Ruling : Type 0 where
  pub refusals : List (Bool × Refusal)
  pub reply : Reply
  pub after : State

-- The first refusal whose condition holds.
abbrev pub first_of : List (Bool × Refusal) → Option Refusal
first_of [] = None
first_of (r ∷ rs) = cond r.0 (Some r.1) (first_of rs)

-- What a call answers, and the state after it.
pub record Outcome : Type 0 where
  pub answer : Answer
  pub after : State

abbrev pub refused : State → Refusal → Outcome
refused s r = record { answer = Refused r; after = s }

abbrev pub decided : State → Ruling → Option Refusal → Outcome
decided s r (Some refusal) = refused s refusal
decided s r None = record { answer = said r.reply; after = r.after }

abbrev pub outcome : State → Ruling → Outcome
outcome s r = decided s r (first_of r.refusals)

-- An answer and a state are those of the book.
pub record Meets (o : Outcome) (a : Answer) (s : State) : Type 0 where
  pub answers : a ≡ o.answer
  pub leaves : s ≡ o.after

-- A call's result is what the ruling says: done with its reply, and the state is the one after; or refused by the first
-- refusal that holds, and the state is as it was.
pub record DoneBy (r : Ruling) (p : Reply) (after : State) : Type 0 where
  pub passed : first_of r.refusals ≡ None
  pub replied : p ≡ r.reply
  pub leaves : after ≡ r.after

pub record RefusedBy (s : State) (r : Ruling) (e : Refusal) (after : State) : Type 0 where
  pub first : first_of r.refusals ≡ Some e
  pub keeps : after ≡ s

abbrev pub Ruled : {T : Type 0} → (T → Reply) → State → Ruling → Result T Refusal → State → Type 0
Ruled reply s r (Ok x) after = DoneBy r (reply x) after
Ruled reply s r (Err e) after = RefusedBy s r e after

-- A plan: what the writing needs, where no refusal holds; or the first refusal that does.
abbrev pub Planned : {P : Type 0} → List (Bool × Refusal) → (P → Type 0) → Result P Refusal → Type 0
Planned rs Q (Ok p) = (first_of rs ≡ None) × Q p
Planned rs Q (Err e) = first_of rs ≡ Some e
