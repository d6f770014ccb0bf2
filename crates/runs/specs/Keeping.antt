-- A refused call changes nothing.
use Rattle.std.specs.Prelude.{◌≡◌}
use Rattle.calls.specs.declared.call.Answer.{Answer}
use Rattle.calls.specs.declared.call.Answer.TheVariants.{Refused}
use Rattle.calls.specs.declared.refusal.Refusal.{Refusal}
use Rattle.book.specs.Rulings.{Ruling, outcome}
use Rattle.book.specs.State.{State}

-- A refused call leaves day, allowances and accounts as before.
abbrev pub Keeps : State → Answer → State → Type 0
Keeps before answer after = (r : Refusal) → answer ≡ Refused r → after ≡ before

-- So does every ruling, whatever its call.
abbrev pub RulingsKeep : Type 0
RulingsKeep = (s : State) (r : Ruling) → Keeps s (outcome s r).answer (outcome s r).after
