-- A refused call changes nothing, whatever it was and whoever refused it.
use Rattle.std.proofs.Common.{◌≡◌, Some, None, Option, sym, refl, ◌∙◌}
use Rattle.calls.specs.declared.call.Answer.{Answer}
use Rattle.calls.specs.declared.call.Answer.TheVariants.{Refused}
use Rattle.calls.specs.declared.refusal.Refusal.{Refusal}
use Rattle.book.specs.Rulings.{Ruling, Reply, figure, statement, said, Meets, first_of, decided, outcome}
use Rattle.book.specs.State.{State}
use Rattle.runs.specs.Keeping.{RulingsKeep, Keeps}

-- a reply is no refusal
said_never : (p : Reply) (e : Refusal) → said p ≡ Refused e → ⊥
said_never (figure n) e k = cc
said_never (statement t) e k = cc

decided_keeps : (s : State) (r : Ruling) (o : Option Refusal) → Keeps s (decided s r o).answer (decided s r o).after
decided_keeps s r (Some e) = λ x k. refl
decided_keeps s r None = λ x k. absurd (said_never r.reply x k)

pub rulings_keep : RulingsKeep
rulings_keep s r = decided_keeps s r (first_of r.refusals)

-- what meets a ruling's outcome keeps the state where it is refused
pub meets_keeps : (s t : State) (r : Ruling) (a : Answer) → Meets (outcome s r) a t → Keeps s a t
meets_keeps s t r a met e k = met.leaves ∙ rulings_keep s r e (sym met.answers ∙ k)
