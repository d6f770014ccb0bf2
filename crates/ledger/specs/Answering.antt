-- A call's result as its answer.
use Rattle.std.specs.Prelude.{Ok, Err, Result}
use Rattle.calls.specs.declared.call.Answer.{Answer}
use Rattle.calls.specs.declared.call.Answer.TheVariants.{Refused}
use Rattle.calls.specs.declared.refusal.Refusal.{Refusal}

abbrev pub given : Result Answer Refusal → Answer
given (Ok answer) = answer
given (Err e) = Refused e
