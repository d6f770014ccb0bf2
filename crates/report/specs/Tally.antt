-- How many of the calls were refused.
use Rattle.std.specs.Prelude.{ℕ, Bool, true, false, List, count_by}
use Rattle.calls.specs.declared.call.Answer.{Answer}
use Rattle.calls.specs.declared.call.Answer.TheVariants.{Done, Stated, Refused}
use Rattle.report.specs.declared.entry.Entry.{Entry}

abbrev pub is_refused : Answer → Bool
is_refused (Done n) = false
is_refused (Stated s) = false
is_refused (Refused r) = true

abbrev pub refusals : List Entry → ℕ
refusals = count_by (λ (e : Entry). is_refused e.answer)
