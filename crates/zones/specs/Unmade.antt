-- What is written of a zone or a ledger that was not made.
use Rattle.std.specs.Prelude.{ℕ, List, codes}
use Rattle.calls.specs.Refusals.{refusal_text}
use Rattle.zones.specs.declared.not_made.NotMade.{NotMade}
use Rattle.zones.specs.declared.not_made.NotMade.TheVariants.{Refused, NoMemory}

abbrev pub not_made_text : NotMade → List ℕ
not_made_text (Refused r) = refusal_text r
not_made_text NoMemory = codes "no memory for the ledger"
