-- What is written of a fault.
use Rattle.std.specs.Prelude.{ℕ, List, codes}
use Rattle.amounts.specs.declared.row.Fault.{Fault}
use Rattle.amounts.specs.declared.row.Fault.TheVariants.{NoPlace, PastLimit}

abbrev pub fault_text : {limit : ℕ} → Fault limit → List ℕ
fault_text NoPlace = codes "the table has no such place"
fault_text PastLimit = codes "a number would pass its limit"
