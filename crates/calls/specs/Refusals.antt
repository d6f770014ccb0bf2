-- The refusals' numbers and values.
use Rattle.std.specs.Prelude.{ℕ, cond, List, [], ◌∷◌, ◌++◌, codes, decimal, Some, None, Option, ◌==◌}
use Rattle.std.specs.Option.{option_map_or}
use Rattle.amounts.specs.Limits.{gas_limit, charge_limit}
use Rattle.amounts.specs.declared.row.Fault.{Fault}
use Rattle.amounts.specs.declared.row.Fault.TheVariants.{NoPlace, PastLimit}
use Rattle.prices.specs.declared.source.Lack.{Lack}
use Rattle.calls.specs.declared.refusal.Refusal.{Refusal}
use Rattle.calls.specs.declared.refusal.Refusal.TheVariants.{BadWord, LastDay, NoTerm, WrongStatus}
use Rattle.calls.specs.declared.refusal.Refusal.TheVariants.{OutOfRange, Full, Overlap, Untimely}
use Rattle.calls.specs.declared.refusal.Refusal.TheVariants.{GasLimit, ChargeLimit, Lacking, NoRoom}

abbrev pub number_of : Refusal → ℕ
number_of BadWord = 1
number_of LastDay = 2
number_of NoTerm = 3
number_of WrongStatus = 4
number_of OutOfRange = 5
number_of Full = 6
number_of Overlap = 7
number_of Untimely = 8
number_of GasLimit = 9
number_of ChargeLimit = 10
number_of (Lacking l) = 11
number_of NoRoom = 19

-- Each refusal's sentence. A cubic metre is written as m³, whose 3 has two bytes.
abbrev pub sentence_of : Refusal → List ℕ
sentence_of BadWord = codes "a word is of the wrong kind, unknown or missing"
sentence_of LastDay = codes "the ledger stands at its last day"
sentence_of NoTerm = codes "there is no such term"
sentence_of WrongStatus = codes "the term's status does not allow it"
sentence_of OutOfRange = codes "a figure is out of its range"
sentence_of Full = codes "the table is full"
sentence_of Overlap = codes "a term of the pool shares a day with it"
sentence_of Untimely = codes "the day does not allow it yet"
sentence_of GasLimit = codes "the balance would pass 200,000,000 m" ++ 194 ∷ 179 ∷ []
sentence_of ChargeLimit = codes "a charge line would pass 100,000,000 dollars"
sentence_of (Lacking l) = codes "a price is lacking"
sentence_of NoRoom = codes "its answers do not fit the answer memory"

-- A refusal is written as its number and its sentence.
abbrev pub refusal_text : Refusal → List ℕ
refusal_text r = decimal (number_of r) ++ (codes ": " ++ sentence_of r)

-- the lack of a price, where that is why
abbrev pub lack_of : Refusal → Option Lack
lack_of (Lacking l) = Some l
lack_of _ = None

-- the day that a price is lacking for, and 0 at any other refusal
abbrev pub lacking_day : Refusal → ℕ
lacking_day r = option_map_or (λ (l : Lack). l.day) (lack_of r) 0

-- The refusal of a number; the day is of use to a lacking price alone.
abbrev pub refusal_at : ℕ → ℕ → Option Refusal
refusal_at n day =
    cond (n == 1) (Some BadWord)
    (cond (n == 2) (Some LastDay)
    (cond (n == 3) (Some NoTerm)
    (cond (n == 4) (Some WrongStatus)
    (cond (n == 5) (Some OutOfRange)
    (cond (n == 6) (Some Full)
    (cond (n == 7) (Some Overlap)
    (cond (n == 8) (Some Untimely)
    (cond (n == 9) (Some GasLimit)
    (cond (n == 10) (Some ChargeLimit)
    (cond (n == 11) (Some (Lacking (record { day = day })))
    (cond (n == 19) (Some NoRoom) None)))))))))))

-- A refused addition becomes 9 for gas and 10 for charges.
abbrev pub gas_refusal : Fault gas_limit → Refusal
gas_refusal NoPlace = NoTerm
gas_refusal PastLimit = GasLimit

abbrev pub charge_refusal : Fault charge_limit → Refusal
charge_refusal NoPlace = NoTerm
charge_refusal PastLimit = ChargeLimit
