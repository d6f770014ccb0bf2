-- The limits that a balance and the charge lines are held to.
use Rattle.std.specs.Prelude.{Bool, List, [], ◌∷◌, ℤ, ◌+ℤ◌}
use Rattle.amounts.specs.Limits.{gas_limit, charge_limit}
use Rattle.amounts.specs.Rows.{within, sums}
use Rattle.book.specs.Accounts.{Account}

-- Gas added to a term's balance keeps the limit of gas.
abbrev pub may_bank : Account → ℤ → Bool
may_bank a gas = within gas_limit ((a.balance +ℤ gas) ∷ [])

-- Charges added to a term's lines keep the limit of charges.
abbrev pub may_charge : Account → List ℤ → Bool
may_charge a charges = within charge_limit (sums a.lines charges)
