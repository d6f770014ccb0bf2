-- The accounts of the book: a term's contract with what is posted, banked and owed on it; finding and changing one.
use Rattle.std.specs.Prelude.{ℕ, zero, suc, ◌+◌, Bool, cond, ◌||◌, List, length, replicate, ℤ, pos, ◌+ℤ◌}
use Rattle.std.specs.Prelude.{◌==◌, nat_le, nat_lt, slice_index_or, slice_set}
use Rattle.amounts.specs.Rows.{sums}
use Rattle.prices.specs.declared.point.Point.TheVariants.{Western}
use Rattle.calls.specs.declared.status.Status.{Status}
use Rattle.calls.specs.declared.status.Status.TheVariants.{Waiting, Active, Expired}
use Rattle.book.specs.declared.contract.Contract.{Contract}

-- An account: the contract as it was opened, the next day that is to be posted, the balance (delivered less consumed)
-- and the five charge lines.
pub record Account : Type 0 where
  pub contract : Contract
  pub next : ℕ
  pub balance : ℤ
  pub lines : List ℤ

-- The five charge lines with nothing owed on them.
abbrev pub no_charge : List ℤ
no_charge = replicate 5 (pos 0)

-- An account as it is opened: nothing is posted, banked or owed.
abbrev pub opened : Contract → Account
opened c = record { contract = c; next = c.first; balance = pos 0; lines = no_charge }

-- what is read where there is no such term
abbrev pub no_contract : Contract
no_contract = record { pool = 0; point = Western; mdv = 0; first = 0; last = 0 }

abbrev pub no_account : Account
no_account = opened no_contract

-- There is no term of this number; numbers go from 1.
abbrev pub missing : List Account → ℕ → Bool
missing accounts n = n == 0 || nat_lt (length accounts) n

abbrev pub account_at : List Account → ℕ → Account
account_at accounts zero = no_account
account_at accounts (suc i) = slice_index_or accounts i no_account

-- The accounts with one of them changed.
abbrev pub change : List Account → ℕ → (Account → Account) → List Account
change accounts zero f = accounts
change accounts (suc i) f = slice_set accounts i (f (slice_index_or accounts i no_account))

-- What calls make of an account: a day more is posted, gas is added, charges are added.
abbrev pub day_posted : Account → Account
day_posted a = record { contract = a.contract; next = a.next + 1; balance = a.balance; lines = a.lines }

abbrev pub banked : ℤ → Account → Account
banked gas a = record { contract = a.contract; next = a.next; balance = a.balance +ℤ gas; lines = a.lines }

abbrev pub charged : List ℤ → Account → Account
charged charges a =
    record { contract = a.contract; next = a.next; balance = a.balance; lines = sums a.lines charges }

-- Waiting before the first day, active through the last, expired after.
abbrev pub dated : ℕ → Contract → Status
dated day c = cond (nat_lt day c.first) Waiting (cond (nat_le day c.last) Active Expired)
