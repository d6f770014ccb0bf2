-- The state of the plain book. It never sees a table of the code.
use Rattle.std.specs.Prelude.{ℕ, List, []}
use Rattle.book.specs.Accounts.{Account}
use Rattle.book.specs.Allowances.{Allowances}

-- The day, the suspension allowances of the three points, and the accounts in the order of their terms' numbers.
pub record State : Type 0 where
  pub day : ℕ
  pub allowances : Allowances
  pub accounts : List Account

abbrev pub state : ℕ → Allowances → List Account → State
state day allowances accounts = record { day = day; allowances = allowances; accounts = accounts }

-- A new book stands at day 1 and has no accounts.
abbrev pub new_book : Allowances → State
new_book allowances = state 1 allowances []

-- the state with other accounts
abbrev pub with_accounts : State → List Account → State
with_accounts s accounts = state s.day s.allowances accounts
