-- The book's state, read off the tables.
use Rattle.std.specs.Prelude.{◌≡◌, ℕ, ◌+◌, ◌<◌, false, List, [], ℤ, vec_items, vec_len, slice_index_or}
use Rattle.amounts.specs.Limits.{gas_limit, charge_limit}
use Rattle.amounts.specs.Tables.{rows_of}
use Rattle.book.specs.Accounts.{Account, missing, account_at}
use Rattle.book.specs.State.{State, state}
use Rattle.tables.specs.Rows.{account_of, accounts_of}
use Rattle.tables.specs.declared.holding.Holding.{Holding}
use Rattle.tables.specs.declared.tables.Tables.{Tables}

abbrev pub gas_rows : Tables → List (List ℤ)
gas_rows t = rows_of 1 gas_limit (vec_items t.gas)

abbrev pub line_rows : Tables → List (List ℤ)
line_rows t = rows_of 5 charge_limit (vec_items t.lines)

abbrev pub view_accounts : Tables → List Account
view_accounts t = accounts_of (vec_items t.terms) (gas_rows t) (line_rows t)

abbrev pub view : Tables → State
view t = state t.day t.allowances (view_accounts t)

-- A term of this number is there, and the holding is its place and its row.
pub record Found (t : Tables) (n : ℕ) (h : Holding) : Type 0 where
  pub number : h.at + 1 ≡ n
  pub inside : h.at < vec_len t.terms
  pub row : h.term ≡ slice_index_or (vec_items t.terms) h.at h.term
  pub there : missing (view_accounts t) n ≡ false
  pub read : account_at (view_accounts t) n
      ≡ account_of h.term (slice_index_or (gas_rows t) h.at []) (slice_index_or (line_rows t) h.at [])
