-- The accounts of the book, read off the three tables beside one another.
use Rattle.std.specs.Prelude.{List, [], ◌∷◌, ℤ, pos, slice_index_or}
use Rattle.book.specs.Accounts.{Account}
use Rattle.tables.specs.declared.term.Term.{Term}

-- An account: the term with its row of gas and its row of charges.
abbrev pub account_of : Term → List ℤ → List ℤ → Account
account_of t gas lines =
    record { contract = t.contract; next = t.next; balance = slice_index_or gas 0 (pos 0); lines = lines }

abbrev pub accounts_of : List Term → List (List ℤ) → List (List ℤ) → List Account
accounts_of [] gs ls = []
accounts_of (t ∷ ts) [] ls = []
accounts_of (t ∷ ts) (g ∷ gs) [] = []
accounts_of (t ∷ ts) (g ∷ gs) (l ∷ ls) = account_of t g l ∷ accounts_of ts gs ls
