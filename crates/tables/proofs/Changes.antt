-- One table written alone is a change of the book's account at that place; changes of one account are one.
use Rattle.std.proofs.Common.{◌≡◌, ℕ, zero, suc, ◌<◌, List, [], ◌∷◌, length, get_or, set, ℤ, pos, ◌+ℤ◌}
use Rattle.std.proofs.Common.{sym, refl, ap, ◌∙◌, le_of_suc-le-suc, not-suc-le-zero, arith}
use Rattle.amounts.specs.Rows.{sums}
use Rattle.amounts.specs.Tables.{rows_of, grown}
use Rattle.amounts.specs.declared.row.Row.{Row}
use Rattle.book.specs.Accounts.{Account, change, banked, charged}
use Rattle.tables.specs.Rows.{account_of, accounts_of}
use Rattle.tables.specs.declared.term.Term.{Term}

-- a row of one number is its number
one_figure : (xs : List ℤ) → length xs ≡ 1 → get_or xs 0 (pos 0) ∷ [] ≡ xs
one_figure [] e = absurd (omega (arith, e))
one_figure (x ∷ []) e = refl
one_figure (x ∷ (y ∷ xs)) e = absurd (omega (arith, e))

pub row_long : (n limit : ℕ) (table : List (Row n limit)) (i : ℕ) → i < length table
    → length (get_or (rows_of n limit table) i []) ≡ n
row_long n limit [] i h = absurd (not-suc-le-zero h)
row_long n limit (r ∷ rs) zero h = r.long
row_long n limit (r ∷ rs) (suc i) h = row_long n limit rs i (le_of_suc-le-suc h)

-- a row of gas with more added is its balance with more added
pub gas_grown : (gs : List (List ℤ)) (i : ℕ) (d : ℤ) → length (get_or gs i []) ≡ 1
    → grown gs i (d ∷ []) ≡ (get_or (get_or gs i []) 0 (pos 0) +ℤ d) ∷ []
gas_grown gs i d h = ap (λ xs. sums xs (d ∷ [])) (sym (one_figure (get_or gs i []) h))

pub bank_set : (ts : List Term) (gs ls : List (List ℤ)) (i : ℕ) (d : ℤ) → length (get_or gs i []) ≡ 1
    → accounts_of ts (set gs i (grown gs i (d ∷ []))) ls ≡ change (accounts_of ts gs ls) (suc i) (banked d)
bank_set [] gs ls i d h = refl
bank_set (t ∷ ts) [] ls i d h = absurd (omega (arith, h))
bank_set (t ∷ ts) (g ∷ gs) [] zero d h = refl
bank_set (t ∷ ts) (g ∷ gs) [] (suc i) d h = refl
bank_set (t ∷ ts) (g ∷ gs) (l ∷ ls) zero d h =
    ap (λ x. account_of t x l ∷ accounts_of ts gs ls) (gas_grown (g ∷ gs) 0 d h)
bank_set (t ∷ ts) (g ∷ gs) (l ∷ ls) (suc i) d h = ap (λ es. account_of t g l ∷ es) (bank_set ts gs ls i d h)

pub charge_set : (ts : List Term) (gs ls : List (List ℤ)) (i : ℕ) (d : List ℤ)
    → accounts_of ts gs (set ls i (grown ls i d)) ≡ change (accounts_of ts gs ls) (suc i) (charged d)
charge_set [] gs ls i d = refl
charge_set (t ∷ ts) [] ls i d = refl
charge_set (t ∷ ts) (g ∷ gs) [] i d = refl
charge_set (t ∷ ts) (g ∷ gs) (l ∷ ls) zero d = refl
charge_set (t ∷ ts) (g ∷ gs) (l ∷ ls) (suc i) d = ap (λ es. account_of t g l ∷ es) (charge_set ts gs ls i d)

pub term_set : (f : Account → Account) (c u : Term) (ts : List Term) (gs ls : List (List ℤ)) (i : ℕ)
    → c ≡ get_or ts i c → ((g l : List ℤ) → account_of u g l ≡ f (account_of c g l))
    → accounts_of (set ts i u) gs ls ≡ change (accounts_of ts gs ls) (suc i) f
term_set f c u [] gs ls i e k = refl
term_set f c u (t ∷ ts) [] ls zero e k = refl
term_set f c u (t ∷ ts) [] ls (suc i) e k = refl
term_set f c u (t ∷ ts) (g ∷ gs) [] zero e k = refl
term_set f c u (t ∷ ts) (g ∷ gs) [] (suc i) e k = refl
term_set f c u (t ∷ ts) (g ∷ gs) (l ∷ ls) zero e k =
    ap (λ a. a ∷ accounts_of ts gs ls) (k g l ∙ ap (λ x. f (account_of x g l)) e)
term_set f c u (t ∷ ts) (g ∷ gs) (l ∷ ls) (suc i) e k =
    ap (λ es. account_of t g l ∷ es) (term_set f c u ts gs ls i e k)

pub change_twice : (f g : Account → Account) (es : List Account) (n : ℕ)
    → change (change es n f) n g ≡ change es n (λ a. g (f a))
change_twice f g es zero = refl
change_twice f g [] (suc i) = refl
change_twice f g (e ∷ es) (suc zero) = refl
change_twice f g (e ∷ es) (suc (suc i)) = ap (λ x. e ∷ x) (change_twice f g es (suc i))
