-- The book's accounts over the three tables beside one another: their number, one of them, one written, one more.
use Rattle.std.proofs.Common.{◌≡◌, ℕ, zero, suc, ◌+◌, ◌<◌, ◌≤◌, Bool, false, ◌||◌, eqb, ltb, List}
use Rattle.std.proofs.Common.{[], ◌∷◌, ◌++◌, length, get_or, ℤ, vec_items, vec_len, sym}
use Rattle.std.proofs.Common.{refl, ap, ◌∙◌, le_of_suc-le-suc, not-suc-le-zero, arith}
use native.Mathlib.Nat.{suc_inj}
use Rattle.std.specs.List.{list_any}
use Rattle.std.proofs.lemmas.List.{length-map, map_push}
use Rattle.std.proofs.lemmas.Bool.Decides.{nat_tests}
use Rattle.std.proofs.lemmas.Bool.{or_parts, eqb-false, ltb-false}
use Rattle.amounts.specs.Limits.{gas_limit, charge_limit}
use Rattle.amounts.specs.Tables.{rows_of}
use Rattle.amounts.specs.declared.row.Row.{Row}
use Rattle.book.specs.Accounts.{Account, no_account, missing, account_at}
use Rattle.tables.specs.Rows.{account_of, accounts_of}
use Rattle.tables.specs.View.{gas_rows, line_rows, view_accounts}
use Rattle.tables.specs.declared.tables.Tables.{Tables}
use Rattle.tables.specs.declared.term.Term.{Term}

-- Three lists beside one another, as many terms as rows.
pub record Beside (ts : List Term) (gs ls : List (List ℤ)) : Type 0 where
  pub gas : length gs ≡ length ts
  pub lines : length ls ≡ length ts

-- what holds of empty tables, and stays true with one row more in each, holds of tables beside one another
beside_ind : (P : List Term → List (List ℤ) → List (List ℤ) → Type 0) → P [] [] []
    → ((t : Term) (g l : List ℤ) (ts : List Term) (gs ls : List (List ℤ)) → P ts gs ls
    → P (t ∷ ts) (g ∷ gs) (l ∷ ls))
    → (ts : List Term) (gs ls : List (List ℤ)) → Beside ts gs ls → P ts gs ls
beside_ind P none more [] [] [] b = none
beside_ind P none more [] [] (y ∷ ls) b = absurd (omega (arith, b.lines))
beside_ind P none more [] (x ∷ gs) ls b = absurd (omega (arith, b.gas))
beside_ind P none more (t ∷ ts) [] ls b = absurd (omega (arith, b.gas))
beside_ind P none more (t ∷ ts) (g ∷ gs) [] b = absurd (omega (arith, b.lines))
beside_ind P none more (t ∷ ts) (g ∷ gs) (l ∷ ls) b =
    more t g l ts gs ls (beside_ind P none more ts gs ls (record { gas = suc_inj b.gas; lines = suc_inj b.lines }))

module _ (ts : List Term) (gs ls : List (List ℤ)) (b : Beside ts gs ls) where
  length_accounts : length (accounts_of ts gs ls) ≡ length ts
  length_accounts = beside_ind (λ ts gs ls. length (accounts_of ts gs ls) ≡ length ts) refl
      (λ t g l ts gs ls same. ap suc same) ts gs ls b

  -- a test that looks at the contract alone
  accounts_any : (p : Account → Bool) (q : Term → Bool) → ((t : Term) (g l : List ℤ) → p (account_of t g l) ≡ q t)
      → list_any p (accounts_of ts gs ls) ≡ list_any q ts
  accounts_any p q k =
      beside_ind (λ ts gs ls. list_any p (accounts_of ts gs ls) ≡ list_any q ts) refl
      (λ t g l ts gs ls same. ap (λ x. x || list_any p (accounts_of ts gs ls)) (k t g l)
      ∙ ap (λ x. q t || x) same) ts gs ls b

  pub accounts_at : (i : ℕ) (d : Account) (t : Term) → i < length ts
      → get_or (accounts_of ts gs ls) i d ≡ account_of (get_or ts i t) (get_or gs i []) (get_or ls i [])
  accounts_at i d t h =
      beside_ind (λ ts gs ls. (i : ℕ) → i < length ts
      → get_or (accounts_of ts gs ls) i d ≡ account_of (get_or ts i t) (get_or gs i []) (get_or ls i []))
      (λ i h. absurd (omega arith))
      (λ c x y ts gs ls same i. elim i as (λ i. i < length (c ∷ ts)
      → get_or (accounts_of (c ∷ ts) (x ∷ gs) (y ∷ ls)) i d
      ≡ account_of (get_or (c ∷ ts) i t) (get_or (x ∷ gs) i []) (get_or (y ∷ ls) i []))
      [ zero ↦ λ h. refl | suc i ↦ λ h. same i (omega arith) ]) ts gs ls b i h

  pub accounts_push : (t : Term) (g l : List ℤ)
      → accounts_of (ts ++ t ∷ []) (gs ++ g ∷ []) (ls ++ l ∷ []) ≡ accounts_of ts gs ls ++ account_of t g l ∷ []
  accounts_push t g l =
      beside_ind (λ ts gs ls.
      accounts_of (ts ++ t ∷ []) (gs ++ g ∷ []) (ls ++ l ∷ []) ≡ accounts_of ts gs ls ++ account_of t g l ∷ [])
      refl (λ c x y ts gs ls same. ap (λ es. account_of c x y ∷ es) same) ts gs ls b

-- of the tables

pub beside : (t : Tables) → Beside (vec_items t.terms) (gas_rows t) (line_rows t)
beside t = record {
  gas = simp length-map (omega (arith, t.gas.ok.0, t.terms.ok.0, t.gas_beside));
  lines = simp length-map (omega (arith, t.lines.ok.0, t.terms.ok.0, t.lines_beside));
}

pub term_count : (t : Tables) → length (view_accounts t) ≡ vec_len t.terms
term_count t = length_accounts _ _ _ (beside t) ∙ sym t.terms.ok.0

pub view_any : (t : Tables) (p : Account → Bool) (q : Term → Bool)
    → ((t : Term) (g l : List ℤ) → p (account_of t g l) ≡ q t)
    → list_any p (view_accounts t) ≡ list_any q (vec_items t.terms)
view_any t = accounts_any _ _ _ (beside t)

-- what the tables tell of the book's accounts, for `grind`
pub ruleset told = (nat_tests, term_count)

-- one row more in each table
pub view_push : (t : Tables) (ts : List Term) (gs : List (Row 1 gas_limit)) (ls : List (Row 5 charge_limit)) (c : Term)
    (g : Row 1 gas_limit) (l : Row 5 charge_limit) → ts ≡ vec_items t.terms ++ c ∷ []
    → gs ≡ vec_items t.gas ++ g ∷ [] → ls ≡ vec_items t.lines ++ l ∷ []
    → accounts_of ts (rows_of 1 gas_limit gs) (rows_of 5 charge_limit ls)
    ≡ view_accounts t ++ account_of c g.figures l.figures ∷ []
view_push t ts gs ls c g l x y z =
    rw (x, y, z) (rw (
      map_push (λ (r : Row 1 gas_limit). r.figures) (vec_items t.gas) g,
      map_push (λ (r : Row 5 charge_limit). r.figures) (vec_items t.lines) l,
    )
    (accounts_push _ _ _ (beside t) c g.figures l.figures))

-- a term's number is its place and one more
pub read_at : (t : Tables) (n i : ℕ) (c : Term) → i + 1 ≡ n → i < vec_len t.terms
    → c ≡ get_or (vec_items t.terms) i c
    → account_at (view_accounts t) n ≡ account_of c (get_or (gas_rows t) i []) (get_or (line_rows t) i [])
read_at t n i c e h r =
    let k : suc i ≡ n = omega arith in
    ap (account_at (view_accounts t)) (sym k)
    ∙ accounts_at _ _ _ (beside t) i no_account c (omega (arith, t.terms.ok.0))
    ∙ ap (λ x. account_of x (get_or (gas_rows t) i []) (get_or (line_rows t) i [])) (sym r)

-- what holds of every term with its two rows holds of every account
entries_all : (P : Account → Type 0)
    → ((c : Term) (g : Row 1 gas_limit) (l : Row 5 charge_limit) → P (account_of c g.figures l.figures))
    → (ts : List Term) (gs : List (Row 1 gas_limit)) (ls : List (Row 5 charge_limit)) (i : ℕ) (d : Account)
    → i < length ts → length gs ≡ length ts → length ls ≡ length ts
    → P (get_or (accounts_of ts (rows_of 1 gas_limit gs) (rows_of 5 charge_limit ls)) i d)
entries_all P p [] gs ls i d h g l = absurd (not-suc-le-zero h)
entries_all P p (c ∷ ts) [] ls i d h g l = absurd (omega (arith, g))
entries_all P p (c ∷ ts) (x ∷ gs) [] i d h g l = absurd (omega (arith, l))
entries_all P p (c ∷ ts) (x ∷ gs) (y ∷ ls) zero d h g l = p c x y
entries_all P p (c ∷ ts) (x ∷ gs) (y ∷ ls) (suc i) d h g l =
    entries_all P p ts gs ls i d (le_of_suc-le-suc h) (suc_inj g) (suc_inj l)

pub account_holds : (t : Tables) (P : Account → Type 0)
    → ((c : Term) (g : Row 1 gas_limit) (l : Row 5 charge_limit) → P (account_of c g.figures l.figures)) → (n : ℕ)
    → missing (view_accounts t) n ≡ false → P (account_at (view_accounts t) n)
account_holds t P p zero h = absurd (eqb-false 0 0 (or_parts (eqb 0 0) (ltb (length (view_accounts t)) 0) h).0 refl)
account_holds t P p (suc i) h =
    let o = or_parts (eqb (suc i) 0) (ltb (length (view_accounts t)) (suc i)) h in
    let high : suc i ≤ length (view_accounts t) = ltb-false (length (view_accounts t)) (suc i) o.1 in
    let inside : i < length (vec_items t.terms) = omega (arith, high, term_count t, t.terms.ok.0) in
    entries_all P p (vec_items t.terms) (vec_items t.gas) (vec_items t.lines) i no_account inside
    (omega (arith, t.gas.ok.0, t.terms.ok.0, t.gas_beside)) (omega (arith, t.lines.ok.0, t.terms.ok.0, t.lines_beside))

-- a term that is there has five lines
pub lines_five : (t : Tables) (n : ℕ) → missing (view_accounts t) n ≡ false
    → length (account_at (view_accounts t) n).lines ≡ 5
lines_five t = account_holds t (λ a. length a.lines ≡ 5) (λ c g l. l.long)
