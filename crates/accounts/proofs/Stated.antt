-- What a statement reads off the tables.
use Rattle.std.proofs.Common.{◌≡◌, ℕ, ◌<◌, List, [], length, get_or, pos, vec_items, sym}
use Rattle.std.proofs.Common.{refl, ap, ◌∙◌, arith}
use Rattle.std.proofs.lemmas.List.{get_or-map}
use Rattle.amounts.specs.Limits.{gas_limit, charge_limit}
use Rattle.amounts.specs.Tables.{rows_of}
use Rattle.amounts.specs.declared.row.Row.{Row}
use Rattle.book.specs.Accounts.{account_at, dated}
use Rattle.book.specs.Rulings.{DoneBy, statement}
use Rattle.book.specs.Statement.{statement_ruling}
use Rattle.tables.specs.Rows.{account_of}
use Rattle.tables.specs.View.{Found, view, view_accounts}
use Rattle.tables.specs.declared.holding.Holding.{Holding}
use Rattle.tables.specs.declared.tables.Tables.{Tables}

row_read : (n limit : ℕ) (table : List (Row n limit)) (i : ℕ) (row : Row n limit) → i < length table
    → row ≡ get_or table i row → get_or (rows_of n limit table) i [] ≡ row.figures
row_read n limit table i row h e = get_or-map (λ (r : Row n limit). r.figures) table i row [] h
    ∙ ap (λ (r : Row n limit). r.figures) (sym e)

module _ (t : Tables) (n : ℕ) (h : Holding) (g : Row 1 gas_limit) (l : Row 5 charge_limit) (found : Found t n h)
    (y : g ≡ get_or (vec_items t.gas) h.at g) (z : l ≡ get_or (vec_items t.lines) h.at l) where
  pub read_whole : account_at (view_accounts t) n ≡ account_of h.term g.figures l.figures
  read_whole =
      let p = row_read 1 gas_limit (vec_items t.gas) h.at g (omega (arith, found.inside, t.gas.ok.0, t.gas_beside)) y in
      let q = row_read 5 charge_limit (vec_items t.lines) h.at l
      (omega (arith, found.inside, t.lines.ok.0, t.lines_beside)) z in
      found.read ∙ ap (λ r. account_of h.term r (get_or (rows_of 5 charge_limit (vec_items t.lines)) h.at [])) p
      ∙ ap (account_of h.term g.figures) q

  pub states : DoneBy (statement_ruling (view t) n)
      (statement (record {
        term = n;
        pool = h.term.contract.pool;
        status = dated t.day h.term.contract;
        next = h.term.next;
        balance = get_or g.figures 0 (pos 0);
        on_offer = 0;
        lines = l.figures;
      })) (view t)
  states = rw (found.there, read_whole) (record { passed = refl; replied = refl; leaves = refl })
