use Rattle.std.proofs.Common.{◌≡◌, ◌<◌, ℕ, ℤ, Bool, List, length, get_or, sym, ap, ◌∙◌, arith}
use Rattle.std.proofs.lemmas.Result.{err_from_is_err_and}
use Rattle.amounts.specs.Rows.{within, sums}
use Rattle.amounts.specs.declared.row.Row.{Row}
use Rattle.amounts.proofs.Bookings.{row_past, row_done}
use Rattle.amounts.proofs.table.book.Goals as goal

-- what is tested of the row that is read is tested of the row at the place
tested : (n limit : ℕ) (table : List (Row n limit)) (at : ℕ) (more : List ℤ) (row : Row n limit) (b : Bool)
    → row ≡ get_or table at row → b ≡ within limit (sums row.figures more)
    → within limit (sums (get_or table at row).figures more) ≡ b
tested n limit table at more row b is e =
    ap (λ (r : Row n limit). within limit (sums r.figures more)) (sym is) ∙ sym e

pub returns-in_err-table : goal.returns-in_err-table
returns-in_err-table g c =
    let table = c.args.table.now in
    let more = c.args.more.now in
    let row = c.in_ok-row.row.now in
    let inside : c.args.at < length table = grind arith in
    let is : row ≡ get_or table c.args.at row = grind arith in
    let t = c.in_err-table.ensures in
    let p = err_from_is_err_and c.from_residual-in_err-table.result c.from_residual-in_err-table.ensures.1 in
    rw (p.1, p.2, t.refused)
    (row_past _ _ table c.args.at more row inside _ (tested _ _ table c.args.at more row _ is t.test))

pub returns : goal.returns
returns g c =
    let table = c.args.table.now in
    let more = c.args.more.now in
    let row = c.in_ok-row.row.now in
    let inside : c.args.at < length table = grind arith in
    let is : row ≡ get_or table c.args.at row = grind arith in
    let t = c.in_ok-table.ensures in
    row_done _ _ table c.args.at more row inside _ tt _ (tested _ _ table c.args.at more row _ is t.test)
    (rw (← is) t.made)
