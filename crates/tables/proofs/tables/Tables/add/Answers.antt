use Rattle.std.proofs.Common.{ap, arith}
use Rattle.book.specs.State.{with_accounts}
use Rattle.tables.specs.View.{view}
use Rattle.tables.proofs.Accounts.{term_count, view_push}
use Rattle.tables.proofs.tables.Tables.add.Goals as goal

pub returns : goal.returns
returns c =
    let t = c.args.self.now in
    let count = term_count t in
    let e = view_push t _ _ _ c.args.term c.none.result c.none-2.result c.push_reserved.ensures.items
    c.push_reserved-2.ensures.items c.push_reserved-3.ensures.items in (
      omega (arith, count, c.len.ensures, c.if-len-ge-TERM_PLACES.false),
      omega (arith, count, c.len-2.ensures, c.push_reserved.ensures.len),
      ap (with_accounts (view t)) (rw (c.none.ensures, c.none-2.ensures) at e),
    )
