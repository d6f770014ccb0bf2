use Rattle.std.proofs.Common.{◌≡◌, true, false, arith}
use Rattle.book.specs.Accounts.{missing}
use Rattle.tables.specs.View.{view, view_accounts}
use Rattle.tables.proofs.Accounts.{lines_five}
use Rattle.journal.proofs.Lengths.{statement_short, statement_long}
use Rattle.journal.proofs.memory.statement_len.Goals as goal

pub returns-then-has_term : goal.returns-then-has_term
returns-then-has_term g c =
    let t = c.args.ledger.now.tables in
    let there : missing (view_accounts t) c.args.term ≡ false = grind arith in
    statement_long (view t) c.args.term there (lines_five t c.args.term there)

pub returns-else-has_term : goal.returns-else-has_term
returns-else-has_term g c =
    let t = c.args.ledger.now.tables in
    let gone : missing (view_accounts t) c.args.term ≡ true = grind arith in
    statement_short (view t) c.args.term gone
