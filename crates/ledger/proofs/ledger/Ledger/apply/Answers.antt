use Rattle.std.proofs.Common.{◌≡◌, rules}
use Rattle.book.specs.Step.{ruling}
use Rattle.ledger.specs.Answering.{given}
use Rattle.runs.proofs.Kept.{meets_keeps}
use Rattle.tables.specs.View.{view}
use Rattle.ledger.proofs.ledger.Ledger.apply.Goals as goal

pub returns-clause-keeps : goal.returns-clause-keeps
returns-clause-keeps g c =
    let e : c.unwrap_or_else.result ≡ given c.make.result = search rules in
    let s = view c.args.self.now.tables in
    rw e (meets_keeps s _ (ruling (g.Z.RateZone.means c.args.self.now.zone) s c.args.call) _ c.make.ensures.call)
