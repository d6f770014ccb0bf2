use Rattle.std.proofs.Common.{sym, ap, ◌∙◌}
use Rattle.std.proofs.lemmas.Result.{err_from_is_err_and}
use Rattle.book.specs.Accounts.{Account}
use Rattle.book.specs.Post.{owed}
use Rattle.tables.specs.View.{view}
use Rattle.accounts.proofs.Posts.{refused_early, refused_lacking, priced_ruled}
use Rattle.accounts.proofs.post.post.Goals as goal

pub returns-in_err-held : goal.returns-in_err-held
returns-in_err-held g c =
    let q = (g.Z.RateZone.means c.args.zone.now).overrun in
    let p = err_from_is_err_and c.from_residual.result c.from_residual.ensures.1 in
    rw (p.1, p.2) (refused_early q (view c.args.tables.now) c.args.day _ c.in_err-held.ensures)

pub returns-in_err-owed : goal.returns-in_err-owed
returns-in_err-owed g c =
    let q = (g.Z.RateZone.means c.args.zone.now).overrun in
    let ready = c.in_ok-held.ensures in
    let e = c.in_err-owed.ensures.value
    ∙ ap (λ (a : Account). owed q a c.args.day.delivered) (sym ready.1.found.read) in
    let p = err_from_is_err_and c.from_residual-in_err-owed.result c.from_residual-in_err-owed.ensures.1 in
    rw (p.1, p.2) (refused_lacking q (view c.args.tables.now) c.args.day _ ready.0 e)

pub returns : goal.returns
returns g c =
    let q = (g.Z.RateZone.means c.args.zone.now).overrun in
    let ready = c.in_ok-held.ensures in
    let e = c.in_ok-owed.ensures.value
    ∙ ap (λ (a : Account). owed q a c.args.day.delivered) (sym ready.1.found.read) in
    priced_ruled q (view c.args.tables.now) c.args.day _ ready.0 e _ _ c.book.ensures
