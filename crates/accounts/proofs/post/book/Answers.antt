use Rattle.std.proofs.Common.{w64, rules}
use Rattle.std.proofs.lemmas.Int.{to_z-of_z}
use Rattle.accounts.proofs.Posts.{gas_never_refused, books}
use Rattle.accounts.proofs.post.book.Goals as goal

pub returns-in_err-enter-2 : goal.returns-in_err-enter-2
returns-in_err-enter-2 c =
    let plain = to_z-of_z w64 c.net_of.result (search rules) in
    let b = rw c.net_of.ensures at simp plain at c.in_err-enter-2.ensures.booked in
    absurd (gas_never_refused c.args.tables.now c.args.day.now c.args.owed c.args.held c.requires.ready _ _ b)

pub returns : goal.returns
returns c =
    let b = rw c.overrun.ensures at c.in_ok-enter.ensures.booked in
    let plain = to_z-of_z w64 c.net_of.result (search rules) in
    let g = rw c.net_of.ensures at simp plain at c.in_ok-enter-2.ensures.booked in
    books c.args.tables.now c.args.day.now c.args.owed c.args.held c.requires.ready _ _ c.posted.result _ _
    c.posted.ensures b g
