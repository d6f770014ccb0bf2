use Rattle.std.proofs.Common.{◌<◌, length, pos, sym, ap, ◌∙◌, arith, rules}
use Rattle.std.proofs.lemmas.List.{length-set}
use Rattle.std.proofs.lemmas.Int.{to_z-of_z}
use Rattle.std.proofs.lemmas.Bool.{le-leb}
use Rattle.std.proofs.lemmas.Result.{err_from_is_err_and}
use Rattle.amounts.specs.Rows.{within}
use Rattle.amounts.proofs.Sums.{so_far_at, so_far_more, so_far_all, within_set, within_fails}
use Rattle.amounts.proofs.row.Row.plus.Goals as goal

pub returns-in_err-figures-clause-test : goal.returns-in_err-figures-clause-test
returns-in_err-figures-clause-test g c =
    let i = c.loop-i.i in
    let xs = c.args.self.now.figures in
    let ys = c.args.more.now in
    let h : i < length xs = omega arith in
    let k : i < length ys = search rules in
    let a = so_far_at i xs ys (pos 0) in
    let p = err_from_is_err_and c.from_residual.result c.from_residual.ensures.1 in
    rw p.1 (sym (within_fails g.row.LIMIT i xs ys (pos 0) h k (grind (arith, to_z-of_z))))

pub loop-i-preserved : goal.loop-i-preserved
loop-i-preserved g c =
    let i = c.loop-i.i in
    let xs = c.args.self.now.figures in
    let ys = c.args.more.now in
    let h : i < length xs = omega arith in
    let k : i < length ys = search rules in
    let a = so_far_at i xs ys (pos 0) in
    let s = so_far_more i xs ys (pos 0) h k in
    let w = within_set g.row.LIMIT c.loop-i.figures i c.in_ok-figures.field-0 c.loop-i.invariant.1
    (le-leb _ _ c.in_ok-figures.ensures.1) in
    (grind (arith, to_z-of_z), grind (arith, to_z-of_z), grind (arith, to_z-of_z, length-set))

pub returns : goal.returns
returns g c =
    let xs = c.args.self.now.figures in
    let e = c.loop-i.invariant.0 ∙ so_far_all c.loop-i.i xs c.args.more.now (omega (arith, c.args.self.now.long)) in
    record { test = sym c.loop-i.invariant.1 ∙ ap (within g.row.LIMIT) e; made = e; refused = tt }
