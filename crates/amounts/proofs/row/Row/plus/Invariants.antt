use Rattle.std.proofs.Common.{◌≡◌, true, length}
use Rattle.amounts.specs.Rows.{within}
use Rattle.amounts.proofs.Sums.{so_far}
use Rattle.amounts.proofs.row.Row.plus.Given as goal

abbrev pub invariant-loop-i : goal.invariant-loop-i
invariant-loop-i g l = (l.figures ≡ so_far l.i l.self.figures l.more) × (within g.row.LIMIT l.figures ≡ true)
    × (length l.figures ≡ g.row.N)
