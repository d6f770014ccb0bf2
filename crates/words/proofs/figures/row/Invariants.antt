use Rattle.std.proofs.Common.{◌≡◌, take}
use Rattle.words.specs.WordRows.{listed}
use Rattle.words.proofs.figures.row.Given as goal

abbrev pub invariant-loop-figure : goal.invariant-loop-figure
invariant-loop-figure l = (l.row.len ≡ l.figure-index) × (listed l.row ≡ take l.figure-index l.figures)
