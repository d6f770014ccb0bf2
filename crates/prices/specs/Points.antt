-- The points of receipt and their numbers: 1 Western, 2 Dawn, 3 Ontario.
use Rattle.std.specs.Prelude.{ℕ, cond, List, codes, Some, None, Option, ◌==◌}
use Rattle.prices.specs.declared.by_point.ByPoint.{ByPoint}
use Rattle.prices.specs.declared.point.Point.{Point}
use Rattle.prices.specs.declared.point.Point.TheVariants.{Western, Dawn, Ontario}

abbrev pub point_number : Point → ℕ
point_number Western = 1
point_number Dawn = 2
point_number Ontario = 3

abbrev pub point_at : ℕ → Option Point
point_at n = cond (n == 1) (Some Western) (cond (n == 2) (Some Dawn) (cond (n == 3) (Some Ontario) None))

-- A point is written as its name.
abbrev pub point_name : Point → List ℕ
point_name Western = codes "Western"
point_name Dawn = codes "Dawn"
point_name Ontario = codes "Ontario"

-- The figure of a point, of what has one for each point.
abbrev pub at_point : {T : Type 0} → ByPoint T → Point → T
at_point t Western = t.western
at_point t Dawn = t.dawn
at_point t Ontario = t.ontario
