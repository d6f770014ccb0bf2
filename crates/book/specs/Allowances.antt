-- The suspension allowances of the three points.
use Rattle.std.specs.Prelude.{ℕ, Bool, ◌&&◌, nat_le}
use Rattle.prices.specs.declared.by_point.ByPoint.{ByPoint}
use Rattle.book.specs.Limits.{allowance_limit}

-- The volumes that may be suspended on a day, for each point.
abbrev pub Allowances : Type 0
Allowances = ByPoint ℕ

-- No allowance is above its limit.
abbrev pub allowed : Allowances → Bool
allowed a = nat_le a.western allowance_limit && (nat_le a.dawn allowance_limit && nat_le a.ontario allowance_limit)
