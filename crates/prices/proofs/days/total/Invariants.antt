-- The sum so far is small, and with the days that are left it is the whole.
use Rattle.std.proofs.Common.{◌-◌, ◌*◌, ◌≤◌}
use Rattle.prices.proofs.Passes.{Passed}
use Rattle.prices.specs.Limits.{price_limit}
use Rattle.prices.proofs.days.total.Given as goal

abbrev pub invariant-loop-day : goal.invariant-loop-day
invariant-loop-day g l =
    (l.sum ≤ price_limit * (l.day - l.initial.day))
    × Passed (g.D.DayPrices.posted l.prices) l.initial.day l.day-end l.sum l.day
