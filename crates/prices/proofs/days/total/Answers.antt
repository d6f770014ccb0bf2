-- A turn adds one day; a day with no price is the lack; and the whole rounds to the mean.
use Rattle.std.proofs.Common.{◌≡◌, ◌+◌, ◌-◌, ◌≤◌, Some, arith}
use Rattle.prices.specs.MeansLemmas.{rounded_le, mean_first, mean_between}
use Rattle.prices.specs.Limits.{price_limit}
use Rattle.prices.proofs.Passes.{passed_more, passed_lack, passed_all}
use Rattle.prices.proofs.days.total.Goals as goal

pub loop-day-preserved : goal.loop-day-preserved
loop-day-preserved g c =
    let price = g.D.DayPrices.posted c.args.prices.now in
    let e : Some c.from-sum.result ≡ price c.loop-day.day = grind arith in
    let f : c.from-sum.result ≤ price_limit = rw (← e) at (g.met.D.DayPrices.fair c.args.prices.now c.loop-day.day) in (
      omega (arith, c.loop-day.invariant.0),
      passed_more _ _ _ c.loop-day.sum c.loop-day.day c.from-sum.result (omega arith) e c.loop-day.invariant.1,
    )

pub returns-in_default : goal.returns-in_default
returns-in_default g c =
    let price = g.D.DayPrices.posted c.args.prices.now in
    let forward = c.args.span.forward in
    record {
      total = passed_lack price _ _ c.loop-day.sum c.loop-day.day
          (omega arith) c.in_default.ensures c.loop-day.invariant.1;
      first = mean_first price _ _ forward;
      between = mean_between price _ _ forward;
    }

pub returns : goal.returns
returns g c =
    let price = g.D.DayPrices.posted c.args.prices.now in
    let forward = c.args.span.forward in
    let n = c.args.span.to + 1 - c.args.span.from in
    let sum = c.loop-day.sum in
    record {
      total = record {
        small = omega (arith, c.loop-day.invariant.0);
        fair = rounded_le sum n price_limit (omega arith) (omega (arith, c.loop-day.invariant.0));
        mean = passed_all price _ _ sum c.loop-day.day (omega arith) c.loop-day.invariant.1;
      };
      first = mean_first price _ _ forward;
      between = mean_between price _ _ forward;
    }
