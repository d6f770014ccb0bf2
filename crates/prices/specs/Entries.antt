-- The prices of the ends are fair.
use Rattle.std.specs.Prelude.{ℕ, ◌-◌, ◌&&◌, List, length, Some, None, Option, nat_le, nat_lt, slice_index}
use Rattle.std.proofs.lemmas.Bool.{cond_both, leb-true, and_parts}
use Rattle.calendar.specs.Months.{month_at}
use Rattle.prices.specs.Ends.{entry_at, daily_price, in_month, monthly_price}
use Rattle.prices.specs.Means.{FairDay}
use Rattle.prices.specs.Limits.{price_limit}

entry_fair : (ps : List ℕ) (i : ℕ) → FairDay (entry_at ps i)
entry_fair ps i =
    cond_both (nat_lt i (length ps) && nat_le (slice_index ps i) price_limit) (Some (slice_index ps i)) None FairDay
    (λ e. leb-true (slice_index ps i) price_limit
    (and_parts (nat_lt i (length ps)) (nat_le (slice_index ps i) price_limit) e).1) (λ e. tt)

pub daily_fair : (start : ℕ) (ps : List ℕ) (day : ℕ) → FairDay (daily_price start ps day)
daily_fair start ps day =
    cond_both (nat_le start day) (entry_at ps (day - start)) None FairDay (λ e. entry_fair ps (day - start)) (λ e. tt)

in_month_fair : (ps : List ℕ) (m : Option ℕ) → FairDay (in_month ps m)
in_month_fair ps (Some m) = entry_fair ps m
in_month_fair ps None = tt

pub monthly_fair : (ps : List ℕ) (day : ℕ) → FairDay (monthly_price ps day)
monthly_fair ps day = in_month_fair ps (month_at day)
