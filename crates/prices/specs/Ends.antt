-- The ends that hold a list of prices.
use Rattle.std.specs.Prelude.{ℕ, ◌-◌, Bool, cond, ◌&&◌, List, length, Some, None, Option, nat_le, nat_lt, slice_index}
use Rattle.calendar.specs.Months.{month_at}
use Rattle.prices.specs.Means.{mean_of}
use Rattle.prices.specs.Quotes.{Quote}
use Rattle.prices.specs.Limits.{price_limit}
use Rattle.calendar.specs.Days.{last_day, month_count}

-- An entry above 10,000,000, or past the list, is missing.
abbrev pub entry_at : List ℕ → ℕ → Option ℕ
entry_at ps i = cond (nat_lt i (length ps) && nat_le (slice_index ps i) price_limit) (Some (slice_index ps i)) None

-- A daily end starts on a day from 1 to 3,653 and has at most 3,653 prices.
abbrev pub is_daily : ℕ → ℕ → Bool
is_daily start n = nat_le 1 start && (nat_le start last_day && nat_le n last_day)

-- Its first entry is the price of its starting day, and each next one that of the next day.
abbrev pub daily_price : ℕ → List ℕ → ℕ → Option ℕ
daily_price start ps day = cond (nat_le start day) (entry_at ps (day - start)) None

-- It answers the mean over the days of a span, at every point.
abbrev pub daily_quote : ℕ → List ℕ → Quote
daily_quote start ps = λ point from to. mean_of (daily_price start ps) from to

-- A monthly end has at most 120 prices, the first of January 2024. A day's price is the entry of its month.
abbrev pub is_monthly : ℕ → Bool
is_monthly n = nat_le n month_count

abbrev pub in_month : List ℕ → Option ℕ → Option ℕ
in_month ps (Some m) = entry_at ps m
in_month ps None = None

abbrev pub monthly_price : List ℕ → ℕ → Option ℕ
monthly_price ps day = in_month ps (month_at day)

-- It answers the mean over the days of a span, and not over its months, at every point.
abbrev pub monthly_quote : List ℕ → Quote
monthly_quote ps = λ point from to. mean_of (monthly_price ps) from to
