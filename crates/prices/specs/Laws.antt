-- Laws that the means and the layers keep.
use Rattle.std.specs.Prelude.{◌≡◌, ℕ, ◌<◌, ◌≤◌, true, List, is_some, is_ok, IfOk, Some, None, Ok, Err, Option, Result}
use Rattle.prices.specs.declared.point.Point.{Point}
use Rattle.prices.specs.declared.source.Lack.{Lack}
use Rattle.prices.specs.Quotes.{Quote}
use Rattle.prices.specs.Ends.{daily_quote, monthly_quote}
use Rattle.prices.specs.Layers.{Tolls, shared, tolled}
use Rattle.prices.specs.Means.{Priced, mean_of}

-- Where a span has an answer, each of its days has a price. Where it lacks one, that day has none, and each day of the
-- span before it has one.
abbrev pub FirstLack : {X : Type 0} → (ℕ → Option ℕ) → ℕ → ℕ → Result X Lack → Type 0
FirstLack price from to (Ok x) = (d : ℕ) → from ≤ d → d ≤ to → is_some (price d) ≡ true
FirstLack price from to (Err l) =
    (from ≤ l.day)
    × (l.day ≤ to)
    × (price l.day ≡ None)
    × ((d : ℕ) → from ≤ d → d < l.day → is_some (price d) ≡ true)

-- A mean is at least what each day's price is at least, and at most what each day's price is at most: it lies between
-- the least and the greatest of them.
abbrev pub EachDay : (ℕ → Option ℕ) → ℕ → ℕ → (ℕ → Type 0) → Type 0
EachDay price from to P = (d : ℕ) → from ≤ d → d ≤ to → Priced P (price d)

abbrev pub Between : (ℕ → Option ℕ) → ℕ → ℕ → Result ℕ Lack → Type 0
Between price from to r =
    IfOk r (λ m.
    ((low : ℕ) → EachDay price from to (λ p. low ≤ p) → low ≤ m)
    × ((high : ℕ) → EachDay price from to (λ p. p ≤ high) → m ≤ high))

abbrev pub MeanFirst : (ℕ → Option ℕ) → ℕ → ℕ → Type 0
MeanFirst price from to = FirstLack price from to (mean_of price from to)

abbrev pub MeanBetween : (ℕ → Option ℕ) → ℕ → ℕ → Type 0
MeanBetween price from to = Between price from to (mean_of price from to)

-- The mean of one day is that day's price.
abbrev pub price_on : ℕ → Option ℕ → Result ℕ Lack
price_on d (Some p) = Ok p
price_on d None = Err (record { day = d })

abbrev pub OneDay : Type 0
OneDay = (price : ℕ → Option ℕ) (d : ℕ) → mean_of price d d ≡ price_on d (price d)

-- A source lacks on the first day it lacks: each day before that one in the span has a price by itself, and the lacking
-- day has none by itself. Where the span has a price, each of its days has.
abbrev pub Led : Quote → Point → ℕ → ℕ → Result ℕ Lack → Type 0
Led q point from to (Ok p) = (d : ℕ) → from ≤ d → d ≤ to → is_ok (q point d d) ≡ true
Led q point from to (Err l) = (q point l.day l.day ≡ Err l)
    × ((d : ℕ) → from ≤ d → d < l.day → is_ok (q point d d) ≡ true)

abbrev pub LacksFirst : Quote → Type 0
LacksFirst q = (point : Point) (from to : ℕ) → from ≤ to → Led q point from to (q point from to)

abbrev pub DailyLacks : Type 0
DailyLacks = (start : ℕ) (ps : List ℕ) → LacksFirst (daily_quote start ps)

abbrev pub MonthlyLacks : Type 0
MonthlyLacks = (ps : List ℕ) → LacksFirst (monthly_quote ps)

-- A layer lacks where the source beneath it lacks, on the same day, and nowhere else.
abbrev pub SameLack : Result ℕ Lack → Result ℕ Lack → Type 0
SameLack (Ok p) (Ok q) = Unit {0}
SameLack (Ok p) (Err l) = ⊥
SameLack (Err k) (Ok q) = ⊥
SameLack (Err k) (Err l) = k ≡ l

abbrev pub ShareLacks : Type 0
ShareLacks = (percent : ℕ) (q : Quote) (point : Point) (from to : ℕ)
    → SameLack (shared percent q point from to) (q point from to)

abbrev pub TollLacks : Type 0
TollLacks = (tolls : Tolls) (q : Quote) (point : Point) (from to : ℕ)
    → SameLack (tolled tolls q point from to) (q point from to)
