-- The laws of one day, and of a layer's lacks.
use Rattle.std.proofs.Common.{◌≡◌, ℕ, ◌+◌, ◌-◌, true, [], is_some, is_ok, Some, None}
use Rattle.std.proofs.Common.{Ok, Err, Option, Result, refl, ap, ◌∙◌, arith}
use Rattle.std.proofs.lemmas.Bool.{false≢true}
use Rattle.prices.specs.declared.point.Point.{Point}
use Rattle.prices.specs.declared.source.Lack.{Lack}
use Rattle.prices.specs.Over.{over}
use Rattle.prices.specs.Laws.{FirstLack, OneDay, Led, LacksFirst, DailyLacks}
use Rattle.prices.specs.Laws.{MonthlyLacks, ShareLacks, TollLacks, SameLack, price_on}
use Rattle.prices.specs.Ends.{daily_price, monthly_price}
use Rattle.prices.specs.Layers.{share_of, with_toll, toll_at}
use Rattle.prices.specs.Means.{led_by, mean_price, mean_of}
use Rattle.prices.specs.MeansLemmas.{mean_first}

alone : (d : ℕ) (o : Option ℕ) → over mean_price (led_by d o (Ok [])) ≡ price_on d o
alone d (Some p) = ap Ok (omega arith)
alone d None = refl

pub one_day : OneDay
unfolding mean_of
one_day price d = let k : d + 1 - d ≡ 1 = omega arith in rw k (alone d (price d))

-- a quote that is the mean of a price for each day lacks on the first day it lacks
module _ (price : ℕ → Option ℕ) where
  on_its_own : (d : ℕ) (o : Option ℕ) → price d ≡ o → is_some o ≡ true → is_ok (mean_of price d d) ≡ true
  on_its_own d (Some p) e h = ap is_ok (one_day price d ∙ ap (price_on d) e)
  on_its_own d None e h = absurd (false≢true h)

  led : (point : Point) (from to : ℕ) (r : Result ℕ Lack) → FirstLack price from to r
      → Led (λ p from to. mean_of price from to) point from to r
  led point from to (Ok p) h = λ d k l. on_its_own d (price d) refl (h d k l)
  led point from to (Err l) h =
      (one_day price l.day ∙ ap (price_on l.day) h.2, λ d k m. on_its_own d (price d) refl (h.3 d k m))

  mean_lacks : LacksFirst (λ point from to. mean_of price from to)
  mean_lacks point from to f = led point from to (mean_of price from to) (mean_first price from to f)

pub daily_lacks : DailyLacks
daily_lacks start ps = mean_lacks (daily_price start ps)

pub monthly_lacks : MonthlyLacks
monthly_lacks ps = mean_lacks (monthly_price ps)

over_lacks : (f : ℕ → ℕ) (r : Result ℕ Lack) → SameLack (over f r) r
over_lacks f (Ok p) = tt
over_lacks f (Err l) = refl

pub share_lacks : ShareLacks
share_lacks percent q point from to = over_lacks (share_of percent) (q point from to)

pub toll_lacks : TollLacks
toll_lacks tolls q point from to = over_lacks (with_toll (toll_at tolls point)) (q point from to)
