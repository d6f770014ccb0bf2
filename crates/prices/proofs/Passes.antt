-- One pass over the days of a span: what is added up so far, with what is left, is the whole.
use Rattle.std.proofs.Common.{◌≡◌, ℕ, suc, ◌+◌, ◌-◌, ◌<◌, List, length, IfOk, Some, None, Ok}
use Rattle.std.proofs.Common.{Err, sum, Option, Result, sym, refl, ap, ◌∙◌, add-zero, arith}
use Rattle.std.specs.List.{range_with_len}
use Rattle.std.proofs.lemmas.List.Sums.{sum_by-cons}
use Rattle.prices.specs.declared.source.Lack.{Lack}
use Rattle.prices.specs.Over.{over}
use Rattle.prices.specs.Means.{span_days, led_by, prices_on, rounded, mean_price, mean_of}
use Rattle.prices.specs.MeansLemmas.{length_on}

days_left : (day end : ℕ) → day < end → end - day ≡ suc (end - (day + 1))
days_left day end h = omega arith

lack_is : (r : Result (List ℕ) Lack) (l : Lack) → Err l ≡ over sum r → Err l ≡ over mean_price r
lack_is (Ok ps) l e = cc
lack_is (Err k) l e = cc

none_led : (r : Result (List ℕ) Lack) → over (λ ps. 0 + sum ps) r ≡ over sum r
none_led (Ok ps) = ap Ok (omega arith)
none_led (Err l) = refl

sum_led : (total day p : ℕ) (r : Result (List ℕ) Lack)
    → over (λ ps. (total + p) + sum ps) r ≡ over (λ ps. total + sum ps) (led_by day (Some p) r)
sum_led total day p (Ok ps) = ap Ok (omega (arith, sum_by-cons (λ x. x) p ps))
sum_led total day p (Err l) = refl

mean_is : (total n : ℕ) (r : Result (List ℕ) Lack) → IfOk r (λ ps. length ps ≡ n) → Ok total ≡ over sum r
    → Ok (rounded total n) ≡ over mean_price r
mean_is total n (Ok ps) k e =
    let s : total ≡ sum ps = cc in
    ap Ok (ap (λ t. rounded t n) s ∙ ap (rounded (sum ps)) (sym k))
mean_is total n (Err l) k e = cc

-- the total so far, and the days from a day on, before the end
abbrev pub Passed : (ℕ → Option ℕ) → ℕ → ℕ → ℕ → ℕ → Type 0
Passed price from end total day =
    over (λ ps. total + sum ps) (prices_on price (range_with_len day (end - day)))
    ≡ over sum (prices_on price (range_with_len from (end - from)))

module _ (price : ℕ → Option ℕ) (from : ℕ) where
  pub passed_none : (end : ℕ) → Passed price from end 0 from
  passed_none end = none_led (prices_on price (range_with_len from (end - from)))

  pub passed_more : (end total day p : ℕ) → day < end → Some p ≡ price day → Passed price from end total day
      → Passed price from end (total + p) (day + 1)
  passed_more end total day p h e i =
      sum_led total day p (prices_on price (range_with_len (day + 1) (end - (day + 1))))
      ∙ (let k = days_left day end h in rw (k, ← e) at i)

  pub passed_lack : (to total day : ℕ) → day < to + 1 → None ≡ price day → Passed price from (to + 1) total day
      → Err (record { day = day }) ≡ mean_of price from to
  unfolding mean_of
  passed_lack to total day h e i =
      let k = days_left day (to + 1) h in
      lack_is (prices_on price (span_days from to)) (record { day = day }) (rw (k, ← e) at i)

  pub passed_all : (to total day : ℕ) → day ≡ to + 1 → Passed price from (to + 1) total day
      → Ok (rounded total (to + 1 - from)) ≡ mean_of price from to
  unfolding mean_of
  passed_all to total day h i =
      let k : to + 1 - day ≡ 0 = omega arith in
      mean_is total (to + 1 - from) (prices_on price (span_days from to)) (length_on price from (to + 1 - from))
      (rw (k, add-zero) at i)
