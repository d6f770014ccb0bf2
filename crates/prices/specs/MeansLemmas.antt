-- What holds of a mean over the days of a span.
use Rattle.std.specs.Prelude.{◌≡◌, ℕ, zero, suc, ◌+◌, ◌-◌, ◌*◌, ◌<◌, ◌≤◌, true, List, [], ◌∷◌, length}
use Rattle.std.specs.Prelude.{is_some, IfOk, Some, None, Ok, Err, sum, Option, Result, refl}
use Rattle.std.proofs.Common.{ap, ◌∙◌, subst, inl, inr, div-lt_iff_lt-mul, le-div_iff_mul-le}
use Rattle.std.proofs.Common.{mul_comm, mul_assoc, add-mul, zero-mul, suc-mul, arith}
use Rattle.std.specs.List.{range_with_len, AllByRecursion}
use Rattle.std.proofs.lemmas.List.Sums.{sum_by-cons}
use Rattle.std.proofs.ByRecursion.{sum_by_le}
use Rattle.std.proofs.lemmas.Bool.{cases_eq}
use Rattle.prices.specs.declared.source.Lack.{Lack}
use Rattle.prices.specs.Over.{over}
use Rattle.prices.specs.Quotes.{Fair}
use Rattle.prices.specs.Laws.{FirstLack, EachDay, Between}
use Rattle.prices.specs.Means.{FairDay, Priced, span_days, led_by, prices_on, rounded, mean_price, mean_of}
use Rattle.prices.specs.Limits.{price_limit}
use Rattle.calendar.specs.Days.{last_day}

-- a mean of n prices lies within the bounds of their sum
twice : (m n : ℕ) → m * (2 * n) ≡ 2 * (n * m)
twice m n = mul_comm m (2 * n) ∙ mul_assoc 2 n m

pub rounded_le : (total n m : ℕ) → 0 < n → total ≤ n * m → rounded total n ≤ m
rounded_le total n m some h =
    let k : 0 < 2 * n = omega arith in
    let e : 2 * total + n < (m + 1) * (2 * n) = rw (add-mul m 1 (2 * n), twice m n) (omega arith) in
    let l : rounded total n < m + 1 = (div-lt_iff_lt-mul k).1 e in
    omega arith

pub rounded_ge : (total n m : ℕ) → 0 < n → n * m ≤ total → m ≤ rounded total n
rounded_ge total n m some h =
    let k : 0 < 2 * n = omega arith in
    let e : m * (2 * n) ≤ 2 * total + n = rw (twice m n) (omega arith) in
    (le-div_iff_mul-le k).1 e

sum_ge : (m : ℕ) (ps : List ℕ) → AllByRecursion (λ p. m ≤ p) ps → length ps * m ≤ sum ps
sum_ge m [] h = rw zero-mul (omega arith)
sum_ge m (p ∷ ps) h = rw suc-mul (omega (arith, h.0, sum_ge m ps h.1, sum_by-cons (λ x. x) p ps))

module _ (price : ℕ → Option ℕ) where
  -- what holds of each day's price holds of each price collected
  all_led : (P : ℕ → Type 0) (d : ℕ) (o : Option ℕ) (r : Result (List ℕ) Lack) → Priced P o
      → IfOk r (AllByRecursion P) → IfOk (led_by d o r) (AllByRecursion P)
  all_led P d None r g h = tt
  all_led P d (Some p) (Ok ps) g h = (g, h)
  all_led P d (Some p) (Err l) g h = tt

  all_on : (P : ℕ → Type 0) (a n : ℕ) → ((d : ℕ) → a ≤ d → d < a + n → Priced P (price d))
      → IfOk (prices_on price (range_with_len a n)) (AllByRecursion P)
  all_on P a zero f = tt
  all_on P a (suc n) f =
      all_led P a (price a) (prices_on price (range_with_len (a + 1) n)) (f a (omega arith) (omega arith))
      (all_on P (a + 1) n (λ d h k. f d (omega arith) (omega arith)))

  length_led : (k d : ℕ) (o : Option ℕ) (r : Result (List ℕ) Lack) → IfOk r (λ ps. length ps ≡ k)
      → IfOk (led_by d o r) (λ ps. length ps ≡ suc k)
  length_led k d None r h = tt
  length_led k d (Some p) (Ok ps) h = ap suc h
  length_led k d (Some p) (Err l) h = tt

  pub length_on : (a n : ℕ) → IfOk (prices_on price (range_with_len a n)) (λ ps. length ps ≡ n)
  length_on a zero = refl
  length_on a (suc n) = length_led n a (price a) (prices_on price (range_with_len (a + 1) n)) (length_on (a + 1) n)

  -- the first of n days from a on that has no price, or that each has one
  abbrev Leads : ℕ → ℕ → Result (List ℕ) Lack → Type 0
  Leads a n (Ok ps) = (d : ℕ) → a ≤ d → d < a + n → is_some (price d) ≡ true
  Leads a n (Err l) = (a ≤ l.day) × (l.day < a + n) × (price l.day ≡ None)
      × ((d : ℕ) → a ≤ d → d < l.day → is_some (price d) ≡ true)

  some_from : (a d : ℕ) → is_some (price a) ≡ true → (a + 1 ≤ d → is_some (price d) ≡ true) → a ≤ d
      → is_some (price d) ≡ true
  some_from a d here later h =
      elim (cases_eq a d) [ inl e ↦ subst (λ x. is_some (price x) ≡ true) e here | inr ne ↦ later (omega arith) ]

  leads_led : (a n : ℕ) (o : Option ℕ) (r : Result (List ℕ) Lack) → price a ≡ o → Leads (a + 1) n r
      → Leads a (suc n) (led_by a o r)
  leads_led a n None r e h = (omega arith, omega arith, e, λ d k l. absurd (omega arith))
  leads_led a n (Some p) (Ok ps) e h =
      λ d k l. some_from a d (ap is_some e) (λ m. h d m (omega arith)) k
  leads_led a n (Some p) (Err l) e h =
      (omega arith, omega arith, h.2, λ d k m. some_from a d (ap is_some e) (λ j. h.3 d j m) k)

  leads : (a n : ℕ) → Leads a n (prices_on price (range_with_len a n))
  leads a zero = λ d h k. absurd (omega arith)
  leads a (suc n) = leads_led a n (price a) (prices_on price (range_with_len (a + 1) n)) refl (leads (a + 1) n)

  first_over : (from to : ℕ) (r : Result (List ℕ) Lack) → from ≤ to → Leads from (to + 1 - from) r
      → FirstLack price from to (over mean_price r)
  first_over from to (Ok ps) f h = λ d k l. h d k (omega arith)
  first_over from to (Err l) f h = (h.0, omega arith, h.2, h.3)

  between_over : (from to : ℕ) (r : Result (List ℕ) Lack) → from ≤ to
      → IfOk r (λ ps. length ps ≡ to + 1 - from)
      → ((P : ℕ → Type 0) → EachDay price from to P → IfOk r (AllByRecursion P))
      → Between price from to (over mean_price r)
  between_over from to (Ok ps) f n all = (
    λ low h. rounded_ge (sum ps) (length ps) low (omega arith) (sum_ge low ps (all (λ p. low ≤ p) h)),
    λ high h. rounded_le (sum ps) (length ps) high (omega arith) (sum_by_le (λ x. x) high ps (all (λ p. p ≤ high) h)),
  )
  between_over from to (Err l) f n all = tt

  pub mean_first : (from to : ℕ) → from ≤ to → FirstLack price from to (mean_of price from to)
  unfolding mean_of
  mean_first from to f =
      first_over from to (prices_on price (span_days from to)) f (leads from (to + 1 - from))

  pub mean_between : (from to : ℕ) → from ≤ to → Between price from to (mean_of price from to)
  unfolding mean_of
  mean_between from to f =
      between_over from to (prices_on price (span_days from to)) f (length_on from (to + 1 - from))
      (λ P h. all_on P from (to + 1 - from) (λ d k l. h d k (omega arith)))

  fair_from : (from to : ℕ) (r : Result ℕ Lack) → 1 ≤ from → to ≤ last_day → ((d : ℕ) → FairDay (price d))
      → FirstLack price from to r → Between price from to r → Fair r
  fair_from from to (Ok m) low high fair h b = b.1 price_limit (λ d _ _. fair d)
  fair_from from to (Err l) low high fair h b = (omega (arith, low, h.0), omega (arith, high, h.1))

  pub mean_fair : (from to : ℕ) → 1 ≤ from → from ≤ to → to ≤ last_day → ((d : ℕ) → FairDay (price d))
      → Fair (mean_of price from to)
  mean_fair from to low f high fair =
      fair_from from to (mean_of price from to) low high fair (mean_first from to f) (mean_between from to f)
