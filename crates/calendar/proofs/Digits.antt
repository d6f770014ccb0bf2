-- What `{:02}` writes of a number: its tens and its ones.
use Rattle.std.proofs.Common.{◌≡◌, ℕ, ◌-◌, ◌/◌, ◌%◌, ◌^◌, ◌<◌, ◌≤◌, false, List, [], ◌++◌}
use Rattle.std.proofs.Common.{length, inl, inr, arith, refl, sym, ◌∙◌, ap, length-append}
use Rattle.std.specs.Fmt.{decimal, styled_decimal, padded_integral, format_spec, char_count}
use Rattle.std.proofs.lemmas.Bool.{cases_order}
use Rattle.std.proofs.lemmas.List.{append-nil}
use Rattle.std.proofs.lemmas.Fmt.{decimal_digit, decimal_step, decimal_nonempty}

-- a numeral of two digits or more has no padding
long : (text : List ℕ) → 2 - length text ≡ 0
    → padded_integral (format_spec 32 0 4 2 (2 ^ 64 - 1)) false [] text ≡ text
unfolding padded_integral char_count
long text e = rw (e, append-nil) refl

-- a numeral of one digit has a zero before it
short : (n : ℕ) → n < 10
    → padded_integral (format_spec 32 0 4 2 (2 ^ 64 - 1)) false [] (decimal n) ≡ decimal (n / 10) ++ decimal (n % 10)
unfolding padded_integral char_count
short n h =
    let tens : n / 10 ≡ 0 = omega arith in
    let ones : n % 10 ≡ n = omega arith in
    rw (tens, ones, decimal_digit n h, decimal_digit 0 (omega arith)) refl

-- a number that is laid out so is its tens and its ones
pub two_digits : (n : ℕ) (layout : _) → layout ≡ format_spec 32 0 4 2 (2 ^ 64 - 1) → n < 2 ^ 64
    → styled_decimal layout n ≡ decimal (n / 10) ++ decimal (n % 10)
two_digits n layout as_02 h =
    let wide : 10 ≤ n → _ = λ l.
    let step = decimal_step n l h in
    let some = decimal_nonempty (n / 10) (omega arith) in
    long (decimal n) (rw step (simp length-append (omega arith))) ∙ step
    ∙ ap (λ ds. decimal (n / 10) ++ ds) (sym (decimal_digit (n % 10) (omega arith))) in
    rw as_02 (elim (cases_order n 10) [
      | inl e ↦ wide (omega arith)
      | inr (inl l) ↦ short n l
      | inr (inr l) ↦ wide (omega arith)
    ])
