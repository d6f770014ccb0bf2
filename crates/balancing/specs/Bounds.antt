-- How far the edges can lie from 0.
use Rattle.std.specs.Prelude.{◌≡◌, ℕ, ◌*◌, ◌≤◌, true}
use Rattle.std.proofs.Common.{arith}
use Rattle.std.proofs.lemmas.Nat.{mul-le}
use Rattle.std.proofs.lemmas.Bool.{cond_both}
use Rattle.std.proofs.lemmas.Bool.Decides.{nat_tests}
use Rattle.balancing.specs.Rules.{egd_edge}
use Rattle.balancing.specs.Terms.{is_term}
use Rattle.balancing.specs.Limits.{mdv_limit, term_days, volume_limit}

-- The largest volume of a term is that of the largest MDV on the most days, 500,000 × 366.
pub term_most : (mdv days : ℕ) → is_term mdv days ≡ true → mdv * days ≤ volume_limit
term_most mdv days term =
    let m : mdv ≤ mdv_limit = grind (arith, nat_tests) in
    let d : days ≤ term_days = grind (arith, nat_tests) in
    mul-le mdv days mdv_limit term_days m d

-- The largest edge of EGD is that of the largest term, 500,000 × 366 × 55 / 1,000.
pub egd_most : (mdv days : ℕ) → egd_edge mdv days ≤ 10065000
egd_most mdv days =
    cond_both (is_term mdv days) _ _ (λ edge. edge ≤ 10065000) (λ term. omega (arith, term_most mdv days term))
    (λ _. omega arith)
