-- The bands of the balancing rules.
use Rattle.std.specs.Prelude.{ℕ, ◌*◌, ◌/◌, cond, pos, neg_ℤ}
use Rattle.balancing.specs.Bands.{Band, zero_band}
use Rattle.balancing.specs.Terms.{is_term}

-- The band that reaches as far below 0 as above it.
abbrev pub around : ℕ → Band
around edge = record { lower = neg_ℤ (pos edge); upper = pos edge }

-- EGD: MDV × days × 55 / 1,000, the fraction dropped, on either side of 0; outside a term's ranges, 0.
abbrev pub egd_edge : ℕ → ℕ → ℕ
egd_edge mdv days = cond (is_term mdv days) (mdv * days * 55 / 1000) 0

abbrev pub egd_band : ℕ → ℕ → Band
egd_band mdv days = around (egd_edge mdv days)

-- North: both edges are 0, so that every balance is billed whole.
abbrev pub north_band : ℕ → ℕ → Band
north_band mdv days = zero_band
