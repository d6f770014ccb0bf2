-- Worked figures of the rules.
use Rattle.std.specs.Prelude.{◌≡◌, pos, neg_ℤ}
use Rattle.balancing.specs.Bills.{billed_of, carried_of}
use Rattle.balancing.specs.Rules.{around, egd_band, north_band}

-- EGD at an MDV of 1,000 over 365 days has its edges 20,075 from 0: of a balance of 20,076 it bills 1, of −20,076 it
-- bills −1, and of 20,075 nothing.
-- North carries nothing of a balance of −5, and bills −5.
abbrev pub WorkedEdges : Type 0
WorkedEdges =
    (egd_band 1000 365 ≡ around 20075)
    × (billed_of (egd_band 1000 365) (pos 20076) ≡ pos 1)
    × (billed_of (egd_band 1000 365) (neg_ℤ (pos 20076)) ≡ neg_ℤ (pos 1))
    × (billed_of (egd_band 1000 365) (pos 20075) ≡ pos 0)
    × (carried_of (north_band 1000 365) (neg_ℤ (pos 5)) ≡ pos 0)
    × (billed_of (north_band 1000 365) (neg_ℤ (pos 5)) ≡ neg_ℤ (pos 5))
