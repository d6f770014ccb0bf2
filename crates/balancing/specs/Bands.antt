-- A band: the pair of edges that a balance is carried between.
use Rattle.std.specs.Prelude.{Bool, ◌&&◌, ℤ, pos, neg_ℤ, ◌≤ℤ◌, int_le}
use Rattle.amounts.specs.Limits.{gas_limit}

pub record Band : Type 0 where
  pub lower : ℤ
  pub upper : ℤ

-- A pair of edges is a band if the lower edge does not lie above the upper one and both lie within ±200,000,000.
abbrev pub is_band : ℤ → ℤ → Bool
is_band low high = int_le low high && (int_le (neg_ℤ (pos gas_limit)) low && int_le high (pos gas_limit))

-- A volume lies between the edges if it lies neither below the lower one nor above the upper one.
abbrev pub Between : Band → ℤ → Type 0
Between b v = (b.lower ≤ℤ v) × (v ≤ℤ b.upper)

-- A sound band is one that edges can have: in order, and within ±200,000,000.
abbrev pub Sound : Band → Type 0
Sound b = (b.lower ≤ℤ b.upper) × (neg_ℤ (pos gas_limit) ≤ℤ b.lower) × (b.upper ≤ℤ pos gas_limit)

-- The band whose edges are both 0.
abbrev pub zero_band : Band
zero_band = record { lower = pos 0; upper = pos 0 }
