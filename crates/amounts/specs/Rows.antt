-- Rows of whole numbers under a limit.
use Rattle.std.specs.Prelude.{ℕ, Bool, true, ◌&&◌, List, [], ◌∷◌, ℤ, ◌+ℤ◌, nat_le, unsigned_abs}

-- Every number of the row lies between minus the limit and the limit.
abbrev pub within : ℕ → List ℤ → Bool
within limit [] = true
within limit (x ∷ xs) = nat_le (unsigned_abs x) limit && within limit xs

-- Addition goes place by place.
abbrev pub sums : List ℤ → List ℤ → List ℤ
sums [] ys = []
sums (x ∷ xs) [] = x ∷ xs
sums (x ∷ xs) (y ∷ ys) = (x +ℤ y) ∷ sums xs ys
