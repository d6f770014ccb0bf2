-- Adding a row to another place by place: the first places added so far, and the limit.
use Rattle.std.proofs.Common.{◌≡◌, ℕ, zero, suc, ◌+◌, ◌<◌, ◌≤◌, true, false, leb, List, [], ◌∷◌, length, get_or}
use Rattle.std.proofs.Common.{set, ℤ, ◌+ℤ◌, nat_abs, refl, ap, le_of_suc-le-suc, not-suc-le-zero, add-one}
use Rattle.std.proofs.lemmas.Bool.{lt-leb, and_left, and_right, and_parts, and_from}
use Rattle.amounts.specs.Rows.{within, sums}

-- the first i places are added, and the others are as they were
abbrev pub so_far : ℕ → List ℤ → List ℤ → List ℤ
so_far zero xs ys = xs
so_far (suc i) [] ys = []
so_far (suc i) (x ∷ xs) [] = x ∷ xs
so_far (suc i) (x ∷ xs) (y ∷ ys) = (x +ℤ y) ∷ so_far i xs ys

pub so_far_at : (i : ℕ) (xs ys : List ℤ) (d : ℤ) → get_or (so_far i xs ys) i d ≡ get_or xs i d
so_far_at zero xs ys d = refl
so_far_at (suc i) [] ys d = refl
so_far_at (suc i) (x ∷ xs) [] d = refl
so_far_at (suc i) (x ∷ xs) (y ∷ ys) d = so_far_at i xs ys d

more : (i : ℕ) (xs ys : List ℤ) (d : ℤ) → i < length xs → i < length ys
    → set (so_far i xs ys) i (get_or xs i d +ℤ get_or ys i d) ≡ so_far (suc i) xs ys
more i [] ys d h k = absurd (not-suc-le-zero h)
more i (x ∷ xs) [] d h k = absurd (not-suc-le-zero k)
more zero (x ∷ xs) (y ∷ ys) d h k = refl
more (suc i) (x ∷ xs) (y ∷ ys) d h k =
    ap (λ zs. (x +ℤ y) ∷ zs) (more i xs ys d (le_of_suc-le-suc h) (le_of_suc-le-suc k))

pub so_far_more : (i : ℕ) (xs ys : List ℤ) (d : ℤ) → i < length xs → i < length ys
    → set (so_far i xs ys) i (get_or xs i d +ℤ get_or ys i d) ≡ so_far (i + 1) xs ys
so_far_more i xs ys d h k = rw add-one (more i xs ys d h k)

pub so_far_all : (i : ℕ) (xs ys : List ℤ) → length xs ≤ i → so_far i xs ys ≡ sums xs ys
so_far_all zero [] ys h = refl
so_far_all zero (x ∷ xs) ys h = absurd (not-suc-le-zero h)
so_far_all (suc i) [] ys h = refl
so_far_all (suc i) (x ∷ xs) [] h = refl
so_far_all (suc i) (x ∷ xs) (y ∷ ys) h = ap (λ zs. (x +ℤ y) ∷ zs) (so_far_all i xs ys (le_of_suc-le-suc h))

pub within_set : (l : ℕ) (xs : List ℤ) (i : ℕ) (v : ℤ) → within l xs ≡ true → leb (nat_abs v) l ≡ true
    → within l (set xs i v) ≡ true
within_set l [] i v h k = refl
within_set l (x ∷ xs) zero v h k = and_from (leb (nat_abs v) l) (within l xs) k
    (and_parts (leb (nat_abs x) l) (within l xs) h).1
within_set l (x ∷ xs) (suc i) v h k =
    let p = and_parts (leb (nat_abs x) l) (within l xs) h in
    and_from (leb (nat_abs x) l) (within l (set xs i v)) p.0 (within_set l xs i v p.1 k)

-- one place past the limit, and the sum is not within it
pub within_fails : (l i : ℕ) (xs ys : List ℤ) (d : ℤ) → i < length xs → i < length ys
    → l < nat_abs (get_or xs i d +ℤ get_or ys i d) → within l (sums xs ys) ≡ false
within_fails l i [] ys d h k f = absurd (not-suc-le-zero h)
within_fails l i (x ∷ xs) [] d h k f = absurd (not-suc-le-zero k)
within_fails l zero (x ∷ xs) (y ∷ ys) d h k f =
    and_left (leb (nat_abs (x +ℤ y)) l) (within l (sums xs ys)) (lt-leb (nat_abs (x +ℤ y)) l f)
within_fails l (suc i) (x ∷ xs) (y ∷ ys) d h k f =
    and_right (leb (nat_abs (x +ℤ y)) l) (within l (sums xs ys))
    (within_fails l i xs ys d (le_of_suc-le-suc h) (le_of_suc-le-suc k) f)
