-- How far in a stop stands: among the words that there are, or just past them.
use Rattle.std.proofs.Common.{◌≡◌, ℕ, suc, ◌≤◌, eqb, List, [], ◌∷◌, length, Some}
use Rattle.std.proofs.Common.{None, Ok, Err, Option, Result, subst, arith}
use Rattle.std.proofs.lemmas.Bool.{cond_both}
use Rattle.words.specs.Kinds.{kind_in, kind_number, value_in}
use Rattle.words.specs.Reading.{read_figures, further, called, with_shape, read_call}
use Rattle.words.specs.Shapes.{shape_of}
use Rattle.words.specs.declared.kind.Kind.{Kind}

-- a stop at most so far in
abbrev Near : {A : Type 0} → ℕ → Result A ℕ → Type 0
Near n (Ok x) = Unit {0}
Near n (Err at) = at ≤ n

further_near : (n v : ℕ) (r : Result (List ℕ) ℕ) → Near n r → Near (suc n) (further r v)
further_near n v (Ok vs) h = tt
further_near n v (Err at) h = omega arith

figures_near : (ks : List Kind) (ws : List ℕ) → Near (length ws) (read_figures ks ws)
figures_near [] ws = tt
figures_near (k ∷ ks) [] = omega arith
figures_near (k ∷ ks) (w ∷ ws) =
    cond_both (eqb (kind_in w) (kind_number k)) _ _ (Near (suc (length ws)))
    (λ _. further_near (length ws) (value_in w) (read_figures ks ws) (figures_near ks ws)) (λ _. omega arith)

called_near : (n k : ℕ) (r : Result (List ℕ) ℕ) → Near n r → Near (suc n) (called k r)
called_near n k (Ok vs) h = tt
called_near n k (Err at) h = omega arith

shape_near : (k : ℕ) (o : Option (List Kind)) (ws : List ℕ) → Near (suc (length ws)) (with_shape k o ws)
shape_near k None ws = omega arith
shape_near k (Some ks) ws = called_near (length ws) k (read_figures ks ws) (figures_near ks ws)

read_near : (ws : List ℕ) → Near (length ws) (read_call ws)
read_near [] = omega arith
read_near (w ∷ ws) = cond_both (eqb (kind_in w) 1) _ _ (Near (suc (length ws)))
    (λ _. shape_near (value_in w) (shape_of (value_in w)) ws) (λ _. omega arith)

pub stop_near : (ws : List ℕ) (off : ℕ) → read_call ws ≡ Err off → off ≤ length ws
stop_near ws off e = subst (Near (length ws)) e (read_near ws)
