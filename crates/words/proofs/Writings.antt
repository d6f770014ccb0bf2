-- Writing figures one by one.
use Rattle.std.proofs.Common.{◌≡◌, ◌⊎◌, ℕ, List, [], ◌∷◌, length, unwrap_or, refl, arith}
use Rattle.calls.specs.declared.call.Call.{Call}
use Rattle.calls.specs.declared.call.Call.TheVariants.{Day, Open, Post, Statement}
use Rattle.words.specs.Shapes.{shape_of, call_number, figures_of}
use Rattle.words.specs.Writing.{figure_words}
use Rattle.words.specs.declared.kind.Kind.{Kind}

-- where no kind or no figure is left, no word is
pub none_left : (ks : List Kind) (vs : List ℕ) → (length ks ≡ 0) ⊎ (length vs ≡ 0) → figure_words ks vs ≡ []
none_left [] vs h = refl
none_left (k ∷ ks) [] h = refl
none_left (k ∷ ks) (v ∷ vs) h = absurd (omega (arith, h))

-- a call has as many figures as its shape has kinds
pub shape_long : (c : Call) → length (unwrap_or (shape_of (call_number c)) []) ≡ length (figures_of c)
shape_long Day = refl
shape_long (Open o) = refl
shape_long (Post p) = refl
shape_long (Statement term) = refl
