-- The shape table: for each call its number and the kinds of its arguments, in their order.
use Rattle.std.specs.Prelude.{ℕ, cond, List, [], ◌∷◌, Some, None, Option, ◌==◌}
use Rattle.calls.specs.declared.call.Call.{Call}
use Rattle.calls.specs.declared.call.Call.TheVariants.{Day, Open, Post, Statement}
use Rattle.words.specs.declared.kind.Kind.{Kind}
use Rattle.words.specs.declared.kind.Kind.TheVariants as kind

-- day, open, post, statement
abbrev pub shapes : List (ℕ × List Kind)
shapes =
    (1, [])
    ∷ (2, kind.Number ∷ kind.Point ∷ kind.Volume ∷ kind.Day ∷ kind.Day ∷ [])
    ∷ (3, kind.Number ∷ kind.Volume ∷ kind.Volume ∷ [])
    ∷ (10, kind.Number ∷ [])
    ∷ []

abbrev pub shape_in : List (ℕ × List Kind) → ℕ → Option (List Kind)
shape_in [] n = None
shape_in (s ∷ ss) n = cond (s.0 == n) (Some s.1) (shape_in ss n)

abbrev pub shape_of : ℕ → Option (List Kind)
shape_of n = shape_in shapes n

-- A call's number and its figures, in the order of its shape.
abbrev pub call_number : Call → ℕ
call_number Day = 1
call_number (Open o) = 2
call_number (Post p) = 3
call_number (Statement term) = 10

abbrev pub figures_of : Call → List ℕ
figures_of Day = []
figures_of (Open o) = o.pool ∷ o.point ∷ o.mdv ∷ o.first ∷ o.last ∷ []
figures_of (Post p) = p.term ∷ p.delivered ∷ p.consumed ∷ []
figures_of (Statement term) = term ∷ []
