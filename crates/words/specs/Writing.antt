-- Writing calls as words.
use Rattle.std.specs.Prelude.{ℕ, Bool, List, [], ◌∷◌, nat_lt}
use Rattle.std.specs.List.{list_all}
use Rattle.std.specs.Option.{unwrap_or}
use Rattle.calls.specs.declared.call.Call.{Call}
use Rattle.words.specs.Kinds.{word}
use Rattle.words.specs.Shapes.{shape_of, call_number, figures_of}
use Rattle.words.specs.declared.kind.Kind.{Kind}
use Rattle.words.specs.declared.kind.Kind.TheVariants as kind

-- Figures as words of these kinds.
abbrev pub figure_words : List Kind → List ℕ → List ℕ
figure_words [] vs = []
figure_words (k ∷ ks) [] = []
figure_words (k ∷ ks) (v ∷ vs) = word k v ∷ figure_words ks vs

-- A call's words: its call word, then its figures in the order of its shape.
abbrev pub call_words : Call → List ℕ
call_words c = word kind.Call (call_number c) ∷ figure_words (unwrap_or (shape_of (call_number c)) []) (figures_of c)

-- Every figure fits 28 bits.
abbrev pub fit : List ℕ → Bool
fit = list_all (λ v. nat_lt v 268435456)
