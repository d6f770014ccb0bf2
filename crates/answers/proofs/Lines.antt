-- Writing a statement's lines, two words at a time.
use Rattle.std.proofs.Common.{◌≡◌, ℕ, ◌+◌, ◌<◌, List, [], ◌∷◌, ◌++◌, length, get_or, take, ℤ, pos, sym, refl, ap, ◌∙◌}
use Rattle.std.proofs.lemmas.List.{append_assoc, take_more}
use Rattle.answers.specs.Writing.{line_words, lines_words}

lines_push : (xs : List ℤ) (x : ℤ) → lines_words (xs ++ x ∷ []) ≡ lines_words xs ++ line_words x
lines_push [] x = refl
lines_push (y ∷ ys) x = ap (λ s. line_words y ++ s) (lines_push ys x)

-- one more line behind the words so far
pub line_more : (ws front : List ℕ) (xs : List ℤ) (i : ℕ) → i < length xs → ws ≡ front ++ lines_words (take i xs)
    → (a b : ℕ) → a ∷ b ∷ [] ≡ line_words (get_or xs i (pos 0))
    → (ws ++ a ∷ []) ++ b ∷ [] ≡ front ++ lines_words (take (i + 1) xs)
line_more ws front xs i h so_far a b e =
    append_assoc ws (a ∷ []) (b ∷ [])
    ∙ ap (λ s. s ++ a ∷ b ∷ []) so_far
    ∙ append_assoc front (lines_words (take i xs)) (a ∷ b ∷ [])
    ∙ ap (λ s. front ++ (lines_words (take i xs) ++ s)) e
    ∙ ap (λ s. front ++ s)
    (sym (ap lines_words (take_more xs i (pos 0) h) ∙ lines_push (take i xs) (get_or xs i (pos 0))))
