-- Little-endian words: four bytes a word, the lowest first.
use Rattle.std.specs.Prelude.{ℕ, ◌+◌, ◌*◌, ◌/◌, ◌%◌, List, [], ◌∷◌, ◌++◌}

abbrev pub little : ℕ → ℕ → ℕ → ℕ → ℕ
little a b c d = a + 256 * b + 65536 * c + 16777216 * d

-- A last word that is cut short counts, as a word of no kind.
abbrev pub words_of : List ℕ → List ℕ
words_of [] = []
words_of (a ∷ []) = 0 ∷ []
words_of (a ∷ (b ∷ [])) = 0 ∷ []
words_of (a ∷ (b ∷ (c ∷ []))) = 0 ∷ []
words_of (a ∷ (b ∷ (c ∷ (d ∷ rest)))) = little a b c d ∷ words_of rest

abbrev pub four : ℕ → List ℕ
four w = w % 256 ∷ w / 256 % 256 ∷ w / 65536 % 256 ∷ w / 16777216 ∷ []

abbrev pub packed : List ℕ → List ℕ
packed [] = []
packed (w ∷ ws) = four w ++ packed ws
