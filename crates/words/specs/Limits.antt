-- The limits of words.
use Rattle.std.specs.Prelude.{ℕ}

-- A journal has at most 8,192 words, and so has an answer memory that a program makes.
abbrev pub journal_words : ℕ
journal_words = 8192

-- A word's value is below 2 ^ 28.
abbrev pub value_count : ℕ
value_count = 268435456
