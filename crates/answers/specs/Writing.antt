-- Writing answers as words.
use Rattle.std.specs.Prelude.{ℕ, suc, ◌/◌, ◌%◌, cond, List, []}
use Rattle.std.specs.Prelude.{◌∷◌, ◌++◌, ℤ, pos, negsuc, nat_lt, unsigned_abs}
use Rattle.calls.specs.Refusals.{number_of, lacking_day}
use Rattle.calls.specs.Statuses.{status_number}
use Rattle.calls.specs.declared.call.Answer.{Answer}
use Rattle.calls.specs.declared.call.Answer.TheVariants.{Done, Stated, Refused}
use Rattle.calls.specs.declared.call.StatedTerm.{StatedTerm}
use Rattle.words.specs.Kinds.{word}
use Rattle.words.specs.declared.kind.Kind.TheVariants as kind

-- A signed figure: 0 or more by kind 6, below 0 by its size by kind 7.
abbrev pub signed_word : ℤ → ℕ
signed_word (pos n) = word kind.Figure n
signed_word (negsuc n) = word kind.Below (suc n)

-- A line in two words, its size over 100,000,000 and the rest, each with the line's sign; a zero word is of kind 6.
abbrev pub part_word : ℤ → ℕ → ℕ
part_word (pos n) part = word kind.Figure part
part_word (negsuc n) part = cond (nat_lt 0 part) (word kind.Below part) (word kind.Figure 0)

abbrev pub line_words : ℤ → List ℕ
line_words x = part_word x (unsigned_abs x / 100000000) ∷ part_word x (unsigned_abs x % 100000000) ∷ []

abbrev pub lines_words : List ℤ → List ℕ
lines_words [] = []
lines_words (x ∷ xs) = line_words x ++ lines_words xs

-- A statement's sixteen words: term, pool, status, next unposted day, balance, gas on offer, and five lines of two.
abbrev pub statement_words : StatedTerm → List ℕ
statement_words s =
    word kind.Number s.term
    ∷ word kind.Number s.pool
    ∷ word kind.Status (status_number s.status)
    ∷ word kind.Day s.next
    ∷ signed_word s.balance
    ∷ word kind.Volume s.on_offer
    ∷ lines_words s.lines

-- A call answers two words: done with its answer and 0, or refused with its number and the lacking day.
-- A statement's words follow its own two.
abbrev pub answer_words : Answer → List ℕ
answer_words (Done n) = word kind.Done n ∷ word kind.Figure 0 ∷ []
answer_words (Stated s) = word kind.Done 0 ∷ word kind.Figure 0 ∷ statement_words s
answer_words (Refused r) = word kind.Refused (number_of r) ∷ word kind.Figure (lacking_day r) ∷ []
