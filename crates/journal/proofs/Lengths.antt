-- How many words an answer has: two, and eighteen for a statement of a term that is there.
use Rattle.std.proofs.Common.{◌≡◌, ℕ, ◌*◌, true, false, List, [], ◌∷◌, length, ℤ, Some, None, Option, refl, arith}
use Rattle.calls.specs.declared.call.Call.{Call}
use Rattle.calls.specs.declared.call.Call.TheVariants.{Day, Open, Post, Statement}
use Rattle.calls.specs.declared.refusal.Refusal.{Refusal}
use Rattle.book.specs.Accounts.{missing, account_at}
use Rattle.book.specs.Day.{day_ruling}
use Rattle.book.specs.Meanings.{Meaning}
use Rattle.book.specs.Open.{open_ruling}
use Rattle.book.specs.Post.{post_ruling}
use Rattle.book.specs.Rulings.{Ruling, figure, first_of, decided, outcome}
use Rattle.book.specs.State.{State}
use Rattle.book.specs.Statement.{statement_ruling}
use Rattle.book.specs.Step.{step}
use Rattle.answers.specs.Writing.{answer_words, lines_words}

two_each : (xs : List ℤ) → length (lines_words xs) ≡ 2 * length xs
two_each [] = refl
two_each (x ∷ xs) = omega (arith, two_each xs)

pub statement_short : (s : State) (n : ℕ) → missing s.accounts n ≡ true
    → 2 ≡ length (answer_words (outcome s (statement_ruling s n)).answer)
statement_short s n h = rw h refl

pub statement_long : (s : State) (n : ℕ) → missing s.accounts n ≡ false → length (account_at s.accounts n).lines ≡ 5
    → 18 ≡ length (answer_words (outcome s (statement_ruling s n)).answer)
statement_long s n h five = rw h (omega (arith, two_each (account_at s.accounts n).lines, five))

-- a ruling that replies with a figure is answered by two words, refused or done
decided_two : (s : State) (r : Ruling) (n : ℕ) (o : Option Refusal) → r.reply ≡ figure n
    → 2 ≡ length (answer_words (decided s r o).answer)
decided_two s r n (Some e) k = refl
decided_two s r n None k = rw k refl

figure_two : (s : State) (r : Ruling) (n : ℕ) → r.reply ≡ figure n → 2 ≡ length (answer_words (outcome s r).answer)
figure_two s r n k = decided_two s r n (first_of r.refusals) k

-- so is every call that is no statement
pub call_short : (m : Meaning) (s : State) (call : Call) → ((n : ℕ) → call ≡ Statement n → ⊥)
    → 2 ≡ length (answer_words (step m s call).answer)
call_short m s Day h = figure_two s (day_ruling s) _ refl
call_short m s (Open o) h = figure_two s (open_ruling s o) _ refl
call_short m s (Post p) h = figure_two s (post_ruling m.overrun s p) _ refl
call_short m s (Statement n) h = absurd (h n refl)
