-- What holds of every answer and of all words.
use Rattle.std.specs.Prelude.{◌≡◌, ℕ, true, List, ◌++◌, length, Ok}
use Rattle.calls.specs.declared.call.Answer.{Answer}
use Rattle.calls.specs.declared.call.Call.{Call}
use Rattle.answers.specs.Answers.{read_answer, read_answers, answers_words, answer_fits, answers_fit, answer_count}
use Rattle.answers.specs.Writing.{answer_words}
use Rattle.words.specs.Journal.{whole}

-- An answer's words are two, or eighteen for a statement.
abbrev pub AnswersAreCounted : Type 0
AnswersAreCounted = (c : Call) (a : Answer) → answer_fits c a ≡ true → length (answer_words a) ≡ answer_count a

-- An answer that its call can have and whose figures fit, written and read back, is the same answer, whatever words
-- follow.
abbrev pub AnswerReturns : Type 0
AnswerReturns = (c : Call) (a : Answer) (ws : List ℕ) → answer_fits c a ≡ true
    → read_answer c (answer_words a ++ ws) ≡ Ok (a, length (answer_words a))

-- Such answers beside their calls, written and read back, are the same answers.
abbrev pub AnswersReturn : Type 0
AnswersReturn = (cs : List Call) (rs : List Answer) → answers_fit cs rs ≡ true
    → read_answers cs (answers_words rs) ≡ whole rs

-- Words that are read to the end as answers are the writing of these answers.
abbrev pub AnswerWordsReturn : Type 0
AnswerWordsReturn = (cs : List Call) (ws : List ℕ) (rs : List Answer) → read_answers cs ws ≡ whole rs
    → answers_words rs ≡ ws
