-- What holds of every answer that a ledger gives.
use Rattle.std.specs.Prelude.{◌≡◌, true}
use Rattle.calls.specs.declared.call.Call.{Call}
use Rattle.book.specs.Meanings.{Meaning}
use Rattle.book.specs.Step.{step}
use Rattle.prices.specs.Quotes.{FairQuote}
use Rattle.tables.specs.View.{view}
use Rattle.tables.specs.declared.tables.Tables.{Tables}
use Rattle.answers.specs.Answers.{answer_fits}

-- Every answer is one that its call can have, and its figures fit 28 bits: written as words and read back beside its
-- call, it is the same answer.
abbrev pub AnswersFit : Type 0
AnswersFit = (t : Tables) (m : Meaning) → FairQuote m.overrun → (c : Call)
    → answer_fits c (step m (view t) c).answer ≡ true
