use Rattle.tables.specs.View.{view}
use Rattle.journal.proofs.Lengths.{call_short}
use Rattle.journal.proofs.memory.answer_len.Goals as goal

pub returns-in_default : goal.returns-in_default
returns-in_default g c = λ m. call_short m (view c.args.ledger.now.tables) c.args.call.now c.in_default.not-Statement
