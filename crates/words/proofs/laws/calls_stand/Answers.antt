use Rattle.words.proofs.Codec.{call_returns}
use Rattle.words.proofs.Returns.{calls_return}
use Rattle.words.proofs.laws.calls_stand.Goals as goal

pub returns : goal.returns
returns c = record { call = call_returns; calls = calls_return }
