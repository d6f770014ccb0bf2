use Rattle.words.proofs.Returns.{words_return, stops_are_exact}
use Rattle.words.proofs.laws.journals_stand.Goals as goal

pub returns : goal.returns
returns c = record { words = words_return; stops = stops_are_exact }
