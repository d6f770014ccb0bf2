use Rattle.journal.proofs.Fits.{answers_fit_words}
use Rattle.journal.proofs.laws.answers_stand.Goals as goal

pub returns : goal.returns
returns c = answers_fit_words
