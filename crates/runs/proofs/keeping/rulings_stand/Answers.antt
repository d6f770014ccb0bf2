use Rattle.runs.proofs.Kept.{rulings_keep}
use Rattle.runs.proofs.keeping.rulings_stand.Goals as goal

pub returns : goal.returns
returns c = rulings_keep
