use Rattle.std.proofs.lemmas.Result.{MatchResult-weaker}
use Rattle.ledger.proofs.northern.north_ledger.Goals as goal

pub returns-clause-means : goal.returns-clause-means
returns-clause-means c =
    MatchResult-weaker c.new.result c.new.ensures (λ l made. rw made.2 c.in_ok-zone.ensures.means) (λ e h. tt)
