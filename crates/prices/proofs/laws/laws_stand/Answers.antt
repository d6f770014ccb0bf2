-- Each law and the worked figures, by its lemma.
use Rattle.prices.proofs.Standing.{one_day, daily_lacks, monthly_lacks, share_lacks, toll_lacks}
use Rattle.prices.proofs.Worked.{worked_prices}
use Rattle.prices.proofs.laws.laws_stand.Goals as goal

pub returns : goal.returns
returns c =
    record {
      one_day = one_day;
      daily_lacks = daily_lacks;
      monthly_lacks = monthly_lacks;
      share_lacks = share_lacks;
      toll_lacks = toll_lacks;
      worked = worked_prices;
    }
