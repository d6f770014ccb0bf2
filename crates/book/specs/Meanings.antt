-- What a rate zone means to the book: a band for a term's MDV and days, and three price sources.
use Rattle.std.specs.Prelude.{◌≡◌, ℕ, false}
use Rattle.balancing.specs.Bands.{Band, Sound, zero_band}
use Rattle.balancing.specs.Terms.{is_term}
use Rattle.prices.specs.Quotes.{Quote, FairQuote}

pub record Meaning : Type 0 where
  pub band : ℕ → ℕ → Band
  pub overrun : Quote
  pub shortage : Quote
  pub excess : Quote

abbrev pub meaning_of : (ℕ → ℕ → Band) → Quote → Quote → Quote → Meaning
meaning_of band overrun shortage excess =
    record { band = band; overrun = overrun; shortage = shortage; excess = excess }

-- A meaning is lawful if its bands are edges in order, within the limit of gas, and both 0 outside a term's ranges, and
-- if its three sources are fair.
pub record Lawful (m : Meaning) : Type 0 where
  pub sound : (mdv days : ℕ) → Sound (m.band mdv days)
  pub outside : (mdv days : ℕ) → is_term mdv days ≡ false → m.band mdv days ≡ zero_band
  pub overrun : FairQuote m.overrun
  pub shortage : FairQuote m.shortage
  pub excess : FairQuote m.excess
