-- What the ledgers of the zones are made of.
use Rattle.std.specs.Prelude.{◌≡◌, ℕ, ◌<◌, ◌≤◌, Bool, false, ◌&&◌, List, length}
use Rattle.balancing.specs.Rules.{north_band, egd_band}
use Rattle.calls.specs.declared.refusal.Refusal.TheVariants.{OutOfRange}
use Rattle.book.specs.Allowances.{Allowances, allowed}
use Rattle.book.specs.Meanings.{Meaning, meaning_of}
use Rattle.prices.specs.Ends.{is_daily, is_monthly}
use Rattle.prices.specs.Limits.{price_limit}
use Rattle.zones.specs.declared.not_made.NotMade.{NotMade}
use Rattle.zones.specs.declared.not_made.NotMade.TheVariants.{Refused, NoMemory}
use Rattle.zones.specs.Sources.{overrun_quote, shortage_quote, excess_quote, north_quote}

-- North: both edges are 0, and the reference price is the price of all three sources.
abbrev pub north_means : ℕ → Meaning
north_means price = meaning_of north_band (north_quote price) (north_quote price) (north_quote price)

-- 500,000 may be suspended on a day at each point.
abbrev pub north_allowance : ℕ
north_allowance = 500000

abbrev pub north_allowances : Allowances
north_allowances = record { western = north_allowance; dawn = north_allowance; ontario = north_allowance }

-- It is not made if the price is above 10,000,000, which is refused, or if memory is wanting.
abbrev pub NorthUnmade : ℕ → NotMade → Type 0
NorthUnmade price (Refused r) = (r ≡ OutOfRange) × (price_limit < price)
NorthUnmade price NoMemory = price ≤ price_limit

-- EGD: its edges, its overrun price from the daily highs, and its shortage and excess prices from the monthly index.
abbrev pub egd_means : ℕ → List ℕ → List ℕ → Meaning
egd_means start highs index =
    meaning_of egd_band (overrun_quote start highs) (shortage_quote index) (excess_quote index)

-- The figures of its sources are in range.
abbrev pub egd_sources : ℕ → List ℕ → List ℕ → Bool
egd_sources start highs index = is_daily start (length highs) && is_monthly (length index)

-- All its figures are in range: the starting day, both lists, and the allowances.
abbrev pub egd_makes : ℕ → List ℕ → List ℕ → Allowances → Bool
egd_makes start highs index allowances = egd_sources start highs index && allowed allowances

-- A zone or a ledger is not made if a figure is out of range, which is refused, or if memory is wanting.
abbrev pub EgdZoneUnmade : ℕ → List ℕ → List ℕ → NotMade → Type 0
EgdZoneUnmade start highs index (Refused r) = (r ≡ OutOfRange) × (egd_sources start highs index ≡ false)
EgdZoneUnmade start highs index NoMemory = Unit {0}

abbrev pub EgdUnmade : ℕ → List ℕ → List ℕ → Allowances → NotMade → Type 0
EgdUnmade start highs index allowances (Refused r) = (r ≡ OutOfRange) × (egd_makes start highs index allowances ≡ false)
EgdUnmade start highs index allowances NoMemory = Unit {0}
