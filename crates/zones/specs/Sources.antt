-- The price sources of the zones, in the figures that they are made of.
use Rattle.std.specs.Prelude.{ℕ, ◌-◌, List, pos, neg_ℤ, Ok}
use Rattle.prices.specs.Ends.{daily_quote, monthly_quote}
use Rattle.prices.specs.Layers.{Tolls, shared, tolled}
use Rattle.prices.specs.Quotes.{Quote}

-- EGD's two tolls.
abbrev pub toll_a : ℕ
toll_a = 58071

abbrev pub toll_d : ℕ
toll_d = 9420

-- EGD's overrun price is 150 per cent of the mean of the daily highs.
abbrev pub overrun_quote : ℕ → List ℕ → Quote
overrun_quote start highs = shared 150 (daily_quote start highs)

-- EGD's shortage price is 120 per cent of the mean of the monthly index, and then the toll: 0, A − D and A.
abbrev pub shortage_tolls : Tolls
shortage_tolls = record { western = pos 0; dawn = pos (toll_a - toll_d); ontario = pos toll_a }

abbrev pub shortage_quote : List ℕ → Quote
shortage_quote index = tolled shortage_tolls (shared 120 (monthly_quote index))

-- EGD's excess price is 80 per cent of the mean of the monthly index, and then the toll: −A, −D and 0.
abbrev pub excess_tolls : Tolls
excess_tolls = record { western = neg_ℤ (pos toll_a); dawn = neg_ℤ (pos toll_d); ontario = pos 0 }

abbrev pub excess_quote : List ℕ → Quote
excess_quote index = tolled excess_tolls (shared 80 (monthly_quote index))

-- North has one price, its reference price, for overrun, shortage and excess.
abbrev pub north_quote : ℕ → Quote
north_quote price = λ point from to. Ok price
