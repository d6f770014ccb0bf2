-- Volumes at a price that may be lacking.
use Rattle.std.specs.Prelude.{ℕ, ◌*◌, Ok, Err, Result}
use Rattle.prices.specs.declared.source.Lack.{Lack}

-- the volume at the price
abbrev pub priced : ℕ → Result ℕ Lack → Result ℕ Lack
priced volume (Ok price) = Ok (volume * price)
priced volume (Err lack) = Err lack

-- the sum, and 0 where the price is lacking
abbrev pub micros : Result ℕ Lack → ℕ
micros (Ok m) = m
micros (Err lack) = 0

-- the lack, where there is one
abbrev pub lack_in : Result ℕ Lack → Lack
lack_in (Ok m) = record { day = 0 }
lack_in (Err lack) = lack
