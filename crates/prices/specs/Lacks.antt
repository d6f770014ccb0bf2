-- What is written of a lack.
use Rattle.std.specs.Prelude.{ℕ, List, ◌++◌, codes, decimal}
use Rattle.prices.specs.declared.source.Lack.{Lack}

-- A lack is written with its day.
abbrev pub lack_text : Lack → List ℕ
lack_text l = codes "no price for day " ++ decimal l.day
