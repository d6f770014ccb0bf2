-- What is made of an answer that may be a lack: a lack stays as it is.
use Rattle.std.specs.Prelude.{ℕ, Ok, Err, Result}
use Rattle.prices.specs.declared.source.Lack.{Lack}

abbrev pub over : {X : Type 0} → (X → ℕ) → Result X Lack → Result ℕ Lack
over f (Ok x) = Ok (f x)
over f (Err l) = Err l
