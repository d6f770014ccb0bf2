-- A row has as many words as it says.
use Rattle.std.proofs.Common.{◌≡◌, ℕ, length, arith}
use Rattle.std.proofs.lemmas.List.{length-take-le}
use Rattle.words.specs.WordRows.{listed}
use Rattle.words.specs.declared.row.WordRow.{WordRow}

pub listed_long : {n : ℕ} (r : WordRow n) → length (listed r) ≡ r.len
listed_long r = length-take-le r.len r.words (omega (arith, r.within, r.long))
