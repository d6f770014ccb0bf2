-- Rows of words.
use Rattle.std.specs.Prelude.{ℕ, List, take}
use Rattle.words.specs.declared.row.WordRow.{WordRow}

-- A row's words, in order.
abbrev pub listed : {n : ℕ} → WordRow n → List ℕ
listed r = take r.len r.words
