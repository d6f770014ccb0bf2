-- The limits of the two kinds of amount.
use Rattle.std.specs.Prelude.{ℕ}

-- Gas: 200,000,000 m³, above 0 or below it.
abbrev pub gas_limit : ℕ
gas_limit = 200000000

-- A charge line: 100,000,000 dollars in micros, owed or owing.
abbrev pub charge_limit : ℕ
charge_limit = 100000000000000
