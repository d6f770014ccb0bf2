-- What a ledger may be made with.
use Rattle.std.specs.Prelude.{◌≡◌, true, false}
use Rattle.calls.specs.declared.refusal.Refusal.TheVariants.{OutOfRange}
use Rattle.book.specs.Allowances.{Allowances, allowed}
use Rattle.zones.specs.declared.not_made.NotMade.{NotMade}
use Rattle.zones.specs.declared.not_made.NotMade.TheVariants.{Refused, NoMemory}

-- A ledger is not made if an allowance is too large, which is refused, or if memory is wanting.
abbrev pub Unmade : Allowances → NotMade → Type 0
Unmade allowances (Refused r) = (r ≡ OutOfRange) × (allowed allowances ≡ false)
Unmade allowances NoMemory = allowed allowances ≡ true
