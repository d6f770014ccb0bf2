-- The numbers of a term's statuses.
use Rattle.std.specs.Prelude.{ℕ, cond, List, codes, Some, None, Option, ◌==◌}
use Rattle.calls.specs.declared.status.Status.{Status}
use Rattle.calls.specs.declared.status.Status.TheVariants.{Waiting, Active, Expired}

abbrev pub status_number : Status → ℕ
status_number Waiting = 0
status_number Active = 1
status_number Expired = 2

abbrev pub status_at : ℕ → Option Status
status_at n = cond (n == 0) (Some Waiting) (cond (n == 1) (Some Active) (cond (n == 2) (Some Expired) None))

-- A status is written as its name.
abbrev pub status_name : Status → List ℕ
status_name Waiting = codes "waiting"
status_name Active = codes "active"
status_name Expired = codes "expired"
