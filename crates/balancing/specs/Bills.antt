-- The split of a balance into the volume that is carried and the volume that is billed.
use Rattle.std.specs.Prelude.{◌≡◌, ◌<◌, ◌≤◌, cond, ◌≢◌, ℤ, ◌+ℤ◌, ◌-ℤ◌, int_lt, unsigned_abs}
use Rattle.balancing.specs.Bands.{Band, Between}

-- Carried is the balance, or the nearer edge where the balance lies outside.
abbrev pub carried_of : Band → ℤ → ℤ
carried_of b balance = cond (int_lt balance b.lower) b.lower (cond (int_lt b.upper balance) b.upper balance)

-- Billed is the balance less what is carried.
abbrev pub billed_of : Band → ℤ → ℤ
billed_of b balance = balance -ℤ carried_of b balance

-- Of the volumes that, billed, would bring the balance between the edges, none is smaller in size than this one, and
-- every other is larger.
abbrev pub LeastBill : Band → ℤ → ℤ → Type 0
LeastBill b balance billed =
    (v : ℤ) → Between b (balance -ℤ v) → (unsigned_abs billed ≤ unsigned_abs v)
    × (v ≢ billed → unsigned_abs billed < unsigned_abs v)

-- The volumes carried and billed are the split of the balance: those of the definitions above, and
-- what is carried lies between the edges, carried plus billed is the balance, and no other bill would be as small.
pub record Split (b : Band) (balance carried billed : ℤ) : Type 0 where
  pub carries : carried ≡ carried_of b balance
  pub bills : billed ≡ billed_of b balance
  pub between : Between b carried
  pub whole : carried +ℤ billed ≡ balance
  pub least : LeastBill b balance billed
