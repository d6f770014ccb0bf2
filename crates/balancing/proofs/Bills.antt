-- The laws of the split, for every band and every balance.
use Rattle.std.proofs.Common.{◌≡◌, ℤ, ◌-ℤ◌, ◌≤ℤ◌, sym, ap, ◌∙◌, subst, arith}
use Rattle.std.proofs.lemmas.Int.{ints}
use Rattle.balancing.specs.Bands.{Band, Between}
use Rattle.balancing.specs.Bills.{carried_of, billed_of, LeastBill, Split}

-- What is carried lies between the edges.
pub between : (b : Band) (balance : ℤ) → b.lower ≤ℤ b.upper → Between b (carried_of b balance)
between b balance ordered = (grind (arith, ints), grind (arith, ints))

-- What is billed is the least volume that brings the balance between the edges.
pub least : (b : Band) (balance : ℤ) → LeastBill b balance (billed_of b balance)
least b balance v h = (grind (arith, ints), λ other. grind (arith, ints))

-- The volume carried and the rest of the balance are its split.
pub splits : (b : Band) (balance carried billed : ℤ) → b.lower ≤ℤ b.upper → carried ≡ carried_of b balance
    → billed ≡ balance -ℤ carried → Split b balance carried billed
splits b balance carried billed ordered k r =
    let bills : billed ≡ billed_of b balance = r ∙ ap (λ v. balance -ℤ v) k in
    record {
      carries = k;
      bills = bills;
      between = subst (Between b) (sym k) (between b balance ordered);
      whole = omega (arith, ints);
      least = subst (LeastBill b balance) (sym bills) (least b balance);
    }

-- The split of a balance by a band is that of an equal balance by an equal band.
pub split_same : {b d : Band} {x y carried billed : ℤ} → b ≡ d → x ≡ y → Split b x carried billed
    → Split d y carried billed
split_same {d = d} {x = x} {carried = carried} {billed = billed} p q s =
    subst (λ z. Split d z carried billed) q (subst (λ e. Split e x carried billed) p s)
