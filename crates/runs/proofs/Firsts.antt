-- From what a call's function says of its ruling to the outcome of the ruling; and refusals in front of others.
use Rattle.std.proofs.Common.{◌≡◌, Bool, List, [], ◌∷◌, ◌++◌, Some, None, refl}
use Rattle.std.proofs.lemmas.Bool.{cond_both}
use Rattle.calls.specs.declared.call.Answer.TheVariants.{Refused}
use Rattle.calls.specs.declared.refusal.Refusal.{Refusal}
use Rattle.book.specs.Rulings.{Ruling, Reply, said, Meets, DoneBy, RefusedBy, first_of, outcome}
use Rattle.book.specs.State.{State}

pub done_meets : (s : State) (r : Ruling) (p : Reply) (after : State) → DoneBy r p after
    → Meets (outcome s r) (said p) after
done_meets s r p after d = rw (d.passed, d.replied, d.leaves) (record { answers = refl; leaves = refl })

pub refused_meets : (s : State) (r : Ruling) (e : Refusal) (after : State) → RefusedBy s r e after
    → Meets (outcome s r) (Refused e) after
refused_meets s r e after d = rw (d.first, d.keeps) (record { answers = refl; leaves = refl })

-- a refusal that is the first of some is the first of these and more behind them
pub first_before : (rs qs : List (Bool × Refusal)) (e : Refusal) → first_of rs ≡ Some e → first_of (rs ++ qs) ≡ Some e
first_before [] qs e = λ k. cc
first_before (x ∷ rs) qs e =
    cond_both x.0 (Some x.1) (first_of rs) (λ o. o ≡ Some e → first_of ((x ∷ rs) ++ qs) ≡ Some e)
    (λ h k. rw h k) (λ h k. rw h (first_before rs qs e k))

-- where none of some holds, the first of these and more behind them is the first of the more
pub first_behind : (rs qs : List (Bool × Refusal)) → first_of rs ≡ None → first_of (rs ++ qs) ≡ first_of qs
first_behind [] qs = λ k. refl
first_behind (x ∷ rs) qs =
    cond_both x.0 (Some x.1) (first_of rs) (λ o. o ≡ None → first_of ((x ∷ rs) ++ qs) ≡ first_of qs)
    (λ h k. cc) (λ h k. rw h (first_behind rs qs k))
