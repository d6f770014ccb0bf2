-- One entry more, by what reading its call and its answer ensures.
use Rattle.std.proofs.Common.{◌≡◌, ℕ, ◌+◌, List, [], ◌∷◌, ◌++◌, sym, refl, subst}
use Rattle.calls.specs.declared.call.Answer.{Answer}
use Rattle.calls.specs.declared.call.Call.{Call}
use Rattle.answers.specs.Answers.{Replied}
use Rattle.words.specs.Reading.{Used}
use Rattle.report.specs.Shown.{Seen, start, more, day_after}
use Rattle.report.specs.declared.entry.Entry.{Entry}

pub begins : (journal answers : List ℕ) (es : List Entry) (asked replied : ℕ) → es ≡ [] → asked ≡ 0 → replied ≡ 0
    → Seen journal answers es 1 asked replied
begins journal answers es asked replied a b c =
    subst (λ x. Seen journal answers x 1 asked replied) (sym a)
    (subst (λ x. Seen journal answers [] 1 x replied) (sym b)
    (subst (λ x. Seen journal answers [] 1 0 x) (sym c) start))

pub goes_on : (journal answers : List ℕ) (es fs : List Entry) (day next asked replied after behind : ℕ) (call : Call)
    (answer : Answer) → Seen journal answers es day asked replied → Used journal asked call after
    → Replied call answers replied answer behind → fs ≡ es ++ record { day = day; call = call; answer = answer } ∷ []
    → next ≡ day_after day call answer → Seen journal answers fs next after behind
goes_on journal answers es fs day next asked replied after behind call answer seen u r e d =
    subst (λ x. Seen journal answers x next after behind) (sym e)
    (subst (λ x. Seen journal answers (es ++ record { day = day; call = call; answer = answer } ∷ []) x after behind)
    (sym d)
    (subst (λ x. Seen journal answers (es ++ record { day = day; call = call; answer = answer } ∷ [])
    (day_after day call answer) x behind) (sym u.moved)
    (subst (λ x. Seen journal answers (es ++ record { day = day; call = call; answer = answer } ∷ [])
    (day_after day call answer) (asked + u.used) x) (sym r.moved)
    (more (record { day = day; call = call; answer = answer }) u.used r.used seen refl u.read r.read))))
