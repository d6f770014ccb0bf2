use Rattle.std.proofs.Common.{[], ◌∷◌, length, get_or, vec_items, sym, refl, ap, ◌∙◌, subst, arith}
use Rattle.std.proofs.lemmas.Slice.{pushed}
use Rattle.std.proofs.lemmas.Result.{err_from_is_err_and}
use Rattle.std.proofs.lemmas.Bool.{leb-true, leb-false}
use Rattle.calls.specs.declared.call.Call.TheVariants.{Day}
use Rattle.answers.specs.Answers.{Replied, Unreplied}
use Rattle.answers.proofs.Wholes.{answer_more, answer_stop, answer_left, answer_all}
use Rattle.words.proofs.Wholes.{kept_more}
use Rattle.answers.proofs.reading.read_answers.Goals as goal

pub returns-in_err-answer : goal.returns-in_err-answer
returns-in_err-answer c =
    let p = err_from_is_err_and c.from_residual.result c.from_residual.ensures.1 in
    let at = c.in_err-answer.field-0.0.place in
    let u = subst (λ ws. Unreplied (get_or c.args.calls.now c.loop-call.call-index Day) ws c.loop-call.reader.place
    at) c.loop-call.invariant.0 c.in_err-answer.ensures.read.0 in
    rw (p.1, p.2) (answer_stop c.args.calls.now c.args.words.now
    (vec_items c.loop-call.answers) c.loop-call.call-index c.loop-call.reader.place c.loop-call.invariant.1
    c.loop-call-test.true at u)

pub returns-in_err-push : goal.returns-in_err-push
returns-in_err-push c =
    let p = err_from_is_err_and c.from_residual-in_err-push.result c.from_residual-in_err-push.ensures.1 in
    let answer = c.in_ok-answer.field-0 in
    let u = subst (λ ws. Replied (get_or c.args.calls.now c.loop-call.call-index Day) ws c.loop-call.reader.place
    answer c.answer.new.reader.place) c.loop-call.invariant.0 c.in_ok-answer.ensures.read in
    rw (p.1, p.2) (kept_more (vec_items c.loop-call.answers) answer c.answer.new.reader.place _ _
    (answer_more c.args.calls.now c.args.words.now
    (vec_items c.loop-call.answers) c.loop-call.call-index c.loop-call.reader.place c.loop-call.invariant.1
    c.loop-call-test.true answer c.answer.new.reader.place u _ refl))

pub loop-call-preserved : goal.loop-call-preserved
loop-call-preserved c =
    let answer = c.in_ok-answer.field-0 in
    let u = subst (λ ws. Replied (get_or c.args.calls.now c.loop-call.call-index Day) ws c.loop-call.reader.place
    answer c.answer.new.reader.place) c.loop-call.invariant.0 c.in_ok-answer.ensures.read in
    let items = pushed (answer ∷ []) refl c.in_ok-push.was c.push.ensures.items in (
      c.in_ok-answer.ensures.same ∙ c.loop-call.invariant.0,
      answer_more c.args.calls.now c.args.words.now
          (vec_items c.loop-call.answers) c.loop-call.call-index c.loop-call.reader.place c.loop-call.invariant.1
          c.loop-call-test.true answer c.answer.new.reader.place u (vec_items c.push.new.self) items,
    )

pub returns-then-not-is_done : goal.returns-then-not-is_done
returns-then-not-is_done c =
    answer_left c.args.calls.now c.args.words.now
    (vec_items c.loop-call.answers) c.loop-call.call-index c.loop-call.reader.place c.loop-call.invariant.1
    c.loop-call-test.false
    (omega (arith, ap length c.loop-call.invariant.0, leb-false _ _ (sym c.is_done.ensures ∙ c.if-not-is_done.true)))

pub returns : goal.returns
returns c =
    answer_all c.args.calls.now c.args.words.now
    (vec_items c.loop-call.answers) c.loop-call.call-index c.loop-call.reader.place c.loop-call.invariant.1
    c.loop-call-test.false
    (omega (arith, ap length c.loop-call.invariant.0, leb-true _ _ (sym c.is_done.ensures ∙ c.if-not-is_done.false)))
