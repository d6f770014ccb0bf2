use Rattle.std.proofs.Common.{[], ◌∷◌, length, vec_items, sym, refl, ap, ◌∙◌, subst, arith}
use Rattle.std.proofs.lemmas.Slice.{pushed}
use Rattle.std.proofs.lemmas.Result.{err_from_is_err_and}
use Rattle.std.proofs.lemmas.Bool.{leb-true, leb-false}
use Rattle.words.specs.Reading.{Used, Stopped}
use Rattle.words.proofs.Wholes.{kept_more, read_more, read_stop, read_all}
use Rattle.words.proofs.journal.read_calls.Goals as goal

pub loop-reader-preserved : goal.loop-reader-preserved
loop-reader-preserved c =
    let call = c.in_ok-call.field-0 in
    let u = subst (λ ws. Used ws c.loop-reader.reader.place call c.call.new.self.place)
    c.loop-reader.invariant.0 c.in_ok-call.ensures.read in
    let items = pushed (call ∷ []) refl c.in_ok-push.was c.push.ensures.items in (
      c.in_ok-call.ensures.same ∙ c.loop-reader.invariant.0,
      read_more c.args.words.now (vec_items c.loop-reader.calls) c.loop-reader.reader.place c.loop-reader.invariant.1
          call c.call.new.self.place u (vec_items c.push.new.self) items,
    )

pub returns-in_err-push : goal.returns-in_err-push
returns-in_err-push c =
    let p = err_from_is_err_and c.from_residual-in_err-push.result c.from_residual-in_err-push.ensures.1 in
    let call = c.in_ok-call.field-0 in
    let u = subst (λ ws. Used ws c.loop-reader.reader.place call c.call.new.self.place)
    c.loop-reader.invariant.0 c.in_ok-call.ensures.read in
    rw (p.1, p.2) (kept_more (vec_items c.loop-reader.calls) call c.call.new.self.place _ _
    (read_more c.args.words.now (vec_items c.loop-reader.calls) c.loop-reader.reader.place c.loop-reader.invariant.1
    call c.call.new.self.place u _ refl))

pub returns-in_err-call : goal.returns-in_err-call
returns-in_err-call c =
    let p = err_from_is_err_and c.from_residual.result c.from_residual.ensures.1 in
    let at = c.in_err-call.field-0.0.place in
    let s = subst (λ ws. Stopped ws c.loop-reader.reader.place at) c.loop-reader.invariant.0
    c.in_err-call.ensures.read.0 in
    rw (p.1, p.2)
    (read_stop c.args.words.now (vec_items c.loop-reader.calls) c.loop-reader.reader.place c.loop-reader.invariant.1
    (omega (
      arith,
      ap length c.loop-reader.invariant.0,
      leb-false _ _ (sym c.is_done.ensures ∙ c.loop-reader-test.true),
    )) at s)

pub returns : goal.returns
returns c =
    read_all c.args.words.now (vec_items c.loop-reader.calls) c.loop-reader.reader.place c.loop-reader.invariant.1
    (omega (
      arith,
      ap length c.loop-reader.invariant.0,
      leb-true _ _ (sym c.is_done.ensures ∙ c.loop-reader-test.false),
    ))
