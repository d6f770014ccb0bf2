use Rattle.std.proofs.Common.{◌+◌, length, vec_items, ap, arith}
use Rattle.std.proofs.lemmas.Result.{err_from_is_err_and}
use Rattle.words.proofs.Journals.{call_more, call_unfit, too_long, calls_all}
use Rattle.words.proofs.writer.write_calls.Goals as goal

pub returns-in_err-write_call : goal.returns-in_err-write_call
returns-in_err-write_call c =
    let p = err_from_is_err_and c.from_residual.result c.from_residual.ensures.1 in
    rw (p.1, p.2) (call_unfit c.args.calls.now c.loop-call.call-index c.loop-call-test.true
    (vec_items c.loop-call.out) (vec_items c.write_call.new.out) c.loop-call.invariant.0 c.loop-call.invariant.1
    (omega (arith, c.loop-call.invariant.2)) c.in_err-write_call.field-0.0 c.in_err-write_call.ensures)

pub returns-then-len-gt-ROOM : goal.returns-then-len-gt-ROOM
returns-then-len-gt-ROOM c = too_long c.args.calls.now (c.loop-call.call-index + 1)
    (omega (
      arith,
      ap length (call_more c.args.calls.now c.loop-call.call-index c.loop-call-test.true _ _
          c.loop-call.invariant.0 c.loop-call.invariant.1 c.in_ok-write_call.ensures).0,
      c.write_call.new.out.ok.0,
    ))

pub loop-call-preserved : goal.loop-call-preserved
loop-call-preserved c =
    let m = call_more c.args.calls.now c.loop-call.call-index c.loop-call-test.true _ _ c.loop-call.invariant.0
    c.loop-call.invariant.1 c.in_ok-write_call.ensures in
    (m.0, m.1, omega arith)

pub returns : goal.returns
returns c = calls_all c.args.calls.now c.loop-call.call-index
    (vec_items c.loop-call.out) c.loop-call-test.false c.loop-call.invariant.0 c.loop-call.invariant.1
    (omega (arith, c.loop-call.out.ok.0))
