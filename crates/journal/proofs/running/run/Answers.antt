use Rattle.std.proofs.Common.{◌≡◌, ◌-◌, ◌<◌, ◌≤◌, length, drop, sym, refl, ap, ◌∙◌, arith}
use Rattle.std.proofs.lemmas.List.{length-drop}
use Rattle.std.proofs.lemmas.Bool.{leb-false, leb-true}
use Rattle.book.specs.Rulings.{Meets}
use Rattle.book.specs.Step.{step}
use Rattle.tables.specs.View.{view}
use Rattle.words.specs.WordRows.{listed}
use Rattle.journal.proofs.Near.{stop_near}
use Rattle.journal.proofs.Loops.{step_on, ends_whole, ends_wrong, ends_full, reads}
use Rattle.journal.proofs.Trips.{told}
use Rattle.journal.proofs.running.run.Goals as goal

pub returns-in-Err : goal.returns-in-Err
returns-in-Err g c =
    let m = g.Z.RateZone.means c.args.ledger.now.zone in
    let words = c.args.words.now in
    let inv = c.calls.invariant in
    let place = c.calls.reader.place in
    let h : place < length words = omega (arith, leb-false _ _ (sym c.calls-test.ensures), ap length inv.2) in
    let stop = rw inv.2 at c.in-Err.ensures.read.0 in
    let ends = ends_wrong m words _ _ _ _ _ place _ inv.0 stop.off _ h stop.read stop.here in
    rw c.stopped-in-Err.ensures (record {
      ran = reads m words _ _ _ _ _ _ c.if-words-gt-JOURNAL_WORDS.false ends;
      told = told m words _ _ _ _ _ _ c.if-words-gt-JOURNAL_WORDS.false ends;
      near = omega (
        arith,
        stop.here,
        stop_near (drop place words) stop.off stop.read,
        length-drop place words,
        c.if-words-gt-JOURNAL_WORDS.false,
      );
      zone = inv.1;
    })

pub returns-then-answers-written : goal.returns-then-answers-written
returns-then-answers-written g c =
    let m = g.Z.RateZone.means c.args.ledger.now.zone in
    let words = c.args.words.now in
    let inv = c.calls.invariant in
    let place = c.calls.reader.place in
    let h : place < length words = omega (arith, leb-false _ _ (sym c.calls-test.ensures), ap length inv.2) in
    let used = rw inv.2 at c.in-Ok.ensures.read in
    let ends = ends_full m words _ _ _ _ _ place _ inv.0 (c.in-Ok.call, used.used) h used.read
    (omega (arith, c.answer_len.ensures m, c.calls.auto.answers)) in
    rw c.stopped-then-answers-written.ensures (record {
      ran = reads m words _ _ _ _ _ _ c.if-words-gt-JOURNAL_WORDS.false ends;
      told = told m words _ _ _ _ _ _ c.if-words-gt-JOURNAL_WORDS.false ends;
      near = omega (arith, c.if-words-gt-JOURNAL_WORDS.false);
      zone = inv.1;
    })

pub calls-preserved : goal.calls-preserved
calls-preserved g c =
    let m = g.Z.RateZone.means c.args.ledger.now.zone in
    let words = c.args.words.now in
    let inv = c.calls.invariant in
    let place = c.calls.reader.place in
    let h : place < length words = omega (arith, leb-false _ _ (sym c.calls-test.ensures), ap length inv.2) in
    let used = rw inv.2 at c.in-Ok.ensures.read in
    let words_of = rw inv.1 at c.make-answer.ensures.words in
    let met : Meets (step m (view c.calls.ledger.tables) c.in-Ok.call) _ _
    = record { answers = refl; leaves = rw inv.1 at c.make-answer.ensures.tables } in
    let encoded = listed c.make-answer.result in
    let n : length encoded ≡ c.answer_len.result = ap length words_of ∙ sym (c.answer_len.ensures m) in
    let fits : length encoded ≤ length c.args.answers.now - c.calls.written =
    omega (arith, n, c.if-answers-written.false, c.calls.auto.answers) in (
      rw c.len-written.ensures (step_on m words _ _ _ _ _ place _ inv.0 c.in-Ok.call _ _ _ encoded _ h used met
          words_of fits (rw c.deref.ensures at c.put.ensures)
          (omega (arith, fits, c.calls.auto.answers, c.put.auto.answers, inv.0.inside))),
      c.make-answer.ensures.zone ∙ inv.1,
      c.call.ensures.same ∙ inv.2,
    )

pub returns : goal.returns
returns g c =
    let m = g.Z.RateZone.means c.args.ledger.now.zone in
    let inv = c.calls.invariant in
    let h : length c.args.words.now ≤ c.calls.reader.place =
    omega (arith, leb-true _ _ (sym c.calls-test.ensures), ap length inv.2) in
    let ends = ends_whole m c.args.words.now _ _ _ _ _ _ _ inv.0 h in
    record {
      ran = reads m c.args.words.now _ _ _ _ _ _ c.if-words-gt-JOURNAL_WORDS.false ends;
      told = told m c.args.words.now _ _ _ _ _ _ c.if-words-gt-JOURNAL_WORDS.false ends;
      near = tt;
      zone = inv.1;
    }
