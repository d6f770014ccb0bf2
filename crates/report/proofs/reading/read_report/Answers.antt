use Rattle.std.proofs.Common.{◌∙◌, subst}
use Rattle.answers.specs.Answers.{Replied}
use Rattle.words.specs.Reading.{Used}
use Rattle.report.proofs.Entries.{begins, goes_on}
use Rattle.report.proofs.reading.read_report.Goals as goal

pub calls-init : goal.calls-init
calls-init c = (
  begins _ _ _ _ _ c.new-entries.ensures.items c.new-asked.ensures.start c.new-replies.ensures.start,
  c.new-asked.ensures.over,
  c.new-replies.ensures.over,
)

pub calls-preserved : goal.calls-preserved
calls-preserved c =
    let inv = c.calls.invariant in
    let used = subst (λ ws. Used ws c.calls.asked.place c.in-Ok.call c.call.new.self.place) inv.1
    c.in-Ok.ensures.read in
    let replied = subst (λ ws. Replied c.in-Ok.call ws c.calls.replies.place c.in-Ok-answer.answer
    c.answer.new.reader.place) inv.2 c.in-Ok-answer.ensures.read in (
      goes_on _ _ _ _ _ _ _ _ _ _ _ _ inv.0 used replied c.in_ok-push.ensures.items c.day_after-day.ensures,
      c.call.ensures.same ∙ inv.1,
      c.answer.ensures.same ∙ inv.2,
    )
