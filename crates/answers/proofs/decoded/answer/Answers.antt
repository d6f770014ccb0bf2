use Rattle.std.proofs.Common.{◌≡◌, ◌-◌, ◌≤◌, length, drop, Some, None, ap, ◌∙◌, arith, rules}
use Rattle.std.proofs.lemmas.List.{length-drop}
use Rattle.answers.specs.Answers.{differs, answer_in}
use Rattle.answers.specs.Writing.{answer_words}
use Rattle.answers.proofs.Differences.{differs_within, replied}
use Rattle.answers.proofs.decoded.answer.Goals as goal

pub overflow_add-result : goal.overflow_add-result
overflow_add-result c =
    let a = c.answer_in-answer.result in
    let ws = c.args.reader.now.words.now in
    let place = c.args.reader.now.place in
    let e : Some c.in-Some.off ≡ differs (answer_words a) (drop place ws) =
    c.in-Some.ensures ∙ ap (λ s. differs s c.rest-rest.result.now) (c.deref.ensures ∙ c.encode-words.ensures.words)
    ∙ ap (differs (answer_words a)) c.rest-rest.ensures in
    let h : c.in-Some.off ≤ length ws - place =
    omega (arith, differs_within (answer_words a) (drop place ws) c.in-Some.off e, length-drop place ws) in
    search rules

pub returns-clause-read : goal.returns-clause-read
returns-clause-read c =
    let a = c.answer_in-answer.result in
    let ws = c.args.reader.now.words.now in
    let place = c.args.reader.now.place in
    let e : None ≡ differs (answer_words a) (drop place ws) =
    c.in_default.ensures ∙ ap (λ s. differs s c.rest-rest.result.now) (c.deref.ensures
    ∙ c.encode-words.ensures.words) ∙ ap (differs (answer_words a)) c.rest-rest.ensures in
    replied c.args.call.now ws place a (c.answer_in-answer.ensures ∙ ap (answer_in c.args.call.now) c.rest-rest.ensures)
    e c.len.result (c.len.ensures ∙ ap length c.encode-words.ensures.words)
