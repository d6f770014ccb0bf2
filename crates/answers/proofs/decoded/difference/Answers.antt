use Rattle.std.proofs.Common.{length, sym, ap, ◌∙◌, ltb, add-zero}
use Rattle.std.proofs.lemmas.Iterator.Adapters.{position_from-zero}
use Rattle.std.specs.Bool.{then_some}
use Rattle.std.specs.List.{position_from, zip}
use Rattle.std.specs.Option.{option_or}
use Rattle.answers.proofs.Differences.{unlike, paired}
use Rattle.answers.proofs.decoded.difference.Goals as goal

pub returns : goal.returns
returns c =
    let es = c.args.expected.now in
    let ws = c.args.words.now in
    c.or.ensures ∙ ap (λ o. option_or o c.then_some.result) (c.unlike.ensures ∙ position_from-zero unlike (zip es ws))
    ∙ ap (option_or (position_from unlike 0 (zip es ws))) (c.then_some.ensures
    ∙ ap (then_some (ltb (length ws) (length es))) (sym (add-zero (length ws)))) ∙ paired es ws
