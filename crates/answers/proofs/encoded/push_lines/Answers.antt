use Rattle.std.proofs.Common.{◌≡◌, [], ◌∷◌, ◌++◌, get_or, pos, ap, ◌∙◌, arith}
use Rattle.std.proofs.lemmas.Int.{to_z-of_z}
use Rattle.words.specs.WordRows.{listed}
use Rattle.answers.specs.Writing.{line_words}
use Rattle.answers.proofs.Lines.{line_more}
use Rattle.answers.proofs.encoded.push_lines.Goals as goal

pub loop-line-preserved : goal.loop-line-preserved
loop-line-preserved c =
    let e : c.line_words-whole.result.0 ∷ c.line_words-whole.result.1 ∷ []
    ≡ line_words (get_or c.args.lines.now c.loop-line.line-index (pos 0)) = grind (arith, to_z-of_z) in
    let inv = c.loop-line.invariant in (
      c.push-in-loop-line.ensures.words
          ∙ ap (λ s. s ++ c.line_words-whole.result.1 ∷ []) c.push.ensures.words
          ∙ line_more (listed c.loop-line.words) (listed c.args.words.now) c.args.lines.now c.loop-line.line-index
          (omega arith) inv.0 _ _ e,
      omega (arith, inv.1, c.push.ensures.len, c.push-in-loop-line.ensures.len),
    )
