use Rattle.std.proofs.Common.{◌≡◌, length, take, ap, ◌∙◌, arith, rules}
use Rattle.std.proofs.lemmas.List.{with_items_is}
use Rattle.journal.specs.Runs.{Ending}
use Rattle.book.specs.State.{new_book}
use Rattle.zones.specs.Ledgers.{north_means, north_allowances}
use Rattle.words.specs.Limits.{journal_words}
use Rattle.north.specs.North.{moved}
use Rattle.north.proofs.Outputs.{cut_words, same_run}
use Rattle.north.proofs.program.run_priced.Goals as goal

pub returns-clause-run : goal.returns-clause-run
returns-clause-run c =
    let made = c.in_ok-ledger.ensures in
    let room : length c.deref_mut.result.now ≡ journal_words =
    omega (arith, c.deref_mut.ensures.len, c.in_ok-answers.ensures.len) in
    let same = same_run _ (north_means c.args.price) c.args.journal.now _ journal_words _
    (new_book north_allowances) made.means room made.tables in
    let long : length c.run-ran.new.answers ≡ c.in_ok-answers.answers.len = search rules in
    let held = with_items_is c.in_ok-answers.answers c.run-ran.new.answers long in (
      c.truncate.ensures.items ∙ ap (take c.run-ran.result.written) held ∙ cut_words _ _ _ _ _ c.run-ran.ensures.ran
          ∙ ap (λ (e : Ending). e.words) same,
      c.behind_price.ensures ∙ ap moved (c.run-ran.ensures.ran.stops ∙ ap (λ (e : Ending). e.stop) same),
    )
