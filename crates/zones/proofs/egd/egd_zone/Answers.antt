use Rattle.std.proofs.Common.{ap, ◌∙◌}
use Rattle.balancing.specs.Rules.{egd_band}
use Rattle.book.specs.Meanings.{Meaning, meaning_of}
use Rattle.prices.specs.Quotes.{Quote}
use Rattle.zones.specs.Sources.{overrun_quote, shortage_quote, excess_quote}
use Rattle.zones.proofs.egd.egd_zone.Goals as goal

pub returns-clause-means : goal.returns-clause-means
returns-clause-means c =
    let m : Quote → Quote → Quote → Meaning
    = meaning_of egd_band in
    let highs = c.in_ok-to_vec.ensures.items_if_clones_equal (λ x y h. h) in
    let low = c.in_ok-to_vec-2.ensures.items_if_clones_equal (λ x y h. h) in
    let high = c.in_ok-to_vec-3.ensures.items_if_clones_equal (λ x y h. h) in
    let overrun = c.in_ok-overrun.ensures.quote ∙ ap (overrun_quote c.args.start) highs in
    let shortage = c.in_ok-shortage.ensures.quote ∙ ap shortage_quote low in
    let excess = c.in_ok-excess.ensures.quote ∙ ap excess_quote high in
    rw overrun (rw shortage (ap (m (overrun_quote c.args.start c.args.highs.now) (shortage_quote c.args.index.now))
    excess))
