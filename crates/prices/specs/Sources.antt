-- What each end and each layer means, read off its fields: the quote of its kind of source.
use Rattle.std.specs.Prelude.{Ok, vec_items}
use Rattle.prices.specs.declared.daily.Daily.{Daily}
use Rattle.prices.specs.declared.monthly.Monthly.{Monthly}
use Rattle.prices.specs.declared.reference.Reference.{Reference}
use Rattle.prices.specs.declared.share.Share.{Share}
use Rattle.prices.specs.declared.toll.Toll.{Toll}
use Rattle.prices.specs.Ends.{daily_quote, monthly_quote}
use Rattle.prices.specs.Layers.{shared, tolled}
use Rattle.prices.specs.Quotes.{Quote}

abbrev pub reference_means : Reference → Quote
reference_means s = λ point from to. Ok s.price

abbrev pub daily_means : Daily → Quote
daily_means s = daily_quote s.start (vec_items s.prices)

abbrev pub monthly_means : Monthly → Quote
monthly_means s = monthly_quote (vec_items s.prices)

abbrev pub share_means : {S : Type 0} → (S → Quote) → Share S → Quote
share_means beneath s = shared s.percent (beneath s.source)

abbrev pub toll_means : {S : Type 0} → (S → Quote) → Toll S → Quote
toll_means beneath s = tolled s.tolls (beneath s.source)
