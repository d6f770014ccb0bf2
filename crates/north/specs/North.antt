-- A northern run: the first word is the reference price, and the rest is the journal.
use Rattle.std.specs.Prelude.{ℕ, ◌+◌, cond, ◌&&◌, List, [], ◌∷◌, ◌++◌, Some, None, Option, ◌==◌, nat_le}
use Rattle.octets.specs.Packing.{words_of, packed}
use Rattle.calls.specs.Refusals.{number_of}
use Rattle.calls.specs.declared.refusal.Refusal.TheVariants.{BadWord}
use Rattle.journal.specs.Runs.{Ending, run}
use Rattle.journal.specs.declared.stop.Stop.{Stop}
use Rattle.book.specs.State.{new_book}
use Rattle.prices.specs.Limits.{price_limit}
use Rattle.words.specs.Kinds.{kind_in, value_in, word}
use Rattle.words.specs.Limits.{journal_words}
use Rattle.words.specs.declared.kind.Kind.TheVariants as kind
use Rattle.zones.specs.Ledgers.{north_means, north_allowances}

-- A price word is a figure of 0 or more, and at most 10,000,000.
abbrev pub price_in : ℕ → Option ℕ
price_in w = cond (kind_in w == 6 && nat_le (value_in w) price_limit) (Some (value_in w)) None

-- The answer words, and where reading stopped.
pub record Written : Type 0 where
  pub words : List ℕ
  pub stop : Option Stop

-- The journal stands behind the price, so a place in the input is the journal's plus 1.
abbrev pub moved : Option Stop → Option Stop
moved None = None
moved (Some s) = Some (record { refusal = s.refusal; place = s.place + 1 })

abbrev pub written : Ending → Written
written e = record { words = e.words; stop = moved e.stop }

abbrev pub no_price : Written
no_price = record { words = []; stop = Some (record { refusal = BadWord; place = 0 }) }

-- A journal under a reference price, with 8,192 words of answer memory.
abbrev pub priced_run : ℕ → List ℕ → Written
priced_run price journal = written (run (north_means price) journal journal_words (new_book north_allowances))

abbrev pub with_price : Option ℕ → List ℕ → Written
with_price None journal = no_price
with_price (Some price) journal = priced_run price journal

-- An input with no first word, or with one that is no price, is stopped with 1 at place 0.
abbrev pub north_run : List ℕ → Written
north_run [] = no_price
north_run (w ∷ ws) = with_price (price_in w) ws

-- After a stop: a refused word with its number, and a number word with its place.
abbrev pub stop_words : Option Stop → List ℕ
stop_words None = []
stop_words (Some s) = word kind.Refused (number_of s.refusal) ∷ word kind.Number s.place ∷ []

-- What is written for an input, in words and in bytes.
abbrev pub north_words : List ℕ → List ℕ
north_words input = (north_run input).words ++ stop_words (north_run input).stop

abbrev pub north_bytes : List ℕ → List ℕ
north_bytes input = packed (north_words (words_of input))
