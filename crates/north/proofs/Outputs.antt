-- What a run wrote, cut off behind its last answer.
use Rattle.std.proofs.Common.{◌≡◌, ℕ, suc, ◌-◌, ◌<◌, List, [], ◌∷◌, length, get_or, take, drop}
use Rattle.std.proofs.Common.{IfOk, Some, vec_items, Result, sym, ap, ◌∙◌, subst, arith}
use Rattle.std.proofs.lemmas.List.{take_at, take_all}
use Rattle.journal.specs.Runs.{Ending, Runs, run}
use Rattle.journal.specs.declared.ran.Ran.{Ran}
use Rattle.book.specs.Meanings.{Meaning}
use Rattle.book.specs.State.{State}
use Rattle.north.specs.North.{Written, price_in, with_price, priced_run, north_run}
use Rattle.north.specs.declared.output.Output.{Output}

pub cut_words : (e : Ending) (r : Ran) (before after : List ℕ) (s : State) → Runs e r before after s
    → take r.written after ≡ e.words
cut_words e r before after s x = ap (take r.written) x.memory ∙ take_at e.words _ r.written (sym x.count)

-- the same run, by equal meanings, rooms and states
pub same_run : (m n : Meaning) (words : List ℕ) (room size : ℕ) (s t : State) → m ≡ n → room ≡ size → s ≡ t
    → run m words room s ≡ run n words size t
same_run m n words room size s t a b c = ap (λ x. run x words room s) a ∙ ap (λ x. run n words x s) b
    ∙ ap (run n words size) c

-- the first word is a price, and the journal is what stands behind it
pub behind : (input : List ℕ) (price : ℕ) → 0 < length input → Some price ≡ price_in (get_or input 0 0)
    → north_run input ≡ priced_run price (take (length input - 1) (drop 1 input))
behind [] price h e = absurd (omega (arith, h))
behind (w ∷ ws) price h e = ap (λ p. with_price p ws) (sym e)
    ∙ ap (priced_run price) (sym (take_all (suc (length ws) - 1) ws (omega arith)))

-- a run's output, by an equal run
pub same_output : {E : Type 0} (r : Result Output E) (v w : Written) → w ≡ v
    → IfOk r (λ o. (vec_items o.words ≡ v.words) × (o.stop ≡ v.stop))
    → IfOk r (λ o. (vec_items o.words ≡ w.words) × (o.stop ≡ w.stop))
same_output r v w e h = subst (λ (x : Written). IfOk r (λ o. (vec_items o.words ≡ x.words) × (o.stop ≡ x.stop)))
    (sym e) h
