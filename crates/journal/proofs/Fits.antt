-- Every answer of a ledger fits its words, by the ranges that the tables keep.
use Rattle.std.proofs.Common.{◌≡◌, ℕ, ◌+◌, ◌≤◌, Bool, true, ltb, leb, List, [], ◌∷◌}
use Rattle.std.proofs.Common.{length, get_or, drop, ℤ, pos, nat_abs, Some, None, Ok, Err, Result, refl, arith}
use Rattle.std.specs.List.{AllByRecursion as All}
use Rattle.std.proofs.lemmas.Bool.Decides.{nat_tests}
use Rattle.std.proofs.lemmas.Bool.{cond_both, lt-ltb}
use Rattle.amounts.specs.Limits.{gas_limit, charge_limit}
use Rattle.amounts.specs.Rows.{within}
use Rattle.amounts.specs.declared.row.Row.{Row}
use Rattle.book.specs.Accounts.{Account, missing, account_at}
use Rattle.book.specs.Limits.{pool_limit, term_ends}
use Rattle.book.specs.Meanings.{Meaning}
use Rattle.book.specs.Post.{owed}
use Rattle.book.specs.Prices.{priced, lack_in}
use Rattle.book.specs.Rulings.{Ruling, said, first_of, decided}
use Rattle.book.specs.State.{State}
use Rattle.book.specs.Step.{step, ruling}
use Rattle.calls.specs.declared.arguments.Opening.{Opening}
use Rattle.calls.specs.declared.arguments.Posting.{Posting}
use Rattle.calls.specs.declared.call.Answer.TheVariants.{Refused}
use Rattle.calls.specs.declared.call.Call.{Call}
use Rattle.calls.specs.declared.call.Call.TheVariants.{Day, Open, Post, Statement}
use Rattle.calls.specs.declared.refusal.Refusal.{Refusal}
use Rattle.prices.specs.Quotes.{Fair, FairQuote}
use Rattle.prices.specs.declared.source.Lack.{Lack}
use Rattle.tables.proofs.Accounts.{term_count, account_holds}
use Rattle.tables.specs.Rows.{account_of}
use Rattle.tables.specs.View.{view, view_accounts}
use Rattle.tables.specs.declared.tables.Tables.{Tables}
use Rattle.tables.specs.declared.term.Term.{Term}
use Rattle.answers.specs.Answers.{answer_fits, line_highs}
use Rattle.words.specs.Limits.{value_count}
use Rattle.words.specs.Writing.{fit}
use Rattle.journal.specs.Laws.{AnswersFit}

-- the ranges of an account
record Bounds (a : Account) : Type 0 where
  starts : 1 ≤ a.next
  ends : a.next ≤ term_ends + 1
  pool : a.contract.pool ≤ pool_limit
  balance : nat_abs a.balance ≤ gas_limit
  lines : fit (line_highs a.lines) ≡ true
  five : length a.lines ≡ 5

one_within : (limit : ℕ) (xs : List ℤ) → length xs ≡ 1 → within limit xs ≡ true → nat_abs (get_or xs 0 (pos 0)) ≤ limit
one_within limit [] e h = absurd (omega (arith, e))
one_within limit (x ∷ xs) e h = grind (arith, nat_tests)

highs_fit : (xs : List ℤ) → within charge_limit xs ≡ true → fit (line_highs xs) ≡ true
highs_fit [] h = refl
highs_fit (x ∷ xs) h = grind (arith, nat_tests, highs_fit xs)

bounded : (c : Term) (g : Row 1 gas_limit) (l : Row 5 charge_limit) → Bounds (account_of c g.figures l.figures)
bounded c g l = record {
  starts = omega (arith, c.starts, c.next_from);
  ends = omega (arith, c.next_to, c.ends);
  pool = c.pool_to;
  balance = one_within gas_limit g.figures g.long g.kept;
  lines = highs_fit l.figures l.kept;
  five = l.long;
}

-- a ruling's answer fits, if each of its refusals does, and its reply where none holds
fits_by : (c : Call) (s : State) (r : Ruling) (rs : List (Bool × Refusal))
    → All (λ x. answer_fits c (Refused x.1) ≡ true) rs
    → (first_of rs ≡ None → answer_fits c (said r.reply) ≡ true)
    → answer_fits c (decided s r (first_of rs)).answer ≡ true
fits_by c s r [] each done = done refl
fits_by c s r (x ∷ rs) each done =
    cond_both x.0 (Some x.1) (first_of rs) (λ o. answer_fits c (decided s r o).answer ≡ true) (λ h. each.0)
    (λ h. fits_by c s r rs each.1 (λ k. done (rw h k)))

lack_priced : (v : ℕ) (r : Result ℕ Lack) → Fair r → ltb (lack_in (priced v r)).day value_count ≡ true
lack_priced v (Ok p) fair = refl
lack_priced v (Err l) fair = lt-ltb _ _ (omega (arith, fair.1))

module _ (t : Tables) (m : Meaning) (fair : FairQuote m.overrun) where
  Fits : Call → Type 0
  Fits c = answer_fits c (step m (view t) c).answer ≡ true

  lack_small : (a : Account) (d : ℕ) → Bounds a → ltb (lack_in (owed m.overrun a d)).day value_count ≡ true
  lack_small a d b =
      cond_both (leb a.contract.mdv d) _ _ (λ (o : Result ℕ Lack). ltb (lack_in o).day value_count ≡ true) (λ _. refl)
      (λ _. lack_priced _ _ (fair a.contract.point a.next a.next b.starts (omega arith) (omega (arith, b.ends))))

  day_fits : Fits Day
  unfolding Fits
  day_fits = let r = ruling m (view t) Day in
      fits_by Day (view t) r r.refusals (refl, tt) (λ k. lt-ltb _ _ (omega (arith, t.ends)))

  open_fits : (o : Opening) → Fits (Open o)
  unfolding Fits
  open_fits o = let r = ruling m (view t) (Open o) in
      fits_by (Open o) (view t) r r.refusals (refl, (refl, (refl, tt)))
      (λ k. lt-ltb _ _ (omega (arith, term_count t, t.few_terms)))

  post_fits : (p : Posting) → Fits (Post p)
  unfolding Fits
  post_fits p =
      let r = ruling m (view t) (Post p) in
      cond_both (missing (view_accounts t) p.term) _ (first_of (drop 1 r.refusals))
      (λ o. answer_fits (Post p) (decided (view t) r o).answer ≡ true) (λ _. refl) (λ found.
      let b = account_holds t Bounds bounded p.term found in
      let lack = lack_small (account_at (view_accounts t) p.term) p.delivered b in
      fits_by (Post p) (view t) r (drop 1 r.refusals)
      (refl, (refl, (refl, (refl, (lack, (refl, tt))))))
      (λ k. lt-ltb _ _ (omega (arith, b.ends))))

  statement_fits : (n : ℕ) → Fits (Statement n)
  unfolding Fits
  statement_fits n =
      let r = ruling m (view t) (Statement n) in
      cond_both (missing (view_accounts t) n) _ None
      (λ o. answer_fits (Statement n) (decided (view t) r o).answer ≡ true) (λ _. refl) (λ found.
      let b = account_holds t Bounds bounded n found in
      grind (arith, nat_tests, found, term_count t, t.few_terms, b.pool, b.ends, b.balance, b.lines, b.five))

pub answers_fit_words : AnswersFit
unfolding Fits
answers_fit_words t m fair Day = day_fits t m fair
answers_fit_words t m fair (Open o) = open_fits t m fair o
answers_fit_words t m fair (Post p) = post_fits t m fair p
answers_fit_words t m fair (Statement n) = statement_fits t m fair n
