-- A posting: what its two bookings come to, and how its plan, its price and its booking make up the ruling.
use Rattle.std.proofs.Common.{◌≡◌, ℕ, suc, ◌<◌, true, List, [], ◌∷◌, length, get_or, set, ℤ}
use Rattle.std.proofs.Common.{Some, None, Ok, Err, vec_items, Result, sym, refl, ap, ◌∙◌, arith}
use Rattle.std.proofs.lemmas.Bool.{true≢false}
use Rattle.amounts.specs.Limits.{gas_limit, charge_limit}
use Rattle.amounts.specs.Rows.{within}
use Rattle.amounts.specs.Tables.{Booked, grown}
use Rattle.amounts.specs.declared.row.Fault.{Fault}
use Rattle.amounts.proofs.Bookings.{booked_ok, booked_err}
use Rattle.prices.specs.Quotes.{Quote}
use Rattle.prices.specs.declared.source.Lack.{Lack}
use Rattle.calls.specs.declared.arguments.Posting.{Posting}
use Rattle.calls.specs.declared.refusal.Refusal.{Refusal}
use Rattle.calls.specs.declared.refusal.Refusal.TheVariants.{Lacking}
use Rattle.book.specs.Accounts.{Account, account_at, change, day_posted, banked, charged}
use Rattle.book.specs.Gas.{may_bank, may_charge}
use Rattle.book.specs.Post.{net_of, overrun_line, posted, owed, before_the_price, at_the_price, post_ruling}
use Rattle.book.specs.Prices.{micros}
use Rattle.book.specs.Rulings.{DoneBy, RefusedBy, Ruled, figure, first_of}
use Rattle.book.specs.State.{State, with_accounts}
use Rattle.runs.proofs.Firsts.{first_before, first_behind}
use Rattle.tables.specs.Rows.{account_of, accounts_of}
use Rattle.tables.specs.View.{view, view_accounts, gas_rows, line_rows}
use Rattle.tables.specs.declared.holding.Holding.{Holding}
use Rattle.tables.specs.declared.tables.Tables.{Tables}
use Rattle.tables.specs.declared.term.Term.{Term}
use Rattle.tables.proofs.Accounts.{beside}
use Rattle.tables.proofs.Changes.{row_long, gas_grown, bank_set, charge_set, term_set, change_twice}
use Rattle.accounts.specs.Plans.{Ready, charging}

-- the bookings of a ready posting
module _ (t : Tables) (p : Posting) (m : ℕ) (h : Holding) (r : Ready t p h) where
  lines_inside : h.at < length (line_rows t)
  lines_inside = omega (arith, (beside t).lines, t.terms.ok.0, r.found.inside)

  gas_inside : h.at < length (gas_rows t)
  gas_inside = omega (arith, (beside t).gas, t.terms.ok.0, r.found.inside)

  gas_long : length (get_or (gas_rows t) h.at []) ≡ 1
  gas_long = row_long 1 gas_limit (vec_items t.gas) h.at
      (omega (arith, r.found.inside, t.gas.ok.0, t.gas_beside))

  -- the test of the term's row is the test of its account
  gas_fits : within gas_limit (grown (gas_rows t) h.at (net_of p ∷ [])) ≡ true
  gas_fits = ap (within gas_limit) (gas_grown (gas_rows t) h.at (net_of p) gas_long)
      ∙ ap (λ (a : Account). may_bank a (net_of p)) (sym r.found.read) ∙ r.fits

  pub gas_never_refused : {T : Type 0} (e : Fault gas_limit) (gs : List (List ℤ))
      → Booked {T = T} gas_limit (gas_rows t) h.at (net_of p ∷ []) (Err e) gs → ⊥
  gas_never_refused e gs b = true≢false (sym gas_fits ∙ (booked_err _ _ _ _ _ gas_inside e b).1)

  -- the tables with the day written
  written : (u : Term) → ((g l : List ℤ) → account_of u g l ≡ day_posted (account_of h.term g l))
      → accounts_of (set (vec_items t.terms) h.at u)
      (set (gas_rows t) h.at (grown (gas_rows t) h.at (net_of p ∷ [])))
      (set (line_rows t) h.at (grown (line_rows t) h.at (overrun_line m)))
      ≡ change (view_accounts t) p.term (posted (net_of p) m)
  written u k =
      let place : suc h.at ≡ p.term = omega (arith, r.found.number) in
      let es = view_accounts t in
      let d = overrun_line m in
      let owing = charge_set (vec_items t.terms) (gas_rows t) (line_rows t) h.at d in
      let banking = bank_set (vec_items t.terms) (gas_rows t) (set (line_rows t) h.at (grown (line_rows t) h.at d)) h.at
      (net_of p) gas_long ∙ ap (λ xs. change xs (suc h.at) (banked (net_of p))) owing
      ∙ change_twice (charged d) (banked (net_of p)) es (suc h.at) in
      term_set day_posted h.term u (vec_items t.terms) _ _ h.at r.found.row k
      ∙ ap (λ xs. change xs (suc h.at) day_posted) banking
      ∙ change_twice (λ a. banked (net_of p) (charged d a)) day_posted es (suc h.at)
      ∙ ap (λ n. change es n (posted (net_of p) m)) place

  pub books : {T : Type 0} (x y : T) (u : Term) (gs ls : List (List ℤ))
      → ((g l : List ℤ) → account_of u g l ≡ day_posted (account_of h.term g l))
      → Booked {T = T} charge_limit (line_rows t) h.at (overrun_line m) (Ok x) ls
      → Booked {T = T} gas_limit (gas_rows t) h.at (net_of p ∷ []) (Ok y) gs
      → DoneBy (charging (view t) p m) (figure h.term.next)
      (with_accounts (view t) (accounts_of (set (vec_items t.terms) h.at u) gs ls))
  books x y u gs ls k b g =
      let line = booked_ok _ _ _ _ _ lines_inside x b in
      let fits = ap (λ (a : Account). may_charge a (overrun_line m)) r.found.read ∙ line.0 in
      record {
        passed = rw fits refl;
        replied = ap (λ (a : Account). figure a.next) (sym r.found.read);
        leaves = rw ((booked_ok _ _ _ _ _ gas_inside y g).1, line.1)
            (ap (with_accounts (view t)) (written u k));
      }

-- the ruling, by its parts
module _ (q : Quote) (s : State) (p : Posting) where
  abbrev due : Result ℕ Lack
  due = owed q (account_at s.accounts p.term) p.delivered

  pub refused_early : (e : Refusal) → first_of (before_the_price s p) ≡ Some e → RefusedBy s (post_ruling q s p) e s
  refused_early e k = record {
    first = first_before (before_the_price s p) (at_the_price (account_at s.accounts p.term) due) e k;
    keeps = refl;
  }

  behind : first_of (before_the_price s p) ≡ None
      → first_of (post_ruling q s p).refusals ≡ first_of (at_the_price (account_at s.accounts p.term) due)
  behind k = first_behind (before_the_price s p) (at_the_price (account_at s.accounts p.term) due) k

  pub refused_lacking : (l : Lack) → first_of (before_the_price s p) ≡ None → Err l ≡ due
      → RefusedBy s (post_ruling q s p) (Lacking l) s
  refused_lacking l k e = record {
    first = behind k ∙ ap (λ o. first_of (at_the_price (account_at s.accounts p.term) o)) (sym e);
    keeps = refl;
  }

  pub priced_ruled : (m : ℕ) → first_of (before_the_price s p) ≡ None → Ok m ≡ due
      → (r : Result ℕ Refusal) (after : State) → Ruled figure s (charging s p m) r after
      → Ruled figure s (post_ruling q s p) r after
  priced_ruled m k e r after x =
      let here = behind k ∙ ap (λ o. first_of (at_the_price (account_at s.accounts p.term) o)) (sym e) in
      elim r as (λ r. Ruled figure s (charging s p m) r after → Ruled figure s (post_ruling q s p) r after) [
        | Ok n ↦ λ d. record {
          passed = here ∙ d.passed;
          replied = d.replied;
          leaves = d.leaves
              ∙ ap (λ o. with_accounts s (change s.accounts p.term (posted (net_of p) (micros o)))) e;
        }
        | Err f ↦ λ d. record { first = here ∙ d.first; keeps = d.keeps }
      ] x
