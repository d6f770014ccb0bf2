-- What the plan of a posting hands on, and what is left of the ruling once the sum owed is known.
use Rattle.std.specs.Prelude.{◌≡◌, ℕ, ◌≤◌, Bool, true, not, [], ◌∷◌}
use Rattle.calls.specs.declared.arguments.Opening.{Opening}
use Rattle.calls.specs.declared.arguments.Posting.{Posting}
use Rattle.calls.specs.declared.refusal.Refusal.TheVariants.{ChargeLimit}
use Rattle.book.specs.Accounts.{account_at, change}
use Rattle.book.specs.Gas.{may_bank, may_charge}
use Rattle.book.specs.Open.{overlaps}
use Rattle.book.specs.Post.{net_of, overrun_line, posted}
use Rattle.book.specs.Rulings.{Ruling, figure}
use Rattle.book.specs.State.{State, with_accounts}
use Rattle.tables.specs.View.{Found, view_accounts}
use Rattle.tables.specs.declared.holding.Holding.{Holding}
use Rattle.tables.specs.declared.tables.Tables.{Tables}
use Rattle.tables.specs.declared.term.Term.{Term}

-- `overlapping` of the book, at a term of the tables
abbrev pub term_overlaps : Opening → Term → Bool
term_overlaps o t = overlaps o t.contract

-- The posting's term is found, has the day unposted, and may bank its gas.
pub record Ready (t : Tables) (p : Posting) (h : Holding) : Type 0 where
  pub found : Found t p.term h
  pub unposted : h.term.next ≤ h.term.contract.last
  pub fits : may_bank (account_at (view_accounts t) p.term) (net_of p) ≡ true

-- what is left of the ruling once the posting is ready and its sum is known
abbrev pub charging : State → Posting → ℕ → Ruling
charging s p m =
    let a = account_at s.accounts p.term in
    record {
      refusals =
          (not (may_charge a (overrun_line m)), ChargeLimit)
          ∷ [];
      reply = figure a.next;
      after = with_accounts s (change s.accounts p.term (posted (net_of p) m));
    }
