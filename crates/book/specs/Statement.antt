-- statement: states a term's number, pool, status, next unposted day, balance, gas on offer and lines.
use Rattle.std.specs.Prelude.{ℕ, [], ◌∷◌}
use Rattle.calls.specs.declared.call.StatedTerm.{StatedTerm}
use Rattle.calls.specs.declared.refusal.Refusal.TheVariants.{NoTerm}
use Rattle.book.specs.Accounts.{missing, account_at, dated}
use Rattle.book.specs.Rulings.{Ruling, statement}
use Rattle.book.specs.State.{State}

-- Gas on offer: no call makes an offer.
abbrev pub on_offer : State → ℕ → ℕ
on_offer s n = 0

abbrev pub stated : State → ℕ → StatedTerm
stated s n =
    let a = account_at s.accounts n in
    record {
      term = n;
      pool = a.contract.pool;
      status = dated s.day a.contract;
      next = a.next;
      balance = a.balance;
      on_offer = on_offer s n;
      lines = a.lines;
    }

-- 3: no such term.
abbrev pub statement_ruling : State → ℕ → Ruling
statement_ruling s n = record {
  refusals =
      (missing s.accounts n, NoTerm)
      ∷ [];
  reply = statement (stated s n);
  after = s;
}
