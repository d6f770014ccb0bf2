-- post: books a term's next unposted day; answers it.
use Rattle.std.specs.Prelude.{ℕ, ◌-◌, Bool, cond, not, ◌||◌, List, [], ◌∷◌, ◌++◌, ℤ, pos, ◌-ℤ◌, is_err, Ok, Result}
use Rattle.std.specs.Prelude.{nat_le, nat_lt}
use Rattle.prices.specs.Quotes.{Quote}
use Rattle.prices.specs.declared.source.Lack.{Lack}
use Rattle.calls.specs.declared.arguments.Posting.{Posting}
use Rattle.calls.specs.declared.refusal.Refusal.{Refusal}
use Rattle.calls.specs.declared.refusal.Refusal.TheVariants.{NoTerm, WrongStatus, OutOfRange, Untimely}
use Rattle.calls.specs.declared.refusal.Refusal.TheVariants.{GasLimit, ChargeLimit, Lacking}
use Rattle.book.specs.Accounts.{Account, missing, account_at, change, day_posted, banked, charged}
use Rattle.book.specs.Gas.{may_bank, may_charge}
use Rattle.book.specs.Limits.{posted_limit}
use Rattle.book.specs.Prices.{priced, micros, lack_in}
use Rattle.book.specs.Rulings.{Ruling, figure}
use Rattle.book.specs.State.{State, with_accounts}
use Rattle.book.specs.declared.contract.Contract.{Contract}

-- What is short of the MDV is overrun, at that day's overrun price; where nothing is short no price is sought.
abbrev pub overrun_owed : Quote → Contract → ℕ → ℕ → Result ℕ Lack
overrun_owed overrun c day delivered =
    cond (nat_le c.mdv delivered) (Ok 0) (priced (c.mdv - delivered) (overrun c.point day day))

abbrev pub owed : Quote → Account → ℕ → Result ℕ Lack
owed overrun a delivered = overrun_owed overrun a.contract a.next delivered

-- a charge on line 1
abbrev pub overrun_line : ℕ → List ℤ
overrun_line m = pos m ∷ pos 0 ∷ pos 0 ∷ pos 0 ∷ pos 0 ∷ []

-- what a day adds to a balance
abbrev pub net_of : Posting → ℤ
net_of p = pos p.delivered -ℤ pos p.consumed

-- what a posting makes of an account
abbrev pub posted : ℤ → ℕ → Account → Account
posted net m a = day_posted (banked net (charged (overrun_line m) a))

-- 3: no such term. 4: fully posted. 5: a volume is too large. 8: that day is not before today. 9: the balance would
-- pass its limit.
abbrev pub before_the_price : State → Posting → List (Bool × Refusal)
before_the_price s p =
    let a = account_at s.accounts p.term in
    (missing s.accounts p.term, NoTerm)
    ∷ (nat_lt a.contract.last a.next, WrongStatus)
    ∷ (nat_lt posted_limit p.delivered || nat_lt posted_limit p.consumed, OutOfRange)
    ∷ (nat_le s.day a.next, Untimely)
    ∷ (not (may_bank a (net_of p)), GasLimit)
    ∷ []

-- Then 11: the price is lacking. 10: a line would pass its limit.
abbrev pub at_the_price : Account → Result ℕ Lack → List (Bool × Refusal)
at_the_price a o =
    (is_err o, Lacking (lack_in o))
    ∷ (not (may_charge a (overrun_line (micros o))), ChargeLimit)
    ∷ []

abbrev pub post_ruling : Quote → State → Posting → Ruling
post_ruling overrun s p =
    let a = account_at s.accounts p.term in
    let o = owed overrun a p.delivered in
    record {
      refusals = before_the_price s p ++ at_the_price a o;
      reply = figure a.next;
      after = with_accounts s (change s.accounts p.term (posted (net_of p) (micros o)));
    }
