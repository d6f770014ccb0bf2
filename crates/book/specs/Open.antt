-- open: adds a term with nothing posted, banked or owed; answers its number.
use Rattle.std.specs.Prelude.{ℕ, ◌+◌, Bool, not, ◌&&◌, [], ◌∷◌, ◌++◌, length, is_some, ◌==◌, nat_le, nat_lt}
use Rattle.std.specs.List.{list_any}
use Rattle.std.specs.Option.{unwrap_or}
use Rattle.balancing.specs.Limits.{mdv_limit, term_days}
use Rattle.prices.specs.Points.{point_at}
use Rattle.prices.specs.declared.point.Point.TheVariants.{Western}
use Rattle.calls.specs.declared.arguments.Opening.{Opening}
use Rattle.calls.specs.declared.refusal.Refusal.TheVariants.{OutOfRange, Overlap, Full}
use Rattle.book.specs.Accounts.{Account, opened}
use Rattle.book.specs.Limits.{pool_limit, term_ends, term_places}
use Rattle.book.specs.Rulings.{Ruling, figure}
use Rattle.book.specs.State.{State, with_accounts}
use Rattle.book.specs.declared.contract.Contract.{Contract}

-- A term's figures are in range: a pool of 1 to 99,999, a point of 1 to 3, an MDV of 1 to 500,000, 1 to 366 days
-- of which the last is at most 3,400, and a first day that is not before today.
abbrev pub in_range : ℕ → Opening → Bool
in_range today o =
    (nat_le 1 o.pool && nat_le o.pool pool_limit)
    && (is_some (point_at o.point)
    && ((nat_le 1 o.mdv && nat_le o.mdv mdv_limit)
    && ((nat_le today o.first && nat_le o.first o.last)
    && (nat_lt o.last (o.first + term_days) && nat_le o.last term_ends))))

abbrev pub contract_of : Opening → Contract
contract_of o = record {
  pool = o.pool;
  point = unwrap_or (point_at o.point) Western;
  mdv = o.mdv;
  first = o.first;
  last = o.last;
}

-- A contract is of the same pool, and shares a day with the opening.
abbrev pub overlaps : Opening → Contract → Bool
overlaps o c = c.pool == o.pool && (nat_le c.first o.last && nat_le o.first c.last)

abbrev pub overlapping : Opening → Account → Bool
overlapping o a = overlaps o a.contract

-- 5: a figure is out of range. 7: a term of the pool shares a day. 6: the table is full.
abbrev pub open_ruling : State → Opening → Ruling
open_ruling s o = record {
  refusals =
      (not (in_range s.day o), OutOfRange)
      ∷ (list_any (overlapping o) s.accounts, Overlap)
      ∷ (nat_le term_places (length s.accounts), Full)
      ∷ [];
  reply = figure (length s.accounts + 1);
  after = with_accounts s (s.accounts ++ opened (contract_of o) ∷ []);
}
