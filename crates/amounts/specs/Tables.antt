-- A table of rows, by its numbers alone, and what a booking answers and leaves.
use Rattle.std.specs.Prelude.{◌≡◌, ℕ, cond, ◌&&◌, List, [], map, length, ℤ, is_ok}
use Rattle.std.specs.Prelude.{IfErr, Result, nat_lt, slice_index_or, slice_set}
use Rattle.amounts.specs.Rows.{within, sums}
use Rattle.amounts.specs.declared.row.Fault.{Fault}
use Rattle.amounts.specs.declared.row.Fault.TheVariants.{NoPlace, PastLimit}
use Rattle.amounts.specs.declared.row.Row.{Row}

abbrev pub rows_of : (n limit : ℕ) → List (Row n limit) → List (List ℤ)
rows_of n limit = map (λ (r : Row n limit). r.figures)

-- The row at a place, with more added.
abbrev pub grown : List (List ℤ) → ℕ → List ℤ → List ℤ
grown rows at more = sums (slice_index_or rows at []) more

-- A booking at a place of a table is refused where there is no such place, or where a number would pass the limit;
-- refused, it leaves the table as it was.
pub record Booked {T : Type 0} (limit : ℕ) (before : List (List ℤ)) (at : ℕ) (more : List ℤ)
    (r : Result T (Fault limit)) (after : List (List ℤ)) : Type 0 where
  pub test : is_ok r ≡ (nat_lt at (length before) && within limit (grown before at more))
  pub table : after ≡ cond (is_ok r) (slice_set before at (grown before at more)) before
  pub fault : IfErr r (λ e. e ≡ cond (nat_lt at (length before)) PastLimit NoPlace)
