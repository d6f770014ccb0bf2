-- A booking at a place that the table has, and what a booking tells there.
use Rattle.std.proofs.Common.{◌≡◌, ℕ, ◌<◌, true, false, ◌&&◌, ltb, List, [], length}
use Rattle.std.proofs.Common.{get_or, set, ℤ, Ok, Err, sym, refl, ap, ◌∙◌, subst}
use Rattle.std.proofs.lemmas.List.{get_or-map, map-set, length-map}
use Rattle.std.proofs.lemmas.Bool.{and_parts, lt-ltb, and_from, and_right, cond-true}
use Rattle.amounts.specs.Rows.{within, sums}
use Rattle.amounts.specs.Tables.{Booked, grown, rows_of}
use Rattle.amounts.specs.declared.row.Fault.{Fault}
use Rattle.amounts.specs.declared.row.Fault.TheVariants.{PastLimit}
use Rattle.amounts.specs.declared.row.Row.{Row}

module _ (T : Type 0) (limit : ℕ) (before : List (List ℤ)) (at : ℕ) (more : List ℤ) where
  pub booked_past : at < length before → within limit (grown before at more) ≡ false
      → Booked {T = T} limit before at more (Err PastLimit) before
  booked_past h w = record {
    test = sym (and_right (ltb at (length before)) _ w);
    table = refl;
    fault = sym (cond-true _ _ _ (lt-ltb at (length before) h));
  }

  pub booked_done : (x : T) → at < length before → within limit (grown before at more) ≡ true
      → Booked {T = T} limit before at more (Ok x) (set before at (grown before at more))
  booked_done x h w = record {
    test = sym (and_from _ _ (lt-ltb at (length before) h) w);
    table = refl;
    fault = tt;
  }

-- the same of a table of rows, by what `plus` says of the row at the place
module _ (n limit : ℕ) (table : List (Row n limit)) (at : ℕ) (more : List ℤ) (row : Row n limit)
    (h : at < length table) where
  within_row : at < length (rows_of n limit table)
  within_row = simp length-map h

  grown_row : grown (rows_of n limit table) at more ≡ sums (get_or table at row).figures more
  grown_row = ap (λ r. sums r more) (get_or-map (λ (r : Row n limit). r.figures) table at row [] h)

  pub row_past : (T : Type 0) → within limit (sums (get_or table at row).figures more) ≡ false
      → Booked {T = T} limit (rows_of n limit table) at more (Err PastLimit) (rows_of n limit table)
  row_past T w = booked_past T limit (rows_of n limit table) at more within_row (ap (within limit) grown_row ∙ w)

  pub row_done : (T : Type 0) (x : T) (new : Row n limit)
      → within limit (sums (get_or table at row).figures more) ≡ true
      → new.figures ≡ sums (get_or table at row).figures more
      → Booked {T = T} limit (rows_of n limit table) at more (Ok x) (rows_of n limit (set table at new))
  row_done T x new w e =
      subst (λ rows. Booked {T = T} limit (rows_of n limit table) at more (Ok x) rows)
      (sym (map-set (λ (r : Row n limit). r.figures) table at new
      ∙ ap (set (rows_of n limit table) at) (e ∙ sym grown_row)))
      (booked_done T limit (rows_of n limit table) at more x within_row (ap (within limit) grown_row ∙ w))

-- the row that is read at the place
pub grown_at : (n limit : ℕ) (table : List (Row n limit)) (at : ℕ) (more : List ℤ) (row : Row n limit)
    → at < length table → row ≡ get_or table at row → grown (rows_of n limit table) at more ≡ sums row.figures more
grown_at n limit table at more row h e = grown_row n limit table at more row h
    ∙ ap (λ (r : Row n limit). sums r.figures more) (sym e)

-- what a booking tells at a place that the table has
module _ {T : Type 0} (limit : ℕ) (before : List (List ℤ)) (at : ℕ) (more : List ℤ) (after : List (List ℤ))
    (h : at < length before) where
  pub booked_ok : (x : T) → Booked {T = T} limit before at more (Ok x) after
      → (within limit (grown before at more) ≡ true) × (after ≡ set before at (grown before at more))
  booked_ok x b = ((and_parts (ltb at (length before)) (within limit (grown before at more)) (sym b.test)).1, b.table)

  pub booked_err : (e : Fault limit) → Booked {T = T} limit before at more (Err e) after
      → (e ≡ PastLimit) × (within limit (grown before at more) ≡ false) × (after ≡ before)
  booked_err e b = (
    b.fault ∙ cond-true _ _ _ (lt-ltb at (length before) h),
    sym (b.test ∙ ap (λ v. v && within limit (grown before at more)) (lt-ltb at (length before) h)),
    b.table,
  )
