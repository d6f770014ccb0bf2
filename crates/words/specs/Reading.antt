-- Reading calls off words.
use Rattle.std.specs.Prelude.{◌≡◌, ℕ, ◌+◌, ◌≤◌, cond, List, [], ◌∷◌, length, drop, Some}
use Rattle.std.specs.Prelude.{None, Ok, Err, Option, Result, ◌==◌, slice_index}
use Rattle.calls.specs.declared.call.Call.{Call}
use Rattle.calls.specs.declared.call.Call.TheVariants.{Day, Open, Post, Statement}
use Rattle.words.specs.Kinds.{kind_number, kind_in, value_in}
use Rattle.words.specs.Shapes.{shape_of}
use Rattle.words.specs.WordRows.{listed}
use Rattle.words.specs.declared.kind.Kind.{Kind}
use Rattle.words.specs.declared.misread.Misread.{Misread}
use Rattle.words.specs.declared.row.WordRow.{WordRow}

-- The figures of these kinds at the front of the words, or how far in the first wrong or missing word stands.
abbrev pub further : Result (List ℕ) ℕ → ℕ → Result (List ℕ) ℕ
further (Ok vs) v = Ok (v ∷ vs)
further (Err at) v = Err (at + 1)

abbrev pub read_figures : List Kind → List ℕ → Result (List ℕ) ℕ
read_figures [] ws = Ok []
read_figures (k ∷ ks) [] = Err 0
read_figures (k ∷ ks) (w ∷ ws) = cond (kind_in w == kind_number k) (further (read_figures ks ws) (value_in w)) (Err 0)

-- A call by its number and its figures.
abbrev pub call_of : ℕ → List ℕ → Call
call_of n vs =
    cond (n == 2) (Open (record {
      pool = slice_index vs 0;
      point = slice_index vs 1;
      mdv = slice_index vs 2;
      first = slice_index vs 3;
      last = slice_index vs 4;
    }))
    (cond (n == 3) (Post (record {
      term = slice_index vs 0;
      delivered = slice_index vs 1;
      consumed = slice_index vs 2;
    }))
    (cond (n == 10) (Statement (slice_index vs 0)) Day))

-- The call at the front of the words, with how many words it has; or how far in the word stands that is wrong,
-- unknown or missing: 0 for a word that is no call word or whose number no call has.
abbrev pub called : ℕ → Result (List ℕ) ℕ → Result (Call × ℕ) ℕ
called n (Ok vs) = Ok (call_of n vs, length vs + 1)
called n (Err at) = Err (at + 1)

abbrev pub with_shape : ℕ → Option (List Kind) → List ℕ → Result (Call × ℕ) ℕ
with_shape n None ws = Err 0
with_shape n (Some ks) ws = called n (read_figures ks ws)

abbrev pub read_call : List ℕ → Result (Call × ℕ) ℕ
read_call [] = Err 0
read_call (w ∷ ws) = cond (kind_in w == 1) (with_shape (value_in w) (shape_of (value_in w)) ws) (Err 0)

-- A call read at a place of the words: it has one word or more, all there, and the place after is past them.
pub record Used (words : List ℕ) (place : ℕ) (c : Call) (after : ℕ) : Type 0 where
  pub used : ℕ
  pub read : read_call (drop place words) ≡ Ok (c, used)
  pub moved : after ≡ place + used
  pub some : 1 ≤ used
  pub within : after ≤ length words

-- A stop: reading at a place of the words found a word wrong or missing.
pub record Stopped (words : List ℕ) (place : ℕ) (at : ℕ) : Type 0 where
  pub off : ℕ
  pub read : read_call (drop place words) ≡ Err off
  pub here : at ≡ place + off

-- A reader's step: a call, and the place is past it; or a stop, and the place is as it was.
abbrev pub Read : List ℕ → ℕ → Result Call Misread → ℕ → Type 0
Read words place (Ok c) after = Used words place c after
Read words place (Err e) after = Stopped words place e.place × (after ≡ place)

-- One word: its value, and the place is past it; or it is of another kind or missing, and the place is as it was.
abbrev pub Valued : Kind → List ℕ → ℕ → Result ℕ Misread → ℕ → Type 0
Valued kind words place (Ok v) after = (read_figures (kind ∷ []) (drop place words) ≡ Ok (v ∷ [])) × (after ≡ place + 1)
Valued kind words place (Err e) after =
    (read_figures (kind ∷ []) (drop place words) ≡ Err 0) × (e.place ≡ place) × (after ≡ place)

-- The place of the first word, from a place on, that is not of its kind or is missing.
pub record Missed (kinds : List Kind) (words : List ℕ) (place : ℕ) (at : ℕ) : Type 0 where
  pub off : ℕ
  pub read : read_figures kinds (drop place words) ≡ Err off
  pub here : at ≡ place + off

-- The words of these kinds: their values, and the place is past them; or the first that is wrong or missing.
abbrev pub Taken : {n : ℕ} → List Kind → List ℕ → ℕ → Result (WordRow n) Misread → ℕ → Type 0
Taken kinds words place (Ok vs) after =
    (read_figures kinds (drop place words) ≡ Ok (listed vs)) × (after ≡ place + length kinds)
Taken kinds words place (Err e) after = Missed kinds words place e.place
