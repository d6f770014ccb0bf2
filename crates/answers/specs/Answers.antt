-- Reading answers off words, beside the calls that they answer.
use Rattle.std.specs.Prelude.{◌≡◌, ℕ, zero, suc, ◌+◌, ◌*◌, ◌/◌, ◌%◌, ◌≤◌, Bool, true, false, cond, not}
use Rattle.std.specs.Prelude.{◌&&◌, ◌||◌, List, [], ◌∷◌, ◌++◌, length, drop, ℤ, pos, neg_ℤ, Some, None}
use Rattle.std.specs.Prelude.{Ok, Err, Option, Result, ◌==◌, nat_lt, slice_index, unsigned_abs}
use Rattle.std.specs.Option.{unwrap_or}
use Rattle.calls.specs.Refusals.{refusal_at, lacking_day}
use Rattle.calls.specs.Statuses.{status_at}
use Rattle.calls.specs.declared.call.Answer.{Answer}
use Rattle.calls.specs.declared.call.Answer.TheVariants.{Done, Stated, Refused}
use Rattle.calls.specs.declared.call.Call.{Call}
use Rattle.calls.specs.declared.call.StatedTerm.{StatedTerm}
use Rattle.calls.specs.declared.refusal.Refusal.{Refusal}
use Rattle.calls.specs.declared.refusal.Refusal.TheVariants.{BadWord}
use Rattle.calls.specs.declared.status.Status.TheVariants.{Waiting}
use Rattle.words.specs.Journal.{Reading, next, ended}
use Rattle.words.specs.Kinds.{kind_in, value_in}
use Rattle.words.specs.Shapes.{call_number}
use Rattle.answers.specs.Writing.{answer_words}
use Rattle.words.specs.Writing.{fit}
use Rattle.words.specs.declared.misread.Misread.{Misread}

-- A signed figure is below 0 where its word is of kind 7.
abbrev pub is_below : ℕ → Bool
is_below w = kind_in w == 7

abbrev pub signed_by : Bool → ℕ → ℤ
signed_by true n = neg_ℤ (pos n)
signed_by false n = pos n

abbrev pub signed_in : ℕ → ℤ
signed_in w = signed_by (is_below w) (value_in w)

-- A line is below 0 where one of its two words is of kind 7.
abbrev pub line_in : ℕ → ℕ → ℤ
line_in high low = signed_by (is_below high || is_below low) (value_in high * 100000000 + value_in low % 100000000)

-- As many lines, from a place of the words on.
abbrev pub lines_in : ℕ → ℕ → List ℕ → List ℤ
lines_in zero at ws = []
lines_in (suc n) at ws = line_in (slice_index ws at) (slice_index ws (suc at)) ∷ lines_in n (suc (suc at)) ws

abbrev pub stated_in : List ℕ → StatedTerm
stated_in ws = record {
  term = value_in (slice_index ws 2);
  pool = value_in (slice_index ws 3);
  status = unwrap_or (status_at (value_in (slice_index ws 4))) Waiting;
  next = value_in (slice_index ws 5);
  balance = signed_in (slice_index ws 6);
  on_offer = value_in (slice_index ws 7);
  lines = lines_in 5 8 ws;
}

abbrev pub refusal_in : List ℕ → Refusal
refusal_in ws = unwrap_or (refusal_at (value_in (slice_index ws 0)) (value_in (slice_index ws 1))) BadWord

abbrev pub is_statement : Call → Bool
is_statement c = call_number c == 10

-- The answer to a call that the values of the words make: refused where the first word is of kind 9.
abbrev pub answer_in : Call → List ℕ → Answer
answer_in c ws =
    cond (kind_in (slice_index ws 0) == 9) (Refused (refusal_in ws))
    (cond (is_statement c) (Stated (stated_in ws)) (Done (value_in (slice_index ws 0))))

-- The first place where the words are not as expected, or end.
abbrev pub onward : Option ℕ → Option ℕ
onward None = None
onward (Some at) = Some (at + 1)

abbrev pub differs : List ℕ → List ℕ → Option ℕ
differs [] ws = None
differs (e ∷ es) [] = Some 0
differs (e ∷ es) (w ∷ ws) = cond (w == e) (onward (differs es ws)) (Some 0)

-- An answer is read by its values, and stands if its writing is exactly these words;
-- otherwise the first word that differs from its writing is wrong, or missing.
abbrev pub checked : Answer → Option ℕ → Result (Answer × ℕ) ℕ
checked a None = Ok (a, length (answer_words a))
checked a (Some at) = Err at

abbrev pub read_answer : Call → List ℕ → Result (Answer × ℕ) ℕ
read_answer c ws = checked (answer_in c ws) (differs (answer_words (answer_in c ws)) ws)

-- The answers to these calls, one after the other, with no word left.
abbrev pub read_answers : List Call → List ℕ → Reading Answer
read_answers [] ws = ended ws
read_answers (c ∷ cs) ws = next (read_answer c ws) (λ used. read_answers cs (drop used ws))

abbrev pub answers_words : List Answer → List ℕ
answers_words [] = []
answers_words (a ∷ rs) = answer_words a ++ answers_words rs

-- A statement's figures fit: its five lines where their size over 100,000,000 does.
abbrev pub line_highs : List ℤ → List ℕ
line_highs [] = []
line_highs (x ∷ xs) = unsigned_abs x / 100000000 ∷ line_highs xs

abbrev pub stated_fits : StatedTerm → Bool
stated_fits s = fit (s.term ∷ s.pool ∷ s.next ∷ unsigned_abs s.balance ∷ s.on_offer ∷ line_highs s.lines)
    && length s.lines == 5

-- An answer is one that the call can have, and its figures fit: done, by a statement where the call asks for
-- one, or refused.
abbrev pub answer_fits : Call → Answer → Bool
answer_fits c (Done n) = not (is_statement c) && nat_lt n 268435456
answer_fits c (Stated s) = is_statement c && stated_fits s
answer_fits c (Refused r) = nat_lt (lacking_day r) 268435456

abbrev pub answers_fit : List Call → List Answer → Bool
answers_fit [] [] = true
answers_fit [] (a ∷ rs) = false
answers_fit (c ∷ cs) [] = false
answers_fit (c ∷ cs) (a ∷ rs) = answer_fits c a && answers_fit cs rs

-- Two words, or eighteen for a statement.
abbrev pub answer_count : Answer → ℕ
answer_count (Done n) = 2
answer_count (Stated s) = 18
answer_count (Refused r) = 2

-- A reader's step: the answer to a call, and the place is past it; or a stop, and the place is as it was.
pub record Replied (c : Call) (words : List ℕ) (place : ℕ) (a : Answer) (after : ℕ) : Type 0 where
  pub used : ℕ
  pub read : read_answer c (drop place words) ≡ Ok (a, used)
  pub moved : after ≡ place + used
  pub within : after ≤ length words

pub record Unreplied (c : Call) (words : List ℕ) (place : ℕ) (at : ℕ) : Type 0 where
  pub off : ℕ
  pub read : read_answer c (drop place words) ≡ Err off
  pub here : at ≡ place + off

abbrev pub Reply : Call → List ℕ → ℕ → Result Answer Misread → ℕ → Type 0
Reply c words place (Ok a) after = Replied c words place a after
Reply c words place (Err e) after = Unreplied c words place e.place × (after ≡ place)
