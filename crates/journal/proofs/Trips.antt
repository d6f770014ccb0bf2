-- A run told by its calls: one call after the other, along the reading of the words.
use Rattle.std.proofs.Common.{◌≡◌, ℕ, zero, suc, ◌+◌, ◌-◌, ◌≤◌, inl, inr, List, [], ◌∷◌, ◌++◌, length, take}
use Rattle.std.proofs.Common.{drop, IfOk, Some, Ok, Err, Option, Result, sym, refl, ap, ◌∙◌, subst, arith}
use Rattle.std.proofs.lemmas.List.{append-nil, length-append, length-drop, take_at}
use Rattle.std.proofs.lemmas.Bool.{cases_lt}
use Rattle.answers.specs.Answers.{answers_words}
use Rattle.answers.specs.Writing.{answer_words}
use Rattle.calls.specs.declared.call.Call.{Call}
use Rattle.calls.specs.declared.refusal.Refusal.TheVariants.{BadWord, NoRoom}
use Rattle.book.specs.State.{State}
use Rattle.book.specs.Meanings.{Meaning}
use Rattle.book.specs.Step.{step}
use Rattle.words.specs.Ends.{read_of}
use Rattle.words.specs.Journal.{Reading, whole, halted, add, read_calls}
use Rattle.words.specs.Lists.{calls_words}
use Rattle.words.specs.Reading.{read_call}
use Rattle.words.specs.Writing.{call_words}
use Rattle.words.proofs.Codec.{Front, front}
use Rattle.words.proofs.Wholes.{calls_step, calls_stop}
use Rattle.journal.specs.Runs.{Ending, Runs, run_from}
use Rattle.journal.specs.Trips.{answers_of, state_after, AllMade, MadeToWord, MadeToRoom, Which, Told}
use Rattle.journal.specs.declared.ran.Ran.{Ran}
use Rattle.journal.specs.declared.stop.Stop.{Stop}
use Rattle.journal.proofs.Steps.{run_wrong, run_full, run_more}

-- an ending by its calls
record Trip (m : Meaning) (ws : List ℕ) (place room : ℕ) (s : State) (e : Ending) : Type 0 where
  calls : List Call
  which : Which m ws place room s calls e.stop
  words : e.words ≡ answers_words (answers_of m s calls)
  state : e.after ≡ state_after m s calls

-- what is read with one call more in front
read_add : (c : Call) (used : ℕ) (r : Reading Call) → read_of (add c used r) ≡ c ∷ read_of r
read_add c used (whole cs) = refl
read_add c used (halted cs at) = refl

-- one call in front of the calls that the rest of the words comes to
module _ (m : Meaning) (words rest : List ℕ) (place room : ℕ) (s : State) (c : Call) (used : ℕ)
    (reads : read_calls words ≡ add c used (read_calls rest)) (long : used ≡ length (call_words c)) where
  more_all : (cs : List Call) (stop : Option Stop) → AllMade rest cs stop → AllMade words (c ∷ cs) stop
  more_all cs stop a = record { read = reads ∙ ap (add c used) a.read; stops = a.stops }

  more_word : (cs : List Call) (stop : Option Stop) → MadeToWord rest (place + used) cs stop
      → MadeToWord words place (c ∷ cs) stop
  more_word cs stop u = record {
    at = used + u.at;
    read = reads ∙ ap (add c used) u.read;
    stops = u.stops ∙ ap (λ p. Some (record { refusal = BadWord; place = p })) (omega arith);
  }

  more_room : (cs : List Call) (stop : Option Stop)
      → MadeToRoom m rest (place + used) (room - length (answer_words (step m s c).answer)) (step m s c).after cs stop
      → MadeToRoom m words place room s (c ∷ cs) stop
  more_room cs stop u = record {
    next = u.next;
    rest = u.rest;
    read = ap read_of reads ∙ read_add c used (read_calls rest) ∙ ap (λ ds. c ∷ ds) u.read;
    full = omega (
      arith,
      u.full,
      length-append (answer_words (step m s c).answer)
          (answers_words (answers_of m (step m s c).after (cs ++ u.next ∷ []))),
    );
    stops = u.stops ∙ ap (λ p. Some (record { refusal = NoRoom; place = p }))
        (omega (arith, long, length-append (call_words c) (calls_words cs)));
  }

  more : (cs : List Call) (stop : Option Stop)
      → Which m rest (place + used) (room - length (answer_words (step m s c).answer)) (step m s c).after cs stop
      → Which m words place room s (c ∷ cs) stop
  more cs stop (inl a) = inl (more_all cs stop a)
  more cs stop (inr (inl u)) = inr (inl (more_word cs stop u))
  more cs stop (inr (inr u)) = inr (inr (more_room cs stop u))

-- by the words that are left
trip_step : (m : Meaning) (w : ℕ) (ws : List ℕ) (place room : ℕ) (s : State)
    → ((used room : ℕ) (t : State) → 1 ≤ used
    → Trip m (drop used (w ∷ ws)) (place + used) room t (run_from m (drop used (w ∷ ws)) (place + used) 0 room t))
    → (r : Result (Call × ℕ) ℕ) → read_call (w ∷ ws) ≡ r → IfOk r (Front (w ∷ ws))
    → Trip m (w ∷ ws) place room s (run_from m (w ∷ ws) place 0 room s)
trip_step m w ws place room s ih (Err at) e f =
    rw (run_wrong m (w ∷ ws) place room s at (omega arith) e) (record {
      calls = [];
      which = inr (inl (record { at = at; read = calls_stop (w ∷ ws) at (omega arith) e; stops = refl }));
      words = refl;
      state = refl;
    })
trip_step m w ws place room s ih (Ok (c, used)) e f =
    let some : 1 ≤ used = omega (arith, f.long) in
    let reads = calls_step (w ∷ ws) c used e some in
    let a = answer_words (step m s c).answer in
    elim (cases_lt room (length a)) [
      | inl full ↦ rw (run_full m (w ∷ ws) place room s (c, used) (omega arith) e full) (record {
        calls = [];
        which = inr (inr (record {
          next = c;
          rest = read_of (read_calls (drop used (w ∷ ws)));
          read = ap read_of reads ∙ read_add c used (read_calls (drop used (w ∷ ws)));
          full = omega (arith, full, ap length (append-nil a));
          stops = ap (λ p. Some (record { refusal = NoRoom; place = p })) (omega arith);
        }));
        words = refl;
        state = refl;
      })
      | inr fits ↦ let t = ih used (room - length a) (step m s c).after some in
          rw (run_more m (w ∷ ws) place room s (c, used) (omega arith) e some fits) (record {
            calls = c ∷ t.calls;
            which = more m (w ∷ ws) (drop used (w ∷ ws)) place room s c used reads f.long t.calls _ t.which;
            words = ap (λ x. a ++ x) t.words;
            state = t.state;
          })
    ]

trip : (m : Meaning) (n : ℕ) (words : List ℕ) (place room : ℕ) (s : State) → length words ≤ n
    → Trip m words place room s (run_from m words place 0 room s)
trip m n [] place room s h = record {
  calls = [];
  which = inl (record { read = refl; stops = refl });
  words = refl;
  state = refl;
}
trip m zero (w ∷ ws) place room s h = absurd (omega arith)
trip m (suc n) (w ∷ ws) place room s h =
    trip_step m w ws place room s
    (λ used left t some. trip m n (drop used (w ∷ ws)) (place + used) left t
    (omega (arith, h, some, length-drop used (w ∷ ws))))
    (read_call (w ∷ ws)) refl (front (w ∷ ws))

-- a run of the book's is told by its calls
pub told : (m : Meaning) (words : List ℕ) (room : ℕ) (s t : State) (r : Ran) (before after : List ℕ)
    → length words ≤ 8192 → Runs (run_from m words 0 0 room s) r before after t → Told m words room s r after t
told m words room s t r before after h x =
    let p = trip m (length words) words 0 room s (omega arith) in
    record {
      calls = p.calls;
      which = inr (subst (Which m words 0 room s p.calls) (sym x.stops) p.which);
      count = x.count ∙ ap length p.words;
      written = ap (take r.written) x.memory ∙ take_at _ _ r.written (sym x.count) ∙ p.words;
      state = x.state ∙ p.state;
    }
