-- day: turns to the next day; answers it.
use Rattle.std.specs.Prelude.{◌+◌, [], ◌∷◌, nat_le}
use Rattle.calendar.specs.Days.{last_day}
use Rattle.calls.specs.declared.refusal.Refusal.TheVariants.{LastDay}
use Rattle.book.specs.Rulings.{Ruling, figure}
use Rattle.book.specs.State.{State, state}

-- 2: the day is the last.
abbrev pub day_ruling : State → Ruling
day_ruling s = record {
  refusals =
      (nat_le last_day s.day, LastDay)
      ∷ [];
  reply = figure (s.day + 1);
  after = state (s.day + 1) s.allowances s.accounts;
}
