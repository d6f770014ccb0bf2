-- What a function answers that reads to the end.
use Rattle.std.specs.Prelude.{◌≡◌, ◌≤◌, List, length, Ok, Err, vec_items, Result, Vec}
use Rattle.std.specs.declared.alloc.Global.{Global}
use Rattle.words.specs.Journal.{Reading, whole, halted}
use Rattle.words.specs.declared.unread.Unread.{Unread}
use Rattle.words.specs.declared.unread.Unread.TheVariants.{Stop, NoMemory}

-- What was read before the end or the stop.
abbrev pub read_of : {X : Type 0} → Reading X → List X
read_of (whole xs) = xs
read_of (halted xs at) = xs

-- The place of the stop, or want of memory for something that was read.
abbrev pub EndsAt : {X : Type 0} → Reading X → Unread → Type 0
EndsAt {X} s (Stop e) = (xs : List X) × (s ≡ halted xs e.place)
EndsAt s NoMemory = 1 ≤ length (read_of s)

abbrev pub ToEnd : {X : Type 0} → Reading X → Result (Vec X Global) Unread → Type 0
ToEnd s (Ok v) = s ≡ whole (vec_items v)
ToEnd s (Err e) = EndsAt s e
