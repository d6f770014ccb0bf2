-- What is written of a word that could not be read, and of words that were not read to the end; and their refusals.
use Rattle.std.specs.Prelude.{ℕ, List, ◌++◌, codes, decimal, Some, None, Option}
use Rattle.calls.specs.declared.refusal.Refusal.{Refusal}
use Rattle.calls.specs.declared.refusal.Refusal.TheVariants.{BadWord}
use Rattle.words.specs.declared.misread.Misread.{Misread}
use Rattle.words.specs.declared.unread.Unread.{Unread}
use Rattle.words.specs.declared.unread.Unread.TheVariants.{Stop, NoMemory}

abbrev pub misread_text : Misread → List ℕ
misread_text m = codes "word " ++ (decimal m.place ++ codes " is wrong, unknown, missing or left over")

-- The refusal that it stands for, 1.
abbrev pub misread_refusal : Misread → Refusal
misread_refusal m = BadWord

abbrev pub unread_refusal : Unread → Option Refusal
unread_refusal (Stop m) = Some (misread_refusal m)
unread_refusal NoMemory = None

abbrev pub unread_text : Unread → List ℕ
unread_text (Stop m) = misread_text m
unread_text NoMemory = codes "out of memory"
