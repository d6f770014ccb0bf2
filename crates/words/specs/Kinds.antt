-- Words: 32 bits, the kind in the top 4 and the value in the low 28.
use Rattle.std.specs.Prelude.{ℕ, ◌+◌, ◌*◌, ◌/◌, ◌%◌}
use Rattle.words.specs.declared.kind.Kind.{Kind}
use Rattle.words.specs.declared.kind.Kind.TheVariants.{Call, Number, Day, Volume, Point}
use Rattle.words.specs.declared.kind.Kind.TheVariants.{Figure, Below, Done, Refused, Status}

abbrev pub kind_number : Kind → ℕ
kind_number Call = 1
kind_number Number = 2
kind_number Day = 3
kind_number Volume = 4
kind_number Point = 5
kind_number Figure = 6
kind_number Below = 7
kind_number Done = 8
kind_number Refused = 9
kind_number Status = 10

-- the bits of a value: 2 ^ 28
abbrev pub kind_in : ℕ → ℕ
kind_in w = w / 268435456

abbrev pub value_in : ℕ → ℕ
value_in w = w % 268435456

-- The word of a kind and a value; of a value past 28 bits it holds the low 28.
abbrev pub word : Kind → ℕ → ℕ
word k v = kind_number k * 268435456 + v % 268435456
