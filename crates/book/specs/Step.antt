-- The book's step: a call is one row.
use Rattle.calls.specs.declared.call.Call.{Call}
use Rattle.calls.specs.declared.call.Call.TheVariants.{Day, Open, Post, Statement}
use Rattle.book.specs.Day.{day_ruling}
use Rattle.book.specs.Meanings.{Meaning}
use Rattle.book.specs.Open.{open_ruling}
use Rattle.book.specs.Post.{post_ruling}
use Rattle.book.specs.Rulings.{Ruling, Outcome, outcome}
use Rattle.book.specs.State.{State}
use Rattle.book.specs.Statement.{statement_ruling}

abbrev pub ruling : Meaning → State → Call → Ruling
ruling m s Day = day_ruling s
ruling m s (Open o) = open_ruling s o
ruling m s (Post p) = post_ruling m.overrun s p
ruling m s (Statement n) = statement_ruling s n

-- A call is answered by the first refusal of its ruling that holds, or by its reply.
abbrev pub step : Meaning → State → Call → Outcome
step m s c = outcome s (ruling m s c)
