-- What the tables tell of the book's accounts when a term is opened.
use Rattle.std.proofs.Common.{◌≡◌, refl, vec_items}
use Rattle.std.specs.List.{list_any}
use Rattle.calls.specs.declared.arguments.Opening.{Opening}
use Rattle.book.specs.Open.{overlapping}
use Rattle.accounts.specs.Plans.{term_overlaps}
use Rattle.tables.proofs.Accounts.{told, view_any}
use Rattle.tables.specs.View.{view_accounts}
use Rattle.tables.specs.declared.tables.Tables.{Tables}

pub view_overlaps : (t : Tables) (o : Opening)
    → list_any (overlapping o) (view_accounts t) ≡ list_any (term_overlaps o) (vec_items t.terms)
view_overlaps t o = view_any t (overlapping o) (term_overlaps o) (λ c g l. refl)

-- for `grind`
pub ruleset told_open = (told, view_overlaps)
