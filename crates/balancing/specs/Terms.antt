-- The ranges of a term's figures.
use Rattle.std.specs.Prelude.{ℕ, Bool, ◌&&◌, nat_le}
use Rattle.balancing.specs.Limits.{mdv_limit, term_days}

-- A term has an MDV of 1 to 500,000 and runs 1 to 366 days.
abbrev pub is_term : ℕ → ℕ → Bool
is_term mdv days = (nat_le 1 mdv && nat_le mdv mdv_limit) && (nat_le 1 days && nat_le days term_days)
