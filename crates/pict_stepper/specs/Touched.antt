-- Which processes a step touches, by their stamps.
use Rattle.std.specs.Prelude.{ℕ, Bool, ◌||◌, nat_le, Option}
use Rattle.pict_stepper.specs.Told.{is_either}

-- the stamp is that of who acts or of the partner, or a new one: from this one on
abbrev pub is_touched : ℕ → ℕ → Option ℕ → ℕ → Bool
is_touched from actor partner s = is_either actor partner s || nat_le from s
