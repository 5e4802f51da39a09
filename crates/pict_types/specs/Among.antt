-- Some of the variables of a place.
use Rattle.std.specs.Prelude.{ℕ, Bool, false, nat_le, nat_lt, reverse, slice_get, unwrap_or}
use Rattle.pict_types.specs.declared.mentioning.Variables.{Variables}
use Rattle.pict_types.specs.declared.mentioning.Variables.TheVariants.{Innermost, Outer, Marked}

-- variable i is one of these; of marks, the last one is that of variable 0
abbrev pub is_among : Variables → ℕ → Bool
is_among (Innermost n) i = nat_lt i n
is_among (Outer n) i = nat_le n i
is_among (Marked marks) i = unwrap_or (slice_get (reverse marks.now) i) false
