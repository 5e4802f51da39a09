-- Types put for the innermost type variables, under binders.
use Rattle.std.specs.Prelude.{ℕ, zero, suc, ◌+◌, Some}
use Rattle.pict_types.specs.Types.{Var, PlainTypes, count_types}
use Rattle.pict_types.specs.Replacing.{Filling, filling_beyond, with_types}

-- a filling under so many binders
abbrev pub filling_past : ℕ → Filling → Filling
filling_past zero s = s
filling_past (suc d) s = filling_beyond (filling_past d s)

-- each variable stays, with k more binders between it and its own
abbrev pub moved_by : ℕ → Filling
moved_by k = record { type_for = λ i. Var (i + k); head_for = λ i. Some (i + k) }

-- these types for the innermost variables, the last one for variable 0; k more binders for the others
abbrev pub put_for : PlainTypes → ℕ → Filling
put_for us k = with_types (count_types us) us (moved_by k)
