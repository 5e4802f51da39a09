-- The fields of a value.
use Rattle.std.specs.Prelude.{ℕ, zero, suc}
use Rattle.pict_core.specs.Term.{Val, Vals, Labelled, Record, no_vals, more_vals, no_labelled, more_labelled}

-- the positional fields of a record; any other value has none
abbrev pub positional_in : Val → Vals
positional_in (Record vs ls) = vs
positional_in _ = no_vals

-- the fields with labels of a record; any other value has none
abbrev pub labelled_in : Val → Labelled
labelled_in (Record vs ls) = ls
labelled_in _ = no_labelled

abbrev pub drop_vals : ℕ → Vals → Vals
drop_vals zero vs = vs
drop_vals (suc i) no_vals = no_vals
drop_vals (suc i) (more_vals v vs) = drop_vals i vs

abbrev pub drop_labelled : ℕ → Labelled → Labelled
drop_labelled zero ls = ls
drop_labelled (suc i) no_labelled = no_labelled
drop_labelled (suc i) (more_labelled label v ls) = drop_labelled i ls

-- those from an index on
abbrev pub positional_from : ℕ → Val → Vals
positional_from i v = drop_vals i (positional_in v)

abbrev pub labelled_from : ℕ → Val → Labelled
labelled_from i v = drop_labelled i (labelled_in v)
