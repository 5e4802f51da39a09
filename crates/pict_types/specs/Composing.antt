-- Renamings, fillings and replacements one after the other, as one.
use Rattle.std.specs.Prelude.{ℕ, Option, Some, None}
use Rattle.pict_types.specs.Types.{PlainArg, Plain, Op}
use Rattle.pict_types.specs.Renaming.{rename}
use Rattle.pict_types.specs.Replacing.{Filling, fill, Head, variable, operator, nothing, rename_head, Replacement, replacement_past, replace}
use Rattle.pict_types.specs.Filling.{filling_past}

abbrev pub renamed_variable : (ℕ → ℕ) → Option ℕ → Option ℕ
renamed_variable f None = None
renamed_variable f (Some i) = Some (f i)

abbrev pub variable_through : Option ℕ → (ℕ → Option ℕ) → Option ℕ
variable_through None f = None
variable_through (Some i) f = f i

abbrev pub head_of_variable : Option ℕ → Head
head_of_variable None = nothing
head_of_variable (Some i) = variable i

abbrev pub head_through : Option ℕ → (ℕ → Head) → Head
head_through None f = nothing
head_through (Some i) f = f i

-- what stands for an applied variable, filled and replaced
abbrev pub fill_head : Filling → Head → Head
fill_head s (variable i) = head_of_variable (s.head_for i)
fill_head s (operator n t) = operator n (fill (filling_past n s) t)
fill_head s nothing = nothing

abbrev pub replace_head : Replacement → Head → Head
replace_head r (variable i) = r.head_of i
replace_head r (operator n t) = operator n (replace (replacement_past n r) t)
replace_head r nothing = nothing

abbrev pub replace_arg : Replacement → PlainArg → PlainArg
replace_arg r (Plain t) = Plain (replace r t)
replace_arg r (Op n t) = Op n (replace (replacement_past n r) t)

-- the first, and then the second
abbrev pub renaming_then_filling : (ℕ → ℕ) → Filling → Filling
renaming_then_filling f s = record { type_for = λ i. s.type_for (f i); head_for = λ i. s.head_for (f i) }

abbrev pub filling_then_renaming : Filling → (ℕ → ℕ) → Filling
filling_then_renaming s f = record { type_for = λ i. rename f (s.type_for i); head_for = λ i. renamed_variable f (s.head_for i) }

abbrev pub filling_then_filling : Filling → Filling → Filling
filling_then_filling s u = record { type_for = λ i. fill u (s.type_for i); head_for = λ i. variable_through (s.head_for i) u.head_for }

abbrev pub renaming_then_replacement : (ℕ → ℕ) → Replacement → Replacement
renaming_then_replacement f r = record { type_of = λ i. r.type_of (f i); head_of = λ i. r.head_of (f i) }

abbrev pub replacement_then_renaming : Replacement → (ℕ → ℕ) → Replacement
replacement_then_renaming r f = record { type_of = λ i. rename f (r.type_of i); head_of = λ i. rename_head f (r.head_of i) }

abbrev pub filling_then_replacement : Filling → Replacement → Replacement
filling_then_replacement s r = record { type_of = λ i. replace r (s.type_for i); head_of = λ i. head_through (s.head_for i) r.head_of }

abbrev pub replacement_then_filling : Replacement → Filling → Replacement
replacement_then_filling r s = record { type_of = λ i. fill s (r.type_of i); head_of = λ i. fill_head s (r.head_of i) }

abbrev pub replacement_then_replacement : Replacement → Replacement → Replacement
replacement_then_replacement r q = record { type_of = λ i. replace q (r.type_of i); head_of = λ i. replace_head q (r.head_of i) }
