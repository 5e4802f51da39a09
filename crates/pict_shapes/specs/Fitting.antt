-- Whether a pattern finds what it binds.
use Rattle.std.specs.Prelude.{ℕ, Bool, true, false, List, map, Option, Some, None}
use Rattle.pict_syntax.specs.declared.name.Name.{Name}
use Rattle.pict_core.specs.Plain.{plain_val, vals_of, labelled_of}
use Rattle.pict_core.specs.Term.{Val, Vals, Labelled}
use Rattle.pict_core.specs.declared.value.CoreVal.{CoreVal}
use Rattle.pict_desk.specs.Arguments.{operand_in}
use Rattle.pict_heap.specs.HeapState.{HeapState}

abbrev pub is_found : Option (List Val) → Bool
is_found None = false
is_found (Some bound) = true

-- the values of operands, whose variables have the words of their levels
abbrev pub values_in : HeapState → List (ℕ × ℕ) → List CoreVal → Vals
values_in h values operands = vals_of (map (λ v. operand_in h values (plain_val v)) operands)

-- the same of operands with labels
abbrev pub fields_in : HeapState → List (ℕ × ℕ) → List (Name × CoreVal) → Labelled
fields_in h values fields = labelled_of (map (λ f. (f.0, operand_in h values (plain_val f.1))) fields)

-- the labels of operands
abbrev pub labels_in : List (Name × CoreVal) → List ℕ
labels_in fields = map (λ f. f.0.0) fields
