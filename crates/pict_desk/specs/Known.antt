-- The values of levels, two words each in a heap, and operands whose variables are levels.
use Rattle.std.specs.Prelude.{ℕ, List, [], ◌∷◌, option_map, unwrap_or, slice_index_or, pos}
use Rattle.pict_core.specs.Term.{Val, Vals, Chan, Int, Record, no_vals, more_vals}
use Rattle.pict_core.specs.Substitution.{replace_value}
use Rattle.pict_heap.specs.HeapState.{HeapState, value_of}
use Rattle.pict_heap.specs.Packed.{unpacked}

-- the two words of a level
abbrev pub pair_at : List (ℕ × ℕ) → ℕ → ℕ × ℕ
pair_at values level = slice_index_or values level (0, 0)

-- what two words stand for in a heap
abbrev pub value_in : HeapState → ℕ → ℕ → Val
value_in h tag payload = unwrap_or (option_map (value_of h) (unpacked tag payload)) (Int (pos 0))

abbrev pub list_of_vals : Vals → List Val
list_of_vals no_vals = []
list_of_vals (more_vals v vs) = v ∷ list_of_vals vs

abbrev pub value_fields : Val → List Val
value_fields (Record vs ls) = list_of_vals vs
value_fields _ = []

-- the value of each level, of which these are the words
abbrev pub known : HeapState → List (ℕ × ℕ) → ℕ → Val
known h values level = value_in h (pair_at values level).0 (pair_at values level).1

-- an operand, whose variables are levels with these values
abbrev pub operand_value : (ℕ → Val) → Val → Val
operand_value value v = replace_value (record { variable = value; channel = Chan }) v
