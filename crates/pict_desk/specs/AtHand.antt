-- Operands whose words take nothing of a heap.
use Rattle.std.specs.Prelude.{◌≡◌, ℕ, ℤ, List, Option, Some, None}
use Rattle.pict_syntax.specs.declared.primitive.Primitive.{Primitive}
use Rattle.pict_core.specs.Term.{Val, Var, Chan, Int, Text, PrimitiveVal, Record}
use Rattle.pict_heap.specs.HeapState.{HeapState, value_of, IsWord}
use Rattle.pict_heap.specs.Packed.{FitsWord}
use Rattle.pict_heap.specs.declared.word.Word.{Word}
use Rattle.pict_desk.specs.Known.{value_in, known, operand_value}
use Rattle.pict_desk.specs.Pairs.{IsPair, ArePairs}

-- the word is one of the heap, within the ranges of its numbers, and stands for the value
pub record IsWordFor (h : HeapState) (v : Val) (w : Word) : Type 0 where
  pub word : IsWord h w
  pub fits : FitsWord w
  pub value : value_of h w ≡ v

-- the two words are those of a word of the heap that stands for the value
pub record IsPairFor (h : HeapState) (v : Val) (pair : ℕ × ℕ) : Type 0 where
  pub pair_is : IsPair h pair
  pub value : value_in h pair.0 pair.1 ≡ v

-- a text or a record, of which only a heap has the word
abbrev pub IsOfHeap : Val → Type 0
IsOfHeap (Text bytes) = Unit {0}
IsOfHeap (Record vs ls) = Unit {0}
IsOfHeap _ = ⊥

-- a variable, a channel or a number
abbrev pub IsCommon : Val → Type 0
IsCommon (Var level) = Unit {0}
IsCommon (Chan c) = Unit {0}
IsCommon (Int n) = Unit {0}
IsCommon _ = ⊥

-- a variable, a channel, a number, a character or a truth value
abbrev pub IsSmall : Val → Type 0
IsSmall (Text bytes) = ⊥
IsSmall (PrimitiveVal p) = ⊥
IsSmall (Record vs ls) = ⊥
IsSmall _ = Unit {0}

-- the channel that a value is
abbrev pub channel_named : Val → Option ℕ
channel_named (Chan c) = Some c
channel_named _ = None

-- the number that a value is
abbrev pub number_named : Val → Option ℤ
number_named (Int n) = Some n
number_named _ = None

-- The operand stands for this primitive. Each variable has the two words of its level among the values.
pub record StandsForPrimitive (h : HeapState) (values : List (ℕ × ℕ)) (operand : Val) (p : Primitive) : Type 0 where
  pub pairs : ArePairs h values
  pub is : operand_value (known h values) operand ≡ PrimitiveVal p
