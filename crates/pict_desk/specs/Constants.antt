-- Constants: the words of operands without variables, which are made once.
use Rattle.std.specs.Prelude.{◌≡◌, ℕ, false, List, [], ◌∷◌, Option, Some, None}
use Rattle.pict_syntax.specs.declared.span.Span.{Span}
use Rattle.pict_core.specs.Closed.{IsOver}
use Rattle.pict_core.specs.Term.{Val, Vals, Labelled}
use Rattle.pict_code.specs.Frames.{in_value, in_values, in_labelled}
use Rattle.pict_code.specs.Instruction.{Op, Zero, Par, New, Out, In, Serve, If, Node}
use Rattle.pict_heap.specs.HeapState.{HeapState, IsWord, KeepsWords, value_of}
use Rattle.pict_heap.specs.declared.word.Word.{Word}
use Rattle.pict_desk.specs.Known.{operand_value}
use Rattle.pict_desk.specs.AtHand.{IsOfHeap}
use Rattle.pict_desk.specs.declared.desk.Desk.{Desk}

-- no variable occurs in the value
abbrev pub HasNoVariable : Val → Type 0
HasNoVariable v = (level : ℕ) → in_value level v ≡ false

-- the same of values that are fields, without labels and with them
abbrev pub HaveNoVariable : Vals → Type 0
HaveNoVariable vs = (level : ℕ) → in_values level vs ≡ false

abbrev pub LabelledHaveNone : Labelled → Type 0
LabelledHaveNone ls = (level : ℕ) → in_labelled level ls ≡ false

-- the word of the heap stands for the operand, whatever the values of levels are
pub record IsConstantWord (h : HeapState) (v : Val) (w : Word) : Type 0 where
  pub word : IsWord h w
  pub value : (levels : ℕ → Val) → value_of h w ≡ operand_value levels v

-- What is made once of an operand: its word, or nothing, where it has a variable or takes nothing of a heap.
abbrev pub IsConstant : HeapState → Val → Option Word → Type 0
IsConstant h v (Some w) = IsConstantWord h v w
IsConstant h v None = IsOfHeap v → ¬ HasNoVariable v

-- What is made once for an instruction: for an output the constant of its message, and nothing for others.
abbrev pub IsConstantFor : HeapState → Op → Option Word → Type 0
IsConstantFor h (Out chan message at) constant = IsConstant h message constant
IsConstantFor h Zero constant = constant ≡ None
IsConstantFor h (Par left right) constant = constant ≡ None
IsConstantFor h (New level part) constant = constant ≡ None
IsConstantFor h (In chan pattern part) constant = constant ≡ None
IsConstantFor h (Serve chan pattern part) constant = constant ≡ None
IsConstantFor h (If test left right) constant = constant ≡ None

-- the message of an output has no channel, and its variables are below some level
abbrev pub HasMessageOver : Op → Type 0
HasMessageOver o = (chan message : Val) (at : Span) → o ≡ Out chan message at → (n : ℕ) × IsOver n 0 message

-- one place for each node, in their order
abbrev pub AreConstants : HeapState → List Node → List (Option Word) → Type 0
AreConstants h [] [] = Unit {0}
AreConstants h (node ∷ nodes) (constant ∷ constants) = IsConstantFor h node.op constant × AreConstants h nodes constants
AreConstants h _ _ = ⊥

-- Words may have been made, and room. The values of levels are as they were.
pub record OnlyMakes (old new : Desk) : Type 0 where
  pub words : KeepsWords old.heap new.heap
  pub values : new.values.items ≡ old.values.items
