-- What a primitive answers of two numbers, which takes nothing of a heap.
use Rattle.std.specs.Prelude.{◌≡◌, ℤ, Option, Some}
use Rattle.pict_core.specs.Term.{Val, Labelled, Int, Record, no_vals, more_vals}
use Rattle.pict_core.specs.Primitives.{Effect, Trap, answers}
use Rattle.pict_heap.specs.HeapState.{HeapState, value_of, IsWord}
use Rattle.pict_heap.specs.declared.word.Word.{Word}

-- the record of two numbers and a third field, with labels
abbrev pub of_numbers : ℤ → ℤ → Val → Labelled → Val
of_numbers a b k labelled = Record (more_vals (Int a) (more_vals (Int b) (more_vals k no_vals))) labelled

-- Whatever k is, the effect is to print nothing and to answer at k what this word stands for: it is a word of every heap, and
-- stands for the same in each.
pub record AnswersWord (effect : Val → Option Effect) (answer : Word) : Type 0 where
  pub word : (h : HeapState) → IsWord h answer
  pub is : (h : HeapState) (k : Val) → effect k ≡ answers k (value_of h answer)

-- Whatever k is, there is no effect, or a trap.
abbrev pub AnswersNothing : (Val → Option Effect) → Type 0
AnswersNothing effect = (k : Val) (e : Effect) → effect k ≡ Some e → e.leaves ≡ Trap
