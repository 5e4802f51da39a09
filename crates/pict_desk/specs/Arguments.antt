-- Arguments of primitives, as operands.
use Rattle.std.specs.Prelude.{◌≡◌, ◌≤◌, ℕ, max, All, List, map, length, Some}
use Rattle.pict_core.specs.Term.{Val, Labelled, Record, Text}
use Rattle.pict_core.specs.Plain.{plain_val, vals_of}
use Rattle.pict_core.specs.Primitives.{Effect, Answer, effect_of}
use Rattle.pict_core.specs.declared.value.CoreVal.{CoreVal}
use Rattle.pict_heap.specs.HeapState.{HeapState, value_of, IsWord}
use Rattle.pict_heap.specs.declared.word.Word.{Word}
use Rattle.pict_prim.specs.declared.act.Need.{Need}
use Rattle.pict_desk.specs.Known.{known, operand_value}
use Rattle.pict_desk.specs.Needs.{both_needs, needs_of, HasRoomFor}
use Rattle.pict_syntax.specs.declared.primitive.Primitive.{Primitive}
use Rattle.pict_desk.specs.declared.desk.Desk.{Desk}

-- the value of an operand, with the values of the levels
abbrev pub operand_in : HeapState → List (ℕ × ℕ) → Val → Val
operand_in h values v = operand_value (known h values) v

-- the record of fields without labels that are these operands, and of these fields with labels
abbrev pub argument_of : HeapState → List (ℕ × ℕ) → List CoreVal → Labelled → Val
argument_of h values fields labelled = Record (vals_of (map (λ v. operand_in h values (plain_val v)) fields)) labelled

-- the record of fields without labels that are these words, and of these fields with labels
abbrev pub record_of_words : HeapState → List Word → Labelled → Val
record_of_words h words labelled = Record (vals_of (map (value_of h) words)) labelled

-- these words of the heap stand for the operands
pub record AreWordsFor (h : HeapState) (values : List (ℕ × ℕ)) (fields : List CoreVal) (words : List Word) : Type 0 where
  pub are : All (IsWord h) words
  pub stand : map (value_of h) words ≡ map (λ v. operand_in h values (plain_val v)) fields

-- where the effect answers a text, it has at most so many bytes
abbrev pub AnswersAtMost : ℕ → Effect → Type 0
AnswersAtMost n e = (to : Val) (bytes : List ℕ) → e.leaves ≡ Answer to (Text bytes) → length bytes ≤ n

-- What a call with so many fields adds to a heap at most, beside what the fields themselves need: a record without fields, and a
-- text of so many bytes, or of those of the longest decimal text. The fields lie on the piles.
abbrev pub call_need : ℕ → ℕ → Need
call_need fields bytes = record { records = 1; fields = fields; texts = 1; bytes = max bytes 20 }

-- There is room for the words of the fields and for what the primitive adds then.
pub record HasRoomForCall (old new : Desk) (p : Primitive) (fields : List CoreVal) : Type 0 where
  pub bytes : ℕ
  pub at_most : (labelled : Labelled) (e : Effect) → effect_of p (argument_of old.heap old.values.items fields labelled) ≡ Some e → AnswersAtMost bytes e
  pub room : HasRoomFor new.heap new.pending (both_needs (call_need (length fields) bytes) (needs_of (vals_of (map plain_val fields))))
