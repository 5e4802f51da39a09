-- What a primitive answers of two numbers at hand.
use Rattle.std.proofs.Common.{◌≡◌, ℕ, ℤ, List, [], ◌∷◌, length, get_or, Some, sym, ap, ◌∙◌, arith}
use Rattle.pict_syntax.specs.declared.primitive.Primitive.{Primitive}
use Rattle.pict_syntax.specs.declared.span.Span.{Span}
use Rattle.pict_core.specs.Plain.{plain_val}
use Rattle.pict_core.specs.Primitives.{answers, effect_of}
use Rattle.pict_core.specs.Term.{Val, Labelled, Int, Record, no_vals, more_vals}
use Rattle.pict_core.specs.declared.value.CoreVal.{CoreVal}
use Rattle.pict_heap.specs.HeapState.{HeapState, value_of}
use Rattle.pict_heap.specs.declared.word.Word.{Word}
use Rattle.pict_prim.specs.Answers.{of_numbers, AnswersWord}
use Rattle.pict_desk.specs.AtHand.{number_named}
use Rattle.pict_desk.specs.Arguments.{operand_in, argument_of}
use Rattle.pict_desk.specs.Kept.{IsOutput}
use Rattle.pict_desk.specs.Room.{KeepsHeap}
use Rattle.pict_desk.specs.declared.kept.Kept.{Kept}
use Rattle.pict_desk.proofs.MakingRoom.{keeps_words, value_kept}

-- a value that is a number
pub is_number : (v : Val) (n : ℤ) → Some n ≡ number_named v → v ≡ Int n
is_number (Int m) n e = cc
is_number _ n e = cc

-- the effect on three fields, of which the first two stand for numbers
module _ (h : HeapState) (values : List (ℕ × ℕ)) (p : Primitive) (x y z : CoreVal) (a b : ℤ) (answer : Word)
    (first : operand_in h values (plain_val x) ≡ Int a) (second : operand_in h values (plain_val y) ≡ Int b)
    (is : (labelled : Labelled) → AnswersWord (λ k. effect_of p (of_numbers a b k labelled)) answer) where
  pub answered : (fields : List CoreVal) → length fields ≡ 3 → x ≡ get_or fields 0 x → y ≡ get_or fields 1 y → z ≡ get_or fields 2 z
      → (ls : Labelled) → effect_of p (argument_of h values fields ls) ≡ answers (operand_in h values (plain_val z)) (value_of h answer)
  answered [] n i j l ls = absurd (omega arith)
  answered (u ∷ []) n i j l ls = absurd (omega arith)
  answered (u ∷ v ∷ []) n i j l ls = absurd (omega arith)
  answered (u ∷ v ∷ w ∷ []) n i j l ls =
      let operand = λ (c : CoreVal). operand_in h values (plain_val c) in
      ap (λ c. effect_of p (Record (more_vals c (more_vals (operand v) (more_vals (operand w) no_vals))) ls)) (ap operand (sym i) ∙ first)
      ∙ ap (λ c. effect_of p (Record (more_vals (Int a) (more_vals c (more_vals (operand w) no_vals))) ls)) (ap operand (sym j) ∙ second)
      ∙ (is ls).is h (operand w) ∙ ap (λ c. answers (operand c) (value_of h answer)) (sym l)
  answered (u ∷ v ∷ w ∷ o ∷ fields) n i j l ls = absurd (omega arith)

-- an output's kept words, where a heap's room alone has changed
pub output_kept : (old new : HeapState) → KeepsHeap old new → (to message : Val) (at : Span) (kept : Kept) → IsOutput old to message at kept → IsOutput new to message at kept
output_kept old new k to message at kept o =
    let keeps = keeps_words old new k in
    record {
      to_pair = let p = o.to_pair in record { word = p.word; is = keeps.words p.word p.is; fits = p.fits; packs = p.packs };
      to_is = ap (λ value. value kept.to.0 kept.to.1) (value_kept old new k) ∙ o.to_is;
      message_pair = let p = o.message_pair in record { word = p.word; is = keeps.words p.word p.is; fits = p.fits; packs = p.packs };
      message_is = ap (λ value. value kept.message.0 kept.message.1) (value_kept old new k) ∙ o.message_is;
      at_is = o.at_is;
      fits = o.fits;
    }
