use Rattle.std.proofs.Common.{◌≡◌, ℤ, [], Option, Some, None, IfSome, IsNone, sym, ap, ◌∙◌}
use Rattle.std.specs.Int.{w64}
use Rattle.std.proofs.lemmas.Int.{to_z-of_z}
use Rattle.pict_syntax.specs.declared.primitive.Primitive.{Primitive}
use Rattle.pict_core.specs.Term.{Val, Labelled}
use Rattle.pict_core.specs.Primitives.{Effect, effect_of}
use Rattle.pict_heap.specs.HeapState.{HeapState, IsWord}
use Rattle.pict_heap.specs.declared.word.Word.{Word}
use Rattle.pict_prim.specs.Answers.{of_numbers, AnswersWord, AnswersNothing}
use Rattle.pict_prim.specs.Calculated.{effect_calculated, effect_answered}
use Rattle.pict_prim.specs.Families.{int_effect}
use Rattle.pict_prim.specs.declared.numbers.Calculated.{Calculated}
use Rattle.pict_prim.proofs.SameNumbers.{same_numbers}
use Rattle.pict_prim.proofs.Shapes.{numbers_by}
use Rattle.pict_prim.proofs.deciding.answer_of_numbers.Goals as goal

-- a heap without texts and records
nothing : HeapState
nothing = record { texts = []; records = []; room = record { records = 0; fields = 0; texts = 0; bytes = 0; used = record { records = 0; fields = 0; texts = 0; bytes = 0 } } }

module _ (effect : Val → Option Effect) (calculated : Calculated) (same : (k : Val) → Some (effect_calculated k calculated) ≡ effect k) where
  word_answered : (o : Option Word) → ((h : HeapState) (k : Val) → effect_calculated k calculated ≡ effect_answered h k o) → ((h : HeapState) → IfSome o (IsWord h))
      → IfSome o (AnswersWord effect)
  word_answered None is word = tt
  word_answered (Some answer) is word = record { word = word; is = λ h k. sym (same k) ∙ ap Some (is h k) }

  nothing_answered : (o : Option Word) → ((h : HeapState) (k : Val) → effect_calculated k calculated ≡ effect_answered h k o) → IsNone o → AnswersNothing effect
  nothing_answered None is none k e by =
      let calculates : Some (effect_calculated k calculated) ≡ Some e = same k ∙ by in
      let one : effect_calculated k calculated ≡ e = cc in
      ap (λ x. x.leaves) (sym one ∙ is nothing k)
  nothing_answered (Some answer) is none k e by = cc

-- what is calculated from two numbers, of which each is the same, is the effect on them
calculated_effect : (p : Primitive) (a b c d : ℤ) (labelled : Labelled) (k : Val) → c ≡ a → d ≡ b → int_effect p c d k ≡ effect_of p (of_numbers a b k labelled)
calculated_effect p a b c d labelled k is_a is_b = same_numbers p a b c d k is_a is_b ∙ sym (numbers_by p a b k labelled)

pub returns-in-None-clause-none : goal.returns-in-None-clause-none
returns-in-None-clause-none c labelled none k e is =
    let same = c.in-None.ensures k ∙ calculated_effect c.args.p c.args.a c.args.b _ _ labelled k (to_z-of_z w64 c.args.a c.ranges.a) (to_z-of_z w64 c.args.b c.ranges.b) ∙ is in
    cc

pub returns-in-Some-clause-answer : goal.returns-in-Some-clause-answer
returns-in-Some-clause-answer c labelled =
    word_answered _ c.in-Some.calculated
    (λ k. c.in-Some.ensures k ∙ calculated_effect c.args.p c.args.a c.args.b _ _ labelled k (to_z-of_z w64 c.args.a c.ranges.a) (to_z-of_z w64 c.args.b c.ranges.b))
    c.answered.result c.answered.ensures.effect c.answered.ensures.word

pub returns-in-Some-clause-none : goal.returns-in-Some-clause-none
returns-in-Some-clause-none c labelled =
    nothing_answered _ c.in-Some.calculated
    (λ k. c.in-Some.ensures k ∙ calculated_effect c.args.p c.args.a c.args.b _ _ labelled k (to_z-of_z w64 c.args.a c.ranges.a) (to_z-of_z w64 c.args.b c.ranges.b))
    c.answered.result c.answered.ensures.effect
