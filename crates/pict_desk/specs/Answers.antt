-- What a primitive answers of operands, where that is known before their words are made.
use Rattle.std.specs.Prelude.{◌≡◌, ℕ, List}
use Rattle.pict_syntax.specs.declared.primitive.Primitive.{Primitive}
use Rattle.pict_syntax.specs.declared.span.Span.{Span}
use Rattle.pict_core.specs.Primitives.{answers, effect_of}
use Rattle.pict_core.specs.Term.{Val, Labelled}
use Rattle.pict_core.specs.declared.value.CoreVal.{CoreVal}
use Rattle.pict_desk.specs.declared.kept.Kept.{Kept}
use Rattle.pict_heap.specs.HeapState.{HeapState}
use Rattle.pict_desk.specs.Arguments.{argument_of}
use Rattle.pict_desk.specs.Kept.{IsOutput}

-- Of a record of these fields the primitive is to print nothing and to answer what these kept words send, where they send it, at
-- this place.
pub record IsAnswerOf (h : HeapState) (values : List (ℕ × ℕ)) (p : Primitive) (fields : List CoreVal) (at : Span) (kept : Kept) : Type 0 where
  pub to : Val
  pub answer : Val
  pub effect : (labelled : Labelled) → effect_of p (argument_of h values fields labelled) ≡ answers to answer
  pub output : IsOutput h to answer at kept
