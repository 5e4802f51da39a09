-- Outputs of kept values.
use Rattle.std.specs.Prelude.{◌≡◌, ◌<◌, ◌^◌}
use Rattle.pict_syntax.specs.declared.span.Span.{Span}
use Rattle.pict_core.specs.Term.{Val}
use Rattle.pict_heap.specs.HeapState.{HeapState}
use Rattle.pict_desk.specs.Known.{value_in}
use Rattle.pict_desk.specs.Pairs.{IsPair}
use Rattle.pict_desk.specs.declared.kept.Kept.{Kept}

-- the place fits its type
pub record FitsKept (k : Kept) : Type 0 where
  pub text : k.at.text < 2 ^ 32
  pub start : k.at.start < 2 ^ 32
  pub end : k.at.end < 2 ^ 32

-- these kept words are the output of the message on this value, at this place
pub record IsOutput (h : HeapState) (to message : Val) (at : Span) (kept : Kept) : Type 0 where
  pub to_pair : IsPair h kept.to
  pub to_is : value_in h kept.to.0 kept.to.1 ≡ to
  pub message_pair : IsPair h kept.message
  pub message_is : value_in h kept.message.0 kept.message.1 ≡ message
  pub at_is : kept.at ≡ at
  pub fits : FitsKept kept
