-- An output to a primitive acts.
use Rattle.std.specs.Prelude.{◌≡◌}
use Rattle.pict_syntax.specs.declared.primitive.Primitive.{Primitive}
use Rattle.pict_syntax.specs.declared.span.Span.{Span}
use Rattle.pict_core.specs.Term.{Val, PrimitiveVal, Process, Out}
use Rattle.pict_blocks.specs.Blocks.{process_of}
use Rattle.pict_desk.specs.Known.{value_in}
use Rattle.pict_turns.specs.Acting.{HasActing}
use Rattle.pict_turns.specs.Views.{acting_words}
use Rattle.pict_turns.specs.declared.store.Store.{Store}

-- Who has the turn is the output of this value to this primitive, at this place in the text.
pub record CallsOn (core : Process) (s : Store) (p : Primitive) (v : Val) (at : Span) : Type 0 where
  pub acting : HasActing core s
  pub output : process_of core (value_in s.desk.heap) (acting_words core s) ≡ Out (PrimitiveVal p) v at
