-- Whether a step is wrong, and what is known of a store whose step may be wrong.
use Rattle.std.specs.Prelude.{◌≡◌, Bool, true, false, Option, Some, None}
use Rattle.pict_core.specs.Configuration.{Configuration, IsConfiguration}
use Rattle.pict_syntax.specs.declared.primitive.Primitive.{Primitive}
use Rattle.pict_core.specs.Term.{Process, Val, PrimitiveVal}
use Rattle.pict_view.specs.Moved.{Moved, Moves, Stops, Misshapen, Over}
use Rattle.pict_view.specs.Placed.{next_view}
use Rattle.pict_view.specs.View.{StandsFor}
use Rattle.pict_blocks.specs.Writing.{OnlyWorks}
use Rattle.pict_turns.specs.Acting.{HasActing}
use Rattle.pict_turns.specs.Views.{view_with_turn}
use Rattle.pict_turns.specs.declared.store.Store.{Store}

abbrev pub is_misshapen : {S : Type 0} → Moved S → Bool
is_misshapen (Moves s label) = false
is_misshapen (Stops at) = false
is_misshapen Misshapen = true
is_misshapen Over = false

-- the primitive that a value is
abbrev pub primitive_named : Val → Option Primitive
primitive_named (PrimitiveVal p) = Some p
primitive_named _ = None

-- whether the step of who has the turn is wrong
abbrev pub is_wrong : Process → Store → Bool
is_wrong core s = is_misshapen (next_view (view_with_turn core s))

-- Somebody has the turn, and the store stands for some configuration.
pub record MayAsk (core : Process) (s : Store) : Type 0 where
  pub acting : HasActing core s
  pub configuration : Configuration
  pub is : IsConfiguration configuration
  pub stands : StandsFor (view_with_turn core s) configuration

-- Queues have worked, and nothing else has changed.
pub record OnlyAsks (old new : Store) : Type 0 where
  pub rest : new ≡ record old { queues = new.queues }
  pub works : OnlyWorks old.queues new.queues
