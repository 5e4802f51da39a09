-- Who has the turn acts at a channel: an output or an input.
use Rattle.std.specs.Prelude.{◌≡◌, ℕ, Bool}
use Rattle.pict_syntax.specs.declared.span.Span.{Span}
use Rattle.pict_core.specs.Closed.{IsClosed}
use Rattle.pict_core.specs.Term.{Process, Val, Chan, Out}
use Rattle.pict_code.specs.Instruction.{CodePat}
use Rattle.pict_code.specs.Nodes.{input_op}
use Rattle.pict_blocks.specs.Blocks.{process_of}
use Rattle.pict_desk.specs.Known.{value_in, known, operand_value}
use Rattle.pict_desk.specs.Pairs.{IsPair}
use Rattle.pict_turns.specs.Views.{IsKept, acting_words}
use Rattle.pict_turns.specs.Acting.{HasActing, ActsBy}
use Rattle.pict_turns.specs.declared.store.Store.{Store}

-- Who has the turn is an output on this channel of what the two words stand for.
pub record Sends (core : Process) (s : Store) (channel : ℕ) (message : ℕ × ℕ) (at : Span) : Type 0 where
  pub acting : HasActing core s
  pub pair : IsPair s.desk.heap message
  pub is : process_of core (value_in s.desk.heap) (acting_words core s) ≡ Out (Chan channel) (value_in s.desk.heap message.0 message.1) at

-- Who has the turn is an output of kept values on this channel.
pub record SendsKept (core : Process) (s : Store) (channel : ℕ) : Type 0 where
  pub acting : HasActing core s
  pub kept : IsKept s.desk.heap (acting_words core s)
  pub to : value_in s.desk.heap kept.kept.to.0 kept.kept.to.1 ≡ Chan channel

-- Who has the turn is a node of a closed process with an input from this channel, of which this is the pattern and the number
-- of its part.
pub record Receives (core : Process) (s : Store) (channel : ℕ) (replicated : Bool) (pattern : CodePat) (part : ℕ) : Type 0 where
  pub closed : IsClosed core
  pub chan : Val
  pub acts : ActsBy core s (input_op replicated chan pattern part)
  pub from : operand_value (known s.desk.heap s.desk.values.items) chan ≡ Chan channel
