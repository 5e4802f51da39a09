-- Outputs of nodes, and what is received.
use Rattle.std.specs.Prelude.{◌≡◌, ℕ, false, List}
use Rattle.pict_syntax.specs.declared.span.Span.{Span}
use Rattle.pict_core.specs.Closed.{IsClosed}
use Rattle.pict_core.specs.Term.{Process, Val, Chan}
use Rattle.pict_code.specs.Instruction as op
use Rattle.pict_code.specs.Instruction.{Node, CodePat}
use Rattle.pict_desk.specs.Known.{known, operand_value}
use Rattle.pict_meetings.specs.Serving.{IsInputWith}
use Rattle.pict_turns.specs.Acting.{ActsBy}
use Rattle.pict_blocks.specs.Parts.{block_width}
use Rattle.pict_desk.specs.Code.{HasFrame}
use Rattle.pict_turns.specs.declared.store.Store.{Store}

-- Who has the turn is a node of a closed process with an output of this operand on this channel.
pub record SendsOperand (core : Process) (s : Store) (channel : ℕ) (message : Val) (at : Span) : Type 0 where
  pub closed : IsClosed core
  pub chan : Val
  pub acts : ActsBy core s (op.Out chan message at)
  pub to : operand_value (known s.desk.heap s.desk.values.items) chan ≡ Chan channel

-- The node with this number is an input that isn't replicated, and its block is as wide as one for the frame.
pub record EndsAsWide (nodes : List Node) (number : ℕ) (frame : List ℕ) : Type 0 where
  pub pattern : CodePat
  pub part : ℕ
  pub input : IsInputWith nodes number false pattern part
  pub own : List ℕ
  pub has : HasFrame nodes number own
  pub wide : block_width own ≡ block_width frame
