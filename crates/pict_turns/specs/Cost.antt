-- What a step may cost, by the sizes of instructions. Lengths of queues aren't in it.
use Rattle.std.specs.Prelude.{ℕ, zero, suc, ◌+◌, ◌*◌, List, [], ◌∷◌, length, slice_get, option_map, unwrap_or}
use Rattle.pict_core.specs.Term as term
use Rattle.pict_core.specs.Term.{Val, Vals, Labelled, Record, no_vals, more_vals, no_labelled, more_labelled, Chan, Process}
use Rattle.pict_code.specs.Instruction.{CodePat, RecordPat, CodePats, no_pats, more_pats, LabelledCodePats, no_labelled_pats, more_labelled_pats, Op, Zero, Par, New, Out, In, Serve, If, Node}
use Rattle.pict_code.specs.Nodes.{nodes_of}
use Rattle.pict_queue.specs.QueuesState.{QueuesState}
use Rattle.pict_queue.specs.Contents.{contents}
use Rattle.pict_blocks.specs.Blocks.{process_of}
use Rattle.pict_desk.specs.Known.{value_in}
use Rattle.pict_turns.specs.declared.store.Store.{Store}

-- the nodes of an operand
abbrev mutual
  pub value_size : Val → ℕ
  value_size (Record vs ls) = 1 + (values_size vs + labelled_size ls)
  value_size _ = 1

  pub values_size : Vals → ℕ
  values_size no_vals = 0
  values_size (more_vals v vs) = value_size v + values_size vs

  pub labelled_size : Labelled → ℕ
  labelled_size no_labelled = 0
  labelled_size (more_labelled label v ls) = value_size v + labelled_size ls

-- the nodes of a pattern
abbrev mutual
  pub pattern_size : CodePat → ℕ
  pattern_size (RecordPat ps ls) = 1 + (patterns_size ps + labelled_patterns_size ls)
  pattern_size _ = 1

  pub patterns_size : CodePats → ℕ
  patterns_size no_pats = 0
  patterns_size (more_pats p ps) = pattern_size p + patterns_size ps

  pub labelled_patterns_size : LabelledCodePats → ℕ
  labelled_patterns_size no_labelled_pats = 0
  labelled_patterns_size (more_labelled_pats label p ls) = pattern_size p + labelled_patterns_size ls

-- how many levels the frame of the node with this number has
abbrev pub frame_size : List Node → ℕ → ℕ
frame_size nodes number = unwrap_or (option_map (λ (n : Node). length n.frame) (slice_get nodes number)) 0

-- the levels in the frames of an instruction's parts, and the nodes of its operands and patterns
abbrev pub op_size : List Node → Op → ℕ
op_size nodes Zero = 0
op_size nodes (Par l r) = frame_size nodes l + frame_size nodes r
op_size nodes (New level part) = frame_size nodes part
op_size nodes (Out chan message at) = value_size chan + value_size message
op_size nodes (In chan pattern part) = value_size chan + pattern_size pattern + frame_size nodes part
op_size nodes (Serve chan pattern part) = value_size chan + pattern_size pattern + frame_size nodes part
op_size nodes (If test l r) = value_size test + (frame_size nodes l + frame_size nodes r)

-- The size of an instruction: 1, the levels in its own frame and in the frames of its parts, and the nodes of its operands and
-- patterns.
abbrev pub instruction_size : List Node → Node → ℕ
instruction_size nodes node = 1 + (length node.frame + op_size nodes node.op)

-- the size of what a block with these words behind its link is: an output of two kept values has size 4
abbrev pub block_size : List Node → List ℕ → ℕ
block_size nodes [] = 0
block_size nodes (zero ∷ held) = 4
block_size nodes (suc number ∷ held) = unwrap_or (option_map (instruction_size nodes) (slice_get nodes number)) 0

-- the size of the input that waits first at a channel, if one waits
abbrev pub input_size : List Node → List (List ℕ) → ℕ
input_size nodes ((suc number ∷ held) ∷ rest) = block_size nodes (suc number ∷ held)
input_size nodes _ = 0

-- the size of the output that waits first at a channel, if one waits
abbrev pub output_size : List Node → List (List ℕ) → ℕ
output_size nodes ((zero ∷ held) ∷ rest) = block_size nodes (zero ∷ held)
output_size nodes _ = 0

-- the size of the partner that a process has, if it has one
abbrev pub partner_size : List Node → QueuesState → Process → ℕ
partner_size nodes s (term.Out (Chan c) message at) = input_size nodes (contents s (c + 1))
partner_size nodes s (term.In (Chan c) replicated pattern body) = output_size nodes (contents s (c + 1))
partner_size nodes s _ = 0

-- The cost of the step of a block with these words behind its link: 64 times the size of its instruction and of its partner's.
abbrev pub cost_of : Process → Store → List ℕ → ℕ
cost_of core s words = 64 * (block_size (nodes_of core) words + partner_size (nodes_of core) s.queues (process_of core (value_in s.desk.heap) words))

-- the cost of the step of the first of the ready ones; nothing where none is ready
abbrev pub first_cost : Process → Store → List (List ℕ) → ℕ
first_cost core s [] = 0
first_cost core s (words ∷ rest) = cost_of core s words

abbrev pub step_cost : Process → Store → ℕ
step_cost core s = first_cost core s (contents s.queues 0)
