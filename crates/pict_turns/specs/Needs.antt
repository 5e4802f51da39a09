-- The widths of the blocks that a step needs. It makes blocks only where fewer are free.
use Rattle.std.specs.Prelude.{ℕ, zero, suc, ◌+◌, List, [], ◌∷◌, ◌++◌, length, map, slice_get, option_map, unwrap_or, if◌then◌else◌}
use Rattle.pict_core.specs.Primitives.{effect_of}
use Rattle.pict_core.specs.Term as term
use Rattle.pict_core.specs.Term.{Process}
use Rattle.pict_code.specs.Instruction.{Op, Zero, Par, New, Out, In, Serve, If, Node}
use Rattle.pict_code.specs.Nodes.{nodes_of}
use Rattle.pict_queue.specs.QueuesState.{QueuesState}
use Rattle.pict_queue.specs.Contents.{contents}
use Rattle.pict_blocks.specs.Blocks.{process_of}
use Rattle.pict_desk.specs.Known.{value_in}
use Rattle.pict_turns.specs.Views.{turn_words, acting_words, ready_words}
use Rattle.pict_turns.specs.Widths.{MakesOnly, part_width, answer_widths}
use Rattle.pict_turns.specs.declared.store.Store.{Store}

-- the part of an input
abbrev pub input_widths : List Node → Op → List ℕ
input_widths nodes (In chan pattern part) = part_width nodes part ∷ []
input_widths nodes (Serve chan pattern part) = part_width nodes part ∷ []
input_widths nodes _ = []

-- An output on a channel where these blocks wait needs a block for the part of the input that waits first. Where no input waits
-- first, it needs what it takes to wait behind them.
abbrev pub served_widths : List Node → List ℕ → List (List ℕ) → List ℕ
served_widths nodes to_wait ((suc number ∷ held) ∷ rest) =
    unwrap_or (option_map (λ (n : Node). input_widths nodes n.op) (slice_get nodes number)) []
served_widths nodes to_wait waiting = to_wait

-- An input with this part, from a channel where these blocks wait, needs a block for its part where an output waits first. It
-- needs nothing to wait behind them.
abbrev pub taken_widths : List Node → ℕ → List (List ℕ) → List ℕ
taken_widths nodes part ((zero ∷ held) ∷ rest) = part_width nodes part ∷ []
taken_widths nodes part waiting = []

-- an output: on a channel as above, to a primitive what its answer needs
abbrev pub output_widths : List Node → QueuesState → List ℕ → Process → List ℕ
output_widths nodes s to_wait (term.Out (term.Chan c) message at) = served_widths nodes to_wait (contents s (c + 1))
output_widths nodes s to_wait (term.Out (term.PrimitiveVal p) message at) =
    unwrap_or (option_map answer_widths (effect_of p message)) []
output_widths nodes s to_wait _ = []

-- an input with this part
abbrev pub receipt_widths : List Node → QueuesState → ℕ → Process → List ℕ
receipt_widths nodes s part (term.In (term.Chan c) replicated pattern body) = taken_widths nodes part (contents s (c + 1))
receipt_widths nodes s part _ = []

-- a conditional with these parts: the part that its test chooses
abbrev pub choice_widths : List Node → ℕ → ℕ → Process → List ℕ
choice_widths nodes left right (term.If (term.Boolean b) p q) = part_width nodes (if b then left else right) ∷ []
choice_widths nodes left right _ = []

-- What the step of a node with this instruction needs, whose block stands for this process. To wait, its output becomes one of
-- kept values, whose block is 9 words wide.
abbrev pub node_widths : List Node → QueuesState → Op → Process → List ℕ
node_widths nodes s Zero p = []
node_widths nodes s (Par left right) p = part_width nodes left ∷ part_width nodes right ∷ []
node_widths nodes s (New level part) p = part_width nodes part ∷ []
node_widths nodes s (Out chan message at) p = output_widths nodes s (9 ∷ []) p
node_widths nodes s (In chan pattern part) p = receipt_widths nodes s part p
node_widths nodes s (Serve chan pattern part) p = receipt_widths nodes s part p
node_widths nodes s (If test left right) p = choice_widths nodes left right p

-- What the step of a block with these words behind its link needs, which stands for this process. An output of kept values
-- needs nothing to wait.
abbrev pub block_widths : List Node → QueuesState → List ℕ → Process → List ℕ
block_widths nodes s [] p = []
block_widths nodes s (zero ∷ held) p = output_widths nodes s [] p
block_widths nodes s (suc number ∷ held) p =
    unwrap_or (option_map (λ (n : Node). node_widths nodes s n.op p) (slice_get nodes number)) []

abbrev pub widths_of : Process → Store → List ℕ → List ℕ
widths_of core s words = block_widths (nodes_of core) s.queues words (process_of core (value_in s.desk.heap) words)

-- the step of the first of the ready ones; nothing where none is ready
abbrev pub first_widths : Process → Store → List (List ℕ) → List ℕ
first_widths core s [] = []
first_widths core s (words ∷ rest) = widths_of core s words

abbrev pub needed_widths : Process → Store → List ℕ
needed_widths core s = first_widths core s (contents s.queues 0)

-- the width of a block for who has the turn, if somebody has it
abbrev pub turn_widths : Process → Store → List ℕ
turn_widths core s = map (λ (words : List ℕ). length words + 1) (turn_words core s)

-- What the step of a run needs, of who has the turn, or else of the first of queue 0, and a block for who has the turn.
abbrev pub running_widths : Process → Store → List ℕ
running_widths core s = turn_widths core s ++ first_widths core s (ready_words core s)

-- The step of who has the turn made blocks of a width only where fewer were free than it needs, one for who had the turn
-- counted, and then only as many as were wanting.
abbrev pub MakesNeeded : Process → Store → Store → Type 0
MakesNeeded core old new = MakesOnly old.queues new.queues ((length (acting_words core old) + 1) ∷ widths_of core old (acting_words core old))
