-- What a step adds to the heap: no more than it needs.
use Rattle.std.specs.Prelude.{ℕ, zero, suc, ◌+◌, ◌||◌, Bool, true, false, List, [], ◌∷◌, length, slice_get, option_map, unwrap_or, if◌then◌else◌}
use Rattle.pict_core.specs.Primitives.{effect_of}
use Rattle.pict_core.specs.Term as term
use Rattle.pict_core.specs.Term.{Process, Val, Vals, Labelled, Var, Record, Text, no_vals, more_vals, no_labelled, more_labelled}
use Rattle.pict_code.specs.Instruction.{Op, Zero, Par, New, Out, In, Serve, If, Node}
use Rattle.pict_code.specs.Nodes.{nodes_of}
use Rattle.pict_queue.specs.QueuesState.{QueuesState}
use Rattle.pict_queue.specs.Contents.{contents}
use Rattle.pict_blocks.specs.Blocks.{process_of}
use Rattle.pict_prim.specs.Acts.{answer_need, UsesNeed}
use Rattle.pict_prim.specs.declared.act.Need.{Need}
use Rattle.pict_desk.specs.Known.{value_in}
use Rattle.pict_desk.specs.Needs.{no_need, both_needs, need_of, needs_of, text_need}
use Rattle.pict_turns.specs.Views.{acting_words, ready_words}
use Rattle.pict_turns.specs.declared.store.Store.{Store}
use Rattle.pict_desk.specs.Room.{frame_need}

-- the heap has at most so much more, and no more of its room is used
abbrev pub AddsAtMost : Store → Store → Need → Type 0
AddsAtMost old new need = UsesNeed old.desk.heap.room new.desk.heap.room need

-- what the part with this number needs of the heap: the record of its frame, where that is too large to stand in a block
abbrev pub part_need : List Node → ℕ → Need
part_need nodes number = frame_need (unwrap_or (option_map (λ (n : Node). n.frame) (slice_get nodes number)) [])

-- whether a variable occurs in an operand
abbrev mutual
  pub has_variable : Val → Bool
  has_variable (Var level) = true
  has_variable (Record vs ls) = have_variable vs || labelled_have ls
  has_variable _ = false

  pub have_variable : Vals → Bool
  have_variable no_vals = false
  have_variable (more_vals v vs) = has_variable v || have_variable vs

  pub labelled_have : Labelled → Bool
  labelled_have no_labelled = false
  labelled_have (more_labelled label v ls) = has_variable v || labelled_have ls

-- An operand that is sent needs a record for each record in it, and a text for each text. Where no variable occurs in it, it needs
-- nothing: its word is made once, before the first step.
abbrev pub message_need : Val → Need
message_need v = if has_variable v then need_of v else no_need

-- What the words of an operand need that is given to a primitive: those of a record's fields without labels, since the record itself
-- is not made, or that of a text.
abbrev pub argument_need : Val → Need
argument_need (Record vs ls) = needs_of vs
argument_need (Text bytes) = text_need (length bytes)
argument_need _ = no_need

-- An operand that is given to a primitive needs that where a variable occurs in it, and nothing otherwise.
abbrev pub given_need : Val → Need
given_need v = if has_variable v then argument_need v else no_need

-- the part of an input
abbrev pub input_need : List Node → Op → Need
input_need nodes (In chan pattern part) = part_need nodes part
input_need nodes (Serve chan pattern part) = part_need nodes part
input_need nodes _ = no_need

-- an output on a channel where these blocks wait: the part of the input that waits first, if one does
abbrev pub served_need : List Node → List (List ℕ) → Need
served_need nodes ((suc number ∷ held) ∷ rest) = unwrap_or (option_map (λ (n : Node). input_need nodes n.op) (slice_get nodes number)) no_need
served_need nodes waiting = no_need

-- an input with this part, from a channel where these blocks wait: its part, where an output waits first
abbrev pub taken_need : List Node → ℕ → List (List ℕ) → Need
taken_need nodes part ((zero ∷ held) ∷ rest) = part_need nodes part
taken_need nodes part waiting = no_need

-- An output on a channel needs what its message needs and what the input does that it meets; one to a primitive what its argument
-- needs, and the answer.
abbrev pub output_need : List Node → QueuesState → Need → Need → Process → Need
output_need nodes s message argument (term.Out (term.Chan c) v at) = both_needs message (served_need nodes (contents s (c + 1)))
output_need nodes s message argument (term.Out (term.PrimitiveVal p) v at) =
    both_needs argument (unwrap_or (option_map answer_need (effect_of p v)) no_need)
output_need nodes s message argument _ = no_need

-- an input with this part
abbrev pub receipt_need : List Node → QueuesState → ℕ → Process → Need
receipt_need nodes s part (term.In (term.Chan c) replicated pattern body) = taken_need nodes part (contents s (c + 1))
receipt_need nodes s part _ = no_need

-- a conditional with these parts: the part that its test chooses
abbrev pub choice_need : List Node → ℕ → ℕ → Process → Need
choice_need nodes left right (term.If (term.Boolean b) p q) = part_need nodes (if b then left else right)
choice_need nodes left right _ = no_need

-- What the step of a node with this instruction needs, whose block stands for this process.
abbrev pub node_need : List Node → QueuesState → Op → Process → Need
node_need nodes s Zero p = no_need
node_need nodes s (Par left right) p = both_needs (part_need nodes left) (part_need nodes right)
node_need nodes s (New level part) p = part_need nodes part
node_need nodes s (Out chan message at) p = output_need nodes s (message_need message) (given_need message) p
node_need nodes s (In chan pattern part) p = receipt_need nodes s part p
node_need nodes s (Serve chan pattern part) p = receipt_need nodes s part p
node_need nodes s (If test left right) p = choice_need nodes left right p

-- What the step of a block with these words behind its link needs, which stands for this process. The words of kept values are made.
abbrev pub block_need : List Node → QueuesState → List ℕ → Process → Need
block_need nodes s [] p = no_need
block_need nodes s (zero ∷ held) p = output_need nodes s no_need no_need p
block_need nodes s (suc number ∷ held) p =
    unwrap_or (option_map (λ (n : Node). node_need nodes s n.op p) (slice_get nodes number)) no_need

abbrev pub words_need : Process → Store → List ℕ → Need
words_need core s words = block_need (nodes_of core) s.queues words (process_of core (value_in s.desk.heap) words)

-- the step of the first of the ready ones; nothing where none is ready
abbrev pub first_need : Process → Store → List (List ℕ) → Need
first_need core s [] = no_need
first_need core s (words ∷ rest) = words_need core s words

-- what the next step needs of the heap
abbrev pub heap_need : Process → Store → Need
heap_need core s = first_need core s (contents s.queues 0)

-- what the next step of a run needs, of who has the turn, or else of the first of queue 0
abbrev pub running_need : Process → Store → Need
running_need core s = first_need core s (ready_words core s)

-- the step of who has the turn has added no more to the heap than it needs
abbrev pub AddsNeeded : Process → Store → Store → Type 0
AddsNeeded core old new = AddsAtMost old new (words_need core old (acting_words core old))
