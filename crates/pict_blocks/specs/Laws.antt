-- Steps of blocks, on their words: one law for each row of the table of steps in which a node acts.
use Rattle.std.specs.Prelude.{◌≡◌, ◌≤◌, ◌<◌, ℕ, Bool, List, ◌∷◌, ◌++◌, [], length, Some, slice_get, slice_set, if◌then◌else◌}
use Rattle.pict_syntax.specs.declared.limits.TheConstants.{NARROW_LIMIT}
use Rattle.pict_syntax.specs.declared.span.Span.{Span}
use Rattle.pict_core.specs.Term.{Process, Val, Chan, Boolean, Out, In}
use Rattle.pict_core.specs.Closed.{IsClosed}
use Rattle.pict_core.specs.Step.{Label, Quiet, Comm}
use Rattle.pict_code.specs.Instruction as op
use Rattle.pict_code.specs.Instruction.{Node, CodePat}
use Rattle.pict_code.specs.Nodes.{nodes_of, input_op}
use Rattle.pict_code.specs.ReadBack.{unleveled}
use Rattle.pict_blocks.specs.Framed.{node_words}
use Rattle.pict_desk.specs.Known.{pair_at, value_in, known, operand_value}
use Rattle.pict_heap.specs.HeapState.{HeapState}
use Rattle.pict_view.specs.Moved.{Moves, if_replicated}
use Rattle.pict_view.specs.Placed.{next_view}
use Rattle.pict_blocks.specs.Blocks.{process_of, view_of_contents, IsNodeBlock}
use Rattle.pict_desk.specs.Binding.{BindsPattern}

-- what the ready blocks and the blocks of the channels stand for steps, with this label, to what those stand for
abbrev pub BlocksStep : Process → HeapState → List (List ℕ) → List (List (List ℕ)) → Label → List (List ℕ) → List (List (List ℕ)) → Type 0
BlocksStep core h ready channels label ready_after channels_after =
    next_view (view_of_contents core (value_in h) ready channels) ≡ Moves (view_of_contents core (value_in h) ready_after channels_after) label

-- A frame of at most `NARROW_LIMIT` levels stands in the block itself.
abbrev pub NarrowBlocks : Type 0
NarrowBlocks =
    (core : Process) (h : HeapState) (values : List (ℕ × ℕ)) (number : ℕ) (node : Node)
    → slice_get (nodes_of core) number ≡ Some node → length node.frame ≤ NARROW_LIMIT
    → IsNodeBlock core h values number node (node_words values number node.frame)

-- 0: the block ends.
abbrev pub NodesEnd : Type 0
NodesEnd =
    (core : Process) (h : HeapState) (values : List (ℕ × ℕ)) (number : ℕ) (node : Node) (words : List ℕ)
    → IsNodeBlock core h values number node words → node.op ≡ op.Zero
    → (rest : List (List ℕ)) (channels : List (List (List ℕ))) → BlocksStep core h (words ∷ rest) channels Quiet rest channels

-- P | Q: the words of the left part come first and those of the right part last, each with the same values for its frame.
abbrev pub PartsFork : Type 0
PartsFork =
    (core : Process) (h : HeapState) (values : List (ℕ × ℕ)) (number l r : ℕ) (node left right : Node) (words left_words right_words : List ℕ)
    → IsNodeBlock core h values number node words → node.op ≡ op.Par l r
    → IsNodeBlock core h values l left left_words → IsNodeBlock core h values r right right_words
    → (rest : List (List ℕ)) (channels : List (List (List ℕ)))
    → BlocksStep core h (words ∷ rest) channels Quiet (left_words ∷ (rest ++ right_words ∷ [])) channels

-- new x P: the words of the part come first. Its values are those of the levels around, and the next channel at the new level.
abbrev pub NewsMakeChannels : Type 0
NewsMakeChannels =
    (core : Process) (h : HeapState) (values later : List (ℕ × ℕ)) (number level l : ℕ) (node part : Node) (words part_words : List ℕ)
    → IsNodeBlock core h values number node words → node.op ≡ op.New level l → IsNodeBlock core h later l part part_words
    → (rest : List (List ℕ)) (channels : List (List (List ℕ)))
    → ((k : ℕ) → k < level → pair_at later k ≡ pair_at values k) → known h later level ≡ Chan (length channels)
    → BlocksStep core h (words ∷ rest) channels Quiet (part_words ∷ rest) (channels ++ [] ∷ [])

-- if b P Q: the words of the part that the test chooses come first, with the same values.
abbrev pub TestsChoose : Type 0
TestsChoose =
    (core : Process) (h : HeapState) (values : List (ℕ × ℕ)) (number l r : ℕ) (test : Val) (b : Bool) (node part : Node) (words part_words : List ℕ)
    → IsClosed core → IsNodeBlock core h values number node words → node.op ≡ op.If test l r
    → operand_value (known h values) test ≡ Boolean b → IsNodeBlock core h values (if b then l else r) part part_words
    → (rest : List (List ℕ)) (channels : List (List (List ℕ))) → BlocksStep core h (words ∷ rest) channels Quiet (part_words ∷ rest) channels

-- v!w: the block of an output stands for the output of its second operand on its first.
abbrev pub OutputsStand : Type 0
OutputsStand =
    (core : Process) (h : HeapState) (values : List (ℕ × ℕ)) (number : ℕ) (chan message : Val) (at : Span) (node : Node) (words : List ℕ)
    → IsClosed core → IsNodeBlock core h values number node words → node.op ≡ op.Out chan message at
    → process_of core (value_in h) words ≡ Out (operand_value (known h values) chan) (operand_value (known h values) message) at

-- v?p = P and v?*p = P: the block of an input stands for the input from its operand, with its pattern.
abbrev pub InputsStand : Type 0
InputsStand =
    (core : Process) (h : HeapState) (values : List (ℕ × ℕ)) (number l : ℕ) (replicated : Bool) (chan : Val) (pattern : CodePat) (node : Node) (words : List ℕ)
    → IsClosed core → IsNodeBlock core h values number node words → node.op ≡ input_op replicated chan pattern l
    → (body : Process) × (process_of core (value_in h) words ≡ In (operand_value (known h values) chan) replicated (unleveled pattern) body)

-- c!v, of whatever block, with a parked reader: the words of its part come last among the ready ones, with what the pattern
-- binds beside the reader's values. A replicated reader goes behind the others.
abbrev pub OutputsMeet : Type 0
OutputsMeet =
    (core : Process) (h : HeapState) (values later : List (ℕ × ℕ)) (c : ℕ) (v : Val) (at : Span) (words : List ℕ)
    (number l : ℕ) (replicated : Bool) (chan : Val) (pattern : CodePat) (node part : Node) (reader part_words : List ℕ) (others : List (List ℕ))
    → IsClosed core → process_of core (value_in h) words ≡ Out (Chan c) v at
    → IsNodeBlock core h values number node reader → node.op ≡ input_op replicated chan pattern l
    → BindsPattern h pattern v values later → IsNodeBlock core h later l part part_words
    → (rest : List (List ℕ)) (channels : List (List (List ℕ))) → slice_get channels c ≡ Some (reader ∷ others)
    → BlocksStep core h (words ∷ rest) channels (Comm c v) (rest ++ part_words ∷ []) (slice_set channels c (others ++ if_replicated replicated reader))

-- v?p = P and v?*p = P, with a parked message: the words of its part come last among the ready ones, with what the pattern
-- binds. A replicated input keeps the turn.
abbrev pub InputsMeet : Type 0
InputsMeet =
    (core : Process) (h : HeapState) (values later : List (ℕ × ℕ)) (number l c : ℕ) (replicated : Bool) (chan : Val) (pattern : CodePat)
    (node part : Node) (words part_words : List ℕ) (v w : Val) (at : Span) (message : List ℕ) (others : List (List ℕ))
    → IsClosed core → IsNodeBlock core h values number node words → node.op ≡ input_op replicated chan pattern l
    → operand_value (known h values) chan ≡ Chan c → process_of core (value_in h) message ≡ Out w v at
    → BindsPattern h pattern v values later → IsNodeBlock core h later l part part_words
    → (rest : List (List ℕ)) (channels : List (List (List ℕ))) → slice_get channels c ≡ Some (message ∷ others)
    → BlocksStep core h (words ∷ rest) channels (Comm c v) (if_replicated replicated words ++ (rest ++ part_words ∷ [])) (slice_set channels c others)
