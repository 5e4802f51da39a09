-- Which blocks the steps of inputs and outputs need at a channel, from the clauses of what they do.
use Rattle.std.proofs.Common.{ℕ, zero, suc, ◌+◌, ◌≡◌, ◌≢◌, Bool, true, false, List, [], ◌∷◌, length, map, refl, sym, ap, ◌∙◌, subst, Option, Some, option_map, unwrap_or}
use Rattle.std.specs.List.{slice_get}
use Rattle.pict_syntax.specs.declared.span.Span.{Span}
use Rattle.pict_core.specs.Term as term
use Rattle.pict_core.specs.Term.{Val, Pat, Process, Chan}
use Rattle.pict_code.specs.Instruction.{Node, CodePat}
use Rattle.pict_code.specs.Nodes.{nodes_of, input_op}
use Rattle.pict_code.specs.Plain.{plain_node}
use Rattle.pict_code.specs.declared.instruction.Node as written
use Rattle.pict_queue.specs.Contents.{contents}
use Rattle.pict_meetings.specs.Serving.{IsInputWith}
use Rattle.pict_meetings.specs.Waiting.{oldest, waits_first}
use Rattle.pict_meetings.specs.declared.waiting.Waiting.TheVariants.{Output, Input}
use Rattle.pict_meetings.proofs.Firsts.{first_input}
use Rattle.pict_meetings.proofs.Ops.{input_waits_first}
use Rattle.pict_turns.specs.Acting.{IsStore, ActsBy}
use Rattle.pict_desk.specs.Code.{core_in, IsCode, HasFrame}
use Rattle.pict_blocks.specs.Parts.{block_width}
use Rattle.pict_turns.specs.Views.{acting_words}
use Rattle.pict_turns.specs.Widths.{MakesOnly, part_width}
use Rattle.pict_turns.specs.declared.store.Store.{Store}
use Rattle.pict_turns.proofs.Making.{makes_part, part_width_is}
use Rattle.pict_desk.proofs.Numbered.{coded_frame}
use Rattle.pict_meetings.proofs.Serving.{part_low}
use Rattle.pict_turns.proofs.Working.{frame_there}
use Rattle.pict_turns.specs.Needs.{input_widths, served_widths, taken_widths, output_widths, receipt_widths, node_widths, widths_of, MakesNeeded}
use Rattle.pict_turns.proofs.Needing.{block_process, node_needs, needed_by, needed_beside}

module _ (core : Process) (s : Store) where
  module _ (to_wait : List ℕ) (needs : widths_of core s (acting_words core s) ≡ output_widths (nodes_of core) s.queues to_wait (block_process core s)) where
    module _ (channel : ℕ) (v : Val) (at : Span) (is : block_process core s ≡ term.Out (Chan channel) v at) where
      sent : widths_of core s (acting_words core s) ≡ served_widths (nodes_of core) to_wait (contents s.queues (channel + 1))
      sent = needs ∙ ap (output_widths (nodes_of core) s.queues to_wait) is

      -- no input waits
      none_serves : (waiting : List (List ℕ)) → ((number : ℕ) → oldest waiting ≢ Input number) → served_widths (nodes_of core) to_wait waiting ≡ to_wait
      none_serves [] none = refl
      none_serves ([] ∷ rest) none = refl
      none_serves ((zero ∷ held) ∷ rest) none = refl
      none_serves ((suc number ∷ held) ∷ rest) none = absurd (none number refl)

      pub wait_needs : ((number : ℕ) → oldest (contents s.queues (channel + 1)) ≢ Input number) → widths_of core s (acting_words core s) ≡ to_wait
      wait_needs none = sent ∙ none_serves (contents s.queues (channel + 1)) none

      -- an input waits first
      input_needs : (replicated : Bool) (chan : Val) (pattern : CodePat) (part : ℕ) → input_widths (nodes_of core) (input_op replicated chan pattern part) ≡ part_width (nodes_of core) part ∷ []
      input_needs true chan pattern part = refl
      input_needs false chan pattern part = refl

      pub meeting_needs : (reader : ℕ) (held : List ℕ) (rest : List (List ℕ)) → contents s.queues (channel + 1) ≡ (suc reader ∷ held) ∷ rest → (node : Node) → slice_get (nodes_of core) reader ≡ Some node
          → (replicated : Bool) (chan : Val) (pattern : CodePat) (part : ℕ) → node.op ≡ input_op replicated chan pattern part → widths_of core s (acting_words core s) ≡ part_width (nodes_of core) part ∷ []
      meeting_needs reader held rest here node there replicated chan pattern part e =
          sent ∙ ap (served_widths (nodes_of core) to_wait) here
          ∙ ap (λ (n : Option Node). unwrap_or (option_map (λ (x : Node). input_widths (nodes_of core) x.op) n) []) there
          ∙ ap (input_widths (nodes_of core)) e ∙ input_needs replicated chan pattern part

  -- ---- inputs

  input_receives : (replicated : Bool) (chan : Val) (pattern : CodePat) (part : ℕ) (p : Process) → node_widths (nodes_of core) s.queues (input_op replicated chan pattern part) p ≡ receipt_widths (nodes_of core) s.queues part p
  input_receives true chan pattern part p = refl
  input_receives false chan pattern part p = refl

  module _ (replicated : Bool) (chan : Val) (pattern : CodePat) (part : ℕ) (a : ActsBy core s (input_op replicated chan pattern part)) (channel : ℕ) (form : Pat) (body : Process)
      (is : block_process core s ≡ term.In (Chan channel) replicated form body) where
    received : widths_of core s (acting_words core s) ≡ taken_widths (nodes_of core) part (contents s.queues (channel + 1))
    received = node_needs core s (input_op replicated chan pattern part) a ∙ input_receives replicated chan pattern part (block_process core s) ∙ ap (receipt_widths (nodes_of core) s.queues part) is

    one_taken : (waiting : List (List ℕ)) → oldest waiting ≡ Output → taken_widths (nodes_of core) part waiting ≡ part_width (nodes_of core) part ∷ []
    one_taken [] first = cc
    one_taken ([] ∷ rest) first = cc
    one_taken ((zero ∷ held) ∷ rest) first = refl
    one_taken ((suc number ∷ held) ∷ rest) first = cc

    none_taken : (waiting : List (List ℕ)) → oldest waiting ≢ Output → taken_widths (nodes_of core) part waiting ≡ []
    none_taken [] none = refl
    none_taken ([] ∷ rest) none = refl
    none_taken ((zero ∷ held) ∷ rest) none = absurd (none refl)
    none_taken ((suc number ∷ held) ∷ rest) none = refl

    pub receipt_needs : oldest (contents s.queues (channel + 1)) ≡ Output → widths_of core s (acting_words core s) ≡ part_width (nodes_of core) part ∷ []
    receipt_needs first = received ∙ one_taken (contents s.queues (channel + 1)) first

    pub waiting_needs : oldest (contents s.queues (channel + 1)) ≢ Output → widths_of core s (acting_words core s) ≡ []
    waiting_needs none = received ∙ none_taken (contents s.queues (channel + 1)) none

-- ---- the part of an input

module _ (code : List written.Node) (is : IsCode (map plain_node code)) (s : Store) where
  pub part_made : (new : Store) (part : ℕ) (frame : List ℕ) → HasFrame (map plain_node code) part frame → widths_of (core_in code) s (acting_words (core_in code) s) ≡ part_width (nodes_of (core_in code)) part ∷ []
      → MakesOnly s.queues new.queues (block_width frame ∷ []) → MakesNeeded (core_in code) s new
  part_made new part frame f e makes =
      needed_by (core_in code) s new (part_width (nodes_of (core_in code)) part ∷ []) e
      (subst (λ (ns : List Node). MakesOnly s.queues new.queues (part_width ns part ∷ [])) (sym is.nodes_are) (makes_part (map plain_node code) s.queues new.queues part frame f makes))

  -- the same, where a block is made for who has the turn as well
  pub part_made_beside : (new : Store) (part : ℕ) (frame : List ℕ) → HasFrame (map plain_node code) part frame
      → widths_of (core_in code) s (acting_words (core_in code) s) ≡ part_width (nodes_of (core_in code)) part ∷ []
      → MakesOnly s.queues new.queues ((length (acting_words (core_in code) s) + 1) ∷ block_width frame ∷ []) → MakesNeeded (core_in code) s new
  part_made_beside new part frame f e makes =
      let same : part_width (nodes_of (core_in code)) part ≡ block_width frame = part_width_is (nodes_of (core_in code)) part frame (coded_frame code is part frame f) in
      needed_beside (core_in code) s new (part_width (nodes_of (core_in code)) part ∷ []) e
      (subst (λ (w : ℕ). MakesOnly s.queues new.queues ((length (acting_words (core_in code) s) + 1) ∷ w ∷ [])) (sym same) makes)

  -- that of the input that waits first
  pub meeting_made : (to_wait : List ℕ) → widths_of (core_in code) s (acting_words (core_in code) s) ≡ output_widths (nodes_of (core_in code)) s.queues to_wait (block_process (core_in code) s)
      → (channel : ℕ) (v : Val) (at : Span) → block_process (core_in code) s ≡ term.Out (Chan channel) v at → IsStore (core_in code) s → (reader : ℕ) → waits_first s.queues channel ≡ Input reader → (new : Store)
      → ((replicated : Bool) (pattern : CodePat) (part : ℕ) (frame : List ℕ) → IsInputWith (map plain_node code) reader replicated pattern part → HasFrame (map plain_node code) part frame
      → MakesOnly s.queues new.queues (block_width frame ∷ [])) → MakesNeeded (core_in code) s new
  meeting_made to_wait needs channel v at out store reader first new makes =
      let core = core_in code in
      let w = input_waits_first code s channel reader is store first in
      let f = first_input core s.desk.heap (contents s.queues (channel + 1)) reader (store.blocks (channel + 1)) (store.waiting channel) first in
      let body = frame_there code w.part (part_low code is reader w.replicated w.pattern w.part w.input) in
      let there : slice_get (nodes_of core) reader ≡ Some w.input.node = ap (λ (ns : List Node). slice_get ns reader) is.nodes_are ∙ w.input.at in
      part_made new w.part body.0 body.1
      (meeting_needs core s to_wait needs channel v at out reader f.held f.rest f.is w.input.node there w.replicated w.input.chan w.pattern w.part w.input.is)
      (makes w.replicated w.pattern w.part body.0 w.input body.1)
