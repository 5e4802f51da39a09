-- What the steps of inputs and outputs need of the heap at a channel, from the clauses of what they do.
use Rattle.std.proofs.Common.{ℕ, zero, suc, ◌+◌, ◌≡◌, Bool, true, false, List, [], ◌∷◌, refl, sym, ap, ◌∙◌, subst, Option, Some, option_map, unwrap_or, map}
use Rattle.std.specs.List.{slice_get}
use Rattle.pict_syntax.specs.declared.span.Span.{Span}
use Rattle.pict_core.specs.Term as term
use Rattle.pict_core.specs.Term.{Val, Pat, Process, Chan}
use Rattle.pict_code.specs.Instruction.{Node, CodePat}
use Rattle.pict_code.specs.Nodes.{nodes_of, input_op}
use Rattle.pict_code.specs.Plain.{plain_node}
use Rattle.pict_code.specs.declared.instruction.Node as written
use Rattle.pict_queue.specs.Contents.{contents}
use Rattle.pict_prim.specs.declared.act.Need.{Need}
use Rattle.pict_desk.specs.Needs.{no_need, both_needs}
use Rattle.pict_desk.specs.Code.{core_in, IsCode}
use Rattle.pict_meetings.specs.Serving.{IsInputWith}
use Rattle.pict_meetings.specs.Waiting.{oldest, waits_first}
use Rattle.pict_meetings.specs.declared.waiting.Waiting.TheVariants.{Output, Input}
use Rattle.pict_meetings.proofs.Firsts.{first_input}
use Rattle.pict_meetings.proofs.Ops.{input_waits_first}
use Rattle.pict_turns.specs.Acting.{IsStore, ActsBy}
use Rattle.pict_turns.specs.Growing.{AddsAtMost, part_need, input_need, served_need, taken_need, output_need, receipt_need, node_need, words_need, AddsNeeded}
use Rattle.pict_turns.specs.Views.{acting_words}
use Rattle.pict_turns.specs.declared.store.Store.{Store}
use Rattle.pict_turns.proofs.Adding.{used_with}
use Rattle.pict_turns.proofs.Needing.{block_process}
use Rattle.pict_turns.proofs.Growing.{adds_by, node_adds}

module _ (core : Process) (s : Store) where
  module _ (message argument : Need) (needs : words_need core s (acting_words core s) ≡ output_need (nodes_of core) s.queues message argument (block_process core s)) where
    module _ (channel : ℕ) (v : Val) (at : Span) (is : block_process core s ≡ term.Out (Chan channel) v at) where
      sent : words_need core s (acting_words core s) ≡ both_needs message (served_need (nodes_of core) (contents s.queues (channel + 1)))
      sent = needs ∙ ap (output_need (nodes_of core) s.queues message argument) is

      -- no input waits
      pub wait_adds : (new : Store) → AddsAtMost s new message → AddsNeeded core s new
      wait_adds new adds =
          adds_by core s new (both_needs message (served_need (nodes_of core) (contents s.queues (channel + 1)))) sent
          (used_with s.desk.heap.room new.desk.heap.room message (served_need (nodes_of core) (contents s.queues (channel + 1))) adds)

      -- an input waits first
      input_adds : (replicated : Bool) (chan : Val) (pattern : CodePat) (part : ℕ) → input_need (nodes_of core) (input_op replicated chan pattern part) ≡ part_need (nodes_of core) part
      input_adds true chan pattern part = refl
      input_adds false chan pattern part = refl

      pub meeting_adds : (reader : ℕ) (held : List ℕ) (rest : List (List ℕ)) → contents s.queues (channel + 1) ≡ (suc reader ∷ held) ∷ rest → (node : Node) → slice_get (nodes_of core) reader ≡ Some node
          → (replicated : Bool) (chan : Val) (pattern : CodePat) (part : ℕ) → node.op ≡ input_op replicated chan pattern part
          → words_need core s (acting_words core s) ≡ both_needs message (part_need (nodes_of core) part)
      meeting_adds reader held rest here node there replicated chan pattern part e =
          sent
          ∙ ap (both_needs message)
          (ap (served_need (nodes_of core)) here
          ∙ ap (λ (n : Option Node). unwrap_or (option_map (λ (x : Node). input_need (nodes_of core) x.op) n) no_need) there
          ∙ ap (input_need (nodes_of core)) e ∙ input_adds replicated chan pattern part)

  -- ---- inputs

  input_receives : (replicated : Bool) (chan : Val) (pattern : CodePat) (part : ℕ) (p : Process) → node_need (nodes_of core) s.queues (input_op replicated chan pattern part) p ≡ receipt_need (nodes_of core) s.queues part p
  input_receives true chan pattern part p = refl
  input_receives false chan pattern part p = refl

  module _ (replicated : Bool) (chan : Val) (pattern : CodePat) (part : ℕ) (a : ActsBy core s (input_op replicated chan pattern part)) (channel : ℕ) (form : Pat) (body : Process)
      (is : block_process core s ≡ term.In (Chan channel) replicated form body) where
    received : words_need core s (acting_words core s) ≡ taken_need (nodes_of core) part (contents s.queues (channel + 1))
    received = node_adds core s (input_op replicated chan pattern part) a ∙ input_receives replicated chan pattern part (block_process core s) ∙ ap (receipt_need (nodes_of core) s.queues part) is

    one_taken : (waiting : List (List ℕ)) → oldest waiting ≡ Output → taken_need (nodes_of core) part waiting ≡ part_need (nodes_of core) part
    one_taken [] first = cc
    one_taken ([] ∷ rest) first = cc
    one_taken ((zero ∷ held) ∷ rest) first = refl
    one_taken ((suc number ∷ held) ∷ rest) first = cc

    pub receipt_adds : oldest (contents s.queues (channel + 1)) ≡ Output → words_need core s (acting_words core s) ≡ part_need (nodes_of core) part
    receipt_adds first = received ∙ one_taken (contents s.queues (channel + 1)) first

-- ---- the part of an input

module _ (code : List written.Node) (is : IsCode (map plain_node code)) (s : Store) where
  pub part_added : (new : Store) (part : ℕ) → words_need (core_in code) s (acting_words (core_in code) s) ≡ part_need (nodes_of (core_in code)) part
      → AddsAtMost s new (part_need (map plain_node code) part) → AddsNeeded (core_in code) s new
  part_added new part e adds =
      adds_by (core_in code) s new (part_need (nodes_of (core_in code)) part) e (subst (λ (ns : List Node). AddsAtMost s new (part_need ns part)) (sym is.nodes_are) adds)

  -- that of the input that waits first
  pub meeting_added : (message argument : Need) → words_need (core_in code) s (acting_words (core_in code) s) ≡ output_need (nodes_of (core_in code)) s.queues message argument (block_process (core_in code) s)
      → (channel : ℕ) (v : Val) (at : Span) → block_process (core_in code) s ≡ term.Out (Chan channel) v at → IsStore (core_in code) s → (reader : ℕ) → waits_first s.queues channel ≡ Input reader → (new : Store)
      → ((replicated : Bool) (pattern : CodePat) (part : ℕ) → IsInputWith (map plain_node code) reader replicated pattern part → AddsAtMost s new (both_needs message (part_need (map plain_node code) part)))
      → AddsNeeded (core_in code) s new
  meeting_added message argument needs channel v at out store reader first new adds =
      let core = core_in code in
      let w = input_waits_first code s channel reader is store first in
      let f = first_input core s.desk.heap (contents s.queues (channel + 1)) reader (store.blocks (channel + 1)) (store.waiting channel) first in
      let there : slice_get (nodes_of core) reader ≡ Some w.input.node = ap (λ (ns : List Node). slice_get ns reader) is.nodes_are ∙ w.input.at in
      adds_by core s new (both_needs message (part_need (nodes_of core) w.part))
      (meeting_adds core s message argument needs channel v at out reader f.held f.rest f.is w.input.node there w.replicated w.input.chan w.pattern w.part w.input.is)
      (subst (λ (ns : List Node). AddsAtMost s new (both_needs message (part_need ns w.part))) (sym is.nodes_are) (adds w.replicated w.pattern w.part w.input))
