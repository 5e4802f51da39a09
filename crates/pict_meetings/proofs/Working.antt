-- What the steps of inputs and outputs cost that meet a partner.
use Rattle.std.proofs.Common.{ℕ, ◌+◌, ◌≤◌, ◌≡◌, Bool, List, map, refl, ap, ◌∙◌, arith, Some}
use Rattle.std.specs.List.{slice_get}
use Rattle.pict_syntax.specs.declared.span.Span.{Span}
use Rattle.pict_core.specs.Term as term
use Rattle.pict_core.specs.Term.{Val, Chan}
use Rattle.pict_code.specs.Instruction as op
use Rattle.pict_code.specs.Instruction.{CodePat}
use Rattle.pict_code.specs.Nodes.{nodes_of, input_op}
use Rattle.pict_code.specs.Plain.{plain_node}
use Rattle.pict_code.specs.declared.instruction.Node.{Node}
use Rattle.pict_queue.specs.QueuesState.{CostsAtMost}
use Rattle.pict_queue.specs.Contents.{contents}
use Rattle.pict_blocks.specs.Blocks.{process_of}
use Rattle.pict_desk.specs.Known.{value_in}
use Rattle.pict_meetings.specs.Serving.{IsInputWith}
use Rattle.pict_meetings.specs.Waiting.{waits_first}
use Rattle.pict_meetings.specs.declared.waiting.Waiting.TheVariants.{Input}
use Rattle.pict_meetings.proofs.Firsts.{first_input}
use Rattle.pict_meetings.proofs.Inputs.{has_part, part_inside}
use Rattle.pict_meetings.proofs.Ops.{input_waits_first}
use Rattle.pict_turns.specs.Acting.{IsStore, HasActing, ActsBy}
use Rattle.pict_desk.specs.Code.{core_in, IsCode, HasFrame}
use Rattle.pict_blocks.specs.Parts.{block_width}
use Rattle.pict_turns.specs.Turns.{turn_cost}
use Rattle.pict_turns.specs.Views.{acting_words, IsKept}
use Rattle.pict_turns.specs.declared.store.Store.{Store}
use Rattle.pict_desk.proofs.Numbered.{in_code, coded_frame}
use Rattle.pict_turns.specs.Work.{Fits}
use Rattle.pict_turns.proofs.Costing.{input_fits, kept_meets_fits, meets_fits}
use Rattle.pict_meetings.proofs.Serving.{part_low}
use Rattle.pict_turns.proofs.Working.{own_cost, kept_cost, fits_by, frame_there}

module _ (code : List Node) (is : IsCode (map plain_node code)) (s new : Store) where
  -- ---- inputs that meet an output

  pub input_works : (replicated : Bool) (chan : Val) (pattern : CodePat) (part : ℕ) → ActsBy (core_in code) s (input_op replicated chan pattern part)
      → ((frame : List ℕ) → HasFrame (map plain_node code) part frame → turn_cost (core_in code) new ≤ turn_cost (core_in code) s + (block_width frame + 4))
      → ((frame : List ℕ) → HasFrame (map plain_node code) part frame → CostsAtMost (block_width frame + 9) s.queues new.queues) → Fits (core_in code) s new
  input_works replicated chan pattern part a turn cost =
      let core = core_in code in
      let low = part_inside core pattern part (has_part core a.number part a.node replicated chan pattern a.is.at a.op_is) in
      let x = frame_there code part (in_code code is part low) in
      let own = own_cost core s (input_op replicated chan pattern part) a in
      fits_by core s new (block_width x.0 + 9) (turn_cost core s + (block_width x.0 + 4)) (cost x.0 x.1) (turn x.0 x.1)
      (input_fits core s replicated chan pattern part a x.0 (coded_frame code is part x.0 x.1) (turn_cost core s + (turn_cost core s + (block_width x.0 + 4)) + (block_width x.0 + 9)) (omega (arith, own)))

  -- ---- outputs that meet an input

  module _ (store : IsStore (core_in code) s) (channel reader : ℕ) (first : waits_first s.queues channel ≡ Input reader) (v : Val) (at : Span)
      (out : process_of (core_in code) (value_in s.desk.heap) (acting_words (core_in code) s) ≡ term.Out (Chan channel) v at)
      (turn : (replicated : Bool) (pattern : CodePat) (part : ℕ) (frame : List ℕ) → IsInputWith (map plain_node code) reader replicated pattern part → HasFrame (map plain_node code) part frame
      → turn_cost (core_in code) new ≤ turn_cost (core_in code) s + (block_width frame + 4))
      (cost : (replicated : Bool) (pattern : CodePat) (part : ℕ) (theirs frame : List ℕ) → IsInputWith (map plain_node code) reader replicated pattern part
      → HasFrame (map plain_node code) reader theirs → HasFrame (map plain_node code) part frame → CostsAtMost (block_width theirs + block_width frame + 8) s.queues new.queues) where
    pub kept_meeting_works : HasActing (core_in code) s → IsKept s.desk.heap (acting_words (core_in code) s) → Fits (core_in code) s new
    kept_meeting_works acting kept =
        let core = core_in code in
        let w = input_waits_first code s channel reader is store first in
        let f = first_input core s.desk.heap (contents s.queues (channel + 1)) reader (store.blocks (channel + 1)) (store.waiting channel) first in
        let theirs = w.input.node.frame in
        let theirs_has : HasFrame (map plain_node code) reader theirs = record { node = w.input.node; at = w.input.at; is = refl } in
        let body = frame_there code w.part (part_low code is reader w.replicated w.pattern w.part w.input) in
        let there : slice_get (nodes_of core) reader ≡ Some w.input.node = ap (λ nodes. slice_get nodes reader) is.nodes_are ∙ w.input.at in
        let own = kept_cost core s acting kept in
        fits_by core s new (block_width theirs + block_width body.0 + 8) (turn_cost core s + (block_width body.0 + 4)) (cost w.replicated w.pattern w.part theirs body.0 w.input theirs_has body.1)
        (turn w.replicated w.pattern w.part body.0 w.input body.1)
        (kept_meets_fits core s channel v at out reader w.part f.held f.rest f.is w.input.node there w.replicated w.input.chan w.pattern w.input.is body.0 (coded_frame code is w.part body.0 body.1) _ kept.is
        (turn_cost core s + (turn_cost core s + (block_width body.0 + 4)) + (block_width theirs + block_width body.0 + 8)) (omega (arith, own)))

    pub meeting_works : (chan message : Val) (place : Span) → ActsBy (core_in code) s (op.Out chan message place) → Fits (core_in code) s new
    meeting_works chan message place a =
        let core = core_in code in
        let w = input_waits_first code s channel reader is store first in
        let f = first_input core s.desk.heap (contents s.queues (channel + 1)) reader (store.blocks (channel + 1)) (store.waiting channel) first in
        let theirs = w.input.node.frame in
        let theirs_has : HasFrame (map plain_node code) reader theirs = record { node = w.input.node; at = w.input.at; is = refl } in
        let body = frame_there code w.part (part_low code is reader w.replicated w.pattern w.part w.input) in
        let there : slice_get (nodes_of core) reader ≡ Some w.input.node = ap (λ nodes. slice_get nodes reader) is.nodes_are ∙ w.input.at in
        let own = own_cost core s (op.Out chan message place) a in
        fits_by core s new (block_width theirs + block_width body.0 + 8) (turn_cost core s + (block_width body.0 + 4)) (cost w.replicated w.pattern w.part theirs body.0 w.input theirs_has body.1)
        (turn w.replicated w.pattern w.part body.0 w.input body.1)
        (meets_fits core s channel v at out reader w.part f.held f.rest f.is w.input.node there w.replicated w.input.chan w.pattern w.input.is body.0 (coded_frame code is w.part body.0 body.1) chan message place a
        (turn_cost core s + (turn_cost core s + (block_width body.0 + 4)) + (block_width theirs + block_width body.0 + 8)) (omega (arith, own)))
