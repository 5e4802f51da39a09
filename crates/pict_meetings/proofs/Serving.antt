-- What is known of an input that is to serve a message: its part, its pattern, and that the pattern fits.
use Rattle.std.proofs.Common.{ℕ, ◌+◌, ◌≤◌, ◌≡◌, Bool, true, false, cond, List, [], ◌∷◌, take, get_or, sym, ap, ◌∙◌, subst, arith, Some, ◌<◌, length, map}
use Rattle.std.specs.Option.{IsSome}
use Rattle.std.specs.List.{slice_get}
use Rattle.pict_syntax.specs.declared.span.Span.{Span}
use Rattle.pict_core.specs.Closed.{IsClosed}
use Rattle.pict_core.specs.Matching.{match_value}
use Rattle.pict_core.specs.Term.{Process}
use Rattle.pict_code.specs.Instruction.{CodePat, Node}
use Rattle.pict_code.specs.Nodes.{nodes_of, input_op}
use Rattle.pict_code.specs.ReadBack.{core_of, unleveled}
use Rattle.pict_region.specs.RegionState.{spare}
use Rattle.pict_queue.specs.QueuesState.{QueuesState, IsQueue}
use Rattle.pict_queue.specs.Contents.{contents, first_words}
use Rattle.pict_blocks.specs.Blocks.{process_of, IsNodeBlock}
use Rattle.pict_desk.specs.Known.{value_in, known, operand_value}
use Rattle.pict_blocks.proofs.Meeting.{inputs_stand}
use Rattle.pict_desk.specs.Needs.{HasRoomFor}
use Rattle.pict_turns.specs.Acting.{IsRight}
use Rattle.pict_desk.specs.Code.{IsCode, core_in}
use Rattle.pict_turns.specs.Parts.{CanHold}
use Rattle.pict_blocks.specs.Parts.{block_width}
use Rattle.pict_desk.specs.Room.{frame_need}
use Rattle.pict_turns.specs.Views.{channel_lists, acting_words}
use Rattle.pict_turns.specs.declared.store.Store.{Store}
use Rattle.pict_turns.specs.declared.turn.Turn.TheVariants.{Nobody}
use Rattle.pict_turns.proofs.AfterReading.{contents_read, spare_read}
use Rattle.pict_meetings.specs.Sent.{sent_value, SendsThis}
use Rattle.pict_meetings.specs.declared.sent.Sent.{Sent}
use Rattle.pict_meetings.specs.Room.{as_wide, CanHoldAfter}
use Rattle.pict_meetings.specs.Serving.{IsInputWith, ReadsInput}
use Rattle.pict_turns.proofs.Outputs.{right_acting}
use Rattle.pict_meetings.proofs.Fitting.{output_fits}
use Rattle.pict_meetings.proofs.Inputs.{HasPart, has_part, part_inside}
use Rattle.pict_meetings.proofs.Waits.{channel_there}
use Rattle.pict_code.specs.Plain.{plain_node}
use Rattle.pict_code.specs.declared.instruction.Node.{Node as AnyNode}
use Rattle.pict_desk.proofs.Numbered.{in_code}

-- an input of a code is one of its process
pub input_coded : (nodes : List Node) (number part : ℕ) (replicated : Bool) (pattern : CodePat) → IsCode nodes → IsInputWith nodes number replicated pattern part
    → IsInputWith (nodes_of (core_of nodes)) number replicated pattern part
input_coded nodes number part replicated pattern code i = record { node = i.node; at = ap (λ (ns : List Node). slice_get ns number) code.nodes_are ∙ i.at; chan = i.chan; is = i.is }

module _ (core : Process) (number part : ℕ) (replicated : Bool) (pattern : CodePat) (i : IsInputWith (nodes_of core) number replicated pattern part) where
  pub serves_part : HasPart core pattern part
  serves_part = has_part core number part i.node replicated i.chan pattern i.at i.is

  pub serves_fits : (old taken : Store) (channel : ℕ) (sent : Sent) (at : Span) → IsClosed core → SendsThis core old channel sent at → IsQueue old.queues (channel + 1)
      → ReadsInput core (record old { turn = Nobody }) taken channel number → IsRight core old → IsSome (match_value (unleveled pattern) (sent_value old.desk.heap sent))
  serves_fits old taken channel sent at closed sends there reads right =
      let words = reads.words in
      let same : Some reads.read.node ≡ Some i.node = sym reads.read.is.at ∙ i.at in
      let node_is : reads.read.node ≡ i.node = cc in
      let op_is : reads.read.node.op ≡ input_op replicated i.chan pattern part = ap (λ (n : Node). n.op) node_is ∙ i.is in
      let is : IsNodeBlock core old.desk.heap taken.desk.values.items number reads.read.node words = subst (λ h. IsNodeBlock core h taken.desk.values.items number reads.read.node words) reads.read.rest.heap reads.read.is in
      let stands = inputs_stand core old.desk.heap taken.desk.values.items number part replicated i.chan pattern reads.read.node words closed is op_is in
      output_fits (process_of core (value_in old.desk.heap)) (acting_words core old) (contents old.queues 0) (channel_lists old.queues) (right_acting core old sends.acting right)
      channel (sent_value old.desk.heap sent) at words reads.others (operand_value (known old.desk.heap taken.desk.values.items) i.chan) replicated (unleveled pattern) stands.0
      (channel_there old.queues channel there ∙ ap Some reads.waiting) sends.is stands.1

-- ---- what waits at the channel once the input's frame is read

module _ (old taken : Store) (channel number : ℕ) where
  pub waiting_read : {core : Process} → (reads : ReadsInput core (record old { turn = Nobody }) taken channel number) → contents taken.queues (channel + 1) ≡ reads.words ∷ reads.others
  waiting_read reads = contents_read (record old { turn = Nobody }) taken reads.read.rest (channel + 1) ∙ reads.waiting

  pub first_read : {core : Process} → (reads : ReadsInput core (record old { turn = Nobody }) taken channel number) → first_words taken.queues (channel + 1) ≡ reads.words
  first_read reads = ap (λ (ws : List (List ℕ)). get_or ws 0 []) (waiting_read reads)

-- ---- once the input's block is behind the others or has ended

spare_after : (width before after : ℕ) (reader : List ℕ) (rest : List (List ℕ)) (b : Bool) → after ≡ before + cond b 0 (as_wide width (reader ∷ []))
    → 1 ≤ before + as_wide width (cond b [] (take 1 (reader ∷ rest))) → 1 ≤ after
spare_after width before after reader rest true e h = omega (arith, e, h)
spare_after width before after reader rest false e h = omega (arith, e, h)

-- there is room still for its part
pub can_serve : (core : Process) (old taken bound : Store) (channel number : ℕ) (replicated : Bool) (frame : List ℕ) (back : QueuesState)
    → (reads : ReadsInput core (record old { turn = Nobody }) taken channel number) → bound ≡ record taken { desk = record taken.desk { values = bound.desk.values }; queues = back }
    → ((width : ℕ) → spare back.region width ≡ spare taken.queues.region width + cond replicated 0 (as_wide width (first_words taken.queues (channel + 1) ∷ [])))
    → CanHoldAfter old (cond replicated [] (take 1 (contents old.queues (channel + 1)))) frame → CanHold bound frame
can_serve core old taken bound channel number replicated frame back reads is spared can =
    let width = block_width frame in
    let words = reads.words in
    let first : first_words taken.queues (channel + 1) ≡ words = first_read old taken channel number reads in
    let there : 1 ≤ spare old.queues.region width + as_wide width (cond replicated [] (take 1 (words ∷ reads.others))) =
    subst (λ list. 1 ≤ spare old.queues.region width + as_wide width (cond replicated [] (take 1 list))) reads.waiting can.block in
    let free : spare bound.queues.region width ≡ spare old.queues.region width + cond replicated 0 (as_wide width (words ∷ [])) =
    ap (λ (s : Store). spare s.queues.region width) is ∙ spared width ∙ ap (λ (ws : List ℕ). spare taken.queues.region width + cond replicated 0 (as_wide width (ws ∷ []))) first ∙ ap (λ n. n + cond replicated 0 (as_wide width (words ∷ []))) (spare_read (record old { turn = Nobody }) taken reads.read.rest width) in
    let heap : bound.desk.heap ≡ old.desk.heap = ap (λ (s : Store). s.desk.heap) is ∙ reads.read.rest.heap in
    let pending : bound.desk.pending ≡ old.desk.pending = ap (λ (s : Store). s.desk.pending) is ∙ reads.read.rest.pending in
    record {
      block = spare_after width (spare old.queues.region width) (spare bound.queues.region width) words reads.others replicated free there;
      room = subst (λ h. HasRoomFor h bound.desk.pending (frame_need frame)) (sym heap) (subst (λ p. HasRoomFor old.desk.heap p (frame_need frame)) (sym pending) can.room);
    }

-- ---- the part of an input is one of the code

pub part_low : (code : List AnyNode) → IsCode (map plain_node code) → (number : ℕ) (replicated : Bool) (pattern : CodePat) (part : ℕ) → IsInputWith (map plain_node code) number replicated pattern part → part < length code
part_low code is number replicated pattern part i =
    let core = core_in code in
    in_code code is part (part_inside core pattern part (has_part core number part i.node replicated i.chan pattern (ap (λ nodes. slice_get nodes number) is.nodes_are ∙ i.at) i.is))
