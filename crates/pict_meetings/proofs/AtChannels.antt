-- What is known of who has the turn and acts at a channel, where the step isn't wrong.
use Rattle.std.proofs.Common.{ℕ, ◌+◌, ◌-◌, ◌≡◌, ◌≢◌, Bool, None, List, length, map, refl, ap, ◌∙◌, subst, arith}
use Rattle.pict_syntax.specs.declared.span.Span.{Span}
use Rattle.pict_core.specs.Term as term
use Rattle.pict_core.specs.Term.{Val, Pat, Process, Chan, In, Out}
use Rattle.pict_core.specs.Closed.{IsClosed, IsOver, IsUnder}
use Rattle.pict_core.proofs.Closed.{over_more}
use Rattle.pict_code.specs.Instruction.{CodePat}
use Rattle.pict_code.specs.Nodes.{places, input_op}
use Rattle.pict_code.specs.ReadBack.{unleveled}
use Rattle.pict_code.proofs.Closings.{part_under}
use Rattle.pict_queue.specs.QueuesState.{IsQueue}
use Rattle.pict_queue.specs.Contents.{contents}
use Rattle.pict_view.specs.Moved.{Misshapen}
use Rattle.pict_view.proofs.Rows.{act}
use Rattle.pict_blocks.specs.Blocks.{process_of}
use Rattle.pict_blocks.proofs.Meeting.{inputs_stand, is_input}
use Rattle.pict_desk.specs.Known.{value_in, known, operand_value}
use Rattle.pict_desk.proofs.Nodes.{op_is}
use Rattle.pict_desk.specs.AtHand.{channel_named}
use Rattle.pict_turns.specs.Acting.{HasActing, ActsBy, IsRight}
use Rattle.pict_turns.specs.Views.{channel_lists, acting_words}
use Rattle.pict_turns.specs.declared.store.Store.{Store}
use Rattle.pict_turns.proofs.Numbered.{standing}
use Rattle.pict_desk.proofs.Numbered.{place_low}
use Rattle.pict_turns.proofs.Rows.{length_lists}
use Rattle.pict_meetings.specs.Partners.{Receives}
use Rattle.pict_turns.proofs.Outputs.{right_acting}
use Rattle.pict_meetings.proofs.Fitting.{input_there, output_there}

-- what is received from is a channel
channel_received : (rest : List Process) (lists : List (List Process)) (v : Val) (replicated : Bool) (pattern : Pat) (body : Process)
    → act rest lists (In v replicated pattern body) ≢ Misshapen → None ≡ channel_named v → ⊥
channel_received rest lists (term.Chan c) replicated pattern body right none = cc
channel_received rest lists _ replicated pattern body right none = right refl

-- an output's channel is there
module _ (core : Process) (s : Store) (acting : HasActing core s) (right : IsRight core s) (message : Val) (at : Span) where
  pub output_queue : (c : ℕ) → process_of core (value_in s.desk.heap) (acting_words core s) ≡ Out (Chan c) message at → IsQueue s.queues (c + 1)
  output_queue c is =
      let low = output_there (process_of core (value_in s.desk.heap)) (acting_words core s) (contents s.queues 0) (channel_lists s.queues) (right_acting core s acting right) c message at is in
      omega (arith, low, length_lists s.queues 1 (length s.queues.queues - 1))

-- ---- an input of a node

module _ (core : Process) (s : Store) (closed : IsClosed core) (replicated : Bool) (chan : Val) (pattern : CodePat) (part : ℕ) (a : ActsBy core s (input_op replicated chan pattern part)) where
  -- the variables of its operand are levels that have a place
  pub input_over : IsOver (length s.desk.values.items) 0 chan
  input_over =
      let st = standing core s (input_op replicated chan pattern part) a in
      let n = st.part.around in
      let form = is_input a.number n chan replicated pattern part st.part.process (op_is core a.number a.node st.part (input_op replicated chan pattern part) st.at a.op_is) in
      let under : IsUnder n 0 (In chan replicated form.pattern form.body) = subst (IsUnder n 0) form.is (part_under core a.number st.part closed st.at.at) in
      let low = place_low (length s.desk.values.items) (places 0 core) a.number st.part a.acting.store.levels st.at.at in
      over_more n (length s.desk.values.items) 0 0 low (omega arith) chan under.0

  module _ (right : IsRight core s) where
    stands : (body : Process) × (process_of core (value_in s.desk.heap) (acting_words core s) ≡ In (operand_value (known s.desk.heap s.desk.values.items) chan) replicated (unleveled pattern) body)
    stands = inputs_stand core s.desk.heap s.desk.values.items a.number part replicated chan pattern a.node (acting_words core s) closed a.is a.op_is

    -- it receives from a channel
    pub no_input : None ≡ channel_named (operand_value (known s.desk.heap s.desk.values.items) chan) → ⊥
    no_input none =
        let rest = map (process_of core (value_in s.desk.heap)) (contents s.queues 0) in
        let lists = map (map (process_of core (value_in s.desk.heap))) (channel_lists s.queues) in
        channel_received rest lists (operand_value (known s.desk.heap s.desk.values.items) chan) replicated (unleveled pattern) stands.0
        (λ wrong. right_acting core s a.acting right (ap (act rest lists) stands.1 ∙ wrong)) none

  pub receives : (c : ℕ) → operand_value (known s.desk.heap s.desk.values.items) chan ≡ Chan c → Receives core s c replicated pattern part
  receives c is = record { closed = closed; chan = chan; acts = a; from = is }

-- an input's process
pub input_process : (core : Process) (s : Store) (c : ℕ) (replicated : Bool) (pattern : CodePat) (part : ℕ) → Receives core s c replicated pattern part
    → (body : Process) × (process_of core (value_in s.desk.heap) (acting_words core s) ≡ In (Chan c) replicated (unleveled pattern) body)
input_process core s c replicated pattern part r =
    let st = inputs_stand core s.desk.heap s.desk.values.items r.acts.number part replicated r.chan pattern r.acts.node (acting_words core s) r.closed r.acts.is r.acts.op_is in
    (st.0, st.1 ∙ ap (λ v. In v replicated (unleveled pattern) st.0) r.from)

-- the channel of an input is there
pub input_queue : (core : Process) (s : Store) (c : ℕ) (replicated : Bool) (pattern : CodePat) (part : ℕ) → Receives core s c replicated pattern part → IsRight core s → IsQueue s.queues (c + 1)
input_queue core s c replicated pattern part r right =
    let p = input_process core s c replicated pattern part r in
    let low = input_there (process_of core (value_in s.desk.heap)) (acting_words core s) (contents s.queues 0) (channel_lists s.queues) (right_acting core s r.acts.acting right) c replicated (unleveled pattern) p.0 p.1 in
    omega (arith, low, length_lists s.queues 1 (length s.queues.queues - 1))
