-- What is known of an input that acts: its part, its pattern, the message that it takes, and who has the turn then.
use Rattle.std.proofs.Common.{ℕ, suc, ◌+◌, ◌≤◌, ◌≡◌, Bool, true, false, List, [], ◌∷◌, length, refl, sym, ap, ◌∙◌, subst, arith, Some}
use Rattle.std.specs.List.{AllByRecursion}
use Rattle.std.specs.Option.{IsSome}
use Rattle.pict_core.specs.Matching.{match_value}
use Rattle.pict_core.specs.Term.{Process, Chan, In}
use Rattle.pict_code.specs.Instruction.{CodePat}
use Rattle.pict_code.specs.Levels.{has}
use Rattle.pict_code.specs.Nodes.{nodes_of}
use Rattle.pict_code.specs.ReadBack.{unleveled}
use Rattle.pict_desk.specs.Known.{pair_at, value_in}
use Rattle.pict_blocks.specs.Keeping.{kept_words}
use Rattle.pict_desk.specs.declared.kept.Kept.{Kept}
use Rattle.pict_region.specs.RegionState.{spare}
use Rattle.pict_queue.specs.QueuesState.{QueuesState, IsQueue}
use Rattle.pict_queue.specs.Contents.{contents}
use Rattle.pict_view.specs.Moved.{if_replicated}
use Rattle.pict_desk.specs.Binding.{levels_of}
use Rattle.pict_blocks.specs.Blocks.{process_of}
use Rattle.pict_blocks.proofs.Meeting.{inputs_stand}
use Rattle.pict_desk.specs.Needs.{HasRoomFor}
use Rattle.pict_desk.specs.Pairs.{ArePairs}
use Rattle.pict_turns.specs.Acting.{IsRight}
use Rattle.pict_turns.specs.Parts.{CanHold, Spawns, IsLast}
use Rattle.pict_blocks.specs.Parts.{block_width}
use Rattle.pict_desk.specs.Room.{frame_need}
use Rattle.pict_turns.specs.Turns.{IsTurn, handing, turn_cost}
use Rattle.pict_turns.specs.Views.{channel_lists, words_of_turn, turn_words, acting_words}
use Rattle.pict_turns.specs.declared.store.Store.{Store}
use Rattle.pict_turns.specs.declared.turn.Turn.TheVariants.{Nobody}
use Rattle.pict_turns.proofs.Turns.{acting_room}
use Rattle.pict_meetings.specs.Partners.{Receives}
use Rattle.pict_meetings.specs.Room.{CanHoldBeside}
use Rattle.pict_turns.proofs.Outputs.{right_acting}
use Rattle.pict_meetings.proofs.Fitting.{input_fits}
use Rattle.pict_meetings.proofs.Inputs.{HasPart, has_part, frame_apart}
use Rattle.pict_meetings.proofs.Keeping.{each_level, words_kept, turn_kept}
use Rattle.pict_meetings.proofs.Readying.{Readies, behind_kept}
use Rattle.pict_meetings.proofs.Waits.{channel_there}

module _ (core : Process) (s : Store) (channel : ℕ) (replicated : Bool) (pattern : CodePat) (part : ℕ) (r : Receives core s channel replicated pattern part) where
  pub receives_part : HasPart core pattern part
  receives_part = has_part core r.acts.number part r.acts.node replicated r.chan pattern r.acts.is.at r.acts.op_is

  -- what who has the turn stands for
  pub receives_is : (body : Process) × (process_of core (value_in s.desk.heap) (acting_words core s) ≡ In (Chan channel) replicated (unleveled pattern) body)
  receives_is =
      let a = r.acts in
      let i = inputs_stand core s.desk.heap s.desk.values.items a.number part replicated r.chan pattern a.node (acting_words core s) r.closed a.is a.op_is in
      (i.0, i.1 ∙ ap (λ v. In v replicated (unleveled pattern) i.0) r.from)

  -- the pattern fits the oldest message
  pub receives_fits : (k : Kept) (rest : List (List ℕ)) → IsQueue s.queues (channel + 1) → contents s.queues (channel + 1) ≡ kept_words k ∷ rest
      → IsRight core s → IsSome (match_value (unleveled pattern) (value_in s.desk.heap k.message.0 k.message.1))
  receives_fits k rest there list right =
      let i = receives_is in
      input_fits (process_of core (value_in s.desk.heap)) (acting_words core s) (contents s.queues 0) (channel_lists s.queues) (right_acting core s r.acts.acting right)
      channel replicated (unleveled pattern) i.0 (kept_words k) rest (value_in s.desk.heap k.to.0 k.to.1) (value_in s.desk.heap k.message.0 k.message.1) k.at
      (channel_there s.queues channel there ∙ ap Some list) i.1 refl

-- ---- once the message is taken and bound

kept_cost : (b : Bool) (words : List ℕ) → handing (if_replicated b words) ≤ handing (words ∷ [])
kept_cost true words = omega arith
kept_cost false words = omega arith

module _ (core : Process) (old mid : Store) (channel : ℕ) (replicated : Bool) (pattern : CodePat) (part : ℕ) (r : Receives core old channel replicated pattern part) (taken : QueuesState)
    (is : mid ≡ record old { desk = record old.desk { values = mid.desk.values }; queues = taken }) (spared : (width : ℕ) → spare old.queues.region width ≤ spare taken.region width) where
  still_heap : mid.desk.heap ≡ old.desk.heap
  still_heap = ap (λ (s : Store). s.desk.heap) is

  still_spare : (width : ℕ) → spare old.queues.region width ≤ spare mid.queues.region width
  still_spare width =
      let e : spare mid.queues.region width ≡ spare taken.region width = ap (λ (s : Store). spare s.queues.region width) is in
      let more = spared width in
      omega (arith, e, more)

  pub can_still : (frame : List ℕ) → CanHold old frame → CanHold mid frame
  can_still frame can = record {
    block = let more = still_spare (block_width frame) in let one = can.block in omega (arith, more, one);
    room = subst (λ h. HasRoomFor h mid.desk.pending (frame_need frame)) (sym still_heap)
        (subst (λ p. HasRoomFor old.desk.heap p (frame_need frame)) (sym (ap (λ (s : Store). s.desk.pending) is)) can.room);
  }

  beside_still : (width : ℕ) (frame : List ℕ) → CanHoldBeside old width frame → CanHoldBeside mid width frame
  beside_still width frame b = record {
    can = can_still frame b.can;
    left = λ same. let more = still_spare (block_width frame) in let two = b.left same in omega (arith, more, two);
  }

  module _ (others : (level : ℕ) → has level (levels_of pattern) ≡ false → pair_at mid.desk.values.items level ≡ pair_at old.desk.values.items level) where
    same_levels : AllByRecursion (λ level. pair_at mid.desk.values.items level ≡ pair_at old.desk.values.items level) r.acts.node.frame
    same_levels =
        let a = r.acts in
        each_level (λ level. pair_at mid.desk.values.items level ≡ pair_at old.desk.values.items level) a.node.frame
        (λ level there. others level (frame_apart core a.number part a.node replicated r.chan pattern a.is.at a.op_is level there))

    own_words : turn_words core old ≡ (suc r.acts.number ∷ r.acts.is.frame) ∷ []
    own_words = r.acts.acting.has ∙ ap (λ (ws : List ℕ). ws ∷ []) r.acts.is.words_are

    words_still : turn_words core mid ≡ acting_words core old ∷ []
    words_still =
        let a = r.acts in
        ap (λ (s : Store). words_of_turn (nodes_of core) mid.desk.values.items s.turn) is
        ∙ words_kept core old.desk.values.items mid.desk.values.items a.number a.node a.is.frame a.is.at same_levels old.turn own_words
        ∙ a.acting.has

    turn_still : IsTurn core mid.desk.heap mid.desk.values.items mid.turn
    turn_still =
        let a = r.acts in
        subst (λ h. IsTurn core h mid.desk.values.items mid.turn) (sym still_heap)
        (subst (IsTurn core old.desk.heap mid.desk.values.items) (sym (ap (λ (s : Store). s.turn) is))
        (turn_kept core old.desk.values.items mid.desk.values.items a.number a.node a.is.frame a.is.at same_levels old.desk.heap old.turn own_words a.acting.store.turn))

    -- its part is ready then, behind it where it keeps the turn
    pub received_ready : (new : Store) (frame : List ℕ) → ArePairs mid.desk.heap mid.desk.values.items
        → (replicated ≡ true → CanHoldBeside old (length (acting_words core old) + 1) frame) → CanHold old frame
        → (replicated ≡ true → Spawns mid new part frame) → (replicated ≡ false → IsLast core (record mid { turn = Nobody }) new part frame)
        → Readies core mid new (if_replicated replicated (acting_words core old)) part frame
    received_ready new frame pairs beside can behind alone =
        let words = acting_words core old in
        let room = acting_room core old r.acts.acting in
        let more = still_spare (length words + 1) in
        behind_kept core mid new part frame replicated words words_still pairs turn_still (λ e. beside_still (length words + 1) frame (beside e)) (can_still frame can)
        (omega (arith, room, more)) behind alone

    pub received_cost : (new : Store) (frame : List ℕ) → Readies core mid new (if_replicated replicated (acting_words core old)) part frame
        → turn_cost core new ≤ turn_cost core old + (block_width frame + 4)
    received_cost new frame readies =
        let own = ap handing r.acts.acting.has in
        let kept = kept_cost replicated (acting_words core old) in
        let cost = readies.cost in
        omega (arith, own, kept, cost)
