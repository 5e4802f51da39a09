-- The node that acts: its frame, and where its parts stand.
use Rattle.std.proofs.Common.{ℕ, ◌+◌, ◌<◌, ◌≤◌, ◌≡◌, Bool, true, false, cond, max, List, ◌∷◌, length, map, refl, ap, ◌∙◌, subst, arith, Some}
use Rattle.std.specs.List.{All, slice_get}
use Rattle.pict_core.specs.Term as term
use Rattle.pict_core.specs.Term.{Val, Process, Boolean, Out}
use Rattle.pict_core.specs.Closed.{IsClosed, IsOver, IsUnder}
use Rattle.pict_core.proofs.Closed.{over_more}
use Rattle.pict_code.specs.Instruction as op
use Rattle.pict_code.specs.Instruction.{Node, Op}
use Rattle.pict_code.specs.Nodes.{place, places, size, nodes_of}
use Rattle.pict_code.specs.Plain.{plain_node}
use Rattle.pict_code.specs.declared.instruction.Node as written
use Rattle.pict_code.proofs.Closings.{part_under}
use Rattle.pict_code.proofs.Numbering.{PlacedAt, par_placed, if_placed, new_placed}
use Rattle.pict_queue.specs.Contents.{contents}
use Rattle.pict_core.specs.Deed.{chooses}
use Rattle.pict_view.specs.Moved.{Misshapen}
use Rattle.pict_view.specs.Placed.{place_at, next_view}
use Rattle.pict_view.proofs.Rows.{act}
use Rattle.pict_blocks.specs.Blocks.{process_of}
use Rattle.pict_blocks.proofs.Standing.{StandsAs, stands_as}
use Rattle.pict_turns.specs.Acting.{IsStore, ActsBy, IsRight}
use Rattle.pict_desk.specs.Known.{value_in, known, operand_value}
use Rattle.pict_desk.proofs.Nodes.{is_par, is_new, is_if, op_is, is_out}
use Rattle.pict_desk.proofs.Numbered.{place_low, frame_below, coded_at, same_frame, inside}
use Rattle.pict_desk.proofs.OperandsAround.{same_operand}
use Rattle.pict_desk.proofs.Parts.{node_with, if_stands, placed_at}
use Rattle.pict_desk.specs.Code.{core_in, IsCode, HasFrame}
use Rattle.pict_blocks.specs.Parts.{block_width}
use Rattle.pict_turns.specs.Views.{channel_lists, acting_words}
use Rattle.pict_turns.specs.declared.store.Store.{Store}
use Rattle.pict_turns.proofs.Turns.{view_is}
use Rattle.pict_syntax.specs.declared.span.Span.{Span}

-- ---- frames

-- there is a place for each level of a node's frame
pub frame_inside : (core : Process) (s : Store) → IsStore core s → (number : ℕ) (node : Node) → slice_get (nodes_of core) number ≡ Some node
    → All (λ level. level < length s.desk.values.items) node.frame
frame_inside core s store number node at = frame_below core (length s.desk.values.items) store.levels number node at

module _ (code : List written.Node) (is : IsCode (map plain_node code)) where
  pub coded_inside : (s : Store) → IsStore (core_in code) s → (number : ℕ) (frame : List ℕ) → HasFrame (map plain_node code) number frame
      → All (λ level. level < length s.desk.values.items) frame
  coded_inside s store number frame f =
      subst (All (λ level. level < length s.desk.values.items)) f.is (frame_inside (core_in code) s store number f.node (coded_at code is number frame f))

pub chosen_width : (nodes : List Node) (b : Bool) (k l r : ℕ) (frame first second : List ℕ) → k ≡ cond b l r → HasFrame nodes k frame → HasFrame nodes l first → HasFrame nodes r second
    → block_width frame ≤ max (block_width first) (block_width second)
chosen_width nodes true k l r frame first second e f one other =
    let same = ap block_width (same_frame nodes l frame first (subst (λ (n : ℕ). HasFrame nodes n frame) e f) one) in omega (arith, same)
chosen_width nodes false k l r frame first second e f one other =
    let same = ap block_width (same_frame nodes r frame second (subst (λ (n : ℕ). HasFrame nodes n frame) e f) other) in omega (arith, same)

-- ---- parts of a node

-- a conditional that isn't wrong has a truth value to test
boolean_of : (ready : List Process) (lists : List (List Process)) (v : Val) (p q : Process) → (place_at 0 0 ready lists (chooses v p q) ≡ Misshapen → ⊥) → (b : Bool) × (v ≡ Boolean b)
boolean_of ready lists (term.Boolean b) p q right = (b, refl)
boolean_of ready lists _ p q right = absurd (right refl)

module _ (core : Process) (s : Store) where
  pub standing : (o : Op) → (a : ActsBy core s o) → StandsAs core s.desk.heap s.desk.values.items a.number a.node (acting_words core s)
  standing o a = stands_as core s.desk.heap s.desk.values.items a.number a.node (acting_words core s) a.is

  pub fork_parts : (l r : ℕ) → ActsBy core s (op.Par l r) → (l < length (nodes_of core)) × (r < length (nodes_of core))
  fork_parts l r a =
      let st = standing (op.Par l r) a in
      let n = st.part.around in
      let form = is_par a.number n l r st.part.process (op_is core a.number a.node st.part (op.Par l r) st.at a.op_is) in
      let placed = par_placed core a.number n form.p form.q (subst (λ x. PlacedAt core a.number n x) form.is st.at.placed) in
      (inside core l (a.number + 1) n form.p form.left_is placed.0, inside core r (a.number + 1 + size form.p) n form.q form.right_is placed.1)

  pub if_parts : (test : Val) (l r : ℕ) → ActsBy core s (op.If test l r) → (l < length (nodes_of core)) × (r < length (nodes_of core))
  if_parts test l r a =
      let st = standing (op.If test l r) a in
      let n = st.part.around in
      let form = is_if a.number n test l r st.part.process (op_is core a.number a.node st.part (op.If test l r) st.at a.op_is) in
      let placed = if_placed core a.number n test form.p form.q (subst (λ x. PlacedAt core a.number n x) form.is st.at.placed) in
      (inside core l (a.number + 1) n form.p form.first_is placed.0, inside core r (a.number + 1 + size form.p) n form.q form.second_is placed.1)

  -- the part of a new channel, and a place for the channel
  pub new_part : (level part : ℕ) → ActsBy core s (op.New level part) → (part < length (nodes_of core)) × (level < length s.desk.values.items)
  new_part level part a =
      let st = standing (op.New level part) a in
      let n = st.part.around in
      let form = is_new a.number n level part st.part.process (op_is core a.number a.node st.part (op.New level part) st.at a.op_is) in
      let placed = new_placed core a.number n form.p (subst (λ x. PlacedAt core a.number n x) form.is st.at.placed) in
      let low = place_low (length s.desk.values.items) (places 0 core) (a.number + 1) (place (n + 1) form.p) a.acting.store.levels (placed_at core (a.number + 1) (n + 1) form.p placed) in
      (inside core part (a.number + 1) (n + 1) form.p form.part_is placed, let e = form.level_is in omega (arith, e, low))

  module _ (test : Val) (l r : ℕ) (closed : IsClosed core) (a : ActsBy core s (op.If test l r)) where
    -- the variables of a test are levels that have a place
    pub test_over : IsOver (length s.desk.values.items) 0 test
    test_over =
        let st = standing (op.If test l r) a in
        let n = st.part.around in
        let form = is_if a.number n test l r st.part.process (op_is core a.number a.node st.part (op.If test l r) st.at a.op_is) in
        let under : IsUnder n 0 (term.If test form.p form.q) = subst (IsUnder n 0) form.is (part_under core a.number st.part closed st.at.at) in
        let low = place_low (length s.desk.values.items) (places 0 core) a.number st.part a.acting.store.levels st.at.at in
        over_more n (length s.desk.values.items) 0 0 low (omega arith) test under.0

    pub test_boolean : IsRight core s → (b : Bool) × (operand_value (known s.desk.heap s.desk.values.items) test ≡ Boolean b)
    test_boolean right =
        let st = standing (op.If test l r) a in
        let n = st.part.around in
        let value = known s.desk.heap s.desk.values.items in
        let form = is_if a.number n test l r st.part.process (op_is core a.number a.node st.part (op.If test l r) st.at a.op_is) in
        let under : IsUnder n 0 (term.If test form.p form.q) = subst (IsUnder n 0) form.is (part_under core a.number st.part closed st.at.at) in
        let is : process_of core (value_in s.desk.heap) (acting_words core s) ≡ term.If (operand_value value test) (node_with n value form.p) (node_with n value form.q) =
        st.is ∙ ap (node_with n value) form.is ∙ if_stands n value test form.p form.q
        ∙ ap (λ v. term.If v (node_with n value form.p) (node_with n value form.q)) (same_operand n value test under.0) in
        let go = act (map (process_of core (value_in s.desk.heap)) (contents s.queues 0)) (map (map (process_of core (value_in s.desk.heap))) (channel_lists s.queues)) in
        boolean_of (term.If (operand_value value test) (node_with n value form.p) (node_with n value form.q) ∷ map (process_of core (value_in s.desk.heap)) (contents s.queues 0))
        (map (map (process_of core (value_in s.desk.heap))) (channel_lists s.queues)) (operand_value value test) (node_with n value form.p) (node_with n value form.q) (λ wrong. right (ap next_view (view_is core s (acting_words core s) a.acting.has) ∙ ap go is ∙ wrong))

-- ---- an output of a node

-- the variables of its operands are levels that have a place
pub operands_over : (core : Process) (s : Store) (chan message : Val) (at : Span) → IsClosed core → ActsBy core s (op.Out chan message at)
    → IsOver (length s.desk.values.items) 0 chan × IsOver (length s.desk.values.items) 0 message
operands_over core s chan message at closed a =
    let st = standing core s (op.Out chan message at) a in
    let n = st.part.around in
    let out = is_out a.number n chan message at st.part.process (op_is core a.number a.node st.part (op.Out chan message at) st.at a.op_is) in
    let under : IsUnder n 0 (term.Out chan message at) = subst (IsUnder n 0) out (part_under core a.number st.part closed st.at.at) in
    let low = place_low (length s.desk.values.items) (places 0 core) a.number st.part a.acting.store.levels st.at.at in (
      over_more n (length s.desk.values.items) 0 0 low (omega arith) chan under.0,
      over_more n (length s.desk.values.items) 0 0 low (omega arith) message under.1,
    )
