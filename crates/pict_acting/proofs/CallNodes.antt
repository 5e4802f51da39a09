-- The nodes of a call: their instructions, the numbers that stand in its message, and where parts stand.
use Rattle.std.proofs.Common.{ℕ, ℤ, ◌+◌, ◌<◌, ◌≤◌, ◌≡◌, ◌≢◌, inr, List, length, map, get_or, refl, sym, ap, ◌∙◌, subst, arith, rules, Option, Some, None, IfSome, option_map, Vec, Global}
use Rattle.std.proofs.lemmas.Option.{slice_get-map, slice_get_read}
use Rattle.std.specs.List.{AllByRecursion, slice_get}
use Rattle.pict_syntax.specs.declared.name.Name.{Name}
use Rattle.pict_syntax.specs.declared.primitive.Primitive.{Primitive}
use Rattle.pict_syntax.specs.declared.span.Span.{Span}
use Rattle.pict_core.specs.Term as term
use Rattle.pict_core.specs.Term.{Process, Val, Var, Int, PrimitiveVal, Out}
use Rattle.pict_core.specs.Plain.{plain_val}
use Rattle.pict_core.specs.Primitives.{effect_of}
use Rattle.pict_core.specs.declared.value.CoreVal.{CoreVal, the_lemmas}
use Rattle.pict_core.specs.declared.value.CoreVal.TheVariants as value
use Rattle.pict_core.specs.Closed.{IsClosed, IsOver, IsUnder}
use Rattle.pict_core.proofs.Closed.{over_more}
use Rattle.pict_code.specs.Instruction as op
use Rattle.pict_code.specs.Instruction.{Node, Op}
use Rattle.pict_code.specs.Nodes.{Place, place, places, nodes_of, size}
use Rattle.pict_code.specs.Plain.{plain_node, plain_op}
use Rattle.pict_code.specs.declared.instruction.Node as written
use Rattle.pict_code.proofs.Closings.{part_under}
use Rattle.pict_code.proofs.Numbering.{PlacedAt, par_placed, new_placed}
use Rattle.pict_heap.specs.HeapState.{HeapState}
use Rattle.pict_heap.specs.declared.word.Word.{Word}
use Rattle.pict_desk.specs.AtHand.{number_named}
use Rattle.pict_desk.specs.Arguments.{operand_in}
use Rattle.pict_desk.specs.Code.{core_in, IsCode, HasFrame}
use Rattle.pict_desk.specs.Known.{value_in, known}
use Rattle.pict_desk.proofs.Nodes.{part_of, op_is, is_par, is_new, is_out}
use Rattle.pict_desk.proofs.Numbered.{place_low, inside, coded_frame, same_frame}
use Rattle.pict_desk.proofs.Numbers.{is_number}
use Rattle.pict_desk.proofs.Parts.{placed_at}
use Rattle.pict_desk.proofs.Reckoning.{made_argument, labels_of}
use Rattle.pict_turns.specs.Turns.{IsNarrow}
use Rattle.pict_turns.proofs.Making.{part_width_is}
use Rattle.pict_blocks.specs.Blocks.{IsNodeBlock}
use Rattle.pict_blocks.specs.Framed.{node_words}
use Rattle.pict_blocks.specs.Parts.{block_width}
use Rattle.pict_blocks.proofs.Standing.{narrow_blocks}
use Rattle.pict_syntax.specs.declared.limits.TheConstants.{NARROW_LIMIT}
use Rattle.pict_acting.specs.Bounds.{IsWidthIn}
use Rattle.pict_acting.specs.Chain.{KeepsOtherLevels, AnswersAt, CallsAt}
use Rattle.pict_acting.specs.Opening.{IsNarrowWith}

-- ---- a node as it is written

pub node_there : (code : List written.Node) → IsCode (map plain_node code) → (number : ℕ) (node : written.Node) → number < length code → node ≡ get_or code number node
    → slice_get (nodes_of (core_in code)) number ≡ Some (plain_node node)
node_there code is number node low read =
    ap (λ (ns : List Node). slice_get ns number) is.nodes_are
    ∙ slice_get-map plain_node code number ∙ ap (option_map plain_node) (slice_get_read code (length code) number node refl low read)

-- the instruction of a node whose frame stands in a block itself
pub narrow_with : (code : List written.Node) → IsCode (map plain_node code) → (number : ℕ) (node : written.Node) → number < length code → node ≡ get_or code number node
    → IsNarrow (core_in code) number → (o : Op) → plain_op node.op ≡ o → IsNarrowWith (core_in code) number o
narrow_with code is number node low read narrow o e =
    let both : Some narrow.node ≡ Some (plain_node node) = sym narrow.at ∙ node_there code is number node low read in
    let same : narrow.node ≡ plain_node node = cc in
    record { narrow = narrow; is = ap (λ (n : Node). n.op) same ∙ e }

pub also_with : (core : Process) (number : ℕ) (o other : Op) → IsNarrowWith core number o → o ≡ other → IsNarrowWith core number other
also_with core number o other n e = record { narrow = n.narrow; is = n.is ∙ e }

-- the words of a node whose frame stands in a block itself are a block of the node
pub narrow_block : (core : Process) (h : HeapState) (values : List (ℕ × ℕ)) (number : ℕ) (n : IsNarrow core number)
    → IsNodeBlock core h values number n.node (node_words values number n.node.frame)
narrow_block core h values number n = narrow_blocks core h values number n.node n.at n.narrow

-- ---- frames

-- the frame of a node that the code has is one of the code's widths
pub wide_in : (code : List written.Node) (is : IsCode (map plain_node code)) (number : ℕ) (frame : List ℕ) → HasFrame (map plain_node code) number frame → IsWidthIn (core_in code) (block_width frame)
wide_in code is number frame f = inr (number, part_width_is (nodes_of (core_in code)) number frame (coded_frame code is number frame f))

-- the frame of a node that stands in a block itself
pub narrow_frame : (code : List written.Node) (is : IsCode (map plain_node code)) (number : ℕ) (frame : List ℕ) → HasFrame (map plain_node code) number frame → IsNarrow (core_in code) number
    → length frame ≤ NARROW_LIMIT
narrow_frame code is number frame f n =
    subst (λ (ls : List ℕ). length ls ≤ NARROW_LIMIT)
    (same_frame (nodes_of (core_in code)) number n.node.frame frame (record { node = n.node; at = n.at; is = refl }) (coded_frame code is number frame f)) n.narrow

pub frame_of_narrow : (code : List written.Node) (is : IsCode (map plain_node code)) (number : ℕ) (frame : List ℕ) → HasFrame (map plain_node code) number frame → (n : IsNarrow (core_in code) number)
    → frame ≡ n.node.frame
frame_of_narrow code is number frame f n =
    same_frame (nodes_of (core_in code)) number frame n.node.frame (coded_frame code is number frame f) (record { node = n.node; at = n.at; is = refl })

-- ---- numbers beside a level

-- what stands for a number, and isn't the variable of the level, stands for it whatever value the level gets
pub number_stays : (h : HeapState) (before after : List (ℕ × ℕ)) (level : ℕ) → KeepsOtherLevels level before after
    → (v : Val) (n : ℤ) → v ≢ Var level → Some n ≡ number_named (operand_in h before v) → operand_in h after v ≡ Int n
number_stays h before after level keeps (Var l) n apart e =
    ap (λ (pair : ℕ × ℕ). value_in h pair.0 pair.1) (keeps l (λ same. apart (ap Var same))) ∙ is_number (known h before l) n e
number_stays h before after level keeps (Int m) n apart e = is_number (Int m) n e
number_stays h before after level keeps (term.Chan c) n apart e = cc
number_stays h before after level keeps (term.Char c) n apart e = cc
number_stays h before after level keeps (term.Boolean b) n apart e = cc
number_stays h before after level keeps (term.Text bytes) n apart e = cc
number_stays h before after level keeps (term.PrimitiveVal p) n apart e = cc
number_stays h before after level keeps (term.Record vs ls) n apart e = cc

pub numbers_stay : (h : HeapState) (before after : List (ℕ × ℕ)) (level : ℕ) → KeepsOtherLevels level before after
    → (v : Val) (o : Option ℤ) → v ≢ Var level → o ≡ number_named (operand_in h before v) → IfSome o (λ n. operand_in h after v ≡ Int n)
numbers_stay h before after level keeps v None apart e = tt
numbers_stay h before after level keeps v (Some n) apart e = number_stays h before after level keeps v n apart e

-- ---- an output to a primitive

pub plain_primitive : (p : Primitive) → plain_val (value.Prim p) ≡ PrimitiveVal p
plain_primitive p = search (rules, the_lemmas)

pub calls_of : (h : HeapState) (values : List (ℕ × ℕ)) (p : Primitive) (level : ℕ) (o : Op) (m : CoreVal) (at : Span) (fields : Vec CoreVal Global) (labelled : Vec (Name × CoreVal) Global) (positional : List CoreVal)
    → o ≡ op.Out (PrimitiveVal p) (plain_val m) at → m ≡ value.Fields fields labelled → positional ≡ fields.items
    → (answer : Option Word) → IfSome answer (AnswersAt h values p positional level) → IfSome answer (CallsAt h values o level)
calls_of h values p level o m at fields labelled positional is fields_are items None a = tt
calls_of h values p level o m at fields labelled positional is fields_are items (Some w) a = record {
  primitive = p;
  message = plain_val m;
  at = at;
  is = is;
  word = a.word;
  effect = λ later keeps. ap (effect_of p) (made_argument h later m fields labelled positional fields_are items) ∙ a.effect later keeps (labels_of h later labelled.items);
}

-- ---- by the node of an instruction

module _ (core : Process) (number : ℕ) (node : Node) (at : slice_get (nodes_of core) number ≡ Some node) where
  -- the variables of a message are levels that have a place
  pub message_over : IsClosed core → (n : ℕ) → AllByRecursion (λ (p : Place). p.around ≤ n) (places 0 core) → (chan message : Val) (place : Span)
      → node.op ≡ op.Out chan message place → IsOver n 0 message
  message_over closed n levels chan message place is =
      let p = part_of core number node at in
      let around = p.0.around in
      let out = is_out number around chan message place p.0.process (op_is core number node p.0 (op.Out chan message place) p.1 is) in
      let under : IsUnder around 0 (Out chan message place) = subst (IsUnder around 0) out (part_under core number p.0 closed p.1.at) in
      let low = place_low n (places 0 core) number p.0 levels p.1.at in
      over_more around n 0 0 low (omega arith) message under.1

  -- parts are nodes
  pub new_part_inside : (level part : ℕ) → node.op ≡ op.New level part → part < length (nodes_of core)
  new_part_inside level part is =
      let p = part_of core number node at in
      let n = p.0.around in
      let form = is_new number n level part p.0.process (op_is core number node p.0 (op.New level part) p.1 is) in
      let placed = new_placed core number n form.p (subst (λ x. PlacedAt core number n x) form.is p.1.placed) in
      inside core part (number + 1) (n + 1) form.p form.part_is placed

  -- there is a place for the new level
  pub new_level_inside : (n : ℕ) → AllByRecursion (λ (p : Place). p.around ≤ n) (places 0 core) → (level part : ℕ) → node.op ≡ op.New level part → level < n
  new_level_inside n levels level part is =
      let p = part_of core number node at in
      let around = p.0.around in
      let form = is_new number around level part p.0.process (op_is core number node p.0 (op.New level part) p.1 is) in
      let placed = new_placed core number around form.p (subst (λ x. PlacedAt core number around x) form.is p.1.placed) in
      let low = place_low n (places 0 core) (number + 1) (place (around + 1) form.p) levels (placed_at core (number + 1) (around + 1) form.p placed) in
      let e = form.level_is in
      omega (arith, e, low)

  pub par_parts_inside : (left right : ℕ) → node.op ≡ op.Par left right → (left < length (nodes_of core)) × (right < length (nodes_of core))
  par_parts_inside left right is =
      let p = part_of core number node at in
      let n = p.0.around in
      let form = is_par number n left right p.0.process (op_is core number node p.0 (op.Par left right) p.1 is) in
      let placed = par_placed core number n form.p form.q (subst (λ x. PlacedAt core number n x) form.is p.1.placed) in
      (inside core left (number + 1) n form.p form.left_is placed.0, inside core right (number + 1 + size form.p) n form.q form.right_is placed.1)
