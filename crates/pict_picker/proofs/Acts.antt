-- What is known of a process that acts, and of the list at its channel.
use Rattle.std.proofs.Common.{ℕ, zero, suc, ◌+◌, ◌<◌, ◌≤◌, ◌≡◌, ◌≢◌, Bool, true, false, List, [], ◌∷◌, length, map, refl, sym, ap, ◌∙◌, subst, arith, Option, Some, None, option_map, unwrap_or, get_or}
use Rattle.std.proofs.lemmas.List.{length-map}
use Rattle.std.proofs.lemmas.Option.{slice_get-map, slice_get_read, slice_get_within}
use Rattle.std.specs.List.{All, AllByRecursion, slice_get}
use Rattle.std.specs.Option.{IsSome}
use Rattle.pict_syntax.specs.declared.primitive.Primitive.{Primitive}
use Rattle.pict_syntax.specs.declared.span.Span.{Span}
use Rattle.pict_core.specs.Term.{Val, Pat, Process, Chan, PrimitiveVal, Out, In}
use Rattle.pict_core.specs.Closed.{IsUnder}
use Rattle.pict_core.specs.Deed.{Misfits, performs}
use Rattle.pict_core.specs.Primitives.{Effect, effect_of}
use Rattle.pict_code.specs.Frames.{frame_of}
use Rattle.pict_code.specs.Instruction.{Node, Op, CodePat}
use Rattle.pict_code.specs.Levels.{Rises}
use Rattle.pict_code.specs.Nodes.{places, nodes_of, op_of, input_op, leveled}
use Rattle.pict_code.specs.Plain.{plain_node, plain_op}
use Rattle.pict_code.specs.Standing.{with_frame}
use Rattle.pict_code.specs.declared.instruction.Node as written
use Rattle.pict_code.specs.declared.instruction.Op.{Op as WrittenOp}
use Rattle.pict_code.specs.declared.instruction.Op.TheVariants as written_op
use Rattle.pict_code.specs.declared.pattern.CodePat as written_pattern
use Rattle.pict_core.specs.declared.value.CoreVal.{CoreVal}
use Rattle.pict_heap.specs.HeapState.{HeapState}
use Rattle.pict_ranked.specs.Ranking.{Ranking}
use Rattle.pict_view.specs.Partners.{is_input}
use Rattle.pict_view.specs.View.{list_at}
use Rattle.pict_desk.specs.AtHand.{channel_named}
use Rattle.pict_desk.specs.Code.{core_in, IsCode}
use Rattle.pict_desk.specs.Known.{pair_at, known}
use Rattle.pict_desk.specs.declared.desk.Desk.{Desk}
use Rattle.pict_desk.proofs.Nodes.{part_of, op_is}
use Rattle.pict_desk.proofs.Numbered.{frame_below, frame_rising, place_low, in_code}
use Rattle.pict_desk.proofs.Parts.{node_with}
use Rattle.pict_picker.specs.Acting.{IsProcessOf, WaitAt}
use Rattle.pict_picker.specs.Calling.{HasEffect}
use Rattle.pict_picker.specs.Deeds.{deed_at, IsDeed}
use Rattle.pict_picker.specs.Picker.{channel_items, channel_processes, IsDesk, AreLists}
use Rattle.pict_picker.specs.Waiting.{pair_value, node_process, processes_of, IsNode, AreParked}
use Rattle.pict_picker.specs.declared.deed.Deed.{Deed}
use Rattle.pict_picker.specs.declared.lists.Lists.{Lists}
use Rattle.pict_picker.specs.declared.waiting.Waiting.{Waiting}
use Rattle.pict_picker.proofs.Standing.{known_pairs}

-- ---- nodes of the code

module _ (code : List written.Node) (is : IsCode (map plain_node code)) where
  -- the node that is read at a number
  pub node_read : (number : ℕ) (node : written.Node) → number < length code → node ≡ get_or code number node → slice_get (nodes_of (core_in code)) number ≡ Some (plain_node node)
  node_read number node low read =
      ap (λ (ns : List Node). slice_get ns number) is.nodes_are ∙ slice_get-map plain_node code number
      ∙ ap (option_map plain_node) (slice_get_read code (length code) number node refl low read)

  module _ (h : HeapState) (number : ℕ) (frame : List (ℕ × ℕ)) (n : IsNode (core_in code) h number frame) where
    pub node_low : number < length code
    node_low = in_code code is number (slice_get_within (nodes_of (core_in code)) number n.node n.at)

    module _ (node : written.Node) (read : node ≡ get_or code number node) where
      pub node_at : slice_get (nodes_of (core_in code)) number ≡ Some (plain_node node)
      node_at = node_read number node node_low read

      pub as_many : length frame ≡ length node.frame.value.items
      as_many =
          let e : Some n.node ≡ Some (plain_node node) = sym n.at ∙ node_at in
          let same : n.node ≡ plain_node node = cc in
          n.many ∙ ap (λ (x : Node). length x.frame) same

      pub levels_inside : (d : Desk) → IsDesk (core_in code) d → All (λ level. level < length d.values.items) node.frame.value.items
      levels_inside d desk = frame_below (core_in code) (length d.values.items) desk.levels number (plain_node node) node_at

      pub levels_rise : Rises 0 node.frame.value.items
      levels_rise = frame_rising (core_in code) number (plain_node node) node_at

-- the process of a node whose frame is read
pub node_acts : (core : Process) (h : HeapState) (values : List (ℕ × ℕ)) (number : ℕ) (node : Node) (frame : List (ℕ × ℕ)) → slice_get (nodes_of core) number ≡ Some node → map (pair_at values) node.frame ≡ frame
    → IsProcessOf core (known h values) node.op (node_process h frame (slice_get (places 0 core) number))
node_acts core h values number node frame at read =
    let p = part_of core number node at in
    let levels : node.frame ≡ frame_of p.0.around p.0.process = sym (ap (λ (x : Node). x.frame) p.1.node_is) in
    record {
      number = number;
      part = p.0;
      at = p.1.at;
      op_is = op_is core number node p.0 node.op p.1 refl;
      is = ap (node_process h frame) p.1.at
          ∙ ap (with_frame p.0) (ap (map (pair_value h)) (sym read) ∙ known_pairs h values node.frame ∙ ap (map (known h values)) levels);
    }

-- a node that is an input has the instruction of one
pub record HasInput (o : Op) : Type 0 where
  pub replicated : Bool
  pub chan : Val
  pub pattern : CodePat
  pub part : ℕ
  pub is : o ≡ input_op replicated chan pattern part

input_op_of : (i n : ℕ) (value : ℕ → Val) (p : Process) → is_input (node_with n value p) ≡ true → HasInput (op_of i n p)
input_op_of i n value (In chan b pattern body) e = record { replicated = b; chan = chan; pattern = leveled n pattern; part = i + 1; is = refl }
input_op_of i n value _ e = cc

pub has_input : (core : Process) (value : ℕ → Val) (o : Op) (own : Process) → IsProcessOf core value o own → is_input own ≡ true → HasInput o
has_input core value o own a e = subst HasInput a.op_is (input_op_of a.number a.part.around value a.part.process (sym (ap is_input a.is) ∙ e))

-- the levels around a node's part have places
pub around_low : (core : Process) (value : ℕ → Val) (o : Op) (own : Process) → (a : IsProcessOf core value o own) → (d : Desk) → IsDesk core d → a.part.around ≤ length d.values.items
around_low core value o own a d desk = place_low (length d.values.items) (places 0 core) a.number a.part desk.levels a.at

-- ---- channels and primitives

pub named_channel : (v : Val) (c : ℕ) → Some c ≡ channel_named v → v ≡ Chan c
named_channel (Chan d) c e = let same : d ≡ c = cc in ap Chan same
named_channel _ c e = cc

module _ (lists : List (List Process)) (j : ℕ) (own : Process) (right : deed_at lists j own ≢ Misfits) where
  -- an output that isn't wrong and is to no channel is to a primitive, which takes its message
  pub to_primitive : (to v : Val) (at : Span) → own ≡ Out to v at → channel_named to ≡ None → (p : Primitive) × (to ≡ PrimitiveVal p)
  to_primitive (PrimitiveVal p) v at is e = (p, refl)
  to_primitive (Chan c) v at is e = cc
  to_primitive _ v at is e = absurd (right (ap (deed_at lists j) is))

  pub takes_message : (p : Primitive) (v : Val) (at : Span) → own ≡ Out (PrimitiveVal p) v at → IsSome (effect_of p v)
  takes_message p v at is = by_effect (effect_of p v) refl
    where
      by_effect : (o : Option Effect) → effect_of p v ≡ o → IsSome o
      by_effect None e = absurd (right (ap (deed_at lists j) is ∙ ap (performs at) e))
      by_effect (Some x) e = refl

  -- an input that isn't wrong is from a channel
  pub from_channel : (to : Val) (b : Bool) (pattern : Pat) (body : Process) → own ≡ In to b pattern body → (c : ℕ) × (to ≡ Chan c)
  from_channel (Chan c) b pattern body is = (c, refl)
  from_channel _ b pattern body is = absurd (right (ap (deed_at lists j) is))

pub sent_there : (n c : ℕ) (v : Val) (at : Span) (own : Process) → own ≡ Out (Chan c) v at → IsUnder 0 n own → c < n
sent_there n c v at own is under = let u : IsUnder 0 n (Out (Chan c) v at) = subst (IsUnder 0 n) is under in u.0

pub read_there : (n c : ℕ) (b : Bool) (pattern : Pat) (body own : Process) → own ≡ In (Chan c) b pattern body → IsUnder 0 n own → c < n
read_there n c b pattern body own is under = let u : IsUnder 0 n (In (Chan c) b pattern body) = subst (IsUnder 0 n) is under in u.0

-- what a primitive does is the deed of the output to it
pub effect_deed : (core : Process) (h : HeapState) (lists : List (List Process)) (j : ℕ) (own : Process) (p : Primitive) (v : Val) (at : Span) (e : Effect) (d : Deed)
    → own ≡ Out (PrimitiveVal p) v at → effect_of p v ≡ Some e → HasEffect h e at d → IsDeed core h lists j own d
effect_deed core h lists j own p v at e d is effect has = record {
  is = ap (deed_at lists j) is ∙ ap (performs at) effect ∙ sym (has.is core lists j own);
  fits = has.fits core lists j own;
}

-- ---- the list at a channel

pub all_at : {A : Type 0} (P : A → Type 0) (xs : List A) (i : ℕ) (x : A) → AllByRecursion P xs → slice_get xs i ≡ Some x → P x
all_at P [] i x a e = cc
all_at P (y ∷ ys) zero x a e = let same : y ≡ x = cc in subst P same a.0
all_at P (y ∷ ys) (suc i) x a e = all_at P ys i x a.1 e

-- as many lists as channels
pub channels_many : (lists : Lists) (core : Process) (h : HeapState) → length (channel_processes core h lists) ≡ length lists.channels.items
channels_many lists core h = length-map (channel_items lists) (processes_of core h) ∙ length-map lists.channels.items (λ (r : Ranking Waiting). r.items)

module _ (code : List written.Node) (d : Desk) (lists : Lists) (c : ℕ) (list : Ranking Waiting) (low : c < length lists.channels.items) (read : list ≡ get_or lists.channels.items c list) where
  items_there : slice_get (channel_items lists) c ≡ Some list.items
  items_there = slice_get-map (λ (r : Ranking Waiting). r.items) lists.channels.items c ∙ ap (option_map (λ (r : Ranking Waiting). r.items)) (slice_get_read lists.channels.items (length lists.channels.items) c list refl low read)

  pub waits_there : (core : Process) (h : HeapState) → list_at c (channel_processes core h lists) ≡ processes_of core h list.items
  waits_there core h =
      ap (λ (o : Option (List Process)). unwrap_or o []) (slice_get-map (processes_of core h) (channel_items lists) c ∙ ap (option_map (processes_of core h)) items_there)

  pub wait_at : AreLists (core_in code) d.heap lists → WaitAt code d (channel_processes (core_in code) d.heap lists) c list.items
  wait_at are = record {
    there = omega (arith, low, channels_many lists (core_in code) d.heap);
    list = waits_there (core_in code) d.heap;
    parked = all_at (AreParked (core_in code) d.heap) (channel_items lists) c list.items are.parked items_there;
  }

-- an instruction, as it is written, that is neither of the two is no input
pub no_other : (o : WrittenOp) (b : Bool) (chan : Val) (p : CodePat) (part : ℕ) → plain_op o ≡ input_op b chan p part
    → ((x : CoreVal) (y : written_pattern.CodePat) (z : ℕ) → ¬ (o ≡ written_op.In x y z)) → ((x : CoreVal) (y : written_pattern.CodePat) (z : ℕ) → ¬ (o ≡ written_op.Serve x y z)) → ⊥
no_other written_op.Zero true chan p part is n m = cc
no_other written_op.Zero false chan p part is n m = cc
no_other (written_op.Par l r) true chan p part is n m = cc
no_other (written_op.Par l r) false chan p part is n m = cc
no_other (written_op.New l r) true chan p part is n m = cc
no_other (written_op.New l r) false chan p part is n m = cc
no_other (written_op.Out x y at) true chan p part is n m = cc
no_other (written_op.Out x y at) false chan p part is n m = cc
no_other (written_op.If t l r) true chan p part is n m = cc
no_other (written_op.If t l r) false chan p part is n m = cc
no_other (written_op.In x y z) b chan p part is n m = n x y z refl
no_other (written_op.Serve x y z) b chan p part is n m = m x y z refl
