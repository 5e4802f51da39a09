-- The instruction of a node, as it is written, that is an input.
use Rattle.std.proofs.Common.{ℕ, ◌+◌, ◌<◌, ◌≡◌, Bool, true, false, List, length, map, get_or, refl, sym, ap, ◌∙◌, Some, option_map}
use Rattle.std.proofs.lemmas.Option.{slice_get-map, slice_get_read, slice_get_within}
use Rattle.std.specs.List.{slice_get}
use Rattle.pict_core.specs.declared.value.CoreVal.{CoreVal}
use Rattle.pict_core.specs.Plain.{plain_val}
use Rattle.pict_core.specs.Term.{Val}
use Rattle.pict_code.specs.Instruction as plain
use Rattle.pict_code.specs.Instruction.{CodePat}
use Rattle.pict_code.specs.Nodes.{nodes_of, input_op}
use Rattle.pict_code.specs.Plain.{plain_node, plain_op, plain_pat}
use Rattle.pict_code.specs.declared.instruction.Node as written
use Rattle.pict_code.specs.declared.instruction.Op.{Op}
use Rattle.pict_code.specs.declared.instruction.Op.TheVariants as op
use Rattle.pict_code.specs.declared.pattern.CodePat as written_pattern
use Rattle.pict_queue.specs.Contents.{contents}
use Rattle.pict_turns.specs.Acting.{IsStore}
use Rattle.pict_desk.specs.Code.{core_in, IsCode}
use Rattle.pict_turns.specs.declared.store.Store.{Store}
use Rattle.pict_desk.proofs.Numbered.{in_code}
use Rattle.pict_meetings.specs.Serving.{IsInputWith}
use Rattle.pict_meetings.specs.Waiting.{waits_first}
use Rattle.pict_meetings.specs.declared.waiting.Waiting.TheVariants.{Input}
use Rattle.pict_meetings.proofs.Firsts.{first_input}

module _ (code : List written.Node) (number : ℕ) (node : written.Node) (low : number < length code) (read : node ≡ get_or code number node) where
  node_there : slice_get (map plain_node code) number ≡ Some (plain_node node)
  node_there = slice_get-map plain_node code number ∙ ap (option_map plain_node) (slice_get_read code (length code) number node refl low read)

  pub is_in_op : (chan : CoreVal) (p : written_pattern.CodePat) (part : ℕ) → (get_or code number node).op ≡ op.In chan p part → IsInputWith (map plain_node code) number false (plain_pat p) part
  is_in_op chan p part is = record { node = plain_node node; at = node_there; chan = plain_val chan; is = ap plain_op (ap (λ (n : written.Node). n.op) read ∙ is) }

  pub is_serve_op : (chan : CoreVal) (p : written_pattern.CodePat) (part : ℕ) → (get_or code number node).op ≡ op.Serve chan p part → IsInputWith (map plain_node code) number true (plain_pat p) part
  is_serve_op chan p part is = record { node = plain_node node; at = node_there; chan = plain_val chan; is = ap plain_op (ap (λ (n : written.Node). n.op) read ∙ is) }

  no_other : (o : Op) (b : Bool) (chan : Val) (p : CodePat) (part : ℕ) → plain_op o ≡ input_op b chan p part
      → ((x : CoreVal) (y : written_pattern.CodePat) (z : ℕ) → ¬ (o ≡ op.In x y z)) → ((x : CoreVal) (y : written_pattern.CodePat) (z : ℕ) → ¬ (o ≡ op.Serve x y z)) → ⊥
  no_other op.Zero true chan p part is n m = cc
  no_other op.Zero false chan p part is n m = cc
  no_other (op.Par l r) true chan p part is n m = cc
  no_other (op.Par l r) false chan p part is n m = cc
  no_other (op.New l r) true chan p part is n m = cc
  no_other (op.New l r) false chan p part is n m = cc
  no_other (op.Out x y at) true chan p part is n m = cc
  no_other (op.Out x y at) false chan p part is n m = cc
  no_other (op.If t l r) true chan p part is n m = cc
  no_other (op.If t l r) false chan p part is n m = cc
  no_other (op.In x y z) b chan p part is n m = n x y z refl
  no_other (op.Serve x y z) b chan p part is n m = m x y z refl

  pub is_input_op : (b : Bool) (p : CodePat) (part : ℕ) → IsInputWith (map plain_node code) number b p part
      → ((x : CoreVal) (y : written_pattern.CodePat) (z : ℕ) → ¬ ((get_or code number node).op ≡ op.In x y z)) → ((x : CoreVal) (y : written_pattern.CodePat) (z : ℕ) → ¬ ((get_or code number node).op ≡ op.Serve x y z)) → ⊥
  is_input_op b p part i n m =
      let e : Some (plain_node node) ≡ Some i.node = sym node_there ∙ i.at in
      let same : plain_node node ≡ i.node = cc in
      no_other (get_or code number node).op b i.chan p part (ap plain_op (sym (ap (λ (x : written.Node). x.op) read)) ∙ ap (λ (x : plain.Node). x.op) same ∙ i.is) n m

-- ---- an input has one part

same_op : (b c : Bool) (v w : Val) (p q : CodePat) (l m : ℕ) → input_op b v p l ≡ input_op c w q m → (b ≡ c) × (l ≡ m)
same_op true true v w p q l m e = (refl, cc)
same_op false false v w p q l m e = (refl, cc)
same_op true false v w p q l m e = cc
same_op false true v w p q l m e = cc

pub same_input : (nodes : List plain.Node) (number : ℕ) (b c : Bool) (p q : CodePat) (l m : ℕ) → IsInputWith nodes number b p l → IsInputWith nodes number c q m → (b ≡ c) × (l ≡ m)
same_input nodes number b c p q l m i j =
    let e : Some i.node ≡ Some j.node = sym i.at ∙ j.at in
    let same : i.node ≡ j.node = cc in
    same_op b c i.chan j.chan p q l m (sym i.is ∙ ap (λ (x : plain.Node). x.op) same ∙ j.is)

-- ---- the input that waits first at a channel is one of the code

pub record WaitsFirst (code : List written.Node) (number : ℕ) : Type 0 where
  pub low : number < length code
  pub replicated : Bool
  pub pattern : CodePat
  pub part : ℕ
  pub input : IsInputWith (map plain_node code) number replicated pattern part

pub input_waits_first : (code : List written.Node) (s : Store) (channel number : ℕ) → IsCode (map plain_node code) → IsStore (core_in code) s → waits_first s.queues channel ≡ Input number → WaitsFirst code number
input_waits_first code s channel number is store first =
    let f = first_input (core_in code) s.desk.heap (contents s.queues (channel + 1)) number (store.blocks (channel + 1)) (store.waiting channel) first in
    let i = f.input in
    record {
      low = in_code code is number (slice_get_within (nodes_of (core_in code)) number i.node i.at);
      replicated = i.replicated;
      pattern = i.pattern;
      part = i.part;
      input = record { node = i.node; at = sym (ap (λ (ns : List plain.Node). slice_get ns number) is.nodes_are) ∙ i.at; chan = i.chan; is = i.is };
    }
