-- The steps of outputs and inputs that meet.
use Rattle.std.proofs.Common.{ℕ, ◌+◌, ◌≡◌, Bool, true, false, List, length, map, sym, ap, ◌∙◌, subst, Some}
use Rattle.std.proofs.lemmas.List.{length-map}
use Rattle.pict_core.specs.Term.{Val, Pat, Process, Out, In}
use Rattle.pict_core.specs.Closed.{IsClosed, IsUnder, binds}
use Rattle.pict_core.specs.Matching.{match_value}
use Rattle.pict_core.specs.Substitution.{replace, substitute}
use Rattle.pict_code.specs.Instruction as op
use Rattle.pict_code.specs.Instruction.{Node, CodePat}
use Rattle.pict_code.specs.Levels.{has}
use Rattle.pict_code.specs.Nodes.{op_of, input_op}
use Rattle.pict_code.specs.ReadBack.{unleveled}
use Rattle.pict_code.specs.Standing.{closing}
use Rattle.pict_code.proofs.Closings.{part_under}
use Rattle.pict_code.proofs.Numbering.{PlacedAt, in_placed}
use Rattle.pict_code.proofs.Rebuilding.{pattern_back}
use Rattle.pict_desk.specs.Known.{pair_at, value_in, known, operand_value}
use Rattle.pict_heap.specs.HeapState.{HeapState}
use Rattle.pict_view.proofs.Rows.{output_meets, input_meets}
use Rattle.pict_desk.specs.Binding.{levels_of, BindsPattern}
use Rattle.pict_blocks.specs.Blocks.{process_of, IsNodeBlock}
use Rattle.pict_blocks.specs.Laws.{OutputsStand, InputsStand, OutputsMeet, InputsMeet}
use Rattle.pict_desk.proofs.BoundLevels.{levels_from, levels_leveled, length_from, values_after}
use Rattle.pict_desk.proofs.Nodes.{IsInput, is_out, is_in, is_serve, op_is}
use Rattle.pict_desk.proofs.OperandsAround.{same_operand}
use Rattle.pict_desk.proofs.Parts.{node_with, operand, out_stands, in_stands, body_stands}
use Rattle.pict_blocks.proofs.Standing.{StandsAs, stands_as, part_stands}
use Rattle.pict_desk.proofs.Variables.{value_in-no_var}

pub outputs_stand : OutputsStand
outputs_stand core h values number chan message at node words closed b o =
    let s = stands_as core h values number node words b in
    let n = s.part.around in
    let out = is_out number n chan message at s.part.process (op_is core number node s.part (op.Out chan message at) s.at o) in
    let under : IsUnder n 0 (Out chan message at) = subst (IsUnder n 0) out (part_under core number s.part closed s.at.at) in
    s.is ∙ ap (node_with n (known h values)) out ∙ out_stands n (known h values) chan message at
    ∙ ap (λ v. Out v (operand n (known h values) message) at) (same_operand n (known h values) chan under.0)
    ∙ ap (λ v. Out (operand_value (known h values) chan) v at) (same_operand n (known h values) message under.1)

-- ---- inputs

pub is_input : (i n : ℕ) (chan : Val) (replicated : Bool) (pattern : CodePat) (l : ℕ) (p : Process) → op_of i n p ≡ input_op replicated chan pattern l → IsInput i n chan replicated pattern l p
is_input i n chan true pattern l p e = is_serve i n chan pattern l p e
is_input i n chan false pattern l p e = is_in i n chan pattern l p e

-- the input that a block stands for, as a part
record Reads (core : Process) (h : HeapState) (values : List (ℕ × ℕ)) (number l : ℕ) (replicated : Bool) (chan : Val) (pattern : CodePat) (node : Node) (words : List ℕ) : Type 0 where
  stands : StandsAs core h values number node words
  form : IsInput number stands.part.around chan replicated pattern l stands.part.process
  is : process_of core (value_in h) words ≡ In (operand_value (known h values) chan) replicated form.pattern (replace (closing stands.part.around (known h values)) form.body)

reads : (core : Process) (h : HeapState) (values : List (ℕ × ℕ)) (number l : ℕ) (replicated : Bool) (chan : Val) (pattern : CodePat) (node : Node) (words : List ℕ)
    → IsClosed core → IsNodeBlock core h values number node words → node.op ≡ input_op replicated chan pattern l
    → Reads core h values number l replicated chan pattern node words
reads core h values number l replicated chan pattern node words closed b o =
    let s = stands_as core h values number node words b in
    let n = s.part.around in
    let form = is_input number n chan replicated pattern l s.part.process (op_is core number node s.part (input_op replicated chan pattern l) s.at o) in
    let under : IsUnder n 0 (In chan replicated form.pattern form.body) = subst (IsUnder n 0) form.is (part_under core number s.part closed s.at.at) in
    record {
      stands = s;
      form = form;
      is = s.is ∙ ap (node_with n (known h values)) form.is ∙ in_stands n (known h values) chan replicated form.pattern form.body
          ∙ ap (λ v. In v replicated form.pattern (replace (closing n (known h values)) form.body)) (same_operand n (known h values) chan under.0);
    }

pub inputs_stand : InputsStand
inputs_stand core h values number l replicated chan pattern node words closed b o =
    let r = reads core h values number l replicated chan pattern node words closed b o in
    let back : r.form.pattern ≡ unleveled pattern = sym (ap unleveled r.form.pattern_is ∙ pattern_back r.stands.part.around r.form.pattern) in (
      replace (closing r.stands.part.around (known h values)) r.form.body,
      r.is ∙ ap (λ p. In (operand_value (known h values) chan) replicated p (replace (closing r.stands.part.around (known h values)) r.form.body)) back,
    )

-- its body with what the pattern binds
record Serves (core : Process) (h : HeapState) (v : Val) (part_words : List ℕ) (pattern : Pat) (body : Process) : Type 0 where
  bound : List Val
  fits : match_value pattern v ≡ Some bound
  is : process_of core (value_in h) part_words ≡ substitute 0 bound body

serves : (core : Process) (h : HeapState) (values later : List (ℕ × ℕ)) (number l : ℕ) (replicated : Bool) (chan : Val) (pattern : CodePat) (node part : Node) (words part_words : List ℕ) (v : Val)
    → (r : Reads core h values number l replicated chan pattern node words) → BindsPattern h pattern v values later → IsNodeBlock core h later l part part_words
    → Serves core h v part_words r.form.pattern (replace (closing r.stands.part.around (known h values)) r.form.body)
serves core h values later number l replicated chan pattern node part words part_words v r binding b =
    let n = r.stands.part.around in
    let k = binds r.form.pattern in
    let before = known h values in
    let after = known h later in
    let back : unleveled pattern ≡ r.form.pattern = ap unleveled r.form.pattern_is ∙ pattern_back n r.form.pattern in
    let levels : levels_of pattern ≡ levels_from n k = ap levels_of r.form.pattern_is ∙ levels_leveled n r.form.pattern in
    let here : map after (levels_from n k) ≡ binding.bound = ap (map after) (sym levels) ∙ binding.here in
    let many : k ≡ length binding.bound = sym (length_from n k) ∙ sym (length-map (levels_from n k) after) ∙ ap length here in
    let others : (level : ℕ) → has level (levels_from n k) ≡ false → after level ≡ before level =
    (λ level no. ap (λ (x : ℕ × ℕ). value_in h x.0 x.1) (binding.others level (ap (has level) levels ∙ no))) in
    let placed = in_placed core number n chan replicated r.form.pattern r.form.body (subst (λ x. PlacedAt core number n x) r.form.is r.stands.at.placed) in
    record {
      bound = binding.bound;
      fits = ap (λ p. match_value p v) (sym back) ∙ binding.fits;
      is = part_stands core h later (number + 1) l (n + k) r.form.body part part_words r.form.part_is placed b
          ∙ sym (body_stands n before after binding.bound k many (λ level. value_in-no_var h (pair_at values level).0 (pair_at values level).1)
          (values_after before after binding.bound n k here others) r.form.body);
    }

pub outputs_meet : OutputsMeet
outputs_meet core h values later c v at words number l replicated chan pattern node part reader part_words others closed sends b o binding b_part rest channels here =
    let r = reads core h values number l replicated chan pattern node reader closed b o in
    let s = serves core h values later number l replicated chan pattern node part reader part_words v r binding b_part in
    output_meets (List ℕ) (process_of core (value_in h)) words rest channels c v at reader others (operand_value (known h values) chan) replicated
    r.form.pattern (replace (closing r.stands.part.around (known h values)) r.form.body) s.bound part_words here sends r.is s.fits s.is

pub inputs_meet : InputsMeet
inputs_meet core h values later number l c replicated chan pattern node part words part_words v w at message others closed b o channel sends binding b_part rest channels here =
    let r = reads core h values number l replicated chan pattern node words closed b o in
    let s = serves core h values later number l replicated chan pattern node part words part_words v r binding b_part in
    let body = replace (closing r.stands.part.around (known h values)) r.form.body in
    input_meets (List ℕ) (process_of core (value_in h)) words rest channels c replicated r.form.pattern body message others w v at s.bound part_words here
    (r.is ∙ ap (λ x. In x replicated r.form.pattern body) channel) sends s.fits s.is
