-- Whether the step of who has the turn is wrong, by what waits first at its channel.
use Rattle.std.proofs.Common.{ℕ, zero, suc, ◌+◌, ◌-◌, ◌<◌, ◌≡◌, ◌≢◌, inl, inr, Bool, true, false, cond, not, List, [], ◌∷◌, ◌++◌, length, map, drop, filter, refl, sym, ap, ◌∙◌, subst, arith, Some, None}
use Rattle.std.proofs.lemmas.List.{length-map}
use Rattle.std.specs.List.{AllByRecursion, slice_get}
use Rattle.std.specs.Prelude.{◌↔◌, IsTrue, option_map, slice_index}
use Rattle.pict_region.specs.RegionState.{RegionState, words_of}
use Rattle.pict_syntax.specs.declared.span.Span.{Span}
use Rattle.pict_syntax.specs.declared.primitive.Primitive.{Primitive}
use Rattle.pict_core.specs.Closed.{IsClosed, IsUnder}
use Rattle.pict_core.specs.Configuration.{Entry, AreClosed}
use Rattle.pict_core.specs.Deed.{offers, asks, deed}
use Rattle.pict_core.specs.Matching.{match_value}
use Rattle.pict_core.specs.Primitives.{effect_of}
use Rattle.pict_core.specs.Step.{StepOutcome, Wrong, is_ready}
use Rattle.pict_core.specs.Substitution.{replace, replace_value}
use Rattle.pict_core.specs.Term as term
use Rattle.pict_core.specs.Term.{Val, Pat, Process, Chan, PrimitiveVal, Out, In, If}
use Rattle.pict_code.specs.Frames.{frame_of}
use Rattle.pict_code.specs.Instruction as op
use Rattle.pict_code.specs.Instruction.{CodePat, Node}
use Rattle.pict_code.specs.Nodes.{nodes_of, input_op}
use Rattle.pict_code.specs.ReadBack.{unleveled}
use Rattle.pict_code.specs.Standing.{closing, value_at}
use Rattle.pict_code.proofs.Closings.{part_under}
use Rattle.pict_code.proofs.Rebuilding.{pattern_back}
use Rattle.pict_heap.specs.HeapState.{HeapState}
use Rattle.pict_queue.specs.QueuesState.{IsQueue}
use Rattle.pict_queue.specs.Contents.{contents, held_words}
use Rattle.pict_view.specs.Placed.{if_input, if_output, partner_at, next_view}
use Rattle.pict_view.specs.Laws.{Simulates}
use Rattle.pict_view.specs.Moved.{Moved, Moves, Stops, Misshapen, Over}
use Rattle.pict_view.specs.View.{View, processes}
use Rattle.pict_view.proofs.Rows.{list_of}
use Rattle.pict_blocks.specs.Blocks.{frame_values, node_process, process_of}
use Rattle.pict_blocks.specs.Keeping.{kept_words}
use Rattle.pict_blocks.proofs.Meeting.{is_input, outputs_stand, inputs_stand}
use Rattle.pict_desk.specs.AtHand.{channel_named}
use Rattle.pict_desk.specs.Arguments.{operand_in}
use Rattle.pict_desk.specs.Known.{value_in, known, operand_value}
use Rattle.pict_desk.specs.Pairs.{IsPair}
use Rattle.pict_desk.specs.declared.kept.Kept.{Kept}
use Rattle.pict_desk.proofs.Nodes.{part_of, op_is, is_zero, is_par, is_new, is_if}
use Rattle.pict_desk.proofs.Parts.{node_with, par_stands, new_stands, if_stands}
use Rattle.pict_desk.proofs.OperandsAround.{same_operand}
use Rattle.pict_turns.specs.Acting.{HasActing, ActsBy, IsRefused}
use Rattle.pict_turns.specs.Reading.{OnlyReads}
use Rattle.pict_turns.proofs.AfterReading.{reads_works, contents_read, queues_read, acting_read}
use Rattle.pict_turns.proofs.Spare.{reads_spare}
use Rattle.pict_blocks.proofs.Held.{works_no_more}
use Rattle.pict_turns.proofs.Numbered.{standing}
use Rattle.pict_turns.proofs.Outputs.{named_channel}
use Rattle.pict_meetings.specs.Serving.{IsInputWith}
use Rattle.pict_meetings.specs.Waiting.{oldest, waits_first}
use Rattle.pict_meetings.specs.declared.waiting.Waiting.TheVariants.{Output, Input}
use Rattle.pict_meetings.proofs.Waits.{channel_there, output_waits, input_waits}
use Rattle.pict_shapes.specs.Fitting.{is_found}
use Rattle.pict_shapes.specs.Shapes.{is_effect, is_kind}
use Rattle.pict_syntax.specs.declared.primitive.ValueKind.TheVariants as kind
use Rattle.pict_turns.specs.Views.{channel_lists, acting_words, IsBlock}
use Rattle.pict_turns.specs.declared.store.Store.{Store}
use Rattle.pict_turns.proofs.Rows.{length_lists}
use Rattle.pict_turns.proofs.Turns.{view_is}
use Rattle.pict_machine.specs.Wrong.{is_misshapen, is_wrong, primitive_named, MayAsk, OnlyAsks}
use Rattle.pict_machine.proofs.Wrongs.{is_misfit, placed_wrong, deed_listed, test_misfits, call_misfits, served_misfits, taken_misfits}

-- the first of the entries that pass a test is over the channels of the configuration
first_under : (b : Bool) (x : Entry) (es : List Entry) (c : ℕ) (p : Process) (ps : List Process) → IsUnder 0 c x.process → (map (λ (y : Entry). y.process) es ≡ p ∷ ps → IsUnder 0 c p)
    → map (λ (y : Entry). y.process) (cond b (x ∷ es) es) ≡ p ∷ ps → IsUnder 0 c p
first_under true x es c p ps here others k = let same : x.process ≡ p = cc in subst (IsUnder 0 c) same here
first_under false x es c p ps here others k = others k

head_under : (es : List Entry) (c : ℕ) (test : Entry → Bool) (p : Process) (ps : List Process) → AreClosed c es → processes test es ≡ p ∷ ps → IsUnder 0 c p
head_under [] c test p ps closed e = cc
head_under (x ∷ es) c test p ps closed e = first_under (test x) x (filter test es) c p ps closed.0 (head_under es c test p ps closed.1) e

-- ---- what waits first

record FirstInput (number : ℕ) (list : List (List ℕ)) : Type 0 where
  held : List ℕ
  others : List (List ℕ)
  is : list ≡ (suc number ∷ held) ∷ others

first_input : (number : ℕ) (list : List (List ℕ)) → oldest list ≡ Input number → FirstInput number list
first_input number [] e = cc
first_input number ([] ∷ rest) e = cc
first_input number ((zero ∷ held) ∷ rest) e = cc
first_input number ((suc n ∷ held) ∷ rest) e = let same : n ≡ number = cc in record { held = held; others = rest; is = ap (λ k. (suc k ∷ held) ∷ rest) same }

pub record FirstMessage (h : HeapState) (list : List (List ℕ)) : Type 0 where
  pub kept : Kept
  pub others : List (List ℕ)
  pub is : list ≡ kept_words kept ∷ others
  pub message : IsPair h kept.message

pub first_message : (core : Process) (h : HeapState) (list : List (List ℕ)) → AllByRecursion (IsBlock core h) list → oldest list ≡ Output → FirstMessage h list
first_message core h [] blocks e = cc
first_message core h (words ∷ rest) (inl node, blocks) e = let k : oldest (words ∷ rest) ≡ Input node.number = ap (λ ws. oldest (ws ∷ rest)) node.is in cc
first_message core h (words ∷ rest) (inr kept, blocks) e = record { kept = kept.kept; others = rest; is = ap (λ ws. ws ∷ rest) kept.is; message = kept.message }

-- what the block of an input stands for, whatever it holds
record Stands (core : Process) (h : HeapState) (words : List ℕ) (replicated : Bool) (pattern : CodePat) : Type 0 where
  chan : Val
  body : Process
  is : process_of core (value_in h) words ≡ In chan replicated (unleveled pattern) body

reader_stands : (core : Process) (h : HeapState) (number : ℕ) (held : List ℕ) (replicated : Bool) (pattern : CodePat) (part : ℕ) → IsInputWith (nodes_of core) number replicated pattern part → Stands core h (suc number ∷ held) replicated pattern
reader_stands core h number held replicated pattern part i =
    let p = part_of core number i.node i.at in
    let form = is_input number p.0.around i.chan replicated pattern part p.0.process (op_is core number i.node p.0 (input_op replicated i.chan pattern part) p.1 i.is) in
    let vs : List Val = frame_values (value_in h) (length (frame_of p.0.around p.0.process)) held in
    let values = closing p.0.around (value_at (frame_of p.0.around p.0.process) vs) in
    let back : form.pattern ≡ unleveled pattern = sym (ap unleveled form.pattern_is ∙ pattern_back p.0.around form.pattern) in
    record {
      chan = replace_value values i.chan;
      body = replace values form.body;
      is = ap (node_process (value_in h) held) p.1.at ∙ ap (replace values) form.is ∙ ap (λ q. In (replace_value values i.chan) replicated q (replace values form.body)) back;
    }

-- ---- the step of who has the turn

module _ (core : Process) (s : Store) (may : MayAsk core s) where
  abbrev stands_for : List ℕ → Process
  stands_for = process_of core (value_in s.desk.heap)

  abbrev lists : List (List Process)
  lists = map (map stands_for) (channel_lists s.queues)

  abbrev acting : Process
  acting = stands_for (acting_words core s)

  under : IsUnder 0 (length lists) acting
  under = subst (λ n. IsUnder 0 n acting) (sym may.stands.channels)
      (head_under may.configuration.entries may.configuration.channels is_ready acting (map stands_for (contents s.queues 0)) may.is.closed
      (may.stands.ready ∙ ap (λ ws. map stands_for (ws ++ contents s.queues 0)) may.acting.has))

  is_by : (p : Process) → acting ≡ p → is_wrong core s ≡ is_misfit (deed (length lists) (partner_at 0 lists p) p)
  is_by p e =
      ap (λ v. is_misshapen (next_view v)) (view_is core s (acting_words core s) may.acting.has)
      ∙ placed_wrong (acting ∷ map stands_for (contents s.queues 0)) lists (deed (length lists) (partner_at 0 lists acting) acting) (deed_listed lists acting (partner_at 0 lists acting) under)
      ∙ ap (λ q. is_misfit (deed (length lists) (partner_at 0 lists q) q)) e

  below_queue : (c : ℕ) → c < length lists → IsQueue s.queues (c + 1)
  below_queue c low =
      let many = length-map (channel_lists s.queues) (map stands_for) in
      omega (arith, low, many, length_lists s.queues 1 (length s.queues.queues - 1))

  -- ---- conditionals and calls

  pub test_wrong : (v : Val) (p q : Process) → acting ≡ If v p q → is_wrong core s ≡ not (is_kind kind.Bool v)
  test_wrong v p q e = is_by (If v p q) e ∙ test_misfits v p q

  pub call_wrong : (p : Primitive) (v : Val) (at : Span) → acting ≡ Out (PrimitiveVal p) v at → is_wrong core s ≡ not (is_effect (effect_of p v))
  call_wrong p v at e = is_by (Out (PrimitiveVal p) v at) e ∙ call_misfits at (effect_of p v)

  no_target : (to v : Val) (at : Span) → None ≡ channel_named to → None ≡ primitive_named to → is_misfit (deed (length lists) (partner_at 0 lists (Out to v at)) (Out to v at)) ≡ true
  no_target (term.Chan c) v at none other = cc
  no_target (term.PrimitiveVal p) v at none other = cc
  no_target (term.Var x) v at none other = refl
  no_target (term.Int x) v at none other = refl
  no_target (term.Char x) v at none other = refl
  no_target (term.Boolean x) v at none other = refl
  no_target (term.Text x) v at none other = refl
  no_target (term.Record vs ls) v at none other = refl

  pub sent_nowhere : (to v : Val) (at : Span) → acting ≡ Out to v at → None ≡ channel_named to → None ≡ primitive_named to → is_wrong core s ≡ true
  sent_nowhere to v at e none other = is_by (Out to v at) e ∙ no_target to v at none other

  no_source : (from : Val) (replicated : Bool) (pattern : Pat) (body : Process) → None ≡ channel_named from → is_misfit (deed (length lists) (partner_at 0 lists (In from replicated pattern body)) (In from replicated pattern body)) ≡ true
  no_source (term.Chan c) replicated pattern body none = cc
  no_source (term.PrimitiveVal p) replicated pattern body none = refl
  no_source (term.Var x) replicated pattern body none = refl
  no_source (term.Int x) replicated pattern body none = refl
  no_source (term.Char x) replicated pattern body none = refl
  no_source (term.Boolean x) replicated pattern body none = refl
  no_source (term.Text x) replicated pattern body none = refl
  no_source (term.Record vs ls) replicated pattern body none = refl

  pub received_nowhere : (from : Val) (replicated : Bool) (pattern : Pat) (body : Process) → acting ≡ In from replicated pattern body → None ≡ channel_named from → is_wrong core s ≡ true
  received_nowhere from replicated pattern body e none = is_by (In from replicated pattern body) e ∙ no_source from replicated pattern body none

  -- ---- at a channel

  pub output_queue : (c : ℕ) (v : Val) (at : Span) → acting ≡ Out (Chan c) v at → IsQueue s.queues (c + 1)
  output_queue c v at e = let u : IsUnder 0 (length lists) (Out (Chan c) v at) = subst (IsUnder 0 (length lists)) e under in below_queue c u.0

  pub input_queue : (c : ℕ) (replicated : Bool) (pattern : Pat) (body : Process) → acting ≡ In (Chan c) replicated pattern body → IsQueue s.queues (c + 1)
  input_queue c replicated pattern body e = let u : IsUnder 0 (length lists) (In (Chan c) replicated pattern body) = subst (IsUnder 0 (length lists)) e under in below_queue c u.0

  pub sent_wrong : (c : ℕ) (v : Val) (at : Span) (number : ℕ) (replicated : Bool) (pattern : CodePat) (part : ℕ) → acting ≡ Out (Chan c) v at → waits_first s.queues c ≡ Input number
      → IsInputWith (nodes_of core) number replicated pattern part → is_wrong core s ≡ not (is_found (match_value (unleveled pattern) v))
  sent_wrong c v at number replicated pattern part e first i =
      let w = first_input number (contents s.queues (c + 1)) first in
      let r = reader_stands core s.desk.heap number w.held replicated pattern part i in
      let sender : Process = Out (Chan c) v at in
      is_by sender e
      ∙ ap (λ l. is_misfit (offers c v sender (if_input (slice_get l 0)))) (list_of (List ℕ) stands_for (channel_lists s.queues) c ((suc number ∷ w.held) ∷ w.others) (channel_there s.queues c (output_queue c v at e) ∙ ap Some w.is))
      ∙ ap (λ q. is_misfit (offers c v sender (if_input (Some q)))) r.is
      ∙ served_misfits c v replicated (In r.chan replicated (unleveled pattern) r.body) r.body (match_value (unleveled pattern) v)

  pub none_served : (c : ℕ) (v : Val) (at : Span) → acting ≡ Out (Chan c) v at → ((number : ℕ) → waits_first s.queues c ≢ Input number) → is_wrong core s ≡ false
  none_served c v at e none =
      ap (λ x. is_misshapen (next_view x)) (view_is core s (acting_words core s) may.acting.has)
      ∙ ap is_misshapen (output_waits core s.desk.heap (acting_words core s) (acting_words core s) (contents s.queues 0) s.queues c (output_queue c v at e) v at e e (may.acting.store.blocks (c + 1)) none)

  pub taken_wrong : (c : ℕ) (replicated : Bool) (pattern : Pat) (body : Process) (k : Kept) (others : List (List ℕ)) → acting ≡ In (Chan c) replicated pattern body → contents s.queues (c + 1) ≡ kept_words k ∷ others
      → is_wrong core s ≡ not (is_found (match_value pattern (value_in s.desk.heap k.message.0 k.message.1)))
  taken_wrong c replicated pattern body k others e is =
      is_by (In (Chan c) replicated pattern body) e
      ∙ ap (λ l. is_misfit (asks c replicated pattern body (In (Chan c) replicated pattern body) (if_output (slice_get l 0)))) (list_of (List ℕ) stands_for (channel_lists s.queues) c (kept_words k ∷ others) (channel_there s.queues c (input_queue c replicated pattern body e) ∙ ap Some is))
      ∙ taken_misfits c (value_in s.desk.heap k.message.0 k.message.1) replicated body (match_value pattern (value_in s.desk.heap k.message.0 k.message.1))

  pub none_taken : (c : ℕ) (replicated : Bool) (pattern : Pat) (body : Process) → acting ≡ In (Chan c) replicated pattern body → waits_first s.queues c ≢ Output → is_wrong core s ≡ false
  none_taken c replicated pattern body e none =
      ap (λ x. is_misshapen (next_view x)) (view_is core s (acting_words core s) may.acting.has)
      ∙ ap is_misshapen (input_waits core s.desk.heap (acting_words core s) (acting_words core s) (contents s.queues 0) s.queues c (input_queue c replicated pattern body e) replicated pattern body e e (may.acting.store.waiting c) none)

-- ---- a node acts

module _ (core : Process) (s : Store) (may : MayAsk core s) where
  abbrev value : ℕ → Val
  value = known s.desk.heap s.desk.values.items

  pub zero_right : ActsBy core s op.Zero → is_wrong core s ≡ false
  zero_right a =
      let st = standing core s op.Zero a in
      let form = is_zero a.number st.part.around st.part.process (op_is core a.number a.node st.part op.Zero st.at a.op_is) in
      is_by core s may term.Zero (st.is ∙ ap (node_with st.part.around value) form)

  pub par_right : (l r : ℕ) → ActsBy core s (op.Par l r) → is_wrong core s ≡ false
  par_right l r a =
      let st = standing core s (op.Par l r) a in
      let n = st.part.around in
      let form = is_par a.number n l r st.part.process (op_is core a.number a.node st.part (op.Par l r) st.at a.op_is) in
      is_by core s may (term.Par (node_with n value form.p) (node_with n value form.q)) (st.is ∙ ap (node_with n value) form.is ∙ par_stands n value form.p form.q)

  pub new_right : (level part : ℕ) → ActsBy core s (op.New level part) → is_wrong core s ≡ false
  new_right level part a =
      let st = standing core s (op.New level part) a in
      let n = st.part.around in
      let form = is_new a.number n level part st.part.process (op_is core a.number a.node st.part (op.New level part) st.at a.op_is) in
      is_by core s may (term.New (replace (closing n value) form.p)) (st.is ∙ ap (node_with n value) form.is ∙ new_stands n value form.p)

  module _ (closed : IsClosed core) where
    pub if_wrong : (test : Val) (l r : ℕ) → ActsBy core s (op.If test l r) → is_wrong core s ≡ not (is_kind kind.Bool (operand_in s.desk.heap s.desk.values.items test))
    if_wrong test l r a =
        let st = standing core s (op.If test l r) a in
        let n = st.part.around in
        let form = is_if a.number n test l r st.part.process (op_is core a.number a.node st.part (op.If test l r) st.at a.op_is) in
        let under : IsUnder n 0 (If test form.p form.q) = subst (IsUnder n 0) form.is (part_under core a.number st.part closed st.at.at) in
        test_wrong core s may (operand_value value test) (node_with n value form.p) (node_with n value form.q)
        (st.is ∙ ap (node_with n value) form.is ∙ if_stands n value test form.p form.q ∙ ap (λ v. If v (node_with n value form.p) (node_with n value form.q)) (same_operand n value test under.0))

    pub output_is : (chan message : Val) (at : Span) → ActsBy core s (op.Out chan message at) → process_of core (value_in s.desk.heap) (acting_words core s) ≡ Out (operand_in s.desk.heap s.desk.values.items chan) (operand_in s.desk.heap s.desk.values.items message) at
    output_is chan message at a = outputs_stand core s.desk.heap s.desk.values.items a.number chan message at a.node (acting_words core s) closed a.is a.op_is

    pub output_at : (chan message : Val) (at : Span) (c : ℕ) → ActsBy core s (op.Out chan message at) → Some c ≡ channel_named (operand_in s.desk.heap s.desk.values.items chan)
        → process_of core (value_in s.desk.heap) (acting_words core s) ≡ Out (Chan c) (operand_in s.desk.heap s.desk.values.items message) at
    output_at chan message at c a e =
        output_is chan message at a ∙ ap (λ v. Out v (operand_in s.desk.heap s.desk.values.items message) at) (named_channel (operand_in s.desk.heap s.desk.values.items chan) c e)

    pub input_is : (replicated : Bool) (chan : Val) (pattern : CodePat) (part : ℕ) → ActsBy core s (input_op replicated chan pattern part)
        → (body : Process) × (process_of core (value_in s.desk.heap) (acting_words core s) ≡ In (operand_in s.desk.heap s.desk.values.items chan) replicated (unleveled pattern) body)
    input_is replicated chan pattern part a = inputs_stand core s.desk.heap s.desk.values.items a.number part replicated chan pattern a.node (acting_words core s) closed a.is a.op_is

    pub input_at : (replicated : Bool) (chan : Val) (pattern : CodePat) (part : ℕ) (c : ℕ) → ActsBy core s (input_op replicated chan pattern part) → Some c ≡ channel_named (operand_in s.desk.heap s.desk.values.items chan)
        → (body : Process) × (process_of core (value_in s.desk.heap) (acting_words core s) ≡ In (Chan c) replicated (unleveled pattern) body)
    input_at replicated chan pattern part c a e =
        let i = input_is replicated chan pattern part a in
        (i.0, i.1 ∙ ap (λ v. In v replicated (unleveled pattern) i.0) (named_channel (operand_in s.desk.heap s.desk.values.items chan) c e))

named_primitive : (v : Val) (p : Primitive) → Some p ≡ primitive_named v → v ≡ PrimitiveVal p
named_primitive (term.PrimitiveVal q) p e = let same : q ≡ p = cc in ap PrimitiveVal same
named_primitive (term.Chan x) p e = cc
named_primitive (term.Var x) p e = cc
named_primitive (term.Int x) p e = cc
named_primitive (term.Char x) p e = cc
named_primitive (term.Boolean x) p e = cc
named_primitive (term.Text x) p e = cc
named_primitive (term.Record vs ls) p e = cc

-- ---- an output that is sent to no channel

module _ (core : Process) (s : Store) (may : MayAsk core s) (to message : Val) (at : Span) (is : process_of core (value_in s.desk.heap) (acting_words core s) ≡ Out to message at) where
  pub called_wrong : (p : Primitive) → Some p ≡ primitive_named to → is_wrong core s ≡ not (is_effect (effect_of p message))
  called_wrong p e = call_wrong core s may p message at (is ∙ ap (λ v. Out v message at) (named_primitive to p e))

-- ---- an input has one pattern

same_pattern_op : (b c : Bool) (v w : Val) (p q : CodePat) (l m : ℕ) → input_op b v p l ≡ input_op c w q m → p ≡ q
same_pattern_op true true v w p q l m e = cc
same_pattern_op false false v w p q l m e = cc
same_pattern_op true false v w p q l m e = cc
same_pattern_op false true v w p q l m e = cc

pub same_pattern : {nodes : List Node} {number : ℕ} {b c : Bool} {p q : CodePat} {l m : ℕ} → IsInputWith nodes number b p l → IsInputWith nodes number c q m → p ≡ q
same_pattern {b = b} {c = c} {p = p} {q = q} {l = l} {m = m} i j =
    let e : Some i.node ≡ Some j.node = sym i.at ∙ j.at in
    let same : i.node ≡ j.node = cc in
    same_pattern_op b c i.chan j.chan p q l m (sym i.is ∙ ap (λ (x : Node). x.op) same ∙ j.is)

-- ---- asking changes nothing but work

pub refused_asking : (core : Process) (s mid : Store) → OnlyAsks s mid → HasActing core s → IsRefused core s mid
refused_asking core s mid asks acting =
    let r : OnlyReads s mid = subst (OnlyReads s) (sym asks.rest) (reads_works s mid.queues acting.store.pairs asks.works) in
    let values : mid.desk.values.items ≡ s.desk.values.items = ap (λ (m : Store). m.desk.values.items) asks.rest in
    record {
      turn = r.turn;
      values = values;
      contents = contents_read s mid r;
      queues = queues_read s mid r;
      heap = record { texts = ap (λ (h : HeapState). h.texts) r.heap; records = ap (λ (h : HeapState). h.records) r.heap };
      store = (acting_read s mid r core values acting).store;
      no_more = works_no_more s.queues mid.queues asks.works;
      spare = reads_spare s mid r;
    }

-- ---- what is wrong in the view is wrong in each configuration

pub wrong_by : (v : View) (outcome : StepOutcome) (m : Moved View) → Simulates v outcome m → IsTrue (is_misshapen m) ↔ (outcome ≡ Wrong)
wrong_by v outcome (Moves new label) s = (λ t. cc, λ e. let k = s.0.steps in cc)
wrong_by v outcome (Stops at) s = (λ t. cc, λ e. cc)
wrong_by v outcome Misshapen s = (λ t. s, λ e. refl)
wrong_by v outcome Over s = (λ t. cc, λ e. cc)

-- ---- the words of a message, read out of the block that waits first

message_at : (xs : List ℕ) (k : Kept) → drop 1 xs ≡ kept_words k → (slice_index xs 4 ≡ k.message.0) × (slice_index xs 5 ≡ k.message.1)
message_at [] k e = cc
message_at (link ∷ ys) k e = (ap (λ zs. slice_index zs 3) e, ap (λ zs. slice_index zs 4) e)

pub peeked_message : (r : RegionState) (list : List ℕ) (k : Kept) (rest : List (List ℕ)) (tag payload : ℕ) → map (held_words r) list ≡ kept_words k ∷ rest
    → Some tag ≡ option_map (λ b. slice_index (words_of r b) 4) (slice_get list 0) → Some payload ≡ option_map (λ b. slice_index (words_of r b) 5) (slice_get list 0)
    → ◌≡◌ {A = ℕ × ℕ} (tag, payload) k.message
peeked_message r [] k rest tag payload e t p = cc
peeked_message r (b ∷ bs) k rest tag payload e t p =
    let held : held_words r b ≡ kept_words k = cc in
    let at = message_at (words_of r b) k held in
    let first : tag ≡ slice_index (words_of r b) 4 = cc in
    let second : payload ≡ slice_index (words_of r b) 5 = cc in
    ap (λ x. (x, payload)) (first ∙ at.0) ∙ ap (λ y. (k.message.0, y)) (second ∙ at.1)
