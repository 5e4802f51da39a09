-- What is known of outputs: where they are to, and that their channels are there.
use Rattle.std.proofs.Common.{ℕ, ◌<◌, ◌≡◌, Bool, List, length, refl, sym, ap, ◌∙◌, Option, Some, None, IsSome, Result, Ok, Err, IfOk}
use Rattle.pict_syntax.specs.declared.primitive.Primitive.{Primitive}
use Rattle.pict_syntax.specs.declared.span.Span.{Span}
use Rattle.pict_core.specs.Closed.{IsOver}
use Rattle.pict_core.specs.Primitives.{Effect, effect_of}
use Rattle.pict_core.specs.Term.{Val, Process, Chan, PrimitiveVal, Out, In}
use Rattle.pict_code.specs.Instruction as op
use Rattle.pict_code.specs.Instruction.{CodePat}
use Rattle.pict_code.specs.Nodes.{input_op}
use Rattle.pict_code.specs.ReadBack.{unleveled}
use Rattle.pict_code.specs.declared.instruction.Node as written
use Rattle.pict_heap.specs.HeapState.{HeapState, value_of}
use Rattle.pict_heap.specs.declared.word.Word.{Word}
use Rattle.pict_desk.specs.AtHand.{channel_named}
use Rattle.pict_desk.specs.Arguments.{operand_in}
use Rattle.pict_desk.specs.Code.{core_in}
use Rattle.pict_desk.specs.Constants.{OnlyMakes}
use Rattle.pict_desk.specs.Known.{known, operand_value}
use Rattle.pict_desk.specs.Needs.{IsMade}
use Rattle.pict_desk.specs.Pairs.{IsPair}
use Rattle.pict_desk.specs.declared.desk.Desk.{Desk}
use Rattle.pict_desk.specs.declared.kept.Kept.{Kept}
use Rattle.pict_picker.specs.Acting.{MayAct, ActsBy, SendsOn, ReceivesOn}
use Rattle.pict_picker.specs.Calling.{HasEffect}
use Rattle.pict_picker.specs.Deeds.{IsDeed}
use Rattle.pict_picker.specs.Waiting.{pair_value, kept_process, IsKept}
use Rattle.pict_picker.specs.declared.deed.Deed.{Deed}
use Rattle.pict_picker.proofs.Acts.{around_low, to_primitive, takes_message, from_channel, sent_there, read_there, effect_deed}
use Rattle.pict_picker.proofs.Deeds.{makes_desk}
use Rattle.pict_picker.proofs.Rows.{out_over, out_row, in_over, in_row, body_of}

-- a process may act still where words are made
pub may_still : (code : List written.Node) (old new : Desk) (lists : List (List Process)) (j : ℕ) (own : Process) → OnlyMakes old new → MayAct code old lists j own → MayAct code new lists j own
may_still code old new lists j own m a = record { code_is = a.code_is; desk = (makes_desk (core_in code) old new m a.desk).desk; under = a.under; right = a.right }

module _ (code : List written.Node) (d : Desk) (lists : List (List Process)) (j : ℕ) (chan message : Val) (at : Span) (own : Process) (a : ActsBy code d lists j (op.Out chan message at) own) where
  pub operands_over : IsOver (length d.values.items) 0 chan × IsOver (length d.values.items) 0 message
  operands_over =
      out_over (core_in code) d.heap d.values.items chan message at own a.may.code_is.closed a.node (length d.values.items)
      (around_low (core_in code) (known d.heap d.values.items) (op.Out chan message at) own a.node d a.may.desk)

  pub output_is : own ≡ Out (operand_in d.heap d.values.items chan) (operand_in d.heap d.values.items message) at
  output_is = out_row (core_in code) d.heap d.values.items chan message at own a.may.code_is.closed a.node

  module _ (c : ℕ) (to : operand_in d.heap d.values.items chan ≡ Chan c) where
    pub channel_is : own ≡ Out (Chan c) (operand_in d.heap d.values.items message) at
    channel_is = output_is ∙ ap (λ v. Out v (operand_in d.heap d.values.items message) at) to

    pub output_there : c < length lists
    output_there = sent_there (length lists) c (operand_in d.heap d.values.items message) at own channel_is a.may.under

    -- once its message is made
    pub sends_on : (new : Desk) (w : Word) (pair : ℕ × ℕ) → OnlyMakes d new → IsMade d.heap new.heap w (operand_in d.heap d.values.items message) → IsPair new.heap pair → pair_value new.heap pair ≡ value_of new.heap w
        → SendsOn code new lists j c pair at own
    sends_on new w pair m made is packs = record {
      may = may_still code d new lists j own m a.may;
      there = output_there;
      pair = is;
      is = channel_is ∙ ap (λ v. Out (Chan c) v at) (sym (packs ∙ made.value));
    }

  module _ (p : Primitive) (to : operand_in d.heap d.values.items chan ≡ PrimitiveVal p) where
    pub calls_is : own ≡ Out (PrimitiveVal p) (operand_in d.heap d.values.items message) at
    calls_is = output_is ∙ ap (λ v. Out v (operand_in d.heap d.values.items message) at) to

    pub calls_taken : IsSome (effect_of p (operand_in d.heap d.values.items message))
    calls_taken = takes_message lists j own a.may.right p (operand_in d.heap d.values.items message) at calls_is

  -- it is to a primitive, where it is to no channel
  pub output_primitive : None ≡ channel_named (operand_in d.heap d.values.items chan) → (p : Primitive) × (operand_in d.heap d.values.items chan ≡ PrimitiveVal p)
  output_primitive none = to_primitive lists j own a.may.right (operand_in d.heap d.values.items chan) (operand_in d.heap d.values.items message) at output_is (sym none)

-- what a primitive does is the deed of its output
pub called_deed : (core : Process) (h : HeapState) (lists : List (List Process)) (j : ℕ) (own : Process) (p : Primitive) (v : Val) (at : Span) (d : Deed) → own ≡ Out (PrimitiveVal p) v at
    → IsSome (effect_of p v) → ((e : Effect) → effect_of p v ≡ Some e → HasEffect h e at d) → IsDeed core h lists j own d
called_deed core h lists j own p v at d is some has = go (effect_of p v) refl some
  where
    go : (o : Option Effect) → effect_of p v ≡ o → IsSome o → IsDeed core h lists j own d
    go None e s = cc
    go (Some x) e s = effect_deed core h lists j own p v at x d is e (has x e)

pub called_ok : {E : Type 0} (core : Process) (h : HeapState) (lists : List (List Process)) (j : ℕ) (own : Process) (p : Primitive) (v : Val) (at : Span) (r : Result Deed E) → own ≡ Out (PrimitiveVal p) v at
    → IsSome (effect_of p v) → ((e : Effect) → effect_of p v ≡ Some e → IfOk r (HasEffect h e at)) → IfOk r (IsDeed core h lists j own)
called_ok core h lists j own p v at (Ok d) is some has = called_deed core h lists j own p v at d is some has
called_ok core h lists j own p v at (Err e) is some has = tt

-- ---- outputs of kept values

module _ (code : List written.Node) (d : Desk) (lists : List (List Process)) (j : ℕ) (kept : Kept) (k : IsKept d.heap kept) (may : MayAct code d lists j (kept_process d.heap kept)) where
  pub kept_sends : (c : ℕ) → pair_value d.heap kept.to ≡ Chan c → SendsOn code d lists j c kept.message kept.at (kept_process d.heap kept)
  kept_sends c to =
      let is : kept_process d.heap kept ≡ Out (Chan c) (pair_value d.heap kept.message) kept.at = ap (λ v. Out v (pair_value d.heap kept.message) kept.at) to in
      record { may = may; there = sent_there (length lists) c (pair_value d.heap kept.message) kept.at (kept_process d.heap kept) is may.under; pair = k.message; is = is }

  pub kept_primitive : channel_named (pair_value d.heap kept.to) ≡ None → (p : Primitive) × (pair_value d.heap kept.to ≡ PrimitiveVal p)
  kept_primitive none = to_primitive lists j (kept_process d.heap kept) may.right (pair_value d.heap kept.to) (pair_value d.heap kept.message) kept.at refl none

  module _ (p : Primitive) (to : pair_value d.heap kept.to ≡ PrimitiveVal p) where
    pub kept_calls : kept_process d.heap kept ≡ Out (PrimitiveVal p) (pair_value d.heap kept.message) kept.at
    kept_calls = ap (λ v. Out v (pair_value d.heap kept.message) kept.at) to

    pub kept_taken : IsSome (effect_of p (pair_value d.heap kept.message))
    kept_taken = takes_message lists j (kept_process d.heap kept) may.right p (pair_value d.heap kept.message) kept.at kept_calls

-- ---- inputs

module _ (code : List written.Node) (d : Desk) (lists : List (List Process)) (j : ℕ) (replicated : Bool) (chan : Val) (pattern : CodePat) (part : ℕ) (own : Process)
    (a : ActsBy code d lists j (input_op replicated chan pattern part) own) where
  abbrev own_body : Process
  own_body = body_of (core_in code) d.heap d.values.items replicated chan pattern part own a.may.code_is.closed a.node

  pub input_over : IsOver (length d.values.items) 0 chan
  input_over =
      in_over (core_in code) d.heap d.values.items replicated chan pattern part own a.may.code_is.closed a.node (length d.values.items)
      (around_low (core_in code) (known d.heap d.values.items) (input_op replicated chan pattern part) own a.node d a.may.desk)

  pub receives_on : (c : ℕ) → operand_value (known d.heap d.values.items) chan ≡ Chan c → ReceivesOn code d lists j c replicated pattern part own
  receives_on c from = record {
    chan = chan;
    acts = a;
    from = from;
    there = read_there (length lists) c replicated (unleveled pattern) own_body own
        (in_row (core_in code) d.heap d.values.items replicated chan pattern part own a.may.code_is.closed a.node ∙ ap (λ v. In v replicated (unleveled pattern) own_body) from) a.may.under;
  }

  pub no_input : None ≡ channel_named (operand_value (known d.heap d.values.items) chan) → ⊥
  no_input none =
      let c = from_channel lists j own a.may.right (operand_value (known d.heap d.values.items) chan) replicated (unleveled pattern) own_body
      (in_row (core_in code) d.heap d.values.items replicated chan pattern part own a.may.code_is.closed a.node) in
      let named : None ≡ Some c.0 = none ∙ ap channel_named c.1 in
      cc
