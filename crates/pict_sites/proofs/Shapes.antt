-- Where a process stands and what kind it is, by the instruction of its node.
use Rattle.std.proofs.Common.{ℕ, ◌≡◌, Bool, true, false, sym, ap, ◌∙◌, subst, None, refl}
use Rattle.pict_syntax.specs.declared.span.Span.{Span}
use Rattle.pict_core.specs.Closed.{IsClosed}
use Rattle.pict_core.specs.Term as term
use Rattle.pict_core.specs.Term.{Val, Process}
use Rattle.pict_code.specs.Instruction as op
use Rattle.pict_code.specs.Instruction.{Op, CodePat}
use Rattle.pict_code.specs.Nodes.{op_of, input_op}
use Rattle.pict_code.specs.Plain.{plain_op}
use Rattle.pict_code.specs.declared.instruction.Op as written
use Rattle.pict_code.specs.declared.instruction.Op.TheVariants as code
use Rattle.pict_code.specs.declared.pattern.CodePat as written_pattern
use Rattle.pict_core.specs.declared.value.CoreVal.{CoreVal}
use Rattle.pict_blocks.proofs.Meeting.{outputs_stand, inputs_stand}
use Rattle.pict_desk.specs.AtHand.{channel_named}
use Rattle.pict_desk.specs.Known.{known, operand_value}
use Rattle.pict_desk.proofs.Nodes.{is_par, op_is}
use Rattle.pict_desk.proofs.Parts.{node_with}
use Rattle.pict_turns.specs.Acting.{ActsBy}
use Rattle.pict_turns.specs.Views.{acting_words}
use Rattle.pict_turns.specs.declared.store.Store.{Store}
use Rattle.pict_turns.proofs.Numbered.{standing}
use Rattle.pict_network.specs.SiteView.{IsNoFork, IsNoOpening}
use Rattle.pict_sites.specs.Standing.{channel_at}
use Rattle.pict_sites.specs.Working.{acting_process}

-- an instruction that isn't at a channel
abbrev pub IsNowhere : Op → Type 0
IsNowhere (op.Out chan message at) = ⊥
IsNowhere (op.In chan pattern part) = ⊥
IsNowhere (op.Serve chan pattern part) = ⊥
IsNowhere _ = Unit {0}

-- one that forks nothing and opens no channel
abbrev pub IsPlain : Op → Type 0
IsPlain (op.Par left right) = ⊥
IsPlain (op.New level part) = ⊥
IsPlain _ = Unit {0}

pub nowhere_op : (o : written.Op) → ((x y : CoreVal) (z : Span) → ¬ (o ≡ code.Out x y z)) → ((x : CoreVal) (y : written_pattern.CodePat) (z : ℕ) → ¬ (o ≡ code.In x y z))
    → ((x : CoreVal) (y : written_pattern.CodePat) (z : ℕ) → ¬ (o ≡ code.Serve x y z)) → IsNowhere (plain_op o)
nowhere_op code.Zero a b c = tt
nowhere_op (code.Par l r) a b c = tt
nowhere_op (code.New l r) a b c = tt
nowhere_op (code.If t l r) a b c = tt
nowhere_op (code.Out x y z) a b c = a x y z refl
nowhere_op (code.In x y z) a b c = b x y z refl
nowhere_op (code.Serve x y z) a b c = c x y z refl

pub plain_op_of : (o : written.Op) → ((l r : ℕ) → ¬ (o ≡ code.Par l r)) → ((l r : ℕ) → ¬ (o ≡ code.New l r)) → IsPlain (plain_op o)
plain_op_of code.Zero a b = tt
plain_op_of (code.Par l r) a b = a l r refl
plain_op_of (code.New l r) a b = b l r refl
plain_op_of (code.If t l r) a b = tt
plain_op_of (code.Out x y z) a b = tt
plain_op_of (code.In x y z) a b = tt
plain_op_of (code.Serve x y z) a b = tt

nowhere_input : (r : Bool) (chan : Val) (pattern : CodePat) (part : ℕ) → IsNowhere (input_op r chan pattern part) → ⊥
nowhere_input true chan pattern part a = a
nowhere_input false chan pattern part a = a

nowhere_stands : (i n : ℕ) (values : ℕ → Val) (p : Process) → IsNowhere (op_of i n p) → channel_at (node_with n values p) ≡ None
nowhere_stands i n values term.Zero a = refl
nowhere_stands i n values (term.Par p q) a = refl
nowhere_stands i n values (term.New p) a = refl
nowhere_stands i n values (term.If test p q) a = refl
nowhere_stands i n values (term.Out chan message at) a = absurd a
nowhere_stands i n values (term.In chan r pattern body) a = absurd (nowhere_input r chan _ _ a)

plain_stands : (i n : ℕ) (values : ℕ → Val) (p : Process) → IsPlain (op_of i n p) → IsNoFork (node_with n values p) × IsNoOpening (node_with n values p)
plain_stands i n values term.Zero a = (tt, tt)
plain_stands i n values (term.Par p q) a = absurd a
plain_stands i n values (term.New p) a = absurd a
plain_stands i n values (term.If test p q) a = (tt, tt)
plain_stands i n values (term.Out chan message at) a = (tt, tt)
plain_stands i n values (term.In chan r pattern body) a = (tt, tt)

module _ (core : Process) (s : Store) where
  pub out_at : IsClosed core → (chan message : Val) (at : Span) → ActsBy core s (op.Out chan message at)
      → channel_at (acting_process core s) ≡ channel_named (operand_value (known s.desk.heap s.desk.values.items) chan)
  out_at closed chan message at a =
      ap channel_at (outputs_stand core s.desk.heap s.desk.values.items a.number chan message at a.node (acting_words core s) closed a.is a.op_is)

  pub in_at : IsClosed core → (r : Bool) (chan : Val) (pattern : CodePat) (part : ℕ) → ActsBy core s (input_op r chan pattern part)
      → channel_at (acting_process core s) ≡ channel_named (operand_value (known s.desk.heap s.desk.values.items) chan)
  in_at closed r chan pattern part a =
      ap channel_at (inputs_stand core s.desk.heap s.desk.values.items a.number part r chan pattern a.node (acting_words core s) closed a.is a.op_is).1

  module _ (o : Op) (a : ActsBy core s o) where
    pub nowhere_at : IsNowhere o → channel_at (acting_process core s) ≡ None
    nowhere_at none =
        let st = standing core s o a in
        ap channel_at st.is
        ∙ nowhere_stands a.number st.part.around (known s.desk.heap s.desk.values.items) st.part.process
        (subst IsNowhere (sym (op_is core a.number a.node st.part o st.at a.op_is)) none)

    pub plain_form : IsPlain o → IsNoFork (acting_process core s) × IsNoOpening (acting_process core s)
    plain_form none =
        let st = standing core s o a in
        subst (λ p. IsNoFork p × IsNoOpening p) (sym st.is)
        (plain_stands a.number st.part.around (known s.desk.heap s.desk.values.items) st.part.process
        (subst IsPlain (sym (op_is core a.number a.node st.part o st.at a.op_is)) none))

  pub fork_opens_none : (l r : ℕ) → ActsBy core s (op.Par l r) → IsNoOpening (acting_process core s)
  fork_opens_none l r a =
      let st = standing core s (op.Par l r) a in
      let n = st.part.around in
      let form = is_par a.number n l r st.part.process (op_is core a.number a.node st.part (op.Par l r) st.at a.op_is) in
      subst IsNoOpening (sym (st.is ∙ ap (node_with n (known s.desk.heap s.desk.values.items)) form.is)) tt
