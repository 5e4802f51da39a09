-- A type binder that says what the field says, and one that doesn't.
use Rattle.std.proofs.Common.{◌∙◌, sym}
use Rattle.pict_syntax.specs.PlainTrees.{binder_of}
use Rattle.pict_types.specs.Plain.{plain_bound}
use Rattle.pict_infer.specs.Answering.{nothing}
use Rattle.pict_infer.specs.Opening.{binder_agrees, held_type}
use Rattle.pict_infer.specs.Places.{environment_in}
use Rattle.pict_infer.proofs.BinderLines.{agrees, other_bound, other_kind, refused_binder}
use Rattle.pict_infer.proofs.Handed.{answer_err}
use Rattle.pict_infer.proofs.binders.binder_against.Goals as goal
use Rattle.pict_infer.proofs.binders.binder_against.Goals.{else-kind_agrees-via-then-kind_agrees+else-bound_agrees, else-kind_agrees-via-else-kind_agrees}

pub returns-in_err-written : goal.returns-in_err-written
returns-in_err-written c =
    let e = environment_in c.args.c.now in
    let err = c.in_err-written.field-0.0 in
    answer_err (binder_agrees e (binder_of c.args.b.now) (plain_bound c.args.field.now)) nothing c.from_residual.result err c.from_residual.ensures.1
    (refused_binder e (binder_of c.args.b.now) (plain_bound c.args.field.now) err c.in_err-written.ensures.refused)

pub returns-then-bound_agrees : goal.returns-then-bound_agrees
returns-then-bound_agrees c =
    agrees (environment_in c.args.c.now) (binder_of c.args.b.now) (plain_bound c.args.field.now) (held_type c.in_ok-written.written) c.in_ok-written.ensures.clear c.in_ok-written.ensures.bound
    (sym c.kind_agrees.ensures ∙ c.if-kind_agrees.true) (c.bound_agrees.ensures.0 c.if-bound_agrees.true)

pub returns : goal.returns
returns c =
    let e = environment_in c.args.c.now in
    let b = binder_of c.args.b.now in
    let r = plain_bound c.args.field.now in
    elim c.else-kind_agrees.branch [
      | else-kind_agrees-via-then-kind_agrees+else-bound_agrees w ↦
          other_bound e b r (held_type c.in_ok-written.written) c.in_ok-written.ensures.clear c.in_ok-written.ensures.bound (sym c.kind_agrees.ensures ∙ w.if-kind_agrees.true)
          (λ p. let q = sym (w.bound_agrees.ensures.1 p) ∙ w.if-bound_agrees.false in absurd (cc))
      | else-kind_agrees-via-else-kind_agrees w ↦ other_kind e b r c.in_ok-written.ensures.clear (sym c.kind_agrees.ensures ∙ w.if-kind_agrees.false)
    ]
