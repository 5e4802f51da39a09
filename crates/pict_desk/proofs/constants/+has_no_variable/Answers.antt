use Rattle.std.proofs.Common.{◌≡◌, false, map, refl, sym, subst, arith}
use Rattle.pict_core.specs.Plain.{plain_val, plain_field, vals_of, labelled_of}
use Rattle.pict_desk.specs.Constants.{HaveNoVariable, LabelledHaveNone}
use Rattle.pict_desk.proofs.MadeOnce.{variable_in, none_in_record, none_more, labelled_none_more, none_at, labelled_none_at}
use Rattle.pict_desk.proofs.Making.{take_whole}
use Rattle.pict_desk.proofs.constants.+has_no_variable.Goals as goal

pub has_no_variable-returns-in-Var : goal.has_no_variable-returns-in-Var
has_no_variable-returns-in-Var t c = ((λ f. cc), (λ none. absurd (variable_in c.args.operand.now c.in-Var.field-0 c.in-Var.is none)))

pub has_no_variable-returns-then-have_no_variable : goal.has_no_variable-returns-then-have_no_variable
has_no_variable-returns-then-have_no_variable t c =
    let fields = none_in_record c.args.operand.now c.in-Fields.positional c.in-Fields.labelled c.in-Fields.is in
    let first = subst (λ xs. HaveNoVariable (vals_of (map plain_val xs))) c.deref.ensures.value (c.have_no_variable.ensures.0 c.if-have_no_variable.true) in (
      λ none. fields.1 (first, subst (λ xs. LabelledHaveNone (labelled_of (map plain_field xs))) c.deref-then-have_no_variable.ensures.value (c.labelled_have_none.ensures.0 none)),
      λ none. c.labelled_have_none.ensures.1 (subst (λ xs. LabelledHaveNone (labelled_of (map plain_field xs))) (sym c.deref-then-have_no_variable.ensures.value) (fields.0 none).1),
    )

pub has_no_variable-returns-else-have_no_variable : goal.has_no_variable-returns-else-have_no_variable
has_no_variable-returns-else-have_no_variable t c =
    let fields = none_in_record c.args.operand.now c.in-Fields.positional c.in-Fields.labelled c.in-Fields.is in (
      λ f. cc,
      λ none.
          let first = c.have_no_variable.ensures.1 (subst (λ xs. HaveNoVariable (vals_of (map plain_val xs))) (sym c.deref.ensures.value) (fields.0 none).0) in
          let not = c.if-have_no_variable.false in absurd cc,
    )

pub have_no_variable-returns-then-not-has_no_variable : goal.have_no_variable-returns-then-not-has_no_variable
have_no_variable-returns-then-not-has_no_variable t c =
    let false_is : c.has_no_variable.result ≡ false = cc in (
      λ f. cc,
      λ none.
          let one = c.has_no_variable.ensures.1 (none_at c.args.operands.now c.loop-operand.operand-index c.operand-item.result c.loop-operand-test.true c.operand-item.is none) in absurd cc,
    )

pub have_no_variable-loop-operand-preserved : goal.have_no_variable-loop-operand-preserved
have_no_variable-loop-operand-preserved t c =
    none_more c.args.operands.now c.loop-operand.operand-index c.operand-item.result c.loop-operand-test.true c.operand-item.is c.loop-operand.invariant (c.has_no_variable.ensures.0 cc)

pub have_no_variable-returns : goal.have_no_variable-returns
have_no_variable-returns t c =
    let whole = take_whole c.args.operands.now c.loop-operand.operand-index (omega (arith, c.loop-operand-test.false)) in
    ((λ f. subst (λ xs. HaveNoVariable (vals_of (map plain_val xs))) whole c.loop-operand.invariant), (λ none. refl))

pub labelled_have_none-returns-then-not-has_no_variable : goal.labelled_have_none-returns-then-not-has_no_variable
labelled_have_none-returns-then-not-has_no_variable t c =
    let false_is : c.has_no_variable.result ≡ false = cc in (
      λ f. cc,
      λ none.
          let one = c.has_no_variable.ensures.1 (labelled_none_at c.args.operands.now c.loop-field.field-index c.field-item.result c.loop-field-test.true c.field-item.is none) in absurd cc,
    )

pub labelled_have_none-loop-field-preserved : goal.labelled_have_none-loop-field-preserved
labelled_have_none-loop-field-preserved t c =
    labelled_none_more c.args.operands.now c.loop-field.field-index c.field-item.result c.loop-field-test.true c.field-item.is c.loop-field.invariant (c.has_no_variable.ensures.0 cc)

pub labelled_have_none-returns : goal.labelled_have_none-returns
labelled_have_none-returns t c =
    let whole = take_whole c.args.operands.now c.loop-field.field-index (omega (arith, c.loop-field-test.false)) in
    ((λ f. subst (λ fs. LabelledHaveNone (labelled_of (map plain_field fs))) whole c.loop-field.invariant), (λ none. refl))
