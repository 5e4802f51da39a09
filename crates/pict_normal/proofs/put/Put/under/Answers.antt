-- What stands for a variable, with more binders around it.
use Rattle.std.proofs.Common.{◌∙◌, sym, ap, subst, arith}
use Rattle.pict_types.specs.Plain.{plain}
use Rattle.pict_normal.specs.Putting.{CanMove, HasRoom, put_head, put_type}
use Rattle.pict_types.specs.Renaming.{moved, plus, rename}
use Rattle.pict_types.specs.Replacing.{operator, rename_head}
use Rattle.pict_normal.proofs.put.Put.under.Goals as goal
use Rattle.pict_types.proofs.Past.{moved_type, moved_operator}

pub returns-in-Variable-clause-type_ : goal.returns-in-Variable-clause-type_
returns-in-Variable-clause-type_ c = sym (ap (λ x. rename (moved c.args.count 0) (put_type x)) c.in-Variable.is)

pub returns-in-Variable-clause-head : goal.returns-in-Variable-clause-head
returns-in-Variable-clause-head c = sym (ap (λ x. rename_head (plus c.args.count) (put_head x)) c.in-Variable.is)

pub returns-in-Proper-clause-type_ : goal.returns-in-Proper-clause-type_
returns-in-Proper-clause-type_ c =
    sym (moved_type c.args.count c.in-Proper.by (plain c.in-Proper.t.now)) ∙ sym (ap (λ x. rename (moved c.args.count 0) (put_type x)) c.in-Proper.is)

pub returns-in-Proper-clause-head : goal.returns-in-Proper-clause-head
returns-in-Proper-clause-head c = sym (ap (λ x. rename_head (plus c.args.count) (put_head x)) c.in-Proper.is)

pub returns-in-Operator-clause-type_ : goal.returns-in-Operator-clause-type_
returns-in-Operator-clause-type_ c = sym (ap (λ x. rename (moved c.args.count 0) (put_type x)) c.in-Operator.is)

pub returns-in-Operator-clause-head : goal.returns-in-Operator-clause-head
returns-in-Operator-clause-head c =
    ap (operator c.in-Operator.params) (sym (moved_operator c.in-Operator.params c.args.count c.in-Operator.by (plain c.in-Operator.body.now)))
    ∙ sym (ap (λ x. rename_head (plus c.args.count) (put_head x)) c.in-Operator.is)

pub returns-in-Variable-clause-room : goal.returns-in-Variable-clause-room
returns-in-Variable-clause-room c = λ n d i h.
    let r = subst (HasRoom n d i) c.in-Variable.is h in
    omega (arith, r)

pub returns-in-Proper-clause-room : goal.returns-in-Proper-clause-room
returns-in-Proper-clause-room c = λ n d i h.
    let r = subst (HasRoom n d i) c.in-Proper.is h in
    (omega (arith, r.0), omega (arith, r.1))

pub returns-in-Operator-clause-room : goal.returns-in-Operator-clause-room
returns-in-Operator-clause-room c = λ n d i h.
    let r = subst (HasRoom n d i) c.in-Operator.is h in
    (omega (arith, r.0), omega (arith, r.1))

pub overflow_add-result : goal.overflow_add-result
overflow_add-result c =
    let r = subst (CanMove c.args.count) c.in-Variable.is c.requires.room in
    omega (arith, r)

pub overflow_add-result-in-Proper : goal.overflow_add-result-in-Proper
overflow_add-result-in-Proper c =
    let r = subst (CanMove c.args.count) c.in-Proper.is c.requires.room in
    omega (arith, r)

pub overflow_add-result-in-Operator : goal.overflow_add-result-in-Operator
overflow_add-result-in-Operator c =
    let r = subst (CanMove c.args.count) c.in-Operator.is c.requires.room in
    omega (arith, r)
