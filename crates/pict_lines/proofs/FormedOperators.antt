-- The operators of forms from the right and from the left are well formed, and so are their fields.
use Rattle.std.proofs.Common.{◌≡◌, refl, sym, subst, List, Option}
use Rattle.pict_syntax.specs.declared.tree.Val.{Val as RVal}
use Rattle.pict_types.specs.declared.types.Ty.{Ty}
use Rattle.pict_types.specs.Kinds.{IsWellFormed, kinds_under}
use Rattle.pict_types.specs.Types.{PlainType}
use Rattle.pict_rules.specs.Environments.{Environment}
use Rattle.pict_rules.specs.Regular.{IsRegular, kinds_in}
use Rattle.pict_lines.specs.declared.operators.Applied.{Applied}
use Rattle.pict_lines.specs.Nesting.{IsRightForm, right_form, IsLeftForm, left_form}
use Rattle.pict_lines.specs.Operators.{IsOperatorIn, operator_of, type_if}
use Rattle.pict_lines.proofs.NestedFormed.{operator_formed, regular_for, second_formed, first_formed}

pub right_regular : {e e' : Environment} {o : Applied} {vs : List RVal} {x : Option Ty} → IsRightForm e o vs x → e' ≡ e → IsRegular e'
right_regular {e = e} {o = o} {vs = vs} {x = x} p q = subst IsRegular (sym q) (regular_for e (right_form o vs) (type_if x) p.asked)

pub right_operator : {e e' : Environment} {o : Applied} {vs : List RVal} {x : Option Ty} → IsRightForm e o vs x → e' ≡ e → IsOperatorIn e' o
right_operator {e = e} {o = o} p q = subst (λ k. IsOperatorIn k o) (sym q) (operator_formed e o.name (operator_of o) p.head (right_regular p refl))

-- the second field
pub right_second : {e e' : Environment} {o : Applied} {vs : List RVal} {x : Option Ty} {u : PlainType} → IsRightForm e o vs x → e' ≡ e → u ≡ (operator_of o).second → IsWellFormed e'.names (kinds_under (kinds_in e') (operator_of o).binders) u
right_second {e' = e'} {o = o} p q is =
    subst (λ t. IsWellFormed e'.names (kinds_under (kinds_in e') (operator_of o).binders) t) (sym is) (second_formed e' (operator_of o) (right_operator p q))

pub left_regular : {e e' : Environment} {o : Applied} {vs : List RVal} {x : Option Ty} → IsLeftForm e o vs x → e' ≡ e → IsRegular e'
left_regular {e = e} {o = o} {vs = vs} {x = x} p q = subst IsRegular (sym q) (regular_for e (left_form o vs) (type_if x) p.asked)

pub left_operator : {e e' : Environment} {o : Applied} {vs : List RVal} {x : Option Ty} → IsLeftForm e o vs x → e' ≡ e → IsOperatorIn e' o
left_operator {e = e} {o = o} p q = subst (λ k. IsOperatorIn k o) (sym q) (operator_formed e o.name (operator_of o) p.head (left_regular p refl))

-- the first field
pub left_field : {e e' : Environment} {o : Applied} {vs : List RVal} {x : Option Ty} {u : PlainType} → IsLeftForm e o vs x → e' ≡ e → u ≡ (operator_of o).first → IsWellFormed e'.names (kinds_under (kinds_in e') (operator_of o).binders) u
left_field {e' = e'} {o = o} p q is =
    subst (λ t. IsWellFormed e'.names (kinds_under (kinds_in e') (operator_of o).binders) t) (sym is) (first_formed e' (operator_of o) (left_operator p q))
