-- What stands for an entry that is an operator is a variable like it, or its definition.
use Rattle.std.proofs.Common.{◌≡◌, ◌+◌, sym, ◌∙◌, ap, subst}
use Rattle.std.specs.Prelude.{IfOk}
use Rattle.pict_types.specs.Entries.{variables}
use Rattle.pict_types.specs.Fitting.{StandsForOperator}
use Rattle.pict_types.specs.Kinds.{kinds}
use Rattle.pict_types.specs.Plain.{plain, plain_types}
use Rattle.pict_types.specs.PlainContext.{names_of, plain_context}
use Rattle.pict_types.specs.Renaming.{moved, rename}
use Rattle.pict_normal.specs.Meanings.{meanings}
use Rattle.pict_normal.specs.Putting.{put_head}
use Rattle.pict_normal.specs.WrittenArguments.{body_of}
use Rattle.pict_types.specs.Types.{Apply}
use Rattle.pict_types.proofs.Rows.{plain_apply}
use Rattle.pict_normal.proofs.BareOperators.{head_is}
use Rattle.pict_normal.proofs.Expanded.{meanings_keep}
use Rattle.pict_normal.proofs.operators.operator_body.Goals as goal

pub unreachable-requires : goal.unreachable-requires
unreachable-requires c =
    let d = plain_context c.args.c.now in
    let ns = names_of c.args.c.now in
    subst (StandsForOperator ns (kinds (variables d)) c.args.count) (sym (sym (ap put_head c.in-Proper.is) ∙ c.put_entry.ensures.head ∙ ap (meanings d).head_of c.in_ok-number.ensures)) (head_is ns d c.args.entry c.args.count (meanings_keep ns d c.args.c.now.formed) c.requires.arity)

pub returns-in_ok-new-in-Variable : goal.returns-in_ok-new-in-Variable
returns-in_ok-new-in-Variable c =
    let d = plain_context c.args.c.now in
    let is = sym (ap put_head c.in-Variable.is) ∙ c.put_entry.ensures.head ∙ ap (meanings d).head_of c.in_ok-number.ensures in
    let i = c.in-Variable.i + c.args.count in
    plain_apply i c.in_ok-new-in-Variable.field-0 ∙ ap (λ v. Apply i (plain_types v.items)) c.in_ok-new-in-Variable.ensures.ok ∙ ap (Apply i) c.in_ok-parameters-in-Variable.ensures ∙ ap (body_of c.args.count) is

pub returns-in-Operator : goal.returns-in-Operator
returns-in-Operator c =
    let d = plain_context c.args.c.now in
    let ns = names_of c.args.c.now in
    let is = sym (ap put_head c.in-Operator.is) ∙ c.put_entry.ensures.head ∙ ap (meanings d).head_of c.in_ok-number.ensures in
    let same = subst (StandsForOperator ns (kinds (variables d)) c.args.count) (sym is) (head_is ns d c.args.entry c.args.count (meanings_keep ns d c.args.c.now.formed) c.requires.arity) in
    let t = plain c.in-Operator.body.now in
    let e : rename (moved c.in-Operator.by c.args.count) t ≡ body_of c.args.count ((meanings d).head_of c.args.entry) =
    ap (λ m. rename (moved c.in-Operator.by m) t) (sym same.0) ∙ ap (body_of c.args.count) is in
    subst (λ u. IfOk c.shift_type.result (λ x. plain x ≡ u)) e c.shift_type.ensures
