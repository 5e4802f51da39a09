use Rattle.std.proofs.Common.{not, length, sym, ap, ◌∙◌, subst}
use Rattle.pict_core.specs.Closed.{IsOver}
use Rattle.pict_core.specs.Plain.{plain_val}
use Rattle.pict_desk.specs.Arguments.{operand_in}
use Rattle.pict_desk.specs.Code.{core_in}
use Rattle.pict_desk.specs.Pairs.{ArePairs}
use Rattle.pict_shapes.specs.Shapes.{is_kind}
use Rattle.pict_syntax.specs.declared.primitive.ValueKind.TheVariants as kind
use Rattle.pict_turns.proofs.Numbered.{test_over}
use Rattle.pict_machine.proofs.Asking.{if_wrong}
use Rattle.pict_machine.proofs.wrong.test_is_wrong.Goals as goal

pub operand_is-requires : goal.operand_is-requires
operand_is-requires c =
    let s = c.args.store.now in
    let a = c.requires.acts in
    record {
      over = subst (λ values. IsOver (length values) 0 (plain_val c.args.test.now)) (sym c.deref.ensures.value) (test_over (core_in c.args.code.now) s (plain_val c.args.test.now) a.0 a.1 c.requires.code.closed a.2);
      pairs = subst (ArePairs s.desk.heap) (sym c.deref.ensures.value) c.requires.may.acting.store.pairs;
    }

pub returns : goal.returns
returns c =
    let s = c.args.store.now in
    let a = c.requires.acts in
    ap not (c.operand_is.ensures ∙ ap (λ values. is_kind kind.Bool (operand_in s.desk.heap values (plain_val c.args.test.now))) c.deref.ensures.value)
    ∙ sym (if_wrong (core_in c.args.code.now) s c.requires.may c.requires.code.closed (plain_val c.args.test.now) a.0 a.1 a.2)
