use Rattle.std.proofs.Common.{◌≡◌, not, length, sym, ap, ◌∙◌, subst}
use Rattle.pict_core.specs.Closed.{IsOver}
use Rattle.pict_core.specs.Plain.{plain_val}
use Rattle.pict_core.specs.Primitives.{effect_of}
use Rattle.pict_turns.proofs.Numbered.{operands_over}
use Rattle.pict_desk.specs.Arguments.{operand_in}
use Rattle.pict_desk.specs.Code.{core_in}
use Rattle.pict_desk.specs.Pairs.{ArePairs}
use Rattle.pict_shapes.specs.Shapes.{is_effect}
use Rattle.pict_machine.specs.Wrong.{primitive_named}
use Rattle.pict_machine.proofs.Asking.{output_is, called_wrong, sent_nowhere}
use Rattle.pict_machine.proofs.wrong.call_is_wrong.Goals as goal

pub primitive_of_operand-requires : goal.primitive_of_operand-requires
primitive_of_operand-requires c =
    let s = c.args.store.now in
    let a = c.requires.acts in
    record {
      over = subst (λ values. IsOver (length values) 0 (plain_val c.args.chan.now)) (sym c.deref.ensures.value)
          (operands_over (core_in c.args.code.now) s (plain_val c.args.chan.now) (plain_val c.args.message.now) a.0 c.requires.code.closed a.1).0;
      pairs = (s.desk.heap, subst (ArePairs s.desk.heap) (sym c.deref.ensures.value) c.requires.may.acting.store.pairs);
    }

pub takes_operand-requires : goal.takes_operand-requires
takes_operand-requires c =
    let s = c.args.store.now in
    let a = c.requires.acts in
    record {
      over = subst (λ values. IsOver (length values) 0 (plain_val c.args.message.now)) (sym c.deref-in-Some.ensures.value)
          (operands_over (core_in c.args.code.now) s (plain_val c.args.chan.now) (plain_val c.args.message.now) a.0 c.requires.code.closed a.1).1;
      pairs = subst (ArePairs s.desk.heap) (sym c.deref-in-Some.ensures.value) c.requires.may.acting.store.pairs;
    }

pub returns-in-Some : goal.returns-in-Some
returns-in-Some c =
    let core = core_in c.args.code.now in
    let s = c.args.store.now in
    let chan = plain_val c.args.chan.now in
    let message = plain_val c.args.message.now in
    let a = c.requires.acts in
    let pairs = subst (ArePairs s.desk.heap) (sym c.deref.ensures.value) c.requires.may.acting.store.pairs in
    let named = subst (λ values. c.primitive_of_operand.result ≡ primitive_named (operand_in s.desk.heap values chan)) c.deref.ensures.value (c.primitive_of_operand.ensures s.desk.heap pairs) in
    ap not (c.takes_operand.ensures ∙ ap (λ values. is_effect (effect_of c.in-Some.p (operand_in s.desk.heap values message))) c.deref-in-Some.ensures.value)
    ∙ sym (called_wrong core s c.requires.may (operand_in s.desk.heap s.desk.values.items chan) (operand_in s.desk.heap s.desk.values.items message) a.0 (output_is core s c.requires.may c.requires.code.closed chan message a.0 a.1) c.in-Some.p (sym c.in-Some.is ∙ named))

pub returns-in-None : goal.returns-in-None
returns-in-None c =
    let core = core_in c.args.code.now in
    let s = c.args.store.now in
    let chan = plain_val c.args.chan.now in
    let message = plain_val c.args.message.now in
    let a = c.requires.acts in
    let pairs = subst (ArePairs s.desk.heap) (sym c.deref.ensures.value) c.requires.may.acting.store.pairs in
    let named = subst (λ values. c.primitive_of_operand.result ≡ primitive_named (operand_in s.desk.heap values chan)) c.deref.ensures.value (c.primitive_of_operand.ensures s.desk.heap pairs) in
    sym (sent_nowhere core s c.requires.may (operand_in s.desk.heap s.desk.values.items chan) (operand_in s.desk.heap s.desk.values.items message) a.0 (output_is core s c.requires.may c.requires.code.closed chan message a.0 a.1) c.requires.elsewhere (sym c.in-None.is ∙ named))
