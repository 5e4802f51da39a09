use Rattle.std.proofs.Common.{true, false, sym, ap, ◌∙◌, subst}
use Rattle.pict_core.specs.Plain.{plain_val}
use Rattle.pict_code.specs.Plain.{plain_op, plain_pat}
use Rattle.pict_turns.proofs.Numbered.{operands_over}
use Rattle.pict_desk.specs.Code.{core_in}
use Rattle.pict_turns.specs.Acting.{ActsBy}
use Rattle.pict_meetings.proofs.AtChannels.{input_over}
use Rattle.pict_sites.proofs.Shapes.{out_at, in_at, nowhere_at, nowhere_op}
use Rattle.pict_sites.proofs.standing.channel_of_op.Goals as goal

pub channel_of_operand-requires-clause-over : goal.channel_of_operand-requires-clause-over
channel_of_operand-requires-clause-over c =
    let core = core_in c.args.code.now in
    let a = subst (ActsBy core c.args.store.now) (ap plain_op c.in-Out.is) c.requires.acts in
    (operands_over core c.args.store.now (plain_val c.in-Out.chan) (plain_val c.in-Out.field-1) c.in-Out.field-2 c.requires.code.closed a).0

pub channel_of_operand-requires-in-In-clause-over : goal.channel_of_operand-requires-in-In-clause-over
channel_of_operand-requires-in-In-clause-over c =
    let core = core_in c.args.code.now in
    let a = subst (ActsBy core c.args.store.now) (ap plain_op c.in-In.is) c.requires.acts in
    input_over core c.args.store.now c.requires.code.closed false (plain_val c.in-In.chan) (plain_pat c.in-In.field-1) c.in-In.field-2 a

pub channel_of_operand-requires-in-Serve-clause-over : goal.channel_of_operand-requires-in-Serve-clause-over
channel_of_operand-requires-in-Serve-clause-over c =
    let core = core_in c.args.code.now in
    let a = subst (ActsBy core c.args.store.now) (ap plain_op c.in-Serve.is) c.requires.acts in
    input_over core c.args.store.now c.requires.code.closed true (plain_val c.in-Serve.chan) (plain_pat c.in-Serve.field-1) c.in-Serve.field-2 a

pub returns-in-Out : goal.returns-in-Out
returns-in-Out c =
    let core = core_in c.args.code.now in
    let a = subst (ActsBy core c.args.store.now) (ap plain_op c.in-Out.is) c.requires.acts in
    c.channel_of_operand.ensures ∙ sym (out_at core c.args.store.now c.requires.code.closed (plain_val c.in-Out.chan) (plain_val c.in-Out.field-1) c.in-Out.field-2 a)

pub returns-in-In : goal.returns-in-In
returns-in-In c =
    let core = core_in c.args.code.now in
    let a = subst (ActsBy core c.args.store.now) (ap plain_op c.in-In.is) c.requires.acts in
    c.channel_of_operand-in-In.ensures ∙ sym (in_at core c.args.store.now c.requires.code.closed false (plain_val c.in-In.chan) (plain_pat c.in-In.field-1) c.in-In.field-2 a)

pub returns-in-Serve : goal.returns-in-Serve
returns-in-Serve c =
    let core = core_in c.args.code.now in
    let a = subst (ActsBy core c.args.store.now) (ap plain_op c.in-Serve.is) c.requires.acts in
    c.channel_of_operand-in-Serve.ensures ∙ sym (in_at core c.args.store.now c.requires.code.closed true (plain_val c.in-Serve.chan) (plain_pat c.in-Serve.field-1) c.in-Serve.field-2 a)

pub returns-in_default : goal.returns-in_default
returns-in_default c =
    sym (nowhere_at (core_in c.args.code.now) c.args.store.now (plain_op c.args.op.now) c.requires.acts (nowhere_op c.args.op.now c.in_default.not-Out c.in_default.not-In c.in_default.not-Serve))
