use Rattle.std.proofs.Common.{ap, subst}
use Rattle.pict_code.specs.Plain.{plain_op}
use Rattle.pict_desk.specs.Code.{core_in}
use Rattle.pict_turns.specs.Acting.{ActsBy}
use Rattle.pict_sites.proofs.Shapes.{plain_form, plain_op_of}
use Rattle.pict_sites.proofs.standing.form_of.Goals as goal

pub returns-in-Par : goal.returns-in-Par
returns-in-Par c = subst (ActsBy (core_in c.args.code.now) c.args.store.now) (ap plain_op c.in-Par.is) c.requires.acts

pub returns-in-New : goal.returns-in-New
returns-in-New c = (c.in-New.field-0, c.in-New.field-1, subst (ActsBy (core_in c.args.code.now) c.args.store.now) (ap plain_op c.in-New.is) c.requires.acts)

pub returns-in_default : goal.returns-in_default
returns-in_default c =
    plain_form (core_in c.args.code.now) c.args.store.now (plain_op c.args.op.now) c.requires.acts (plain_op_of c.args.op.now c.in_default.not-Par c.in_default.not-New)
