use Rattle.std.proofs.Common.{sym, ap, subst}
use Rattle.pict_code.specs.Plain.{plain_op}
use Rattle.pict_desk.specs.Code.{core_in}
use Rattle.pict_turns.specs.Acting.{ActsBy}
use Rattle.pict_machine.proofs.Asking.{zero_right, par_right, new_right}
use Rattle.pict_machine.proofs.wrong.node_is_wrong.Goals as goal

pub returns-in-Zero-clause-wrong : goal.returns-in-Zero-clause-wrong
returns-in-Zero-clause-wrong c = sym (zero_right (core_in c.args.code.now) c.args.store.now c.requires.may (subst (ActsBy (core_in c.args.code.now) c.args.store.now) (ap plain_op c.in-Zero.is) c.requires.acts))

pub returns-in-Par-clause-wrong : goal.returns-in-Par-clause-wrong
returns-in-Par-clause-wrong c = sym (par_right (core_in c.args.code.now) c.args.store.now c.requires.may _ _ (subst (ActsBy (core_in c.args.code.now) c.args.store.now) (ap plain_op c.in-Par.is) c.requires.acts))

pub returns-in-New-clause-wrong : goal.returns-in-New-clause-wrong
returns-in-New-clause-wrong c = sym (new_right (core_in c.args.code.now) c.args.store.now c.requires.may _ _ (subst (ActsBy (core_in c.args.code.now) c.args.store.now) (ap plain_op c.in-New.is) c.requires.acts))
