use Rattle.std.proofs.Common.{◌≡◌, sym, subst, map, None}
use Rattle.pict_core.specs.Plain.{plain_core}
use Rattle.pict_core.specs.Step.{least, is_partner}
use Rattle.pict_reference.specs.Plain.{plain_entry}
use Rattle.pict_stepper.proofs.Turns.{least_of_none}
use Rattle.pict_stepper.proofs.run.partner_of.Goals as goal

pub returns-in-Zero : goal.returns-in-Zero
returns-in-Zero c = subst (λ q. None ≡ least (is_partner (plain_core q)) (map plain_entry c.args.entries.now)) (sym c.in-Zero.is) (sym (least_of_none (map plain_entry c.args.entries.now)))

pub returns-in-Par : goal.returns-in-Par
returns-in-Par c = subst (λ q. None ≡ least (is_partner (plain_core q)) (map plain_entry c.args.entries.now)) (sym c.in-Par.is) (sym (least_of_none (map plain_entry c.args.entries.now)))

pub returns-in-New : goal.returns-in-New
returns-in-New c = subst (λ q. None ≡ least (is_partner (plain_core q)) (map plain_entry c.args.entries.now)) (sym c.in-New.is) (sym (least_of_none (map plain_entry c.args.entries.now)))

pub returns-in-If : goal.returns-in-If
returns-in-If c = subst (λ q. None ≡ least (is_partner (plain_core q)) (map plain_entry c.args.entries.now)) (sym c.in-If.is) (sym (least_of_none (map plain_entry c.args.entries.now)))
