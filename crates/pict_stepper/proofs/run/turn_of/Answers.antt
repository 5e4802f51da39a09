use Rattle.std.proofs.Common.{map, option_map}
use Rattle.pict_reference.specs.Plain.{plain_entry}
use Rattle.pict_stepper.proofs.Turns.{acts_copied}
use Rattle.pict_stepper.proofs.run.turn_of.Goals as goal

pub returns-in_ok-copy_of-in-Some : goal.returns-in_ok-copy_of-in-Some
returns-in_ok-copy_of-in-Some c =
    acts_copied (map plain_entry c.args.entries.now) c.in-Some.actor.now c.in_ok-copy-in-Some.field-0 c.in_ok-copy_of-in-Some.field-0
    (option_map (λ e. plain_entry e.now) c.partner_of-partner.result) c.rule_of-rule.result c.in-Some.ensures c.in_ok-copy-in-Some.ensures
    c.partner_of-partner.ensures c.in_ok-copy_of-in-Some.ensures c.rule_of-rule.ensures
