use Rattle.std.proofs.Common.{sym, ap, ◌∙◌, option_map}
use Rattle.pict_reference.specs.Plain.{plain_found}
use Rattle.pict_reference.proofs.Nexts.{next_found}
use Rattle.pict_reference.proofs.reference.Reference.next.Goals as goal

pub returns-in-Some : goal.returns-in-Some
returns-in-Some c = next_found _ _ _ _ _ (sym (ap (option_map plain_found) c.in-Some.is) ∙ c.in_ok-actor.ensures) c.act.ensures
