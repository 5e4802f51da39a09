use Rattle.std.proofs.Common.{map, ◌∙◌}
use Rattle.pict_core.specs.Plain.{plain_val}
use Rattle.pict_core.specs.Step.{is_parked_reader}
use Rattle.pict_reference.specs.Plain.{plain_entry}
use Rattle.pict_stepper.proofs.Turns.{least_elsewhere, least_there}
use Rattle.pict_stepper.proofs.run.reader_at.Goals as goal

pub returns-in-None : goal.returns-in-None
returns-in-None c = least_elsewhere is_parked_reader (plain_val c.args.chan.now) (map plain_entry c.args.entries.now) c.in-None.ensures

pub returns-in-Some : goal.returns-in-Some
returns-in-Some c = c.oldest_reader.ensures ∙ least_there is_parked_reader (plain_val c.args.chan.now) c.in-Some.number (map plain_entry c.args.entries.now) c.in-Some.ensures
