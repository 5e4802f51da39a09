use Rattle.pict_machine.proofs.Codes.{codes_of_closed}
use Rattle.pict_machine.proofs.laws.law_closed_processes_have_codes.Goals as goal

pub returns : goal.returns
returns c = codes_of_closed
