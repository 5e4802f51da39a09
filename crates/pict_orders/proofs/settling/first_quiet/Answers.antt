use Rattle.std.proofs.Common.{map, subst}
use Rattle.pict_reduction.specs.Silent.{is_silent}
use Rattle.pict_shared.specs.Plain.{plain_held}
use Rattle.pict_orders.specs.Settling.{FirstReady}
use Rattle.pict_orders.proofs.Choosing.{silent_first, alone_first}
use Rattle.pict_orders.proofs.settling.first_quiet.Goals as goal

pub returns-in-Some : goal.returns-in-Some
returns-in-Some c = silent_first _ _ (subst (FirstReady (is_silent (map plain_held c.args.entries.now)) (map plain_held c.args.entries.now)) c.in-Some.is c.first_silent.ensures)

pub returns-in-None : goal.returns-in-None
returns-in-None c =
    alone_first (map plain_held c.args.entries.now) c.first_alone.result
    (subst (FirstReady (is_silent (map plain_held c.args.entries.now)) (map plain_held c.args.entries.now)) c.in-None.is c.first_silent.ensures) c.first_alone.ensures
