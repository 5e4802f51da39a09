use Rattle.std.proofs.Common.{◌≡◌, map, drop}
use Rattle.pict_core.specs.Plain.{plain_core}
use Rattle.pict_core.specs.Step.{is_partner, least}
use Rattle.pict_shared.specs.Plain.{plain_held}
use Rattle.pict_orders.proofs.settling.has_partner.Given as goal

abbrev pub invariant-loop-entry : goal.invariant-loop-entry
invariant-loop-entry l = least (is_partner (plain_core l.process)) (map plain_held l.entries) ≡ least (is_partner (plain_core l.process)) (map plain_held (drop l.entry-index l.entries))
