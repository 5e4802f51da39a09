-- A block with the record has four words.
use Rattle.std.proofs.Common.{◌≤◌, subst, arith}
use Rattle.std.specs.Prelude.{IfSome}
use Rattle.pict_region.specs.RegionState.{spare}
use Rattle.pict_turns.specs.Parts.{HasRecord}
use Rattle.pict_blocks.proofs.Costs.{costs_up}
use Rattle.pict_blocks.proofs.Holding.{width_wide}
use Rattle.pict_turns.proofs.parts.spawn_from.Goals as goal

pub spawn_record-requires-clause-block : goal.spawn_record-requires-clause-block
spawn_record-requires-clause-block c =
    subst (λ width. 1 ≤ spare c.args.store.now.queues.region width) (width_wide c.args.frame.now (subst (λ there. IfSome there (HasRecord c.args.store.now c.args.frame.now)) c.in-Some.is c.requires.there).wide) c.requires.can.block

pub returns-in-Some-clause-spawns : goal.returns-in-Some-clause-spawns
returns-in-Some-clause-spawns c = c.spawn_record.ensures.spawns c.args.frame.now (subst (λ there. IfSome there (HasRecord c.args.store.now c.args.frame.now)) c.in-Some.is c.requires.there)

pub returns-in-Some-clause-cost : goal.returns-in-Some-clause-cost
returns-in-Some-clause-cost c =
    let w = width_wide c.args.frame.now (subst (λ there. IfSome there (HasRecord c.args.store.now c.args.frame.now)) c.in-Some.is c.requires.there).wide in
    costs_up c.args.store.now.queues c.spawn_record.new.store.queues _ _ (omega (arith, w)) c.spawn_record.ensures.cost
