-- The map has the level of before, which takes no room.
use Rattle.std.proofs.Common.{Some, None, sym, subst}
use Rattle.pict_binders.specs.Tables.{SetsLevel}
use Rattle.pict_binders.proofs.Binding.{has_no_level, sets_level}
use Rattle.pict_binders.proofs.nearest.restore_level.Goals as goal

pub returns-in-None : goal.returns-in-None
returns-in-None c =
    subst (SetsLevel c.args.levels.now c.remove.new.self c.args.name) (sym c.in-None.is) (sets_level c.args.levels.now c.remove.new.self c.args.name None c.remove.ensures.updates.0)

pub returns-in-Ok : goal.returns-in-Ok
returns-in-Ok c =
    subst (SetsLevel c.args.levels.now c.insert.new.self c.args.name) (sym c.in-Some.is) (sets_level c.args.levels.now c.insert.new.self c.args.name (Some c.in-Some.level) c.in-Ok.ensures.updates.0)

pub unreachable-requires : goal.unreachable-requires
unreachable-requires c = has_no_level c.in-Err.ensures.absent c.requires
