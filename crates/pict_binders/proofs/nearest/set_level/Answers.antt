-- The map has one name more, or another level for it.
use Rattle.std.proofs.Common.{Some}
use Rattle.pict_binders.proofs.Binding.{sets_level}
use Rattle.pict_binders.proofs.nearest.set_level.Goals as goal

pub returns-clause-set : goal.returns-clause-set
returns-clause-set c = sets_level c.args.levels.now c.insert.new.self c.args.name (Some c.args.level) c.in_ok-insert.ensures.updates.0
