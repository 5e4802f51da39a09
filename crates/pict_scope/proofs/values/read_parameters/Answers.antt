-- The parameters are one group.
use Rattle.pict_scope.specs.Held.{each, in_parameter}
use Rattle.pict_scope.proofs.Reading.{group_read}
use Rattle.pict_scope.proofs.values.read_parameters.Goals as goal

pub returns : goal.returns
returns c =
    group_read (each in_parameter c.args.ids.now) c.open_group-outer.result c.args.r.now c.open_group-outer.new.r c.read_each_parameter.new.r c.close_group.new.r c.open_group-outer.ensures c.in_ok-read_each_parameter.ensures c.close_group.ensures
