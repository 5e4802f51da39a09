-- The parameters end with the body.
use Rattle.pict_scope.proofs.Reading.{then_read, closed_read}
use Rattle.pict_scope.proofs.values.read_operator.Goals as goal

pub returns : goal.returns
returns c =
    closed_read _ c.place-outer.result c.args.r.now c.read_type.new.r c.go_back.new.r c.place-outer.ensures
    (then_read _ _ c.args.r.now c.read_parameters.new.r c.read_type.new.r c.in_ok-read_parameters.ensures c.in_ok-read_type.ensures) c.go_back.ensures
