-- A type is numbered and bound.
use Rattle.pict_scope.specs.Outlines.{empty}
use Rattle.pict_scope.proofs.Reading.{empty_read, type_read}
use Rattle.pict_scope.proofs.reader.Reader.bind_type_here.Goals as goal

pub returns : goal.returns
returns c =
    let b = c.number_type.new.self in
    type_read c.args.id empty c.in_ok-number.number c.args.self.now b b c.bind_type.new.self c.in_ok-number.ensures.number c.in_ok-number.ensures.moves (empty_read b) c.in_ok-bind_type.ensures
