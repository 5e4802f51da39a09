-- A type binder of a pattern is numbered, and bound behind its bound.
use Rattle.std.proofs.Common.{rules, ◌≡◌, None}
use Rattle.pict_binders.specs.Numbered.{nearest}
use Rattle.pict_scope.specs.Layers.{here}
use Rattle.pict_scope.specs.Held.{in_held}
use Rattle.pict_scope.proofs.Reading.{pattern_type_read}
use Rattle.pict_scope.proofs.patterns.read_pattern_binder.Goals as goal

pub returns : goal.returns
returns c =
    let b = c.args.b.now in
    let new : None ≡ nearest (here c.args.r.now.pattern_types) b.id.name.0 = search rules in
    pattern_type_read b.id (in_held b.bound) c.in_ok-number.number c.args.r.now c.number_type.new.self c.read_held.new.r c.bind_pattern_type.new.self new c.in_ok-number.ensures.number c.in_ok-number.ensures.moves c.in_ok-read_held.ensures c.in_ok-bind_pattern_type.ensures
