use Rattle.std.proofs.Common.{ap, arith}
use Rattle.pict_core.specs.Closed.{binds}
use Rattle.pict_exec.proofs.Rooms.{pattern_fields_are}
use Rattle.pict_exec.proofs.room.+variables.Goals as goal

pub variables-returns-in-Fields : goal.variables-returns-in-Fields
variables-returns-in-Fields t c =
    let is = pattern_fields_are c.args.pattern.now c.in-Fields.positional c.in-Fields.labelled c.deref.result.now c.deref-in-Fields.result.now c.in-Fields.is c.deref.ensures.value c.deref-in-Fields.ensures.value in
    let e = ap binds is in
    omega (arith, e, c.variables_in.ensures, c.variables_in_fields.ensures, c.saturating_add.ensures)
