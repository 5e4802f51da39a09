-- The last frame is that of the innermost application.
use Rattle.std.proofs.Common.{◌≡◌, IfOk, subst}
use Rattle.pict_types.specs.Plain.{plain}
use Rattle.pict_infer.specs.Environments.{environment_of}
use Rattle.pict_lines.specs.Chains.{room_stop, wanted_at}
use Rattle.pict_lines.specs.Operators.{found_by, operator_of, type_if}
use Rattle.pict_lines.proofs.NestedSteps.{frame_found, frame_room, frame_wanted, memory_alone, some_there}
use Rattle.pict_lines.proofs.nested.wanted_around.Goals as goal

pub field_wanted-requires-clause-found : goal.field_wanted-requires-clause-found
field_wanted-requires-clause-found c =
    frame_found (environment_of c.args.env.now) c.args.o.now (operator_of c.args.o.now).binders c.args.frames.now c.index-frames-frames.result (some_there _ c.is_empty.result c.is_empty.ensures c.if-is_empty.false) c.index-frames-frames.is c.requires.found

pub returns-clause-wanted : goal.returns-clause-wanted
returns-clause-wanted c =
    subst (λ z. IfOk c.field_wanted.result (λ w. type_if w ≡ z)) (frame_wanted c.args.o.now (plain c.args.t.now) (type_if c.args.expected.now) c.args.frames.now c.index-frames-frames.result (some_there _ c.is_empty.result c.is_empty.ensures c.if-is_empty.false) c.index-frames-frames.is) c.field_wanted.ensures.wanted

pub returns-clause-memory : goal.returns-clause-memory
returns-clause-memory c =
    memory_alone (room_stop (environment_of c.args.env.now) c.args.o.now.span (wanted_at (plain c.args.t.now) (found_by c.args.o.now c.index-frames-frames.result))) c.field_wanted.result
    (frame_room (environment_of c.args.env.now) c.args.o.now.span c.args.o.now (plain c.args.t.now) c.args.frames.now c.index-frames-frames.result (some_there _ c.is_empty.result c.is_empty.ensures c.if-is_empty.false) c.index-frames-frames.is c.requires.room) c.field_wanted.ensures.refused
