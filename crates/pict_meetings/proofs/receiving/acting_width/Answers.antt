use Rattle.std.proofs.Common.{sym, ◌∙◌}
use Rattle.pict_desk.specs.Code.{core_in}
use Rattle.pict_desk.proofs.Numbered.{in_code, coded_frame}
use Rattle.pict_turns.proofs.Turns.{nobody_acts}
use Rattle.pict_turns.proofs.Given.{node_low, number_wide}
use Rattle.pict_meetings.proofs.receiving.acting_width.Goals as goal

pub unreachable-requires : goal.unreachable-requires
unreachable-requires c = nobody_acts (core_in c.args.code.now) c.args.store.now c.requires.acting (sym c.get.ensures ∙ c.in-Nobody.is)

pub frame_at-requires : goal.frame_at-requires
frame_at-requires c = in_code c.args.code.now c.requires.code c.in-Node.number (node_low (core_in c.args.code.now) c.args.store.now c.requires.acting c.in-Node.number (rw c.get.ensures at c.in-Node.is))

pub returns-in-Node : goal.returns-in-Node
returns-in-Node c =
    let code = c.args.code.now in
    number_wide (core_in code) c.args.store.now c.requires.acting c.in-Node.number (rw c.get.ensures at c.in-Node.is) c.frame_at.result.now (coded_frame code c.requires.code c.in-Node.number c.frame_at.result.now c.frame_at.ensures)
    ∙ sym c.block_width.ensures.value
