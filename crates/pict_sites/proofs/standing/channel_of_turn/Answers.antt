use Rattle.std.proofs.Common.{sym, ap, ◌∙◌}
use Rattle.pict_desk.specs.Code.{core_in}
use Rattle.pict_desk.proofs.Numbered.{in_code, coded_at}
use Rattle.pict_turns.proofs.Turns.{nobody_acts}
use Rattle.pict_turns.proofs.Outputs.{kept_to, kept_process}
use Rattle.pict_turns.proofs.Passing.{op_read}
use Rattle.pict_turns.proofs.Given.{node_low, number_acts}
use Rattle.pict_turns.proofs.Working.{frame_there}
use Rattle.pict_sites.specs.Standing.{channel_at}
use Rattle.pict_sites.proofs.standing.channel_of_turn.Goals as goal

pub unreachable-requires : goal.unreachable-requires
unreachable-requires c = nobody_acts (core_in c.args.code.now) c.args.store.now c.requires.acting (sym c.get.ensures ∙ c.in-Nobody.is)

pub bounds-code-number : goal.bounds-code-number
bounds-code-number c = in_code c.args.code.now c.requires.code c.in-Node.number (node_low (core_in c.args.code.now) c.args.store.now c.requires.acting c.in-Node.number (rw c.get.ensures at c.in-Node.is))

pub channel_of_op-requires-clause-acts : goal.channel_of_op-requires-clause-acts
channel_of_op-requires-clause-acts c =
    let code = c.args.code.now in
    let low = in_code code c.requires.code c.in-Node.number (node_low (core_in code) c.args.store.now c.requires.acting c.in-Node.number (rw c.get.ensures at c.in-Node.is)) in
    let x = frame_there code c.in-Node.number low in
    number_acts (core_in code) c.args.store.now c.requires.acting c.in-Node.number (rw c.get.ensures at c.in-Node.is) x.1.node _ (coded_at code c.requires.code c.in-Node.number x.0 x.1)
    (op_read code c.in-Node.number c.index-code-number.result x.1.node x.1.at c.index-code-number.is)

pub channel_of-requires : goal.channel_of-requires
channel_of-requires c = (c.args.store.now.desk.heap, kept_to (core_in c.args.code.now) c.args.store.now c.requires.acting c.in-Output.kept (sym c.get.ensures ∙ c.in-Output.is))

pub returns-in-Output : goal.returns-in-Output
returns-in-Output c =
    let core = core_in c.args.code.now in
    let s = c.args.store.now in
    c.channel_of.ensures s.desk.heap (kept_to core s c.requires.acting c.in-Output.kept (sym c.get.ensures ∙ c.in-Output.is))
    ∙ sym (ap channel_at (kept_process core s c.requires.acting c.in-Output.kept (sym c.get.ensures ∙ c.in-Output.is)))
