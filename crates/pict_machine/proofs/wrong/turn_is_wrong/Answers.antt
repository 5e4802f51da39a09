use Rattle.std.proofs.Common.{sym, ◌∙◌}
use Rattle.pict_desk.specs.Code.{core_in}
use Rattle.pict_desk.proofs.Numbered.{in_code, coded_at}
use Rattle.pict_turns.proofs.Turns.{nobody_acts}
use Rattle.pict_turns.proofs.Passing.{op_read}
use Rattle.pict_turns.proofs.Given.{node_low, number_acts}
use Rattle.pict_turns.proofs.Working.{frame_there}
use Rattle.pict_machine.proofs.wrong.turn_is_wrong.Goals as goal

pub unreachable-requires : goal.unreachable-requires
unreachable-requires c = nobody_acts (core_in c.args.code.now) c.args.store.now c.requires.may.acting (sym c.get.ensures ∙ c.in-Nobody.is)

pub bounds-code-number : goal.bounds-code-number
bounds-code-number c = in_code c.args.code.now c.requires.code c.in-Node.number (node_low (core_in c.args.code.now) c.args.store.now c.requires.may.acting c.in-Node.number (rw c.get.ensures at c.in-Node.is))

pub node_is_wrong-requires-clause-acts : goal.node_is_wrong-requires-clause-acts
node_is_wrong-requires-clause-acts c =
    let code = c.args.code.now in
    let low = in_code code c.requires.code c.in-Node.number (node_low (core_in code) c.args.store.now c.requires.may.acting c.in-Node.number (rw c.get.ensures at c.in-Node.is)) in
    let x = frame_there code c.in-Node.number low in
    number_acts (core_in code) c.args.store.now c.requires.may.acting c.in-Node.number (rw c.get.ensures at c.in-Node.is) x.1.node _ (coded_at code c.requires.code c.in-Node.number x.0 x.1)
    (op_read code c.in-Node.number c.index-code-number.result x.1.node x.1.at c.index-code-number.is)
