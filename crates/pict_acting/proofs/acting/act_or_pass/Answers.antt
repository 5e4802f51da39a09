use Rattle.std.proofs.Common.{subst, get_or, map, None, arith, sym, ◌∙◌}
use Rattle.std.proofs.lemmas.List.{length-map}
use Rattle.pict_code.specs.Instruction.{Op}
use Rattle.pict_code.specs.Plain.{plain_node}
use Rattle.pict_desk.specs.Code.{core_in}
use Rattle.pict_desk.proofs.Numbered.{in_code, coded_at}
use Rattle.pict_turns.proofs.Turns.{nobody_acts}
use Rattle.pict_desk.specs.Constants.{IsConstantFor}
use Rattle.pict_desk.proofs.MadeOnce.{as_many, constant_at}
use Rattle.pict_turns.proofs.Passing.{op_read}
use Rattle.pict_turns.proofs.Given.{node_low, number_acts}
use Rattle.pict_turns.proofs.Working.{frame_there}
use Rattle.pict_meetings.proofs.PassedOver.{steps_or_passes}
use Rattle.pict_acting.proofs.acting.act_or_pass.Goals as goal

pub unreachable-requires : goal.unreachable-requires
unreachable-requires g c = nobody_acts (core_in c.args.code.now) c.args.store.now c.requires.may.acting (sym c.get.ensures ∙ c.in-Nobody.is)

pub bounds-code-number : goal.bounds-code-number
bounds-code-number g c = in_code c.args.code.now c.requires.may.code_is c.in-Node.number (node_low (core_in c.args.code.now) c.args.store.now c.requires.may.acting c.in-Node.number (rw c.get.ensures at c.in-Node.is))

pub bounds-constants-number : goal.bounds-constants-number
bounds-constants-number g c =
    let code = c.args.code.now in
    let low = in_code code c.requires.may.code_is c.in-Node.number (node_low (core_in code) c.args.store.now c.requires.may.acting c.in-Node.number (rw c.get.ensures at c.in-Node.is)) in
    let same = as_many c.args.store.now.desk.heap (map plain_node code) c.args.constants.now c.requires.constants in
    omega (arith, low, same, length-map code plain_node)

pub act_by-requires-clause-acts : goal.act_by-requires-clause-acts
act_by-requires-clause-acts g c =
    let code = c.args.code.now in
    let low = in_code code c.requires.may.code_is c.in-Node.number (node_low (core_in code) c.args.store.now c.requires.may.acting c.in-Node.number (rw c.get.ensures at c.in-Node.is)) in
    let x = frame_there code c.in-Node.number low in
    number_acts (core_in code) c.args.store.now c.requires.may.acting c.in-Node.number (rw c.get.ensures at c.in-Node.is) x.1.node _ (coded_at code c.requires.may.code_is c.in-Node.number x.0 x.1)
    (op_read code c.in-Node.number c.index-code-number.result x.1.node x.1.at c.index-code-number.is)

pub act_by-requires-clause-constant : goal.act_by-requires-clause-constant
act_by-requires-clause-constant g c =
    let code = c.args.code.now in
    let low = in_code code c.requires.may.code_is c.in-Node.number (node_low (core_in code) c.args.store.now c.requires.may.acting c.in-Node.number (rw c.get.ensures at c.in-Node.is)) in
    let x = frame_there code c.in-Node.number low in
    subst (λ (o : Op). IsConstantFor c.args.store.now.desk.heap o (get_or c.args.constants.now c.in-Node.number None)) (op_read code c.in-Node.number c.index-code-number.result x.1.node x.1.at c.index-code-number.is)
    (constant_at c.args.store.now.desk.heap (map plain_node code) c.args.constants.now c.in-Node.number x.1.node None c.requires.constants x.1.at)

pub returns-in-Output : goal.returns-in-Output
returns-in-Output g c = record { steps = steps_or_passes _ _ _ _ _ c.output_kept.ensures.steps }
