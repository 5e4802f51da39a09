use Rattle.std.proofs.Common.{ℕ, map, sym, subst}
use Rattle.pict_code.specs.Plain.{plain_node, plain_pat}
use Rattle.pict_desk.specs.Code.{HasFrame}
use Rattle.pict_meetings.proofs.Ops.{same_input, input_waits_first}
use Rattle.pict_turns.specs.Growing.{AddsAtMost, part_need}
use Rattle.pict_meetings.proofs.meeting.meet_reader.Goals as goal

pub input_at-part-requires-clause-inside : goal.input_at-part-requires-clause-inside
input_at-part-requires-clause-inside c =
    (input_waits_first c.args.code.now c.args.store.now c.args.channel c.args.reader c.requires.code c.requires.sends.1.acting.store c.requires.first).low

pub input_at-part-requires-clause-input : goal.input_at-part-requires-clause-input
input_at-part-requires-clause-input c =
    let w = input_waits_first c.args.code.now c.args.store.now c.args.channel c.args.reader c.requires.code c.requires.sends.1.acting.store c.requires.first in
    (w.replicated, w.pattern, w.part, w.input)

pub serve-requires-clause-can : goal.serve-requires-clause-can
serve-requires-clause-can c = λ frame f.
    let i = c.input_at-part.result in
    c.requires.can i.2 (plain_pat i.0.now) i.1 frame c.input_at-part.ensures f

pub serve-requires-clause-takes : goal.serve-requires-clause-takes
serve-requires-clause-takes c =
    let i = c.input_at-part.result in
    c.requires.takes i.2 (plain_pat i.0.now) i.1 c.input_at-part.ensures

pub returns-clause-turn : goal.returns-clause-turn
returns-clause-turn c = λ replicated pattern part frame i g.
    let own = c.input_at-part.result in
    let same = same_input (map plain_node c.args.code.now) c.args.reader replicated own.2 pattern (plain_pat own.0.now) part own.1 i c.input_at-part.ensures in
    c.serve.ensures.turn frame (subst (λ (l : ℕ). HasFrame (map plain_node c.args.code.now) l frame) same.1 g)

pub returns-clause-cost : goal.returns-clause-cost
returns-clause-cost c = λ replicated pattern part own_frame frame i f g.
    let own = c.input_at-part.result in
    let same = same_input (map plain_node c.args.code.now) c.args.reader replicated own.2 pattern (plain_pat own.0.now) part own.1 i c.input_at-part.ensures in
    c.serve.ensures.cost own_frame frame f (subst (λ (l : ℕ). HasFrame (map plain_node c.args.code.now) l frame) same.1 g)

pub returns-clause-adds : goal.returns-clause-adds
returns-clause-adds c = λ replicated pattern part i.
    let own = c.input_at-part.result in
    let same = same_input (map plain_node c.args.code.now) c.args.reader replicated own.2 pattern (plain_pat own.0.now) part own.1 i c.input_at-part.ensures in
    subst (λ (l : ℕ). AddsAtMost c.args.store.now c.serve.new.store (part_need (map plain_node c.args.code.now) l)) (sym same.1) c.serve.ensures.adds
