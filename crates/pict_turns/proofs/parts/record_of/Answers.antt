-- The record is that of who has the turn.
use Rattle.std.proofs.Common.{◌≡◌, List, ℕ, sym, ◌∙◌, subst}
use Rattle.std.proofs.lemmas.Slice.Eq.{bytes_eq-Decides}
use Rattle.pict_desk.specs.Code.{core_in}
use Rattle.pict_desk.proofs.Numbered.{coded_frame, in_code}
use Rattle.pict_turns.specs.Parts.{HasRecord}
use Rattle.pict_turns.specs.Turns.{IsTurn}
use Rattle.pict_turns.proofs.Handing.{turn_record, wide_within}
use Rattle.pict_turns.proofs.parts.record_of.Goals as goal

pub frame_at-requires : goal.frame_at-requires
frame_at-requires c =
    let core = core_in c.args.code.now in
    let d = c.args.store.now.desk in
    in_code c.args.code.now c.requires.code c.in-Wide.number (wide_within core c.args.store.now c.in-Wide.number c.in-Wide.pair (subst (IsTurn core d.heap d.values.items) (sym c.get.ensures ∙ c.in-Wide.is) c.requires.turn))

pub returns-then-eq : goal.returns-then-eq
returns-then-eq c =
    let core = core_in c.args.code.now in
    let s = c.args.store.now in
    let w = subst (IsTurn core s.desk.heap s.desk.values.items) (sym c.get.ensures ∙ c.in-Wide.is) c.requires.turn in
    let f = coded_frame c.args.code.now c.requires.code c.in-Wide.number c.frame_at.result.now c.frame_at.ensures in
    let same : c.frame_at.result.now ≡ c.args.frame.now = (bytes_eq-Decides c.frame_at.result.now c.args.frame.now).0 (sym c.eq.ensures ∙ c.if-eq.true) in
    subst (λ (ls : List ℕ). HasRecord s ls c.in-Wide.pair) same (turn_record core s c.in-Wide.number c.in-Wide.pair c.frame_at.result.now w f)
