use Rattle.std.proofs.Common.{◌≡◌, sym, ap, ◌∙◌}
use Rattle.pict_desk.specs.Known.{value_in}
use Rattle.pict_desk.specs.declared.kept.Kept.{Kept}
use Rattle.pict_desk.specs.AtHand.{channel_named}
use Rattle.pict_desk.specs.Code.{core_in}
use Rattle.pict_turns.proofs.Outputs.{named_channel, kept_to}
use Rattle.pict_meetings.proofs.KeptOutputs.{kept_send, sends_kept}
use Rattle.pict_acting.proofs.outputs.output_kept.Goals as goal

pub channel_of-requires : goal.channel_of-requires
channel_of-requires c = (c.args.store.now.desk.heap, kept_to (core_in c.args.code.now) c.args.store.now c.requires.may.acting c.args.kept c.requires.kept)

pub send_kept-requires-clause-kept : goal.send_kept-requires-clause-kept
send_kept-requires-clause-kept c =
    let core = core_in c.args.code.now in
    let s = c.args.store.now in
    let to = c.channel_of.ensures s.desk.heap (kept_to core s c.requires.may.acting c.args.kept c.requires.kept) in
    sends_kept core s c.requires.may.acting c.args.kept c.requires.kept c.in-Some.channel
    (named_channel (value_in s.desk.heap c.args.kept.to.0 c.args.kept.to.1) c.in-Some.channel (sym c.in-Some.is ∙ to))

pub send_kept-requires-clause-sends : goal.send_kept-requires-clause-sends
send_kept-requires-clause-sends c =
    let core = core_in c.args.code.now in
    let s = c.args.store.now in
    let to = c.channel_of.ensures s.desk.heap (kept_to core s c.requires.may.acting c.args.kept c.requires.kept) in (
      c.args.kept.at,
      kept_send core s c.requires.may.acting c.args.kept c.requires.kept c.in-Some.channel
          (named_channel (value_in s.desk.heap c.args.kept.to.0 c.args.kept.to.1) c.in-Some.channel (sym c.in-Some.is ∙ to)),
    )

pub call_of_turn-requires-clause-elsewhere : goal.call_of_turn-requires-clause-elsewhere
call_of_turn-requires-clause-elsewhere c k is =
    let core = core_in c.args.code.now in
    let s = c.args.store.now in
    let to = c.channel_of.ensures s.desk.heap (kept_to core s c.requires.may.acting c.args.kept c.requires.kept) in
    let has = c.requires.kept in
    let same : k ≡ c.args.kept = cc (has, is) in
    ap (λ (k : Kept). channel_named (value_in s.desk.heap k.to.0 k.to.1)) same ∙ sym to ∙ c.in-None.is
