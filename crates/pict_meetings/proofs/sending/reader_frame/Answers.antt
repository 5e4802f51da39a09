use Rattle.std.proofs.Common.{map, sym, subst}
use Rattle.pict_code.specs.Plain.{plain_node}
use Rattle.pict_desk.specs.Code.{HasFrame}
use Rattle.pict_desk.proofs.Numbered.{same_frame}
use Rattle.pict_meetings.specs.Serving.{IsInputWith}
use Rattle.pict_meetings.proofs.Serving.{part_low}
use Rattle.pict_meetings.proofs.sending.reader_frame.Goals as goal

pub frame_at-requires : goal.frame_at-requires
frame_at-requires c =
    let i = c.requires.input in
    part_low c.args.code.now c.requires.code c.args.reader i.0 i.1 c.part_of-part.result (subst (IsInputWith (map plain_node c.args.code.now) c.args.reader i.0 i.1) (sym (c.part_of-part.ensures i.0 i.1 i.2 i.3)) i.3)

pub returns : goal.returns
returns c replicated pattern part frame i f =
    same_frame (map plain_node c.args.code.now) part c.frame_at.result.now frame
    (subst (λ n. HasFrame (map plain_node c.args.code.now) n c.frame_at.result.now) (c.part_of-part.ensures replicated pattern part i) c.frame_at.ensures) f
