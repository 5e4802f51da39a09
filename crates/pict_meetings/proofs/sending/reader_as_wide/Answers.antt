use Rattle.std.proofs.Common.{◌≡◌, map, ap, ◌∙◌, arith}
use Rattle.std.proofs.lemmas.Bool.Decides.{nat_tests}
use Rattle.pict_code.specs.Plain.{plain_node, plain_pat}
use Rattle.pict_meetings.proofs.Ops.{is_in_op}
use Rattle.pict_blocks.specs.Parts.{block_width}
use Rattle.pict_desk.proofs.Numbered.{same_frame}
use Rattle.pict_meetings.proofs.Passing.{no_plain_input}
use Rattle.pict_meetings.proofs.sending.reader_as_wide.Goals as goal

pub returns-in-In : goal.returns-in-In
returns-in-In c = (
  λ yes. record {
    pattern = plain_pat c.in-In.field-1;
    part = c.in-In.field-2;
    input = is_in_op c.args.code.now c.args.reader c.index-code-reader.result c.requires.low c.index-code-reader.is c.in-In.field-0 c.in-In.field-1 c.in-In.field-2 c.in-In.is;
    own = c.frame_at.result.now;
    has = c.frame_at.ensures;
    wide = let one = c.block_width.ensures.value in let other = c.block_width-in-In.ensures.value in grind (arith, nat_tests);
  },
  λ e.
      let one = c.block_width.ensures.value in
      let other = c.block_width-in-In.ensures.value in
      let same : block_width c.frame_at.result.now ≡ block_width c.args.frame.now = ap block_width (same_frame (map plain_node c.args.code.now) c.args.reader c.frame_at.result.now e.own c.frame_at.ensures e.has) ∙ e.wide in
      grind (arith, nat_tests),
)

pub returns-in_default : goal.returns-in_default
returns-in_default c = (
  λ yes. cc,
  λ e. absurd (no_plain_input c.args.code.now c.args.reader c.index-code-reader.result c.index-code-reader.is e.pattern e.part e.input c.in_default.not-In),
)
