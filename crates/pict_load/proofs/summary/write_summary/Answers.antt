use Rattle.std.proofs.Common.{◌≡◌, ◌<◌, length, ap, subst, ◌∙◌, arith}
use Rattle.std.specs.List.{flat_map}
use Rattle.pict_outside.specs.Bytes.{AppendsFront}
use Rattle.pict_load.specs.Summary.{line_text}
use Rattle.pict_load.proofs.Lines.{wrote_first, wrote_part, on_err}
use Rattle.pict_load.proofs.Short.{eight_lines}
use Rattle.pict_load.proofs.summary.write_summary.Goals as goal

pub returns-in_err-line-clause-part : goal.returns-in_err-line-clause-part
returns-in_err-line-clause-part g c =
    on_err c.from_residual.result
    (subst (AppendsFront (g.O.Sink.taken c.args.out.now) (g.O.Sink.taken c.loop-line.out)) (ap (flat_map line_text) c.summary_lines-lines.ensures)
    (wrote_first line_text c.summary_lines-lines.result (g.O.Sink.taken c.args.out.now) (g.O.Sink.taken c.loop-line.out) c.loop-line.line-index c.loop-line.invariant.0))

pub returns-in_err-write-clause-part : goal.returns-in_err-write-clause-part
returns-in_err-write-clause-part g c =
    let lines = c.summary_lines-lines.result in
    let eight : length lines ≡ 8 = ap length c.summary_lines-lines.ensures ∙ eight_lines c.args.n c.args.text c.args.tally in
    let within : c.loop-line.line-index < length lines = omega (arith, c.loop-line-test.true, eight) in
    on_err c.from_residual-in_err-write.result
    (subst (AppendsFront (g.O.Sink.taken c.args.out.now) (g.O.Sink.taken c.write.new.self)) (ap (flat_map line_text) c.summary_lines-lines.ensures)
    (wrote_part line_text lines (g.O.Sink.taken c.args.out.now) (g.O.Sink.taken c.loop-line.out) (g.O.Sink.taken c.write.new.self) c.loop-line.line-index _ within c.loop-line.invariant.0
    (subst (AppendsFront (g.O.Sink.taken c.loop-line.out) (g.O.Sink.taken c.write.new.self)) (c.as_bytes.ensures.value ∙ c.in_ok-line.ensures) c.in_err-write.ensures.part)))
