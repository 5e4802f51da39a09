-- One label isn't written, one more is, and all are.
use Rattle.std.proofs.Common.{◌∙◌, sym}
use Rattle.pict_syntax.specs.PlainTrees.{labelled_vals_on}
use Rattle.pict_syntax.specs.Trees.{no_labelled_vals}
use Rattle.pict_lines.proofs.Labels.{all_have, one_lacks, written_more}
use Rattle.pict_lines.proofs.counts.all_written.Goals as goal

pub returns-then-not-contains : goal.returns-then-not-contains
returns-then-not-contains c =
    one_lacks c.args.fields.now c.loop-label.label-index c.loop-label-item.result (labelled_vals_on no_labelled_vals c.args.ls.now) c.loop-label-test.true c.loop-label-item.is
    (sym (c.in_ok-written.ensures c.loop-label-item.result.0.0) ∙ sym c.contains.ensures ∙ c.if-not-contains.true)

pub loop-label-preserved : goal.loop-label-preserved
loop-label-preserved c =
    written_more c.args.fields.now c.loop-label.label-index c.loop-label-item.result (labelled_vals_on no_labelled_vals c.args.ls.now) c.loop-label-test.true c.loop-label-item.is
    (sym (c.in_ok-written.ensures c.loop-label-item.result.0.0) ∙ sym c.contains.ensures ∙ c.if-not-contains.false) c.loop-label.invariant

pub returns : goal.returns
returns c = all_have c.args.fields.now c.loop-label.label-index (labelled_vals_on no_labelled_vals c.args.ls.now) c.loop-label-test.false c.loop-label.invariant
