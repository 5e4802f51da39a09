use Rattle.std.proofs.Common.{◌++◌, ap, sym, ◌∙◌}
use Rattle.pict_reference.specs.Plain.{plain_entry}
use Rattle.pict_waits.specs.Waiting.{waiting_by}
use Rattle.pict_waits.proofs.Waits.{next_waits}
use Rattle.pict_waits.proofs.waiting.waits_among.Goals as goal

pub loop-entry-preserved : goal.loop-entry-preserved
loop-entry-preserved c =
    let e = c.entry-item.result in
    c.in_ok-add.ensures ∙ ap (λ ws. ws ++ waiting_by (plain_entry e)) c.loop-entry.invariant
    ∙ sym (next_waits c.args.entries.now c.loop-entry.entry-index e c.loop-entry-test.true c.entry-item.is)
