use Rattle.std.proofs.Common.{◌≡◌, ap, ◌∙◌, Err}
use Rattle.pict_outside.proofs.Gaining.{keeps_same}
use Rattle.pict_core.specs.Plain.{plain_core}
use Rattle.pict_machine.specs.declared.event.RunError.TheVariants as broken
use Rattle.pict_words.specs.declared.words.TheConstants.{DEFAULT_FUEL}
use Rattle.pict_top.specs.Answer.{summed_up}
use Rattle.pict_top.specs.Changes.{change_of, GainedFront, FailedWithin}
use Rattle.pict_top.proofs.Running.{some_run}
use Rattle.pict_top.proofs.Counting.{sums_up, some_summed}
use Rattle.pict_top.proofs.work.sum_up.Goals as goal

pub returns-in-Err-clause-memory : goal.returns-in-Err-clause-memory
returns-in-Err-clause-memory g c is =
    some_run (plain_core c.args.core) DEFAULT_FUEL (summed_up c.args.n) (change_of g.O.Sink.taken g.O.Sink.faults c.args.out.now c.args.out.now) c.requires.right (keeps_same _)

pub returns-in-Ok-write_summary-clause-done : goal.returns-in-Ok-write_summary-clause-done
returns-in-Ok-write_summary-clause-done g c = record {
  bytes = _;
  does = sums_up c.args.n c.args.text (plain_core c.args.core) DEFAULT_FUEL c.requires.text c.in-Ok.tally c.in-Ok.ensures;
  written = c.in-Ok-write_summary.ensures.all;
}

pub returns-in-Err-write_summary-clause-sink : goal.returns-in-Err-write_summary-clause-sink
returns-in-Err-write_summary-clause-sink g c is =
    let same : c.in-Err-write_summary.error ≡ broken.Sink = cc in
    some_summed c.args.n c.args.text (plain_core c.args.core) DEFAULT_FUEL c.requires.text c.in-Ok.tally c.in-Ok.ensures (FailedWithin (change_of g.O.Sink.taken g.O.Sink.faults c.args.out.now c.write_summary.new.out))
    (record { part = c.in-Err-write_summary.ensures.part; failed = c.write_summary.ensures.sink (c.in-Err-write_summary.is ∙ ap Err same) })

pub returns-in-Err-write_summary-clause-memory : goal.returns-in-Err-write_summary-clause-memory
returns-in-Err-write_summary-clause-memory g c is =
    some_summed c.args.n c.args.text (plain_core c.args.core) DEFAULT_FUEL c.requires.text c.in-Ok.tally c.in-Ok.ensures (GainedFront (change_of g.O.Sink.taken g.O.Sink.faults c.args.out.now c.write_summary.new.out))
    c.in-Err-write_summary.ensures.part
