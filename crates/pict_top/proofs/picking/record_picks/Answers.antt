use Rattle.std.proofs.Common.{◌≤◌, ◌∙◌, arith}
use Rattle.std.proofs.lemmas.Result.{IfOk-weaker}
use Rattle.pict_core.specs.Plain.{plain_core}
use Rattle.pict_top.specs.Changes.{change_of}
use Rattle.pict_top.specs.Notes.{notes_in}
use Rattle.pict_top.specs.Picking.{PicksAndShows, recorded}
use Rattle.pict_top.specs.Printed.{Finished}
use Rattle.pict_top.specs.declared.form.Form.TheVariants.{Line}
use Rattle.pict_top.specs.declared.notes.Note.TheVariants.{Shown}
use Rattle.pict_top.proofs.Recording.{choices_part, choices_failed, between, trace_part, trace_all, part_of, failed_within, rose_since}
use Rattle.pict_top.proofs.picking.record_picks.Goals as goal

pub returns-in-Err-clause-memory : goal.returns-in-Err-clause-memory
returns-in-Err-clause-memory g c is =
    choices_part (plain_core c.args.core.now) c.args.seed c.args.fuel c.args.names.now (change_of g.O.Sink.taken g.O.Sink.faults c.args.out.now c.run_picked.new.out) (c.run_picked.ensures.memory (c.in-Err.is ∙ is))

pub returns-in-Err-clause-sink : goal.returns-in-Err-clause-sink
returns-in-Err-clause-sink g c is =
    choices_failed (plain_core c.args.core.now) c.args.seed c.args.fuel c.args.names.now (change_of g.O.Sink.taken g.O.Sink.faults c.args.out.now c.run_picked.new.out) (c.run_picked.ensures.sink (c.in-Err.is ∙ is))

pub returns-in-Err-write_some-clause-memory : goal.returns-in-Err-write_some-clause-memory
returns-in-Err-write_some-clause-memory g c is =
    let first = c.in-Ok.ensures.ran in
    between (plain_core c.args.core.now) c.args.seed c.args.fuel c.args.names.now (change_of g.O.Sink.taken g.O.Sink.faults c.args.out.now c.write_some.new.out) (g.O.Sink.taken c.run_picked.new.out)
    c.in-Ok.field-0 first.bytes first.does first.written c.in-Err-write_some.ensures.part

pub returns-in-Err-write_some-clause-sink : goal.returns-in-Err-write_some-clause-sink
returns-in-Err-write_some-clause-sink g c is =
    let first = c.in-Ok.ensures.ran in
    let out = change_of g.O.Sink.taken g.O.Sink.faults c.args.out.now c.write_some.new.out in
    failed_within (PicksAndShows (plain_core c.args.core.now) c.args.seed c.args.fuel (recorded c.args.names.now)) out
    (rose_since _ (g.O.Sink.faults c.run_picked.new.out) _ c.run_picked.ensures.faults_stay c.in-Err-write_some.ensures.failed)
    (between (plain_core c.args.core.now) c.args.seed c.args.fuel c.args.names.now out (g.O.Sink.taken c.run_picked.new.out) c.in-Ok.field-0 first.bytes first.does first.written c.in-Err-write_some.ensures.part)

pub returns-clause-ran : goal.returns-clause-ran
returns-clause-ran g c =
    let p = plain_core c.args.core.now in
    let names = c.args.names.now in
    let first = c.in-Ok.ensures.ran in
    let out = change_of g.O.Sink.taken g.O.Sink.faults c.args.out.now c.run_picked-2.new.out in
    let later = change_of g.O.Sink.taken g.O.Sink.faults c.write_some.new.out c.run_picked-2.new.out in
    IfOk-weaker c.run_picked-2.result (λ end. Finished (PicksAndShows p c.args.seed c.args.fuel (notes_in (Shown Line) names)) end later) (λ end. Finished (PicksAndShows p c.args.seed c.args.fuel (recorded names)) end out)
    (λ end done. trace_all p c.args.seed c.args.fuel names out (g.O.Sink.taken c.run_picked.new.out) c.in-Ok.field-0 first.bytes first.does first.written (g.O.Sink.taken c.write_some.new.out)
    c.in-Ok-write_some.ensures.all end done.bytes done.does done.written) c.run_picked-2.ensures.ran

pub returns-clause-memory : goal.returns-clause-memory
returns-clause-memory g c is =
    let first = c.in-Ok.ensures.ran in
    trace_part (plain_core c.args.core.now) c.args.seed c.args.fuel c.args.names.now (change_of g.O.Sink.taken g.O.Sink.faults c.args.out.now c.run_picked-2.new.out) (g.O.Sink.taken c.run_picked.new.out)
    c.in-Ok.field-0 first.bytes first.does first.written (g.O.Sink.taken c.write_some.new.out) c.in-Ok-write_some.ensures.all (c.run_picked-2.ensures.memory is)

pub returns-clause-sink : goal.returns-clause-sink
returns-clause-sink g c is =
    let p = plain_core c.args.core.now in
    let names = c.args.names.now in
    let first = c.in-Ok.ensures.ran in
    let out = change_of g.O.Sink.taken g.O.Sink.faults c.args.out.now c.run_picked-2.new.out in
    let later = change_of g.O.Sink.taken g.O.Sink.faults c.write_some.new.out c.run_picked-2.new.out in
    let some = c.run_picked-2.ensures.sink is in
    let few : g.O.Sink.faults c.args.out.now ≤ g.O.Sink.faults c.write_some.new.out = omega (arith, c.run_picked.ensures.faults_stay, c.write_some.ensures.faults_stay) in
    failed_within (PicksAndShows p c.args.seed c.args.fuel (recorded names)) out (rose_since _ (g.O.Sink.faults c.write_some.new.out) _ few some.holds.failed)
    (trace_part p c.args.seed c.args.fuel names out (g.O.Sink.taken c.run_picked.new.out) c.in-Ok.field-0 first.bytes first.does first.written (g.O.Sink.taken c.write_some.new.out) c.in-Ok-write_some.ensures.all
    (part_of (PicksAndShows p c.args.seed c.args.fuel (notes_in (Shown Line) names)) later some))
