use Rattle.std.proofs.Common.{◌++◌, map, take, ap, sym, ◌∙◌, append_assoc}
use Rattle.pict_reference.specs.Plain.{plain_entry}
use Rattle.pict_stepper.specs.Lines.{come_line, come_lines}
use Rattle.pict_stepper.proofs.Writing.{next_come}
use Rattle.pict_stepper.proofs.line.write_entries.Goals as goal

pub loop-entry-preserved : goal.loop-entry-preserved
loop-entry-preserved c =
    let i = c.loop-entry.entry-index in
    let names = c.args.names.now in
    let sources = c.args.sources.now.list.items in
    let e = c.entry-item.result in
    let before = come_lines names sources (map plain_entry (take i c.args.entries.now)) in
    c.in_ok-write_entry.ensures ∙ ap (λ t. t ++ come_line names sources (plain_entry e)) c.loop-entry.invariant
    ∙ append_assoc c.args.out.now.items before (come_line names sources (plain_entry e))
    ∙ ap (λ l. c.args.out.now.items ++ l) (sym (next_come names sources c.args.entries.now i e c.loop-entry-test.true c.entry-item.is))
