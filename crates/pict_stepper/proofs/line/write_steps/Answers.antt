use Rattle.std.proofs.Common.{◌+◌, ◌++◌, take, map, ap, sym, ◌∙◌}
use Rattle.pict_reference.specs.Plain.{plain_entry}
use Rattle.pict_stepper.specs.Lines.{step_line, come_lines, steps_lines}
use Rattle.pict_stepper.proofs.Writing.{behind, next_step}
use Rattle.pict_stepper.proofs.line.write_steps.Goals as goal

pub loop-index-preserved : goal.loop-index-preserved
loop-index-preserved c =
    let i = c.loop-index.index in
    let names = c.args.names.now in
    let sources = c.args.sources.now.list.items in
    let t = c.index-steps-index.result in
    behind c.args.out.now.items c.loop-index.out.items c.write_step.new.out.items c.write_entries.new.out.items
    (steps_lines names sources 1 (take i c.args.steps.now)) (step_line names (i + 1) t) (come_lines names sources (map plain_entry t.come.items))
    c.loop-index.invariant c.in_ok-write_step.ensures
    (c.in_ok-write_entries.ensures ∙ ap (λ es. c.write_step.new.out.items ++ come_lines names sources (map plain_entry es)) c.deref.ensures.value)
    ∙ ap (λ l. c.args.out.now.items ++ l) (sym (next_step names sources c.args.steps.now i t c.loop-index-test.true c.index-steps-index.is))
