use Rattle.std.proofs.Common.{◌≡◌, ◌++◌, take}
use Rattle.pict_stepper.specs.Lines.{steps_lines}
use Rattle.pict_stepper.proofs.line.write_steps.Given as goal

abbrev pub invariant-loop-index : goal.invariant-loop-index
invariant-loop-index l = l.out.items ≡ l.fn.out.items ++ steps_lines l.names l.sources.list.items 1 (take l.index l.steps)
