use Rattle.std.proofs.Common.{◌≤◌, ◌+◌, ◌-◌}
use Rattle.pict_heap.specs.HeapState.{KeepsWords}
use Rattle.pict_machine.specs.Bounds.{SpendsAtMost}
use Rattle.pict_machine.specs.Going.{GoesPast}
use Rattle.pict_machine.specs.Machine.{IsRunning, running_view, heap_of, channels_of}
use Rattle.pict_machine.proofs.machine.Machine.skip_quiet.Given as goal

abbrev pub decreases-loop-step : goal.decreases-loop-step
decreases-loop-step l = l.most - l.step

abbrev pub invariant-loop-step : goal.invariant-loop-step
invariant-loop-step l = record {
  within : l.step ≤ l.most;
  kept : IsRunning l.self;
  few : channels_of l.self ≤ channels_of l.fn.self + l.step;
  spends : SpendsAtMost l.step l.fn.self l.self;
  keeps : KeepsWords (heap_of l.fn.self) (heap_of l.self);
  past : GoesPast l.fn.passes l.step (running_view l.fn.self) (running_view l.self);
}
