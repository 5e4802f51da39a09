use Rattle.std.proofs.Common.{◌≤◌, ◌-◌}
use Rattle.std.specs.Io.KnownBytes.{Appends}
use Rattle.pict_core.specs.Plain.{plain_core}
use Rattle.pict_picker.specs.Picker.{IsPicker, view_of, channels_of}
use Rattle.pict_top.specs.Notes.{notes_in}
use Rattle.pict_top.proofs.Picked.{HasPicked}
use Rattle.pict_top.proofs.picking.run_picked.Given as goal

abbrev pub decreases-loop-done : goal.decreases-loop-done
decreases-loop-done g l = l.fuel - l.done

abbrev pub invariant-loop-done : goal.invariant-loop-done
invariant-loop-done g l = record {
  within : l.done ≤ l.fuel;
  kept : IsPicker l.picker;
  channels : channels_of l.picker ≤ l.done;
  so_far : HasPicked (plain_core l.core) l.seed l.done (view_of l.picker) l.chooser
      (λ places labels. Appends (g.O.Sink.taken l.fn.out) (g.O.Sink.taken l.out) (notes_in l.note l.names places labels));
  faults_stay : g.O.Sink.faults l.fn.out ≤ g.O.Sink.faults l.out;
}
