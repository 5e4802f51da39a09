use Rattle.std.proofs.Common.{◌≤◌, map, length, take, drop}
use Rattle.pict_code.specs.Plain.{plain_code}
use Rattle.pict_code.specs.ReadBack.{core_of}
use Rattle.pict_trace.specs.Plain.{plain_line}
use Rattle.pict_picker.specs.Picker.{IsPicker, view_of, channels_of}
use Rattle.pict_replay.specs.Plain.{place_of}
use Rattle.pict_replay.proofs.Onward.{HasReplayed}
use Rattle.pict_replay.proofs.judging.replay.Given as goal

abbrev pub invariant-loop-done : goal.invariant-loop-done
invariant-loop-done l = record {
  kept : IsPicker l.picker;
  channels : channels_of l.picker ≤ l.done;
  within : l.used ≤ length l.expected;
  so_far : HasReplayed (core_of (plain_code l.fn.code)) (map plain_line l.expected) (map place_of (take l.done l.choices)) (map plain_line (drop l.used l.expected)) (view_of l.picker);
}
