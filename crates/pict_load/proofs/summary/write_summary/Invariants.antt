use Rattle.std.proofs.Common.{◌≤◌, take}
use Rattle.std.specs.Io.KnownBytes.{Appends}
use Rattle.std.specs.List.{flat_map}
use Rattle.pict_load.specs.Summary.{line_text}
use Rattle.pict_load.proofs.summary.write_summary.Given as goal

-- the lines so far are written
abbrev pub invariant-loop-line : goal.invariant-loop-line
invariant-loop-line g l =
    Appends (g.O.Sink.taken l.initial.out) (g.O.Sink.taken l.out) (flat_map line_text (take l.line-index l.line-items)) × (g.O.Sink.faults l.initial.out ≤ g.O.Sink.faults l.out)
