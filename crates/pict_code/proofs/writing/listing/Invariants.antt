use Rattle.std.proofs.Common.{◌≤◌}
use Rattle.std.specs.Io.KnownBytes.{Appends}
use Rattle.pict_code.proofs.Lines.{first_lines}
use Rattle.pict_code.proofs.writing.listing.Given as goal

abbrev pub invariant-loop-number : goal.invariant-loop-number
invariant-loop-number g l =
    Appends (g.O.Sink.taken l.initial.out) (g.O.Sink.taken l.out) (first_lines l.names l.code.nodes.items l.number) × (g.O.Sink.faults l.initial.out ≤ g.O.Sink.faults l.out)
