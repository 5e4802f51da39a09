-- What the types of lines stand for.
use Rattle.std.specs.Prelude.{ℕ}
use Rattle.pict_core.specs.Plain.{plain_val}
use Rattle.pict_core.specs.Step.{Label, Comm, Print}
use Rattle.pict_trace.specs.declared.lines.TraceLabel.{TraceLabel}
use Rattle.pict_trace.specs.declared.lines.TraceLabel.TheVariants as label
use Rattle.pict_trace.specs.declared.lines.TraceLine.{TraceLine}

abbrev pub plain_label : TraceLabel → Label
plain_label (label.Comm channel value) = Comm channel (plain_val value)
plain_label (label.Print bytes) = Print bytes

-- the number of a step, and what the step shows
abbrev pub plain_line : TraceLine → ℕ × Label
plain_line line = (line.number, plain_label line.label)
