-- So many are below their bounds.
use Rattle.pict_infer.specs.Environments.{environment_of}
use Rattle.pict_lines.proofs.WithinBounds.{IsLeft}
use Rattle.pict_lines.proofs.fields.within_bounds.Given as goal

abbrev pub invariant-loop-i : goal.invariant-loop-i
invariant-loop-i l = IsLeft (environment_of l.env) l.node l.bs l.args l.i
