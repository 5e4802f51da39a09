use Rattle.std.proofs.Common.{◌≡◌, map, length}
use Rattle.pict_syntax.specs.Names.{with_names}
use Rattle.pict_trace.specs.Plain.{plain_line}
use Rattle.pict_trace.specs.Readable.{BeginsWithLines, labels_in}
use Rattle.pict_trace.specs.Reading.{NamesGrow}
use Rattle.pict_trace.proofs.lines.begin_lines.Given as goal

abbrev pub invariant-lines : goal.invariant-lines
invariant-lines l = record {
  before : BeginsWithLines l.names l.text (map plain_line l.lines.items) l.rest;
  gained : l.names ≡ with_names l.initial.names (labels_in l.names (map plain_line l.lines.items));
  grown : NamesGrow l.text l.initial.names l.names l.rest;
}

abbrev pub decreases-lines : goal.decreases-lines
decreases-lines l = length l.rest
