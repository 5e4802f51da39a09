use Rattle.std.proofs.Common.{◌≡◌, ◌+◌, ◌*◌, map, length}
use Rattle.pict_syntax.specs.Names.{with_names}
use Rattle.pict_core.specs.Plain.{plain_val, plain_field, vals_of, labelled_of}
use Rattle.pict_trace.specs.Readable.{labels_of_all, labels_of_labelled}
use Rattle.pict_trace.specs.Reading.{NamesGrow}
use Rattle.pict_trace.proofs.Records.{Midway, MidLabelled}
use Rattle.pict_trace.proofs.read.+read_value.Given as goal

abbrev pub decreases-read_value : goal.decreases-read_value
decreases-read_value l = 3 * l.depth

abbrev pub decreases-read_labelled : goal.decreases-read_labelled
decreases-read_labelled l = 3 * l.depth + 1

abbrev pub decreases-read_fields : goal.decreases-read_fields
decreases-read_fields l = 3 * l.depth + 2

abbrev pub invariant-read_fields-values : goal.invariant-read_fields-values
invariant-read_fields-values l = record {
  mid : Midway l.names l.depth l.text (map plain_val l.positional.items) l.rest;
  gained : l.names ≡ with_names l.initial.names (labels_of_all l.names (vals_of (map plain_val l.positional.items)));
  grown : NamesGrow l.text l.initial.names l.names l.rest;
}

abbrev pub decreases-read_fields-values : goal.decreases-read_fields-values
decreases-read_fields-values l = length l.rest

abbrev pub invariant-read_labelled-fields : goal.invariant-read_labelled-fields
invariant-read_labelled-fields l = record {
  mid : MidLabelled l.names l.depth l.text (map plain_field l.labelled.items) l.before l.rest;
  gained : l.names ≡ with_names l.initial.names (labels_of_labelled l.names (labelled_of (map plain_field l.labelled.items)));
  grown : NamesGrow l.text l.initial.names l.names l.rest;
}

abbrev pub decreases-read_labelled-fields : goal.decreases-read_labelled-fields
decreases-read_labelled-fields l = length l.rest
