-- What the fields that were read stand for.
use Rattle.std.specs.Prelude.{map}
use Rattle.pict_core.specs.Plain.{plain_val, plain_field, vals_of, labelled_of}
use Rattle.pict_core.specs.Term.{Vals, Labelled}
use Rattle.pict_trace.specs.declared.read.Fields.{Fields}

abbrev pub positional_of : Fields → Vals
positional_of fields = vals_of (map plain_val fields.positional.items)

abbrev pub labelled_fields : Fields → Labelled
labelled_fields fields = labelled_of (map plain_field fields.labelled.items)
