use Rattle.std.proofs.Common.{take}
use Rattle.pict_trace.proofs.Fields.{label_and_rest}
use Rattle.pict_trace.proofs.label.begins_label.Goals as goal

pub returns-in-Some-clause-label : goal.returns-in-Some-clause-label
returns-in-Some-clause-label c _ =
    let l = c.in-Some.ensures in
    record { word = take c.in-Some.field-0 c.args.text.now; more = _; is = l.identifier; whole = label_and_rest c.args.text.now c.in-Some.field-0 l.within l.equals }
