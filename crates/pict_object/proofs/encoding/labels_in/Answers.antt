use Rattle.std.proofs.Common.{◌∙◌, ◌++◌, ap}
use Rattle.std.proofs.lemmas.Result.{IfOk-weaker}
use Rattle.pict_syntax.specs.Labels.{by_number}
use Rattle.pict_core.specs.Plain.{plain_core}
use Rattle.pict_object.specs.Objects.{AreLabels, labels_of}
use Rattle.pict_object.specs.Collected.{numbers, texts_of}
use Rattle.pict_object.proofs.Encoded.{are_labels}
use Rattle.pict_object.proofs.encoding.labels_in.Goals as goal

pub returns : goal.returns
returns c =
    let names = c.args.names.now in
    let p = plain_core c.args.core.now in
    IfOk-weaker c.distinct.result _ (λ table. AreLabels names p (texts_of names table.items))
    (λ table e. are_labels names p c.collect.new.labels.items c.deref.result.now (texts_of names table.items) c.requires
    (c.in_ok-collect.ensures ∙ ap (λ xs. numbers xs ++ labels_of p) c.new-labels.ensures.items)
    (ap by_number c.deref.ensures.value ∙ c.in_ok-sort_labels.ensures.sorted) e)
    c.distinct.ensures
