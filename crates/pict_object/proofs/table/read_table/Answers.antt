use Rattle.std.proofs.Common.{◌∙◌, [], ap, subst, sym, Err}
use Rattle.std.specs.Int.{w8}
use Rattle.std.proofs.Math.Facts.{Fits-lt-pow}
use Rattle.pict_object.specs.Reading.{GivesReading, text_at, counted_at}
use Rattle.pict_object.specs.Heads.{lent, AreLabelTexts}
use Rattle.pict_object.proofs.TableLemmas.{head_made, texts_missing, texts_wrong}
use Rattle.pict_object.proofs.table.read_table.Goals as goal

pub returns-in_err-table-in-Some-clause-refused : goal.returns-in_err-table-in-Some-clause-refused
returns-in_err-table-in-Some-clause-refused c e =
    texts_missing c.args.bytes.now c.in-Some.labels.now c.in-Some.ensures.some
    (subst (λ r. GivesReading (λ x. (lent x.0.items, x.1.now)) r (counted_at text_at c.in-Some.labels.now)) (let k = rw e at c.from_residual.ensures.1 in c.in_err-table-in-Some.was ∙ ap Err (sym k)) c.read_texts.ensures)

pub returns-then-are_labels-clause-head : goal.returns-then-are_labels-clause-head
returns-then-are_labels-clause-head c =
    head_made c.args.bytes.now c.in-Some.labels.now c.in_ok-table-in-Some.rest.now (lent c.in_ok-table-in-Some.table.items) (λ i. Fits-lt-pow {w = w8} (c.type_inv.bytes i)) c.in-Some.ensures.some
    c.in_ok-table-in-Some.ensures (subst (λ xs. AreLabelTexts [] (lent xs)) c.deref.ensures.value (c.are_labels.ensures.yes c.if-are_labels.true))

pub returns-clause-refused : goal.returns-clause-refused
returns-clause-refused c e =
    texts_wrong c.args.bytes.now c.in-Some.labels.now c.in_ok-table-in-Some.rest.now (lent c.in_ok-table-in-Some.table.items) c.in-Some.ensures.some c.in_ok-table-in-Some.ensures
    (λ are. c.are_labels.ensures.no c.if-are_labels.false (subst (λ xs. AreLabelTexts [] (lent xs)) (sym c.deref.ensures.value) are))
