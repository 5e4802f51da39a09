use Rattle.std.proofs.Common.{sym, subst}
use Rattle.pict_core.specs.Plain.{plain_core}
use Rattle.pict_object.specs.Objects.{AreLabels}
use Rattle.pict_object.specs.Collected.{texts_of}
use Rattle.pict_object.proofs.Encoded.{small_again, is_object}
use Rattle.pict_object.proofs.encoding.encode.Goals as goal

pub write_object-requires-clause-small : goal.write_object-requires-clause-small
write_object-requires-clause-small c =
    small_again c.args.names.now c.in_ok-table.table.items c.deref.result.now c.deref-2.result.now (plain_core c.args.core.now) c.object_size-size.result c.args.limit
    c.deref.ensures.value c.deref-2.ensures.value c.requires.core c.in_ok-table.ensures c.object_size-size.ensures.fits c.object_size-size.ensures.size c.if-size-limit.false c.requires.limit

pub returns-clause-object : goal.returns-clause-object
returns-clause-object c =
    let names = c.args.names.now in
    let p = plain_core c.args.core.now in
    is_object names c.deref-2.result.now p c.in_ok-write_object.field-0.items c.requires.core
    (subst (λ xs. AreLabels names p (texts_of names xs)) (sym c.deref-2.ensures.value) c.in_ok-table.ensures)
    (small_again names c.in_ok-table.table.items c.deref.result.now c.deref-2.result.now p c.object_size-size.result c.args.limit
    c.deref.ensures.value c.deref-2.ensures.value c.requires.core c.in_ok-table.ensures c.object_size-size.ensures.fits c.object_size-size.ensures.size c.if-size-limit.false c.requires.limit)
    c.in_ok-write_object.ensures
