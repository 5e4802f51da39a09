-- Types: what is read part by part is what the outline of the whole says.
use Rattle.std.proofs.Common.{rules, ◌<◌, length, refl}
use Rattle.std.specs.Prelude.{Ok}
use Rattle.pict_scope.specs.Held.{each, in_binder_tree, in_held, in_labelled_type, in_type_tree}
use Rattle.pict_scope.specs.Outlines.{once, binds_type, type_use}
use Rattle.pict_scope.proofs.Reading.{reading, then_read, then_any, closed_read, group_read, type_read, each_none, each_more}
use Rattle.pict_scope.proofs.TypeForms.{record_type_read, applied_type_read, rec_type_read}
use Rattle.pict_scope.proofs.types.+types.Goals as goal

pub read_binder-returns : goal.read_binder-returns
read_binder-returns t c =
    let b = c.args.b.now in
    then_read (once _ b.id) (binds_type b.id (in_held b.bound)) c.args.r.now c.once.new.self c.bind_type.new.self c.in_ok-once.ensures
    (type_read b.id (in_held b.bound) c.in_ok-number.number c.once.new.self c.number_type.new.self c.read_held.new.r c.bind_type.new.self c.in_ok-number.ensures.number c.in_ok-number.ensures.moves c.in_ok-read_held.ensures c.in_ok-bind_type.ensures)

pub read_binder_group-returns : goal.read_binder_group-returns
read_binder_group-returns t c =
    group_read (each in_binder_tree c.args.bs.now) c.open_group-outer.result c.args.r.now c.open_group-outer.new.r c.read_binders.new.r c.close_group.new.r c.open_group-outer.ensures c.in_ok-read_binders.ensures c.close_group.ensures

pub read_label_group-returns : goal.read_label_group-returns
read_label_group-returns t c =
    group_read (each in_labelled_type c.args.ls.now) c.open_group-outer.result c.args.r.now c.open_group-outer.new.r c.read_labelled_types.new.r c.close_group.new.r c.open_group-outer.ensures c.in_ok-read_labelled_types.ensures c.close_group.ensures

pub read_type-returns-in_ok-use_type-in-Apply : goal.read_type-returns-in_ok-use_type-in-Apply
read_type-returns-in_ok-use_type-in-Apply t c =
    let x = c.in-Apply.id in
    applied_type_read c.args.t.now _ x c.in-Apply.ts c.deref-in-Apply.result.now c.args.r.now c.read_types-in-Apply.new.r c.read_types-in-Apply.result c.in-Apply.is c.deref-in-Apply.ensures.value
    (then_any (type_use x.span x.name.0) (each in_type_tree c.deref-in-Apply.result.now) c.args.r.now c.use_type-in-Apply.new.self c.read_types-in-Apply.new.r c.read_types-in-Apply.result c.in_ok-use_type-in-Apply.ensures c.read_types-in-Apply.ensures)

pub read_type-returns-in_ok-read_type-in-Rec : goal.read_type-returns-in_ok-read_type-in-Rec
read_type-returns-in_ok-read_type-in-Rec t c =
    rec_type_read c.args.t.now _ c.in-Rec.id c.in-Rec.t c.deref-in-Rec.result.now c.args.r.now c.go_back-in-Rec.new.r (Ok (tt {0})) c.in-Rec.is c.deref-in-Rec.ensures
    (closed_read _ c.place-outer-in-Rec.result c.args.r.now c.read_type.new.r c.go_back-in-Rec.new.r c.place-outer-in-Rec.ensures
    (then_read _ _ c.args.r.now c.bind_type_here.new.self c.read_type.new.r c.in_ok-bind_type_here-in-Rec.ensures c.in_ok-read_type-in-Rec.ensures) c.go_back-in-Rec.ensures)

pub read_types-loop-t-init : goal.read_types-loop-t-init
read_types-loop-t-init t c = each_none in_type_tree c.args.r.now

pub read_types-loop-t-preserved : goal.read_types-loop-t-preserved
read_types-loop-t-preserved t c =
    let h : c.loop-t.t-index < length c.args.ts.now = search rules in
    each_more in_type_tree c.args.ts.now c.loop-t.t-index c.t-item.result c.args.r.now c.loop-t.r c.read_type.new.r h c.t-item.is c.loop-t.invariant c.in_ok-read_type.ensures

pub read_labelled_types-loop-l-init : goal.read_labelled_types-loop-l-init
read_labelled_types-loop-l-init t c = each_none in_labelled_type c.args.r.now

pub read_labelled_types-loop-l-preserved : goal.read_labelled_types-loop-l-preserved
read_labelled_types-loop-l-preserved t c =
    let h : c.loop-l.l-index < length c.args.ls.now = search rules in
    each_more in_labelled_type c.args.ls.now c.loop-l.l-index c.l-item.result c.args.r.now c.loop-l.r c.read_type.new.r h c.l-item.is c.loop-l.invariant
    (then_read _ _ c.loop-l.r c.once.new.self c.read_type.new.r c.in_ok-once.ensures c.in_ok-read_type.ensures)

pub read_binders-loop-b-init : goal.read_binders-loop-b-init
read_binders-loop-b-init t c = each_none in_binder_tree c.args.r.now

pub read_binders-loop-b-preserved : goal.read_binders-loop-b-preserved
read_binders-loop-b-preserved t c =
    let h : c.loop-b.b-index < length c.args.bs.now = search rules in
    each_more in_binder_tree c.args.bs.now c.loop-b.b-index c.b-item.result c.args.r.now c.loop-b.r c.read_binder.new.r h c.b-item.is c.loop-b.invariant c.in_ok-read_binder.ensures

pub read_type-returns-in_err-read_binder_group-in-Fields : goal.read_type-returns-in_err-read_binder_group-in-Fields
read_type-returns-in_err-read_binder_group-in-Fields t c =
    let i = c.in-Fields in
    record_type_read c.args.t.now _ i.bs i.ts i.ls c.deref.result.now i.ts.items i.ls.items c.args.r.now _ c.from_residual.result i.is c.deref.ensures.value refl refl (search (rules, reading))

pub read_type-returns-in_err-read_types-in-Fields : goal.read_type-returns-in_err-read_types-in-Fields
read_type-returns-in_err-read_types-in-Fields t c =
    let i = c.in-Fields in
    record_type_read c.args.t.now _ i.bs i.ts i.ls c.deref.result.now c.deref-in-Fields.result.now i.ls.items c.args.r.now _ c.from_residual-in_err-read_types-in-Fields.result i.is c.deref.ensures.value c.deref-in-Fields.ensures.value refl (search (rules, reading))

pub read_type-returns-in_err-read_label_group-in-Fields : goal.read_type-returns-in_err-read_label_group-in-Fields
read_type-returns-in_err-read_label_group-in-Fields t c =
    let i = c.in-Fields in
    record_type_read c.args.t.now _ i.bs i.ts i.ls c.deref.result.now c.deref-in-Fields.result.now c.deref-in-Fields-2.result.now c.args.r.now _ c.from_residual-in_err-read_label_group-in-Fields.result i.is c.deref.ensures.value c.deref-in-Fields.ensures.value c.deref-in-Fields-2.ensures.value (search (rules, reading))

pub read_type-returns-in_ok-read_label_group-in-Fields : goal.read_type-returns-in_ok-read_label_group-in-Fields
read_type-returns-in_ok-read_label_group-in-Fields t c =
    let i = c.in-Fields in
    record_type_read c.args.t.now _ i.bs i.ts i.ls c.deref.result.now c.deref-in-Fields.result.now c.deref-in-Fields-2.result.now c.args.r.now c.go_back.new.r (Ok (tt {0})) i.is c.deref.ensures.value c.deref-in-Fields.ensures.value c.deref-in-Fields-2.ensures.value
    (closed_read _ c.place-outer.result c.args.r.now c.read_label_group.new.r c.go_back.new.r c.place-outer.ensures
    (then_read _ _ c.args.r.now c.read_binder_group.new.r c.read_label_group.new.r c.in_ok-read_binder_group-in-Fields.ensures
    (then_read _ _ c.read_binder_group.new.r c.read_types.new.r c.read_label_group.new.r c.in_ok-read_types-in-Fields.ensures c.in_ok-read_label_group-in-Fields.ensures)) c.go_back.ensures)
