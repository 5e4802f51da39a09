-- Patterns: what is read part by part is what the outline of the whole says.
use Rattle.std.proofs.Common.{rules, ◌<◌, length, refl}
use Rattle.std.specs.Prelude.{Ok}
use Rattle.pict_scope.specs.Held.{each, in_labelled_pat, in_pat_tree}
use Rattle.pict_scope.proofs.Reading.{reading, then_read, then_any, closed_read, group_read, each_none, each_more}
use Rattle.pict_scope.proofs.PatternForms.{field_pats_read, record_pattern_read}
use Rattle.pict_scope.proofs.patterns.+patterns.Goals as goal

pub read_label_group-returns : goal.read_label_group-returns
read_label_group-returns t c =
    group_read (each in_labelled_pat c.args.ls.now) c.open_group-outer.result c.args.r.now c.open_group-outer.new.r c.read_labelled_pats.new.r c.close_group.new.r c.open_group-outer.ensures c.in_ok-read_labelled_pats.ensures c.close_group.ensures

pub read_pats-loop-p-init : goal.read_pats-loop-p-init
read_pats-loop-p-init t c = each_none in_pat_tree c.args.r.now

pub read_pats-loop-p-preserved : goal.read_pats-loop-p-preserved
read_pats-loop-p-preserved t c =
    let h : c.loop-p.p-index < length c.args.ps.now = search rules in
    each_more in_pat_tree c.args.ps.now c.loop-p.p-index c.p-item.result c.args.r.now c.loop-p.r c.read_pat.new.r h c.p-item.is c.loop-p.invariant c.in_ok-read_pat.ensures

pub read_labelled_pats-loop-l-init : goal.read_labelled_pats-loop-l-init
read_labelled_pats-loop-l-init t c = each_none in_labelled_pat c.args.r.now

pub read_labelled_pats-loop-l-preserved : goal.read_labelled_pats-loop-l-preserved
read_labelled_pats-loop-l-preserved t c =
    let h : c.loop-l.l-index < length c.args.ls.now = search rules in
    each_more in_labelled_pat c.args.ls.now c.loop-l.l-index c.l-item.result c.args.r.now c.loop-l.r c.read_pat.new.r h c.l-item.is c.loop-l.invariant
    (then_read _ _ c.loop-l.r c.once.new.self c.read_pat.new.r c.in_ok-once.ensures c.in_ok-read_pat.ensures)

pub read_pat-returns-in_ok-read_field_pats-in-Fields : goal.read_pat-returns-in_ok-read_field_pats-in-Fields
read_pat-returns-in_ok-read_field_pats-in-Fields t c =
    record_pattern_read c.args.p.now _ c.in-Fields.f c.deref.result.now c.args.r.now c.go_back.new.r (Ok (tt {0})) c.in-Fields.is c.deref.ensures
    (closed_read _ c.place-outer.result c.args.r.now c.read_field_pats.new.r c.go_back.new.r c.place-outer.ensures c.in_ok-read_field_pats-in-Fields.ensures c.go_back.ensures)

pub read_field_pats-returns-in_err-read_pattern_binders : goal.read_field_pats-returns-in_err-read_pattern_binders
read_field_pats-returns-in_err-read_pattern_binders t c =
    field_pats_read c.args.f.now c.deref.result.now _ _ c.args.r.now _ c.from_residual.result c.deref.ensures.value refl refl (search (rules, reading))

pub read_field_pats-returns-in_err-read_pats : goal.read_field_pats-returns-in_err-read_pats
read_field_pats-returns-in_err-read_pats t c =
    field_pats_read c.args.f.now c.deref.result.now c.deref-2.result.now _ c.args.r.now _ c.from_residual-in_err-read_pats.result c.deref.ensures.value c.deref-2.ensures.value refl (search (rules, reading))

pub read_field_pats-returns : goal.read_field_pats-returns
read_field_pats-returns t c =
    field_pats_read c.args.f.now c.deref.result.now c.deref-2.result.now c.deref-3.result.now c.args.r.now c.read_label_group.new.r c.read_label_group.result c.deref.ensures.value c.deref-2.ensures.value c.deref-3.ensures.value
    (then_any _ _ c.args.r.now c.read_pattern_binders.new.r c.read_label_group.new.r c.read_label_group.result c.in_ok-read_pattern_binders.ensures
    (then_any _ _ c.read_pattern_binders.new.r c.read_pats.new.r c.read_label_group.new.r c.read_label_group.result c.in_ok-read_pats.ensures c.read_label_group.ensures))
