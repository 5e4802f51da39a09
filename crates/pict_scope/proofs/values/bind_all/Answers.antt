-- One name after the other is bound.
use Rattle.std.proofs.Common.{rules, ◌<◌, ◌≤◌, length}
use Rattle.pict_scope.proofs.ValueForms.{all_none, one_ahead, all_ahead}
use Rattle.pict_scope.proofs.values.bind_all.Goals as goal

pub loop-d-init : goal.loop-d-init
loop-d-init c = all_none c.args.r.now

pub loop-d-preserved : goal.loop-d-preserved
loop-d-preserved c =
    let h : c.loop-d.d-index < length c.args.ds.now = search rules in
    one_ahead c.args.ds.now c.loop-d.d-index c.d-item.result c.args.r.now c.loop-d.r c.bind_ahead.new.self h c.d-item.is c.loop-d.invariant c.in_ok-bind_ahead.ensures

pub returns : goal.returns
returns c =
    let h : length c.args.ds.now ≤ c.loop-d.d-index = search rules in
    all_ahead c.args.ds.now c.loop-d.d-index c.args.r.now c.loop-d.r h c.loop-d.invariant
