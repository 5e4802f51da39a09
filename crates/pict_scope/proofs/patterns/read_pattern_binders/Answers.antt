-- One type binder after the other.
use Rattle.std.proofs.Common.{rules, ◌<◌, length}
use Rattle.pict_scope.specs.Held.{in_pattern_binder_tree}
use Rattle.pict_scope.proofs.Reading.{each_none, each_more}
use Rattle.pict_scope.proofs.patterns.read_pattern_binders.Goals as goal

pub loop-b-init : goal.loop-b-init
loop-b-init c = each_none in_pattern_binder_tree c.args.r.now

pub loop-b-preserved : goal.loop-b-preserved
loop-b-preserved c =
    let h : c.loop-b.b-index < length c.args.bs.now = search rules in
    each_more in_pattern_binder_tree c.args.bs.now c.loop-b.b-index c.b-item.result c.args.r.now c.loop-b.r c.read_pattern_binder.new.r h c.b-item.is c.loop-b.invariant c.in_ok-read_pattern_binder.ensures
