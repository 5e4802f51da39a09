-- One parameter after the other.
use Rattle.std.proofs.Common.{rules, ◌<◌, length}
use Rattle.pict_scope.specs.Held.{in_parameter}
use Rattle.pict_scope.proofs.Reading.{each_none}
use Rattle.pict_scope.proofs.ValueForms.{each_more_at, each_refused_at}
use Rattle.pict_scope.proofs.values.read_each_parameter.Goals as goal

pub loop-id-init : goal.loop-id-init
loop-id-init c = each_none in_parameter c.args.r.now

pub loop-id-preserved : goal.loop-id-preserved
loop-id-preserved c =
    let h : c.loop-id.id-index < length c.args.ids.now = search rules in
    each_more_at in_parameter c.args.ids.now c.loop-id.id-index _ c.args.r.now c.loop-id.r c.read_parameter.new.r h c.loop-id.invariant c.in_ok-read_parameter.ensures

pub returns-in_err-read_parameter : goal.returns-in_err-read_parameter
returns-in_err-read_parameter c =
    let h : c.loop-id.id-index < length c.args.ids.now = search rules in
    let refused = each_refused_at in_parameter c.args.ids.now c.loop-id.id-index _ c.args.r.now c.loop-id.r c.in_err-read_parameter.field-0.0 h c.loop-id.invariant c.in_err-read_parameter.ensures in
    search rules
