-- One parameter more is open.
use Rattle.std.proofs.Common.{[], refl}
use Rattle.pict_infer.specs.Environments.{known_entries}
use Rattle.pict_infer.proofs.Growing.{grew_types}
use Rattle.pict_infer.proofs.MadeKnown.{grew_twice}
use Rattle.pict_lines.proofs.TypeEnds.{parameter_opened}
use Rattle.pict_lines.proofs.types.open_parameters.Goals as goal

pub loop-x-init : goal.loop-x-init
loop-x-init c = record { entries = refl; grew = grew_types c.args.env.now c.args.env.now [] refl refl refl }

pub loop-x-preserved : goal.loop-x-preserved
loop-x-preserved c =
    let e = c.args.env.now in
    let d = c.loop-x.env in
    record {
      entries = parameter_opened d c.push_type.new.self (known_entries e) c.args.params.now c.loop-x.x-index _ c.loop-x-test.true c.loop-x.invariant.entries c.in_ok-push_type.ensures.known;
      grew = grew_twice e d c.push_type.new.self c.loop-x.invariant.grew c.in_ok-push_type.ensures.grew;
    }
