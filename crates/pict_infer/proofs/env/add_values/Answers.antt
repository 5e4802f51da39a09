-- No type is written deeper than before.
use Rattle.std.proofs.Common.{◌≡◌, reverse, ap, arith}
use Rattle.pict_infer.specs.Knowing.{deepest}
use Rattle.pict_infer.proofs.Growing.{placed_so_far}
use Rattle.pict_infer.proofs.env.add_values.Goals as goal

pub returns-in_err-reserve-clause-placed : goal.returns-in_err-reserve-clause-placed
returns-in_err-reserve-clause-placed c =
    let same : deepest c.reserve.new.self.items ≡ deepest c.loop-known.values.items = ap deepest c.reserve.ensures.items in
    omega (arith, same, placed_so_far c.loop-known.values.items (reverse c.loop-known.rest.items) c.args.values.now.items c.args.added.items c.loop-known.invariant.all)

pub returns-in_err-bind-clause-placed : goal.returns-in_err-bind-clause-placed
returns-in_err-bind-clause-placed c =
    let same : deepest c.reserve.new.self.items ≡ deepest c.loop-known.values.items = ap deepest c.reserve.ensures.items in
    omega (arith, same, placed_so_far c.loop-known.values.items (reverse c.loop-known.rest.items) c.args.values.now.items c.args.added.items c.loop-known.invariant.all)

pub returns-clause-placed : goal.returns-clause-placed
returns-clause-placed c =
    placed_so_far c.loop-known.values.items (reverse c.loop-known.rest.items) c.args.values.now.items c.args.added.items c.loop-known.invariant.all
