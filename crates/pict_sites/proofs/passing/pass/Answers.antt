use Rattle.std.proofs.Common.{arith}
use Rattle.pict_desk.specs.Code.{core_in}
use Rattle.pict_sites.proofs.Widths.{acting_low}
use Rattle.pict_sites.proofs.passing.pass.Goals as goal

pub reserve-requires-clause-narrow : goal.reserve-requires-clause-narrow
reserve-requires-clause-narrow c =
    let low = acting_low (core_in c.args.code.now) c.args.store.now c.requires.acting in
    let same = c.acting_width-width.ensures in
    omega (arith, low, same)
