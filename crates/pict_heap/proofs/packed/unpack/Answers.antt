use Rattle.std.proofs.Common.{◌<◌, ◌^◌, arith}
use Rattle.pict_heap.proofs.Pairs.{unpacked_packs}
use Rattle.pict_heap.proofs.packed.unpack.Goals as goal

pub returns-clause-packs : goal.returns-clause-packs
returns-clause-packs c =
    let fits : c.args.payload < 2 ^ 64 = omega (arith, c.ranges.payload) in
    unpacked_packs c.decoded.result c.args.tag c.args.payload fits c.decoded.ensures
