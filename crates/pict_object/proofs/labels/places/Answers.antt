use Rattle.std.proofs.Common.{◌∙◌, arith}
use Rattle.pict_object.specs.Collected.{number_at}
use Rattle.pict_object.proofs.Placed.{filled}
use Rattle.pict_object.proofs.labels.places.Goals as goal

pub loop-k-preserved : goal.loop-k-preserved
loop-k-preserved c =
    filled c.cover.new.places.items c.args.table.now c.loop-k.k (record { 0 = 0 }) c.requires.apart c.loop-k-test.true (omega (arith, c.in_ok-cover.ensures.room))
    (λ j less. c.in_ok-cover.ensures.same (number_at c.args.table.now j) ∙ c.loop-k.invariant j less)
