use Rattle.std.proofs.Common.{sym, subst}
use Rattle.pict_desk.specs.Pairs.{ArePairs}
use Rattle.pict_sites.proofs.standing.channel_of_operand.Goals as goal

pub channel_at_hand-requires-clause-pairs : goal.channel_at_hand-requires-clause-pairs
channel_at_hand-requires-clause-pairs c = (c.args.store.now.desk.heap, subst (ArePairs c.args.store.now.desk.heap) (sym c.deref.ensures.value) c.requires.pairs)
