use Rattle.std.proofs.Common.{sym, subst}
use Rattle.pict_desk.specs.Pairs.{ArePairs}
use Rattle.pict_acting.proofs.chain.call_from.Goals as goal

pub call_of-requires-clause-pairs : goal.call_of-requires-clause-pairs
call_of-requires-clause-pairs c = let h = c.args.store.now.desk.heap in (h, subst (ArePairs h) (sym c.deref.ensures.value) c.requires.store.pairs)
