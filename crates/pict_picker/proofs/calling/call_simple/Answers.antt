use Rattle.std.proofs.Common.{sym, subst}
use Rattle.pict_desk.specs.Pairs.{ArePairs}
use Rattle.pict_picker.proofs.calling.call_simple.Goals as goal

pub word_at_hand-requires-clause-pairs : goal.word_at_hand-requires-clause-pairs
word_at_hand-requires-clause-pairs c = let h = c.args.desk.now.heap in (h, subst (ArePairs h) (sym c.deref.ensures.value) c.requires.pairs)
