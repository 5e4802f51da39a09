use Rattle.std.proofs.Common.{sym}
use Rattle.pict_heap.specs.HeapState.{value_of}
use Rattle.pict_prim.proofs.deciding.answer_calculated.Goals as goal

pub returns-in-Some-clause-words : goal.returns-in-Some-clause-words
returns-in-Some-clause-words c h k = (k, c.in-Some.ensures.word h)

pub returns-in-None-clause-effect : goal.returns-in-None-clause-effect
returns-in-None-clause-effect c h = sym (c.in-None.ensures.effect h (value_of h c.args.k))
