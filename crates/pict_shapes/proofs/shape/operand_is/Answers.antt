use Rattle.pict_shapes.proofs.shape.operand_is.Goals as goal

pub word_is-requires : goal.word_is-requires
word_is-requires c = record { word = (c.in-Some.ensures.word c.args.heap.now c.requires.pairs).word }
