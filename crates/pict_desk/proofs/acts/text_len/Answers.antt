use Rattle.pict_desk.proofs.acts.text_len.Goals as goal

pub bytes-requires : goal.bytes-requires
bytes-requires c = let w = c.in-Some.ensures.word c.args.heap.now c.requires.pairs in w.word
