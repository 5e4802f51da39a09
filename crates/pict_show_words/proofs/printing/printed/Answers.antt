use Rattle.pict_show_words.proofs.Words.{printed_text}
use Rattle.std.proofs.Common.{sym}
use Rattle.pict_show_words.proofs.printing.printed.Goals as goal

pub unreachable-requires : goal.unreachable-requires
unreachable-requires c = printed_text c.args.heap.now c.args.word c.in_default.not-Int c.requires.printed (sym c.in-None.ensures)
