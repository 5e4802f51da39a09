use Rattle.std.proofs.Common.{[], ◌∙◌}
use Rattle.pict_show.proofs.Pieces.{less_left}
use Rattle.pict_show_words.specs.Pending.{pending}
use Rattle.pict_show_words.proofs.Pieces.{turned}
use Rattle.pict_show_words.proofs.writing.write_word.Goals as goal

pub loop-piece-smaller : goal.loop-piece-smaller
loop-piece-smaller c =
    let names = c.args.names.now in
    let h = c.args.heap.now in
    less_left c.loop-piece.out.items c.write_piece.new.out.items (pending names h c.loop-piece.pieces.items []) (pending names h c.write_piece.new.pieces.items [])
    (turned names h c.loop-piece.out.items c.write_piece.new.out.items c.loop-piece.pieces.items c.pop.new.self.items c.write_piece.new.pieces.items c.in-Some.piece
    c.in-Some.ensures.items c.in_ok-write_piece.ensures.text)
    c.in_ok-write_piece.ensures.grows

pub loop-piece-preserved : goal.loop-piece-preserved
loop-piece-preserved c =
    let names = c.args.names.now in
    let h = c.args.heap.now in
    record {
      text =
          turned names h c.loop-piece.out.items c.write_piece.new.out.items c.loop-piece.pieces.items c.pop.new.self.items c.write_piece.new.pieces.items c.in-Some.piece
          c.in-Some.ensures.items c.in_ok-write_piece.ensures.text
          ∙ c.loop-piece.invariant.text;
      pieces = c.in_ok-write_piece.ensures.pieces;
    }
