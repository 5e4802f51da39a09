use Rattle.std.proofs.Common.{[], ◌∙◌}
use Rattle.pict_show.specs.Pending.{pending}
use Rattle.pict_show.proofs.Pieces.{turned, less_left}
use Rattle.pict_show.proofs.value.write_value.Goals as goal

pub loop-piece-smaller : goal.loop-piece-smaller
loop-piece-smaller c =
    less_left c.loop-piece.out.items c.write_piece.new.out.items (pending c.args.names.now c.loop-piece.pieces.items []) (pending c.args.names.now c.write_piece.new.pieces.items [])
    (turned c.args.names.now c.loop-piece.out.items c.write_piece.new.out.items c.loop-piece.pieces.items c.pop.new.self.items c.write_piece.new.pieces.items c.in-Some.piece c.in-Some.ensures.items c.in_ok-write_piece.ensures.text)
    c.in_ok-write_piece.ensures.grows

pub loop-piece-preserved : goal.loop-piece-preserved
loop-piece-preserved c =
    turned c.args.names.now c.loop-piece.out.items c.write_piece.new.out.items c.loop-piece.pieces.items c.pop.new.self.items c.write_piece.new.pieces.items c.in-Some.piece c.in-Some.ensures.items c.in_ok-write_piece.ensures.text
    ∙ c.loop-piece.invariant
