use Rattle.std.proofs.Common.{◌∷◌, []}
use Rattle.pict_blocks.specs.Parts.{block_width}
use Rattle.pict_desk.specs.Room.{frame_need}
use Rattle.pict_turns.proofs.Making.{makes_beside}
use Rattle.pict_desk.proofs.MakingRoom.{has_room}
use Rattle.pict_syntax.proofs.ListLemmas.{on_ok}
use Rattle.pict_meetings.proofs.receiving.reserve_part_of_input.Goals as goal

pub returns-then-replicated-clause-can : goal.returns-then-replicated-clause-can
returns-then-replicated-clause-can c = on_ok c.reserve_beside.result (λ beside. beside.can) c.reserve_beside.ensures.ok

pub returns-else-replicated-clause-can : goal.returns-else-replicated-clause-can
returns-else-replicated-clause-can c =
    on_ok c.reserve_part.result (λ can. record { block = can.block; room = has_room c.reserve_part.new.store.desk.heap c.reserve_part.new.store.desk.pending (frame_need c.args.frame.now) _ can.room }) c.reserve_part.ensures.ok

pub returns-else-replicated-clause-most : goal.returns-else-replicated-clause-most
returns-else-replicated-clause-most c = makes_beside c.args.store.now.queues c.reserve_part.new.store.queues c.args.width (block_width c.args.frame.now ∷ []) c.reserve_part.ensures.most
