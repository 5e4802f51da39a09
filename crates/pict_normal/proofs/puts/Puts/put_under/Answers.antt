-- What stands for a variable outside, moved under the binders.
use Rattle.std.proofs.Common.{◌-◌, length, sym, arith}
use Rattle.pict_normal.specs.Putting.{put_head, put_type, replacement_of, variables_in}
use Rattle.pict_normal.proofs.Meant.{room_from_none, can_move, room_under}
use Rattle.pict_normal.proofs.puts.Puts.put_under.Goals as goal
use Rattle.pict_types.proofs.Past.{type_low, head_low, type_under, head_under}

pub returns-then-i-depth-clause-type_ : goal.returns-then-i-depth-clause-type_
returns-then-i-depth-clause-type_ c = sym (type_low (replacement_of c.args.self.now) c.args.depth c.args.i (omega arith))

pub returns-then-i-depth-clause-head : goal.returns-then-i-depth-clause-head
returns-then-i-depth-clause-head c = sym (head_low (replacement_of c.args.self.now) c.args.depth c.args.i (omega arith))

pub under-requires : goal.under-requires
under-requires c = record {
  room = can_move c.put_at.result (length (variables_in c.args.self.now)) 0 (c.args.i - c.args.depth) c.args.depth c.put_at.ensures.room (omega (arith, c.ranges.i)) (omega (arith, c.variables.ensures.count, c.in_ok-fits.ensures));
}

pub returns-clause-type_ : goal.returns-clause-type_
returns-clause-type_ c =
    type_under (replacement_of c.args.self.now) c.args.depth c.args.i (c.args.i - c.args.depth) (put_type c.put_at.result) _ (omega arith) c.put_at.ensures.type_ c.under.ensures.type_

pub returns-clause-head : goal.returns-clause-head
returns-clause-head c =
    head_under (replacement_of c.args.self.now) c.args.depth c.args.i (c.args.i - c.args.depth) (put_head c.put_at.result) _ (omega arith) c.put_at.ensures.head c.under.ensures.head

pub returns-clause-room : goal.returns-clause-room
returns-clause-room c =
    let n = length (variables_in c.args.self.now) in
    room_under c.under.result n c.args.depth c.args.i (c.args.i - c.args.depth) (omega arith) (room_from_none c.under.result n c.args.depth (c.args.i - c.args.depth) (c.under.ensures.room n 0 (c.args.i - c.args.depth) c.put_at.ensures.room))
