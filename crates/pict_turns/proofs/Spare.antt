-- What is spare, and isn't thrown away.
use Rattle.std.proofs.Common.{ap, sym, subst, arith}
use Rattle.pict_region.specs.RegionState.{spare}
use Rattle.pict_queue.specs.QueuesState.{QueuesState}
use Rattle.pict_heap.specs.HeapState.{HeapState, Room, LosesNoRoom}
use Rattle.pict_heap.proofs.Rooms.{room_stays, room_kept}
use Rattle.pict_prim.specs.Acts.{UsesNeed}
use Rattle.pict_desk.specs.Needs.{no_need}
use Rattle.pict_turns.specs.Acting.{KeepsSpare}
use Rattle.pict_turns.specs.Reading.{OnlyReads}
use Rattle.pict_turns.specs.Reserving.{OnlyReserves}
use Rattle.pict_turns.specs.declared.store.Store.{Store}

no_less_room : (a b c : Room) → UsesNeed a b no_need → UsesNeed b c no_need → UsesNeed a c no_need
no_less_room a b c x y = record {
  records_left = let d = x.records_left in let e = y.records_left in omega (arith, d, e);
  fields_left = let d = x.fields_left in let e = y.fields_left in omega (arith, d, e);
  texts_left = let d = x.texts_left in let e = y.texts_left in omega (arith, d, e);
  bytes_left = let d = x.bytes_left in let e = y.bytes_left in omega (arith, d, e);
  records_more = let d = x.records_more in let e = y.records_more in omega (arith, d, e);
  fields_more = let d = x.fields_more in let e = y.fields_more in omega (arith, d, e);
  texts_more = let d = x.texts_more in let e = y.texts_more in omega (arith, d, e);
  bytes_more = let d = x.bytes_more in let e = y.bytes_more in omega (arith, d, e);
  kept = room_kept a b c x.kept y.kept;
}

pub spare_more : (a b c : Store) → KeepsSpare a b → KeepsSpare b c → KeepsSpare a c
spare_more a b c x y = record {
  blocks = λ width. let d = x.blocks width in let e = y.blocks width in omega (arith, d, e);
  queues = let d = x.queues in let e = y.queues in omega (arith, d, e);
  room = no_less_room a.desk.heap.room b.desk.heap.room c.desk.heap.room x.room y.room;
}

-- room is made
pub reserves_spare : (old new : Store) → OnlyReserves old new → KeepsSpare old new
reserves_spare old new r = record { blocks = r.spare; queues = r.spare_queues; room = r.room }

-- blocks are read
pub reads_spare : (old new : Store) → OnlyReads old new → KeepsSpare old new
reads_spare old new r = record {
  blocks = λ width. let e = ap (λ (s : QueuesState). spare s.region width) r.queues in omega (arith, e);
  queues = let e = ap (λ (s : QueuesState). s.spare_queues) r.queues in omega (arith, e);
  room = record {
    records_left = let e = ap (λ (h : HeapState). h.room.records) r.heap in omega (arith, e);
    fields_left = let e = ap (λ (h : HeapState). h.room.fields) r.heap in omega (arith, e);
    texts_left = let e = ap (λ (h : HeapState). h.room.texts) r.heap in omega (arith, e);
    bytes_left = let e = ap (λ (h : HeapState). h.room.bytes) r.heap in omega (arith, e);
    records_more = let e = ap (λ (h : HeapState). h.room.used.records) r.heap in omega (arith, e);
    fields_more = let e = ap (λ (h : HeapState). h.room.used.fields) r.heap in omega (arith, e);
    texts_more = let e = ap (λ (h : HeapState). h.room.used.texts) r.heap in omega (arith, e);
    bytes_more = let e = ap (λ (h : HeapState). h.room.used.bytes) r.heap in omega (arith, e);
    kept = subst (λ (h : HeapState). LosesNoRoom old.desk.heap.room h.room) (sym r.heap) (room_stays old.desk.heap.room);
  };
}
