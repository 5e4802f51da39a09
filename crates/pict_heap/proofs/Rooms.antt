-- Room that isn't lost, call after call.
use Rattle.std.proofs.Common.{arith}
use Rattle.pict_heap.specs.HeapState.{Room, LosesNoRoom}

pub room_stays : (r : Room) → LosesNoRoom r r
room_stays r = record { records = omega arith; fields = omega arith; texts = omega arith; bytes = omega arith }

pub room_kept : (a b c : Room) → LosesNoRoom a b → LosesNoRoom b c → LosesNoRoom a c
room_kept a b c x y = record {
  records = let d = x.records in let e = y.records in omega (arith, d, e);
  fields = let d = x.fields in let e = y.fields in omega (arith, d, e);
  texts = let d = x.texts in let e = y.texts in omega (arith, d, e);
  bytes = let d = x.bytes in let e = y.bytes in omega (arith, d, e);
}
