-- How much several steps add to the heap together.
use Rattle.std.proofs.Common.{ℕ, ◌≡◌, Bool, true, false, cond, inl, inr, List, [], refl, ap, ◌∙◌, sym, subst, arith, option_map, unwrap_or}
use Rattle.pict_core.specs.Term.{Val, Boolean, Process}
use Rattle.pict_code.specs.Instruction.{Node}
use Rattle.pict_heap.specs.HeapState.{HeapState, Room}
use Rattle.pict_heap.proofs.Rooms.{room_kept}
use Rattle.pict_prim.specs.Acts.{UsesNeed}
use Rattle.pict_prim.specs.declared.act.Need.{Need}
use Rattle.pict_desk.specs.Needs.{no_need, both_needs}
use Rattle.pict_desk.specs.Room.{frame_need}
use Rattle.pict_desk.specs.Code.{HasFrame}
use Rattle.pict_turns.specs.Growing.{AddsAtMost, part_need}
use Rattle.pict_turns.specs.Parts.{Spawns, IsLast}
use Rattle.pict_turns.specs.declared.store.Store.{Store}
use Rattle.pict_turns.specs.declared.turn.Turn.TheVariants.{Nobody}

-- ---- steps one after another

pub used_both : (r0 r1 r2 : Room) (a b : Need) → UsesNeed r0 r1 a → UsesNeed r1 r2 b → UsesNeed r0 r2 (both_needs a b)
used_both r0 r1 r2 a b u v = record {
  records_left = let x = u.records_left in let y = v.records_left in omega (arith, x, y);
  fields_left = let x = u.fields_left in let y = v.fields_left in omega (arith, x, y);
  texts_left = let x = u.texts_left in let y = v.texts_left in omega (arith, x, y);
  bytes_left = let x = u.bytes_left in let y = v.bytes_left in omega (arith, x, y);
  records_more = let x = u.records_more in let y = v.records_more in omega (arith, x, y);
  fields_more = let x = u.fields_more in let y = v.fields_more in omega (arith, x, y);
  texts_more = let x = u.texts_more in let y = v.texts_more in omega (arith, x, y);
  bytes_more = let x = u.bytes_more in let y = v.bytes_more in omega (arith, x, y);
  kept = room_kept r0 r1 r2 u.kept v.kept;
}

-- nothing is added before
pub used_after : (r0 r1 r2 : Room) (n : Need) → UsesNeed r0 r1 no_need → UsesNeed r1 r2 n → UsesNeed r0 r2 n
used_after r0 r1 r2 n u v = record {
  records_left = let x = u.records_left in let y = v.records_left in omega (arith, x, y);
  fields_left = let x = u.fields_left in let y = v.fields_left in omega (arith, x, y);
  texts_left = let x = u.texts_left in let y = v.texts_left in omega (arith, x, y);
  bytes_left = let x = u.bytes_left in let y = v.bytes_left in omega (arith, x, y);
  records_more = let x = u.records_more in let y = v.records_more in omega (arith, x, y);
  fields_more = let x = u.fields_more in let y = v.fields_more in omega (arith, x, y);
  texts_more = let x = u.texts_more in let y = v.texts_more in omega (arith, x, y);
  bytes_more = let x = u.bytes_more in let y = v.bytes_more in omega (arith, x, y);
  kept = room_kept r0 r1 r2 u.kept v.kept;
}

-- nothing is added afterwards
pub used_before : (r0 r1 r2 : Room) (n : Need) → UsesNeed r0 r1 n → UsesNeed r1 r2 no_need → UsesNeed r0 r2 n
used_before r0 r1 r2 n u v = record {
  records_left = let x = u.records_left in let y = v.records_left in omega (arith, x, y);
  fields_left = let x = u.fields_left in let y = v.fields_left in omega (arith, x, y);
  texts_left = let x = u.texts_left in let y = v.texts_left in omega (arith, x, y);
  bytes_left = let x = u.bytes_left in let y = v.bytes_left in omega (arith, x, y);
  records_more = let x = u.records_more in let y = v.records_more in omega (arith, x, y);
  fields_more = let x = u.fields_more in let y = v.fields_more in omega (arith, x, y);
  texts_more = let x = u.texts_more in let y = v.texts_more in omega (arith, x, y);
  bytes_more = let x = u.bytes_more in let y = v.bytes_more in omega (arith, x, y);
  kept = room_kept r0 r1 r2 u.kept v.kept;
}

-- something more may be needed
pub used_beside : (r0 r1 : Room) (a b : Need) → UsesNeed r0 r1 b → UsesNeed r0 r1 (both_needs a b)
used_beside r0 r1 a b u = record {
  records_left = let x = u.records_left in omega (arith, x);
  fields_left = let x = u.fields_left in omega (arith, x);
  texts_left = let x = u.texts_left in omega (arith, x);
  bytes_left = let x = u.bytes_left in omega (arith, x);
  records_more = let x = u.records_more in omega (arith, x);
  fields_more = let x = u.fields_more in omega (arith, x);
  texts_more = let x = u.texts_more in omega (arith, x);
  bytes_more = let x = u.bytes_more in omega (arith, x);
  kept = u.kept;
}

pub used_with : (r0 r1 : Room) (a b : Need) → UsesNeed r0 r1 a → UsesNeed r0 r1 (both_needs a b)
used_with r0 r1 a b u = record {
  records_left = let x = u.records_left in omega (arith, x);
  fields_left = let x = u.fields_left in omega (arith, x);
  texts_left = let x = u.texts_left in omega (arith, x);
  bytes_left = let x = u.bytes_left in omega (arith, x);
  records_more = let x = u.records_more in omega (arith, x);
  fields_more = let x = u.fields_more in omega (arith, x);
  texts_more = let x = u.texts_more in omega (arith, x);
  bytes_more = let x = u.bytes_more in omega (arith, x);
  kept = u.kept;
}

-- what adds nothing adds no more than is needed
pub used_less : (r0 r1 : Room) (n : Need) → UsesNeed r0 r1 no_need → UsesNeed r0 r1 n
used_less r0 r1 n u = record {
  records_left = let x = u.records_left in omega (arith, x);
  fields_left = let x = u.fields_left in omega (arith, x);
  texts_left = let x = u.texts_left in omega (arith, x);
  bytes_left = let x = u.bytes_left in omega (arith, x);
  records_more = let x = u.records_more in omega (arith, x);
  fields_more = let x = u.fields_more in omega (arith, x);
  texts_more = let x = u.texts_more in omega (arith, x);
  bytes_more = let x = u.bytes_more in omega (arith, x);
  kept = u.kept;
}

-- the heap is the same
pub used_same : (h0 h1 : HeapState) (r : Room) (n : Need) → h1 ≡ h0 → UsesNeed h1.room r n → UsesNeed h0.room r n
used_same h0 h1 r n same = subst (λ (h : HeapState). UsesNeed h.room r n) same

-- ---- the parts of nodes

module _ (nodes : List Node) where
  pub part_need_is : (number : ℕ) (frame : List ℕ) → HasFrame nodes number frame → part_need nodes number ≡ frame_need frame
  part_need_is number frame f = ap (λ o. frame_need (unwrap_or (option_map (λ (n : Node). n.frame) o) [])) f.at ∙ ap frame_need f.is

  pub adds_part : (old new : Store) (number : ℕ) (frame : List ℕ) → HasFrame nodes number frame → AddsAtMost old new (frame_need frame) → AddsAtMost old new (part_need nodes number)
  adds_part old new number frame f = subst (λ (n : Need). AddsAtMost old new n) (sym (part_need_is number frame f))

  pub adds_parts : (old mid handed last : Store) (left right : ℕ) (first second : List ℕ) → HasFrame nodes left first → HasFrame nodes right second
      → AddsAtMost old mid no_need → AddsAtMost mid handed (frame_need first) → AddsAtMost handed last (frame_need second)
      → AddsAtMost old last (both_needs (part_need nodes left) (part_need nodes right))
  adds_parts old mid handed last left right first second f g none one other =
      used_both old.desk.heap.room handed.desk.heap.room last.desk.heap.room (part_need nodes left) (part_need nodes right)
      (adds_part old handed left first f (used_after old.desk.heap.room mid.desk.heap.room handed.desk.heap.room (frame_need first) none one)) (adds_part handed last right second g other)

  -- the part that a truth value chooses
  pub adds_chosen : (old new : Store) (test : Val) (a b : Bool) (l r number : ℕ) (frame : List ℕ) → test ≡ Boolean a → test ≡ Boolean b → number ≡ cond a l r
      → HasFrame nodes number frame → AddsAtMost old new (frame_need frame) → AddsAtMost old new (part_need nodes (cond b l r))
  adds_chosen old new test a b l r number frame one other chosen f adds =
      let both : Boolean a ≡ Boolean b = sym one ∙ other in
      let same : a ≡ b = cc in
      subst (λ (k : ℕ). AddsAtMost old new (part_need nodes k)) (chosen ∙ ap (λ t. cond t l r) same) (adds_part old new number frame f adds)

-- ---- the last of the ready ones

pub used_last : (core : Process) (old new : Store) (number : ℕ) (frame : List ℕ) → IsLast core old new number frame → AddsAtMost old new (frame_need frame)
used_last core old new number frame (inl x) = x.1.used
used_last core old new number frame (inr s) = s.used

-- behind who keeps the turn where it is kept
pub used_behind : (core : Process) (b : Bool) (old new : Store) (number : ℕ) (frame : List ℕ) → (b ≡ true → Spawns old new number frame)
    → (b ≡ false → IsLast core (record old { turn = Nobody }) new number frame) → AddsAtMost old new (frame_need frame)
used_behind core true old new number frame one other = (one refl).used
used_behind core false old new number frame one other = used_last core (record old { turn = Nobody }) new number frame (other refl)
