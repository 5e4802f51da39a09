-- Room that is made, and what stays meanwhile.
use Rattle.std.proofs.Common.{ℕ, ◌<◌, ◌≤◌, ◌≡◌, true, false, cond, nat_lt, List, length, refl, sym, ap, ◌∙◌, subst, arith}
use Rattle.std.proofs.lemmas.Bool.Decides.{nat_tests}
use Rattle.pict_syntax.specs.declared.limits.TheConstants.{NARROW_LIMIT}
use Rattle.pict_core.specs.Term.{Val}
use Rattle.pict_heap.specs.HeapState.{HeapState, RecordState, Room, KeepsWords, IsWordOf, word_value, heap_values}
use Rattle.pict_heap.proofs.Rooms.{room_stays}
use Rattle.pict_prim.specs.Acts.{UsesNeed}
use Rattle.pict_prim.specs.declared.act.Need.{Need}
use Rattle.pict_desk.specs.Known.{value_in}
use Rattle.pict_desk.specs.Needs.{both_needs, no_need, record_need, HasRoomFor, KeepsPending}
use Rattle.pict_desk.specs.Room.{frame_need, KeepsHeap, KeepsPiles}
use Rattle.pict_desk.specs.declared.pending.Pending.{Pending}

-- ---- room for several

pub has_room : (h : HeapState) (p : Pending) (a b : Need) → HasRoomFor h p (both_needs a b) → HasRoomFor h p a
has_room h p a b r = record {
  heap = record {
    records = let e = r.heap.records in omega (arith, e);
    fields = let e = r.heap.fields in omega (arith, e);
    texts = let e = r.heap.texts in omega (arith, e);
    bytes = let e = r.heap.bytes in omega (arith, e);
  };
  words = let e = r.words in omega (arith, e);
  labelled = let e = r.labelled in omega (arith, e);
  countable = let e = r.countable in omega (arith, e);
}

-- there is room for one once the other is made
pub room_left : (h0 h1 : HeapState) (p0 p1 : Pending) (a b : Need) → HasRoomFor h0 p0 (both_needs a b) → UsesNeed h0.room h1.room a → KeepsPending p0 p1 → HasRoomFor h1 p1 b
room_left h0 h1 p0 p1 a b r u k = record {
  heap = record {
    records = let e = r.heap.records in let f = u.records_left in omega (arith, e, f);
    fields = let e = r.heap.fields in let f = u.fields_left in omega (arith, e, f);
    texts = let e = r.heap.texts in let f = u.texts_left in omega (arith, e, f);
    bytes = let e = r.heap.bytes in let f = u.bytes_left in omega (arith, e, f);
  };
  words = let e = r.words in let f = ap length k.words in let g = k.words_room in omega (arith, e, f, g);
  labelled = let e = r.labelled in let f = ap length k.labelled in let g = k.labelled_room in omega (arith, e, f, g);
  countable = let e = r.countable in omega (arith, e);
}

pub room_swapped : (h : HeapState) (p : Pending) (a b : Need) → HasRoomFor h p (both_needs a b) → HasRoomFor h p (both_needs b a)
room_swapped h p a b r = record {
  heap = record {
    records = let e = r.heap.records in omega (arith, e);
    fields = let e = r.heap.fields in omega (arith, e);
    texts = let e = r.heap.texts in omega (arith, e);
    bytes = let e = r.heap.bytes in omega (arith, e);
  };
  words = let e = r.words in omega (arith, e);
  labelled = let e = r.labelled in omega (arith, e);
  countable = let e = r.countable in omega (arith, e);
}

-- ---- a heap whose room alone has changed

module _ (old new : HeapState) (k : KeepsHeap old new) where
  pub keeps_words : KeepsWords old new
  keeps_words = record {
    words = λ w is. subst (λ (n : ℕ). IsWordOf n (length new.records) w) (sym (ap length k.texts)) (subst (λ (n : ℕ). IsWordOf (length old.texts) n w) (sym (ap length k.records)) is);
    values = λ w is.
        ap (λ (ts : List (List ℕ)). word_value ts (heap_values ts new.records) w) k.texts
        ∙ ap (λ (rs : List RecordState). word_value old.texts (heap_values old.texts rs) w) k.records;
  }

  at_room : List (List ℕ) → List RecordState → ℕ → ℕ → Val
  at_room ts rs = value_in (record { texts = ts; records = rs; room = old.room })

  pub value_kept : value_in new ≡ value_in old
  unfolding at_room
  value_kept = ap (λ ts. at_room ts new.records) k.texts ∙ ap (at_room old.texts) k.records

-- ---- piles, and what frames need

pub piles_kept : (p : Pending) → KeepsPiles p p
piles_kept p = record { words = refl; words_room = omega arith; labelled = refl; labelled_room = omega arith }

pub need_narrow : (frame : List ℕ) → length frame ≤ NARROW_LIMIT → frame_need frame ≡ no_need
need_narrow frame few = let test : nat_lt NARROW_LIMIT (length frame) ≡ false = grind (arith, nat_tests) in ap (λ b. cond b (record_need (length frame)) no_need) test

pub need_wide : (frame : List ℕ) → NARROW_LIMIT < length frame → frame_need frame ≡ record_need (length frame)
need_wide frame many = let test : nat_lt NARROW_LIMIT (length frame) ≡ true = grind (arith, nat_tests) in ap (λ b. cond b (record_need (length frame)) no_need) test

pub uses_nothing : (room : Room) → UsesNeed room room no_need
uses_nothing room = record { records_left = omega arith; fields_left = omega arith; texts_left = omega arith; bytes_left = omega arith; records_more = omega arith; fields_more = omega arith; texts_more = omega arith; bytes_more = omega arith; kept = room_stays room }
