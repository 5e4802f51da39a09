-- A record of the words that lie on both piles.
use Rattle.std.proofs.Common.{ℕ, suc, ◌+◌, ◌-◌, ◌<◌, ◌≤◌, ◌≡◌, ◌^◌, eqb, false, List, [], ◌∷◌, ◌++◌, length, map, take, drop, get_or, refl, sym, ap, ◌∙◌, subst, arith, rules, Vec, Global}
use Rattle.std.proofs.Math.Seq.{take-append_seam, drop-append_seam}
use Rattle.std.proofs.lemmas.Bool.{ne_eqb}
use Rattle.std.proofs.lemmas.List.{length-append, length-map, length-take, length-drop}
use Rattle.std.proofs.lemmas.List.Elements.{All-from_recursion}
use Rattle.std.specs.List.{All, AllByRecursion, IsDistinct}
use Rattle.std.specs.Vec.{vec_capacity}
use Rattle.pict_syntax.specs.declared.name.Name.{Name}
use Rattle.pict_core.specs.declared.value.CoreVal.{CoreVal, the_lemmas}
use Rattle.pict_core.specs.declared.value.CoreVal.TheVariants as value
use Rattle.pict_core.specs.Term as term
use Rattle.pict_core.proofs.Fields.{plain_val-Fields}
use Rattle.pict_core.specs.Term.{Val, Record}
use Rattle.pict_core.specs.Closed as closed
use Rattle.pict_core.specs.Plain.{plain_val, plain_field, vals_of, labelled_of}
use Rattle.pict_core.specs.Substitution.{replace_values}
use Rattle.pict_heap.specs.Fields.{count}
use Rattle.pict_heap.proofs.Rooms.{room_kept}
use Rattle.pict_heap.specs.HeapState.{HeapState, Room, value_of, IsWord, KeepsWords, UsesRoom, record_of}
use Rattle.pict_heap.specs.declared.word.Word.{Word}
use Rattle.pict_prim.specs.declared.act.Need.{Need}
use Rattle.pict_prim.specs.Acts.{UsesNeed}
use Rattle.pict_desk.specs.Known.{known, operand_value}
use Rattle.pict_desk.specs.declared.pending.Pending.{Pending}
use Rattle.pict_desk.specs.Needs.{need_of, needs_of, needs_of_labelled, both_needs, record_need, fields_need, count_labelled, HasRoomFor, IsMade, KeepsPending, PilesWords, PilesLabelled}
use Rattle.pict_desk.specs.Pairs.{ArePairs}
use Rattle.pict_desk.proofs.Making.{valued, operand_field, levels_replaced, keeps_more, operand_keeps, all_keep, values_keep, vals_replaced, labelled_replaced, word_piled, labelled_piled, take_more, take_whole, need_more, labelled_need_more}

-- ---- what lies on top of a pile

pub on_top : {A : Type 0} (n : ℕ) (all below top : List A) → n ≡ length below → all ≡ below ++ top → drop n all ≡ top
on_top n all below top e f = ap (λ k. drop k all) e ∙ ap (drop (length below)) f ∙ drop-append_seam below top

pub below_top : {A : Type 0} (n : ℕ) (all below top : List A) → n ≡ length below → all ≡ below ++ top → take n all ≡ below
below_top n all below top e f = ap (λ k. take k all) e ∙ ap (take (length below)) f ∙ take-append_seam below top

-- a slice from this number on
pub slice_from : {A : Type 0} (n : ℕ) (all : List A) → take (length all - n) (drop n all) ≡ drop n all
slice_from n all = take_whole (drop n all) (length all - n) (omega (arith, length-drop n all))

pub slice_at : {A : Type 0} (n : ℕ) (all items : List A) → all ≡ items → take (length all - n) (drop n all) ≡ drop n items
slice_at n all items e = slice_from n all ∙ ap (drop n) e

pub top_inside : {A : Type 0} (n : ℕ) (all below top : List A) → n ≡ length below → all ≡ below ++ top → n ≤ length all
top_inside n all below top e f = omega (arith, e, ap length f, length-append below top)

-- the slice of a pile from this number on
pub slice_top : {A : Type 0} (n : ℕ) (all below top : List A) → n ≡ length below → all ≡ below ++ top → take (length all - n) (drop n all) ≡ top
slice_top n all below top e f =
    let dropped : drop n all ≡ top = on_top n all below top e f in
    let many : length top ≡ length all - n = sym (ap length dropped) ∙ length-drop n all in
    ap (λ k. take k (drop n all)) (sym many) ∙ ap (take (length top)) dropped ∙ take_whole top (length top) (omega arith)

-- ---- counts

pub count_vals : (xs : List CoreVal) → count (vals_of (map plain_val xs)) ≡ length xs
count_vals [] = refl
count_vals (x ∷ xs) = ap suc (count_vals xs)

pub count_fields : (xs : List (Name × CoreVal)) → count_labelled (labelled_of (map plain_field xs)) ≡ length xs
count_fields [] = refl
count_fields (x ∷ xs) = let e = count_fields xs in omega (arith, e)

-- ---- room, first for the fields without labels, then for those with labels, then for the record

module _ (h0 : HeapState) (pending : Pending) (n m : ℕ) (a b : Need) (room : HasRoomFor h0 pending (both_needs (record_need (n + m)) (both_needs a b))) where
  pub room_words : HasRoomFor h0 pending (both_needs (fields_need n) a)
  room_words = record {
    heap = record {
      records = let e = room.heap.records in omega (arith, e);
      fields = let e = room.heap.fields in omega (arith, e);
      texts = let e = room.heap.texts in omega (arith, e);
      bytes = let e = room.heap.bytes in omega (arith, e);
    };
    words = let e = room.words in omega (arith, e);
    labelled = let e = room.labelled in omega (arith, e);
    countable = let e = room.countable in omega (arith, e);
  }

  pub room_labelled : (h1 : HeapState) (next : Pending) → UsesNeed h0.room h1.room a → length next.words.items ≡ length pending.words.items + n → vec_capacity next.words ≡ vec_capacity pending.words
      → next.labelled.items ≡ pending.labelled.items → vec_capacity next.labelled ≡ vec_capacity pending.labelled → HasRoomFor h1 next (both_needs (fields_need m) b)
  room_labelled h1 next used many same_room same same_labels = record {
    heap = record {
      records = let e = room.heap.records in let u = used.records_left in omega (arith, e, u);
      fields = let e = room.heap.fields in let u = used.fields_left in omega (arith, e, u);
      texts = let e = room.heap.texts in let u = used.texts_left in omega (arith, e, u);
      bytes = let e = room.heap.bytes in let u = used.bytes_left in omega (arith, e, u);
    };
    words = let e = room.words in omega (arith, e, many, same_room);
    labelled = let e = room.labelled in let l = ap length same in omega (arith, e, l, same_labels);
    countable = let e = room.countable in omega (arith, e);
  }

  pub record_room : (h1 h2 : HeapState) → UsesNeed h0.room h1.room a → UsesNeed h1.room h2.room b → (1 ≤ h2.room.records) × (n + m ≤ h2.room.fields) × (n < 2 ^ 32)
  record_room h1 h2 first second = (
    let e = room.heap.records in let u = first.records_left in let v = second.records_left in omega (arith, e, u, v),
    let e = room.heap.fields in let u = first.fields_left in let v = second.fields_left in omega (arith, e, u, v),
    let e = room.countable in omega (arith, e),
  )

pub all_used : (r0 r1 r2 r3 : Room) (n : ℕ) (a b : Need) → UsesNeed r0 r1 a → UsesNeed r1 r2 b → UsesRoom r2 r3 1 n 0 0 → UsesNeed r0 r3 (both_needs (record_need n) (both_needs a b))
all_used r0 r1 r2 r3 n a b u v w = record {
  records_left = let x = u.records_left in let y = v.records_left in let z = w.records_left in omega (arith, x, y, z);
  fields_left = let x = u.fields_left in let y = v.fields_left in let z = w.fields_left in omega (arith, x, y, z);
  texts_left = let x = u.texts_left in let y = v.texts_left in let z = w.texts_left in omega (arith, x, y, z);
  bytes_left = let x = u.bytes_left in let y = v.bytes_left in let z = w.bytes_left in omega (arith, x, y, z);
  records_more = let x = u.records_more in let y = v.records_more in let z = w.records_more in omega (arith, x, y, z);
  fields_more = let x = u.fields_more in let y = v.fields_more in let z = w.fields_more in omega (arith, x, y, z);
  texts_more = let x = u.texts_more in let y = v.texts_more in let z = w.texts_more in omega (arith, x, y, z);
  bytes_more = let x = u.bytes_more in let y = v.bytes_more in let z = w.bytes_more in omega (arith, x, y, z);
  kept = room_kept r0 r1 r3 u.kept (room_kept r1 r2 r3 v.kept w.kept);
}

-- ---- labels stand once

labels_stay : (h : HeapState) (fs : List (Name × Word)) → map (λ (x : Name × Val). x.0.0) (map (valued h) fs) ≡ map (λ (x : Name × Word). x.0.0) fs
labels_stay h [] = refl
labels_stay h (x ∷ fs) = ap (λ ls. x.0.0 ∷ ls) (labels_stay h fs)

operands_labels : (value : ℕ → Val) (fs : List (Name × CoreVal)) → map (λ (x : Name × Val). x.0.0) (map (operand_field value) fs) ≡ map (λ (x : Name × CoreVal). x.0.0) fs
operands_labels value [] = refl
operands_labels value (x ∷ fs) = ap (λ ls. x.0.0 ∷ ls) (operands_labels value fs)

none_same : (label : ℕ) (fs : List (Name × CoreVal)) → closed.Lacks label (labelled_of (map plain_field fs)) → AllByRecursion (λ l. eqb label l ≡ false) (map (λ (x : Name × CoreVal). x.0.0) fs)
none_same label [] h = tt
none_same label (x ∷ fs) h = (ne_eqb label x.0.0 h.0, none_same label fs h.1)

distinct_labels : (fs : List (Name × CoreVal)) → closed.IsDistinct (labelled_of (map plain_field fs)) → IsDistinct eqb (map (λ (x : Name × CoreVal). x.0.0) fs)
unfolding IsDistinct
distinct_labels [] h = tt
distinct_labels (x ∷ fs) h = (none_same x.0.0 fs h.0, distinct_labels fs h.1)

pub made_distinct : (h : HeapState) (value : ℕ → Val) (made : List (Name × Word)) (fs : List (Name × CoreVal)) → map (valued h) made ≡ map (operand_field value) fs
    → closed.IsDistinct (labelled_of (map plain_field fs)) → IsDistinct eqb (map (λ (x : Name × Word). x.0.0) made)
made_distinct h value made fs e d =
    subst (IsDistinct eqb) (sym (sym (labels_stay h made) ∙ ap (map (λ (x : Name × Val). x.0.0)) e ∙ operands_labels value fs)) (distinct_labels fs d)

-- ---- the record

fields_same : (f g : ℕ → Val) → ((v : CoreVal) → operand_value f (plain_val v) ≡ operand_value g (plain_val v)) → (fs : List (Name × CoreVal)) → map (operand_field f) fs ≡ map (operand_field g) fs
fields_same f g same [] = refl
fields_same f g same (x ∷ fs) = cc (same x.1, fields_same f g same fs)

module _ (h0 h1 h2 : HeapState) (p0 p1 p2 : Pending) (values : List (ℕ × ℕ)) (positional : List CoreVal) (labelled : List (Name × CoreVal)) (pairs : ArePairs h0 values)
    (first : PilesWords h1 p0 p1 (map (λ v. operand_value (known h0 values) (plain_val v)) positional)) (k1 : KeepsWords h0 h1)
    (second : PilesLabelled h2 p1 p2 (map (operand_field (known h1 values)) labelled)) (k2 : KeepsWords h1 h2) where
  pub words_top : (n : ℕ) → n ≡ length p0.words.items → drop n p2.words.items ≡ first.made
  words_top n e = on_top n p2.words.items p0.words.items first.made e (second.words ∙ first.words)

  pub labels_top : (n : ℕ) → n ≡ length p0.labelled.items → drop n p2.labelled.items ≡ second.made
  labels_top n e = on_top n p2.labelled.items p0.labelled.items second.made e (second.labelled ∙ ap (λ xs. xs ++ second.made) first.labelled)

  pub words_left : (n : ℕ) → n ≡ length p0.words.items → take n p2.words.items ≡ p0.words.items
  words_left n e = below_top n p2.words.items p0.words.items first.made e (second.words ∙ first.words)

  pub labels_left : (n : ℕ) → n ≡ length p0.labelled.items → take n p2.labelled.items ≡ p0.labelled.items
  labels_left n e = below_top n p2.labelled.items p0.labelled.items second.made e (second.labelled ∙ ap (λ xs. xs ++ second.made) first.labelled)

  pub many_words : length first.made ≡ length positional
  many_words = sym (length-map first.made (value_of h1)) ∙ ap length first.stand ∙ length-map positional (λ v. operand_value (known h0 values) (plain_val v))

  pub many_labels : length second.made ≡ length labelled
  many_labels = sym (length-map second.made (valued h2)) ∙ ap length second.stand ∙ length-map labelled (operand_field (known h1 values))

  pub are_words : All (IsWord h2) first.made
  are_words = All-from_recursion (IsWord h2) first.made (all_keep h1 h2 k2 first.made first.are)

  pub are_labelled : All (λ (f : Name × Word). IsWord h2 f.1) second.made
  are_labelled = All-from_recursion _ second.made second.are

  pub record_is : record_of h2 first.made second.made ≡ operand_value (known h0 values) (Record (vals_of (map plain_val positional)) (labelled_of (map plain_field labelled)))
  record_is =
      ap (λ vs. Record (vals_of vs) (labelled_of (map (valued h2) second.made))) (values_keep h1 h2 k2 first.made first.are ∙ first.stand)
      ∙ ap (λ vs. Record vs (labelled_of (map (valued h2) second.made))) (vals_replaced (known h0 values) positional)
      ∙ ap (λ ls. Record (replace_values (levels_replaced (known h0 values)) (vals_of (map plain_val positional))) (labelled_of ls)) (second.stand ∙ fields_same (known h1 values) (known h0 values) (λ v. operand_keeps h0 h1 k1 values pairs (plain_val v)) labelled)
      ∙ ap (λ ls. Record (replace_values (levels_replaced (known h0 values)) (vals_of (map plain_val positional))) ls) (labelled_replaced (known h0 values) labelled)

  pub record_made : (h3 : HeapState) (w : Word) (ws : List Word) (fs : List (Name × Word)) → ws ≡ first.made → fs ≡ second.made → IsWord h3 w → value_of h3 w ≡ record_of h2 ws fs → KeepsWords h2 h3
      → IsMade h0 h3 w (operand_value (known h0 values) (Record (vals_of (map plain_val positional)) (labelled_of (map plain_field labelled))))
  record_made h3 w ws fs e f word value k3 = record {
    word = word;
    value = value ∙ ap (λ xs. record_of h2 xs fs) e ∙ ap (record_of h2 first.made) f ∙ record_is;
    keeps = keeps_more h0 h1 h3 k1 (keeps_more h1 h2 h3 k2 k3);
  }

-- ---- the plain value of an operand, by its form

pub record_val : (v : CoreVal) (p : Vec CoreVal Global) (l : Vec (Name × CoreVal) Global) (positional : List CoreVal) (labelled : List (Name × CoreVal)) → v ≡ value.Fields p l → positional ≡ p.items → labelled ≡ l.items
    → plain_val v ≡ Record (vals_of (map plain_val positional)) (labelled_of (map plain_field labelled))
record_val v p l positional labelled is e f =
    ap plain_val is ∙ plain_val-Fields p l ∙ ap (λ xs. Record (vals_of (map plain_val xs)) (labelled_of (map plain_field l.items))) (sym e)
    ∙ ap (λ xs. Record (vals_of (map plain_val positional)) (labelled_of (map plain_field xs))) (sym f)

pub need_of_record : (positional : List CoreVal) (labelled : List (Name × CoreVal)) → need_of (Record (vals_of (map plain_val positional)) (labelled_of (map plain_field labelled)))
    ≡ both_needs (record_need (length positional + length labelled)) (both_needs (needs_of (vals_of (map plain_val positional))) (needs_of_labelled (labelled_of (map plain_field labelled))))
need_of_record positional labelled =
    ap (λ n. both_needs (record_need (n + count_labelled (labelled_of (map plain_field labelled)))) (both_needs (needs_of (vals_of (map plain_val positional))) (needs_of_labelled (labelled_of (map plain_field labelled))))) (count_vals positional)
    ∙ ap (λ n. both_needs (record_need (length positional + n)) (both_needs (needs_of (vals_of (map plain_val positional))) (needs_of_labelled (labelled_of (map plain_field labelled))))) (count_fields labelled)

pub plain_var : (level : ℕ) → plain_val (value.Var level) ≡ term.Var level
plain_var level = search (rules, the_lemmas)

pub plain_text : (bytes : List ℕ) → plain_val (value.Text bytes) ≡ term.Text bytes
plain_text bytes = search (rules, the_lemmas)

-- ---- one operand more on a pile

pub piled_length : (h : HeapState) (p0 p1 : Pending) (vs : List Val) → PilesWords h p0 p1 vs → length p1.words.items ≡ length p0.words.items + length vs
piled_length h p0 p1 vs p =
    ap length p.words ∙ length-append p0.words.items p.made ∙ ap (λ n. length p0.words.items + n) (sym (length-map p.made (value_of h)) ∙ ap length p.stand)

pub labelled_length : (h : HeapState) (p0 p1 : Pending) (fs : List (Name × Val)) → PilesLabelled h p0 p1 fs → length p1.labelled.items ≡ length p0.labelled.items + length fs
labelled_length h p0 p1 fs p =
    ap length p.labelled ∙ length-append p0.labelled.items p.made ∙ ap (λ n. length p0.labelled.items + n) (sym (length-map p.made (valued h)) ∙ ap length p.stand)

module _ (h0 h : HeapState) (p0 p : Pending) (operands : List CoreVal) (i : ℕ) (x : CoreVal) (low : i < length operands) (is : x ≡ get_or operands i x) where
  pub room_next : (f : CoreVal → Val) → HasRoomFor h0 p0 (both_needs (fields_need (length operands)) (needs_of (vals_of (map plain_val operands)))) → UsesNeed h0.room h.room (needs_of (vals_of (map plain_val (take i operands))))
      → PilesWords h p0 p (map f (take i operands)) → HasRoomFor h p (need_of (plain_val x))
  room_next f room used piled =
      let many = piled_length h p0 p (map f (take i operands)) piled in
      let few : length (map f (take i operands)) ≡ i = length-map (take i operands) f ∙ length-take i operands ∙ omega (arith, low) in
      record {
        heap = record {
          records = let m = (need_more (λ n. n.records) (λ a b. refl) refl operands i x low is).1 in let e = room.heap.records in let u = used.records_left in omega (arith, m, e, u);
          fields = let m = (need_more (λ n. n.fields) (λ a b. refl) refl operands i x low is).1 in let e = room.heap.fields in let u = used.fields_left in omega (arith, m, e, u);
          texts = let m = (need_more (λ n. n.texts) (λ a b. refl) refl operands i x low is).1 in let e = room.heap.texts in let u = used.texts_left in omega (arith, m, e, u);
          bytes = let m = (need_more (λ n. n.bytes) (λ a b. refl) refl operands i x low is).1 in let e = room.heap.bytes in let u = used.bytes_left in omega (arith, m, e, u);
        };
        words = let m = (need_more (λ n. n.fields) (λ a b. refl) refl operands i x low is).1 in let e = room.words in let c = piled.words_room in omega (arith, m, e, c, many, few, low);
        labelled = let m = (need_more (λ n. n.fields) (λ a b. refl) refl operands i x low is).1 in let e = room.labelled in let c = piled.labelled_room in let l = ap length piled.labelled in omega (arith, m, e, c, l);
        countable = let m = (need_more (λ n. n.fields) (λ a b. refl) refl operands i x low is).1 in let e = room.countable in omega (arith, m, e);
      }

  pub used_next : (h' : HeapState) → UsesNeed h0.room h.room (needs_of (vals_of (map plain_val (take i operands)))) → UsesNeed h.room h'.room (need_of (plain_val x)) → UsesNeed h0.room h'.room (needs_of (vals_of (map plain_val (take (i + 1) operands))))
  used_next h' u v = record {
    records_left = let m = (need_more (λ n. n.records) (λ a b. refl) refl operands i x low is).0 in let a = u.records_left in let b = v.records_left in omega (arith, m, a, b);
    fields_left = let m = (need_more (λ n. n.fields) (λ a b. refl) refl operands i x low is).0 in let a = u.fields_left in let b = v.fields_left in omega (arith, m, a, b);
    texts_left = let m = (need_more (λ n. n.texts) (λ a b. refl) refl operands i x low is).0 in let a = u.texts_left in let b = v.texts_left in omega (arith, m, a, b);
    bytes_left = let m = (need_more (λ n. n.bytes) (λ a b. refl) refl operands i x low is).0 in let a = u.bytes_left in let b = v.bytes_left in omega (arith, m, a, b);
    records_more = let m = (need_more (λ n. n.records) (λ a b. refl) refl operands i x low is).0 in let a = u.records_more in let b = v.records_more in omega (arith, m, a, b);
    fields_more = let m = (need_more (λ n. n.fields) (λ a b. refl) refl operands i x low is).0 in let a = u.fields_more in let b = v.fields_more in omega (arith, m, a, b);
    texts_more = let m = (need_more (λ n. n.texts) (λ a b. refl) refl operands i x low is).0 in let a = u.texts_more in let b = v.texts_more in omega (arith, m, a, b);
    bytes_more = let m = (need_more (λ n. n.bytes) (λ a b. refl) refl operands i x low is).0 in let a = u.bytes_more in let b = v.bytes_more in omega (arith, m, a, b);
    kept = room_kept h0.room h.room h'.room u.kept v.kept;
  }

  pub piled_next : (h' : HeapState) (next last : Pending) (values : List (ℕ × ℕ)) (w : Word) → KeepsWords h0 h → ArePairs h0 values → PilesWords h p0 p (map (λ v. operand_value (known h0 values) (plain_val v)) (take i operands))
      → IsMade h h' w (operand_value (known h values) (plain_val x)) → KeepsPending p next
      → last.words.items ≡ next.words.items ++ w ∷ [] → vec_capacity last.words ≡ vec_capacity next.words → last.labelled ≡ next.labelled
      → PilesWords h' p0 last (map (λ v. operand_value (known h0 values) (plain_val v)) (take (i + 1) operands))
  piled_next h' next last values w keeps pairs piled made kept pushed room same =
      subst (PilesWords h' p0 last) (sym (take_more (λ v. operand_value (known h0 values) (plain_val v)) operands i x low is))
      (word_piled h h' p0 p next last w (operand_value (known h0 values) (plain_val x))
      (record { word = made.word; value = made.value ∙ operand_keeps h0 h keeps values pairs (plain_val x); keeps = made.keeps })
      kept (map (λ v. operand_value (known h0 values) (plain_val v)) (take i operands)) piled pushed room same)

module _ (h0 h : HeapState) (p0 p : Pending) (operands : List (Name × CoreVal)) (i : ℕ) (x : Name × CoreVal) (low : i < length operands) (is : x ≡ get_or operands i x) where
  pub labelled_room_next : (f : Name × CoreVal → Name × Val) → HasRoomFor h0 p0 (both_needs (fields_need (length operands)) (needs_of_labelled (labelled_of (map plain_field operands)))) → UsesNeed h0.room h.room (needs_of_labelled (labelled_of (map plain_field (take i operands))))
      → PilesLabelled h p0 p (map f (take i operands)) → HasRoomFor h p (need_of (plain_val x.1))
  labelled_room_next f room used piled =
      let many = labelled_length h p0 p (map f (take i operands)) piled in
      let few : length (map f (take i operands)) ≡ i = length-map (take i operands) f ∙ length-take i operands ∙ omega (arith, low) in
      record {
        heap = record {
          records = let m = (labelled_need_more (λ n. n.records) (λ a b. refl) refl operands i x low is).1 in let e = room.heap.records in let u = used.records_left in omega (arith, m, e, u);
          fields = let m = (labelled_need_more (λ n. n.fields) (λ a b. refl) refl operands i x low is).1 in let e = room.heap.fields in let u = used.fields_left in omega (arith, m, e, u);
          texts = let m = (labelled_need_more (λ n. n.texts) (λ a b. refl) refl operands i x low is).1 in let e = room.heap.texts in let u = used.texts_left in omega (arith, m, e, u);
          bytes = let m = (labelled_need_more (λ n. n.bytes) (λ a b. refl) refl operands i x low is).1 in let e = room.heap.bytes in let u = used.bytes_left in omega (arith, m, e, u);
        };
        words = let m = (labelled_need_more (λ n. n.fields) (λ a b. refl) refl operands i x low is).1 in let e = room.words in let c = piled.words_room in let l = ap length piled.words in omega (arith, m, e, c, l);
        labelled = let m = (labelled_need_more (λ n. n.fields) (λ a b. refl) refl operands i x low is).1 in let e = room.labelled in let c = piled.labelled_room in omega (arith, m, e, c, many, few, low);
        countable = let m = (labelled_need_more (λ n. n.fields) (λ a b. refl) refl operands i x low is).1 in let e = room.countable in omega (arith, m, e);
      }

  pub labelled_used_next : (h' : HeapState) → UsesNeed h0.room h.room (needs_of_labelled (labelled_of (map plain_field (take i operands)))) → UsesNeed h.room h'.room (need_of (plain_val x.1))
      → UsesNeed h0.room h'.room (needs_of_labelled (labelled_of (map plain_field (take (i + 1) operands))))
  labelled_used_next h' u v = record {
    records_left = let m = (labelled_need_more (λ n. n.records) (λ a b. refl) refl operands i x low is).0 in let a = u.records_left in let b = v.records_left in omega (arith, m, a, b);
    fields_left = let m = (labelled_need_more (λ n. n.fields) (λ a b. refl) refl operands i x low is).0 in let a = u.fields_left in let b = v.fields_left in omega (arith, m, a, b);
    texts_left = let m = (labelled_need_more (λ n. n.texts) (λ a b. refl) refl operands i x low is).0 in let a = u.texts_left in let b = v.texts_left in omega (arith, m, a, b);
    bytes_left = let m = (labelled_need_more (λ n. n.bytes) (λ a b. refl) refl operands i x low is).0 in let a = u.bytes_left in let b = v.bytes_left in omega (arith, m, a, b);
    records_more = let m = (labelled_need_more (λ n. n.records) (λ a b. refl) refl operands i x low is).0 in let a = u.records_more in let b = v.records_more in omega (arith, m, a, b);
    fields_more = let m = (labelled_need_more (λ n. n.fields) (λ a b. refl) refl operands i x low is).0 in let a = u.fields_more in let b = v.fields_more in omega (arith, m, a, b);
    texts_more = let m = (labelled_need_more (λ n. n.texts) (λ a b. refl) refl operands i x low is).0 in let a = u.texts_more in let b = v.texts_more in omega (arith, m, a, b);
    bytes_more = let m = (labelled_need_more (λ n. n.bytes) (λ a b. refl) refl operands i x low is).0 in let a = u.bytes_more in let b = v.bytes_more in omega (arith, m, a, b);
    kept = room_kept h0.room h.room h'.room u.kept v.kept;
  }

  pub labelled_piled_next : (h' : HeapState) (next last : Pending) (values : List (ℕ × ℕ)) (w : Word) → KeepsWords h0 h → ArePairs h0 values
      → PilesLabelled h p0 p (map (operand_field (known h0 values)) (take i operands))
      → IsMade h h' w (operand_value (known h values) (plain_val x.1)) → KeepsPending p next
      → last.labelled.items ≡ next.labelled.items ++ (x.0, w) ∷ [] → vec_capacity last.labelled ≡ vec_capacity next.labelled → last.words ≡ next.words
      → PilesLabelled h' p0 last (map (operand_field (known h0 values)) (take (i + 1) operands))
  labelled_piled_next h' next last values w keeps pairs piled made kept pushed room same =
      subst (PilesLabelled h' p0 last) (sym (take_more (operand_field (known h0 values)) operands i x low is))
      (labelled_piled h h' p0 p next last w (operand_value (known h0 values) (plain_val x.1))
      (record { word = made.word; value = made.value ∙ operand_keeps h0 h keeps values pairs (plain_val x.1); keeps = made.keeps })
      kept x.0 (map (operand_field (known h0 values)) (take i operands)) piled pushed room same)

-- what a record of operands needs, summed from its parts
pub needed : (v : CoreVal) (p : Vec CoreVal Global) (l : Vec (Name × CoreVal) Global) (positional : List CoreVal) (labelled : List (Name × CoreVal)) (a b : ℕ) (n m x : Need) → v ≡ value.Fields p l → positional ≡ p.items → labelled ≡ l.items
    → a ≡ length positional → b ≡ length labelled → n ≡ needs_of (vals_of (map plain_val positional)) → m ≡ needs_of_labelled (labelled_of (map plain_field labelled)) → x ≡ both_needs n m
    → both_needs (record_need (a + b)) x ≡ need_of (plain_val v)
needed v p l positional labelled a b n m x is e f ea eb en em ex =
    let parts = both_needs (needs_of (vals_of (map plain_val positional))) (needs_of_labelled (labelled_of (map plain_field labelled))) in
    ap (both_needs (record_need (a + b))) (ex ∙ ap (λ k. both_needs k m) en ∙ ap (both_needs (needs_of (vals_of (map plain_val positional)))) em)
    ∙ ap (λ k. both_needs (record_need (k + b)) parts) ea ∙ ap (λ k. both_needs (record_need (length positional + k)) parts) eb
    ∙ sym (ap need_of (record_val v p l positional labelled is e f) ∙ need_of_record positional labelled)
