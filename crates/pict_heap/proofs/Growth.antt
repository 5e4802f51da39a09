-- A heap that grows: what stands in it stays, and all words stand for what they stood for.
use Rattle.std.proofs.Common.{◌≡◌, ℕ, zero, suc, ◌+◌, ◌-◌, ◌^◌, ◌<◌, ◌≤◌, List, [], ◌∷◌, ◌++◌, length, map, take, drop, get_or, Some, sym, ◌∙◌, ap, subst, arith, length-append, length-drop}
use Rattle.std.specs.List.{fold, All, AllByRecursion, slice_get}
use Rattle.std.proofs.lemmas.List.{get_or_append_left, get_or_at, length_push, length-map, map-append, drop-append-le, take-append-le, drop_at, take_all, append-nil}
use Rattle.pict_syntax.specs.declared.name.Name.{Name}
use Rattle.pict_heap.specs.HeapState.{RecordState, HeapState, word_value, record_value, more_values, heap_values, IsWordOf, IsWord, KeepsWords}
use Rattle.pict_heap.specs.Layout.{text_state, record_state, heap_state, IsWithin, RecordIsWithin, IsRecordOf, AreGrounded, AreSorted, IsIndexed, IsHeapSound}
use Rattle.pict_heap.specs.declared.word.Word.{Word}
use Rattle.pict_heap.specs.declared.heap.Slice.{Slice}
use Rattle.pict_heap.specs.declared.heap.Record.{Record}
use Rattle.pict_heap.specs.declared.heap.Heap.TheInside.{Inside}
use Rattle.pict_heap.proofs.Values.{nothing, Agree, word_value-same, map-same, fold_extends, fold_texts, fold-append, values_pushed, length-values_of, grounded_pushed, grounded_more, word_of_more, all_more}

-- a slice of a list stays when the list grows
pub range_kept : {A : Type 0} (xs ys : List A) (slice : Slice) → IsWithin (length xs) slice
    → take (slice.end - slice.start) (drop slice.start (xs ++ ys)) ≡ take (slice.end - slice.start) (drop slice.start xs)
range_kept xs ys slice within =
    let before : slice.start ≤ length xs = omega (arith, within.ordered, within.inside) in
    let fits : slice.end - slice.start ≤ length (drop slice.start xs) = omega (arith, within.inside, length-drop slice.start xs) in
    ap (take (slice.end - slice.start)) (drop-append-le slice.start xs ys before) ∙ take-append-le (slice.end - slice.start) (drop slice.start xs) ys fits

pub range_new : {A : Type 0} (xs ys : List A) (start end : ℕ) → start ≡ length xs → end ≡ length xs + length ys
    → take (end - start) (drop start (xs ++ ys)) ≡ ys
range_new xs ys start end start_is end_is =
    ap (take (end - start)) (drop_at xs ys start (sym start_is)) ∙ take_all (end - start) ys (omega (arith, start_is, end_is))

pub within_more : (m n : ℕ) → m ≤ n → (slice : Slice) → IsWithin m slice → IsWithin n slice
within_more m n more slice within = record { ordered = within.ordered; inside = omega (arith, within.inside, more) }

pub texts_kept : (bytes more : List ℕ) (texts : List Slice) → AllByRecursion (IsWithin (length bytes)) texts
    → map (text_state (bytes ++ more)) texts ≡ map (text_state bytes) texts
texts_kept bytes more texts all = map-same (IsWithin (length bytes)) (text_state bytes) (text_state (bytes ++ more)) (λ slice within. range_kept bytes more slice within) texts all

pub records_kept : (words more : List Word) (labelled more' : List (Name × Word)) (records : List Record)
    → AllByRecursion (RecordIsWithin (length words) (length labelled)) records
    → map (record_state (words ++ more) (labelled ++ more')) records ≡ map (record_state words labelled) records
records_kept words more labelled more' records all =
    map-same (RecordIsWithin (length words) (length labelled)) (record_state words labelled) (record_state (words ++ more) (labelled ++ more'))
    (λ r within.
    ap (λ ws. let s : RecordState = record { positional = ws; labelled = take (r.labelled.end - r.labelled.start) (drop r.labelled.start (labelled ++ more')) } in s)
    (range_kept words more r.positional within.positional)
    ∙ ap (λ ls. let s : RecordState = record { positional = take (r.positional.end - r.positional.start) (drop r.positional.start words); labelled = ls } in s)
    (range_kept labelled more' r.labelled within.labelled))
    records all

pub all_pushed : {A : Type 0} (P : A → Type 0) (xs : List A) (x : A) → AllByRecursion P xs → P x → AllByRecursion P (xs ++ x ∷ [])
all_pushed P [] x all is = (is, tt)
all_pushed P (y ∷ xs) x all is = (all.0, all_pushed P xs x all.1 is)

pub each : {A : Type 0} (P : A → Type 0) (xs : List A) → All P xs → AllByRecursion P xs
each P [] all = tt
each P (x ∷ xs) all = (all 0 x (omega arith), each P xs (λ k d inside. all (suc k) d (omega (arith, inside))))

pub each_at : {A : Type 0} (P : A → Type 0) (xs : List A) (i : ℕ) (x : A) → AllByRecursion P xs → slice_get xs i ≡ Some x → P x
each_at P [] i x all found = cc
each_at P (y ∷ xs) zero x all found = let same : y ≡ x = cc in subst P same all.0
each_at P (y ∷ xs) (suc i) x all found = each_at P xs i x all.1 found

-- words keep their values when texts and records are added
pub value_kept : (texts more : List (List ℕ)) (records more' : List RecordState) → AreGrounded (length texts) 0 records
    → (w : Word) → IsWordOf (length texts) (length records) w
    → word_value (texts ++ more) (heap_values (texts ++ more) (records ++ more')) w ≡ word_value texts (heap_values texts records) w
value_kept texts more records more' grounded w is =
    let same : (n : ℕ) → n < length texts → get_or (texts ++ more) n [] ≡ get_or texts n [] = λ n inside. get_or_append_left texts more [] n inside in
    let first : heap_values (texts ++ more) records ≡ heap_values texts records = fold_texts texts (texts ++ more) (length texts) same records [] grounded in
    let whole : heap_values (texts ++ more) (records ++ more') ≡ fold (more_values (texts ++ more)) (heap_values (texts ++ more) records) more' =
    fold-append (texts ++ more) [] records more' in
    let agree : Agree texts (texts ++ more) (heap_values texts records) (heap_values (texts ++ more) (records ++ more')) (length texts) (length records) = record {
      same_texts = same;
      same_values = λ n inside.
          let there : n < length (heap_values (texts ++ more) records) = omega (arith, inside, length-values_of (texts ++ more) records) in
          ap (λ vs. get_or vs n nothing) whole
          ∙ fold_extends (texts ++ more) more' (heap_values (texts ++ more) records) n there
          ∙ ap (λ vs. get_or vs n nothing) first;
    } in
    word_value-same texts (texts ++ more) (heap_values texts records) (heap_values (texts ++ more) (records ++ more')) (length texts) (length records) agree w is

pub words_kept : (h h' : HeapState) (texts : List (List ℕ)) (records : List RecordState) → AreGrounded (length h.texts) 0 h.records
    → h'.texts ≡ h.texts ++ texts → h'.records ≡ h.records ++ records → KeepsWords h h'
words_kept h h' texts records grounded texts_are records_are = record {
  words = λ w is. word_of_more (length h.texts) (length h'.texts) (length h.records) (length h'.records)
      (omega (arith, ap length texts_are, length-append h.texts texts)) (omega (arith, ap length records_are, length-append h.records records)) w is;
  values = λ w is.
      ap (λ ts. word_value ts (heap_values ts h'.records) w) texts_are
      ∙ ap (λ rs. word_value (h.texts ++ texts) (heap_values (h.texts ++ texts) rs) w) records_are
      ∙ value_kept h.texts texts h.records records grounded w is;
}

-- a text is added
pub record AddsText (a a' : Inside) (bytes : List ℕ) : Type 0 where
  pub texts : (heap_state a').texts ≡ (heap_state a).texts ++ bytes ∷ []
  pub records : (heap_state a').records ≡ (heap_state a).records
  pub sound : IsHeapSound a'

pub text_added : (a a' : Inside) (bytes : List ℕ) (slice : Slice) → IsHeapSound a
    → a'.bytes.items ≡ a.bytes.items ++ bytes → slice.start ≡ length a.bytes.items → slice.end ≡ length a.bytes.items + length bytes
    → a'.texts.items ≡ a.texts.items ++ slice ∷ [] → a'.words.items ≡ a.words.items → a'.labelled.items ≡ a.labelled.items → a'.sorted.items ≡ a.sorted.items
    → a'.records.items ≡ a.records.items
    → AddsText a a' bytes
text_added a a' bytes slice sound bytes_are start_is end_is texts_are words_are labelled_are sorted_are records_are =
    let old : List ℕ = a.bytes.items in
    let lengths : length a'.bytes.items ≡ length old + length bytes = ap length bytes_are ∙ length-append old bytes in
    let records : (heap_state a').records ≡ (heap_state a).records =
    ap (λ ws. map (record_state ws a'.labelled.items) a'.records.items) words_are
    ∙ ap (λ ls. map (record_state a.words.items ls) a'.records.items) labelled_are
    ∙ ap (map (record_state a.words.items a.labelled.items)) records_are in
    record {
      texts =
          ap (λ bs. map (text_state bs) a'.texts.items) bytes_are
          ∙ ap (map (text_state (old ++ bytes))) texts_are
          ∙ map-append (text_state (old ++ bytes)) a.texts.items (slice ∷ [])
          ∙ ap (λ ts. ts ++ text_state (old ++ bytes) slice ∷ []) (texts_kept old bytes a.texts.items sound.texts)
          ∙ ap (λ t. (heap_state a).texts ++ t ∷ []) (range_new old bytes slice.start slice.end start_is end_is);
      records = records;
      sound = record {
        texts = subst (AllByRecursion (IsWithin (length a'.bytes.items))) (sym texts_are)
            (all_pushed (IsWithin (length a'.bytes.items)) a.texts.items slice
            (all_more (IsWithin (length old)) (IsWithin (length a'.bytes.items)) (within_more (length old) (length a'.bytes.items) (omega (arith, lengths))) a.texts.items sound.texts)
            (record { ordered = omega (arith, start_is, end_is); inside = omega (arith, end_is, lengths) }));
        records = subst (AllByRecursion (RecordIsWithin (length a'.words.items) (length a'.labelled.items))) (sym records_are)
            (all_more (RecordIsWithin (length a.words.items) (length a.labelled.items)) (RecordIsWithin (length a'.words.items) (length a'.labelled.items))
            (λ r within. record {
              positional = within_more (length a.words.items) (length a'.words.items) (omega (arith, ap length words_are)) r.positional within.positional;
              labelled = within_more (length a.labelled.items) (length a'.labelled.items) (omega (arith, ap length labelled_are)) r.labelled within.labelled;
              countable = within.countable;
            })
            a.records.items sound.records);
        grounded = subst (AreGrounded (length a'.texts.items) 0) (sym records)
            (grounded_more (length a.texts.items) (length a'.texts.items) 0 (heap_state a).records
            (omega (arith, ap length texts_are, length_push a.texts.items slice)) sound.grounded);
        as_long = ap length sorted_are ∙ sound.as_long ∙ sym (ap length labelled_are);
        indexed = subst (AllByRecursion (IsIndexed a'.labelled.items a'.sorted.items)) (sym records_are)
            (subst (λ ls. AllByRecursion (IsIndexed ls a'.sorted.items) a.records.items) (sym labelled_are)
            (subst (λ ss. AllByRecursion (IsIndexed a.labelled.items ss) a.records.items) (sym sorted_are) sound.indexed));
      };
    }

-- a record is added
pub record AddsRecord (a a' : Inside) (r : RecordState) : Type 0 where
  pub texts : (heap_state a').texts ≡ (heap_state a).texts
  pub records : (heap_state a').records ≡ (heap_state a).records ++ r ∷ []
  pub sound : IsHeapSound a'

both_more : {A : Type 0} (P Q R : A → Type 0) → ((x : A) → P x → Q x → R x) → (xs : List A) → AllByRecursion P xs → AllByRecursion Q xs → AllByRecursion R xs
both_more P Q R more [] all all' = tt
both_more P Q R more (x ∷ xs) all all' = (more x all.0 all'.0, both_more P Q R more xs all.1 all'.1)

index_kept : (labels more sorted more' : List (Name × Word)) (r : Record) → IsWithin (length labels) r.labelled → length labels ≡ length sorted
    → IsIndexed labels sorted r → IsIndexed (labels ++ more) (sorted ++ more') r
index_kept labels more sorted more' r within same index =
    subst (λ fs. AreSorted fs (take (r.labelled.end - r.labelled.start) (drop r.labelled.start (sorted ++ more')))) (sym (range_kept labels more r.labelled within))
    (subst (AreSorted (take (r.labelled.end - r.labelled.start) (drop r.labelled.start labels)))
    (sym (range_kept sorted more' r.labelled (subst (λ n. IsWithin n r.labelled) same within))) index)

pub record_added : (a a' : Inside) (positional : List Word) (labelled sorted : List (Name × Word)) (p l : Slice) → IsHeapSound a
    → IsRecordOf (length a.texts.items) (length a.records.items) (record { positional = positional; labelled = labelled }) → length positional < 2 ^ 32
    → a'.words.items ≡ a.words.items ++ positional → p.start ≡ length a.words.items → p.end ≡ length a.words.items + length positional
    → a'.labelled.items ≡ a.labelled.items ++ labelled → l.start ≡ length a.labelled.items → l.end ≡ length a.labelled.items + length labelled
    → a'.records.items ≡ a.records.items ++ record { positional = p; labelled = l } ∷ []
    → a'.bytes.items ≡ a.bytes.items → a'.texts.items ≡ a.texts.items
    → a'.sorted.items ≡ a.sorted.items ++ sorted → AreSorted labelled sorted → length sorted ≡ length labelled
    → AddsRecord a a' (record { positional = positional; labelled = labelled })
record_added a a' positional labelled sorted p l sound is few words_are p_start p_end labelled_are l_start l_end records_are bytes_are texts_are sorted_are in_order as_many =
    let r : Record = record { positional = p; labelled = l } in
    let words : List Word = a.words.items in
    let labels : List (Name × Word) = a.labelled.items in
    let word_lengths : length a'.words.items ≡ length words + length positional = ap length words_are ∙ length-append words positional in
    let label_lengths : length a'.labelled.items ≡ length labels + length labelled = ap length labelled_are ∙ length-append labels labelled in
    let joint : length a.sorted.items + length sorted ≡ length labels + length labelled = omega (arith, sound.as_long, as_many) in
    let state : record_state (words ++ positional) (labels ++ labelled) r ≡ record { positional = positional; labelled = labelled } =
    ap (λ ws. let s : RecordState = record { positional = ws; labelled = take (l.end - l.start) (drop l.start (labels ++ labelled)) } in s) (range_new words positional p.start p.end p_start p_end)
    ∙ ap (λ ls. let s : RecordState = record { positional = positional; labelled = ls } in s) (range_new labels labelled l.start l.end l_start l_end) in
    let records : (heap_state a').records ≡ (heap_state a).records ++ record { positional = positional; labelled = labelled } ∷ [] =
    ap (λ ws. map (record_state ws a'.labelled.items) a'.records.items) words_are
    ∙ ap (λ ls. map (record_state (words ++ positional) ls) a'.records.items) labelled_are
    ∙ ap (map (record_state (words ++ positional) (labels ++ labelled))) records_are
    ∙ map-append (record_state (words ++ positional) (labels ++ labelled)) a.records.items (r ∷ [])
    ∙ ap (λ rs. rs ++ record_state (words ++ positional) (labels ++ labelled) r ∷ []) (records_kept words positional labels labelled a.records.items sound.records)
    ∙ ap (λ s. (heap_state a).records ++ s ∷ []) state in
    record {
      texts = ap (λ bs. map (text_state bs) a'.texts.items) bytes_are ∙ ap (map (text_state a.bytes.items)) texts_are;
      records = records;
      sound = record {
        texts = subst (AllByRecursion (IsWithin (length a'.bytes.items))) (sym texts_are)
            (subst (λ n. AllByRecursion (IsWithin n) a.texts.items) (sym (ap length bytes_are)) sound.texts);
        records = subst (AllByRecursion (RecordIsWithin (length a'.words.items) (length a'.labelled.items))) (sym records_are)
            (all_pushed (RecordIsWithin (length a'.words.items) (length a'.labelled.items)) a.records.items r
            (all_more (RecordIsWithin (length words) (length labels)) (RecordIsWithin (length a'.words.items) (length a'.labelled.items))
            (λ x within. record {
              positional = within_more (length words) (length a'.words.items) (omega (arith, word_lengths)) x.positional within.positional;
              labelled = within_more (length labels) (length a'.labelled.items) (omega (arith, label_lengths)) x.labelled within.labelled;
              countable = within.countable;
            })
            a.records.items sound.records)
            (record {
              positional = record { ordered = omega (arith, p_start, p_end); inside = omega (arith, p_end, word_lengths) };
              labelled = record { ordered = omega (arith, l_start, l_end); inside = omega (arith, l_end, label_lengths) };
              countable = omega (arith, p_start, p_end, few);
            }));
        grounded = subst (λ n. AreGrounded n 0 (heap_state a').records) (sym (ap length texts_are))
            (subst (AreGrounded (length a.texts.items) 0) (sym records)
            (grounded_pushed (length a.texts.items) 0 (heap_state a).records (record { positional = positional; labelled = labelled }) sound.grounded
            (subst (λ n. IsRecordOf (length a.texts.items) n (record { positional = positional; labelled = labelled }))
            (let place : length a.records.items ≡ 0 + length (heap_state a).records = omega (arith, length-map a.records.items (record_state words labels)) in place) is)));
        as_long = ap length sorted_are ∙ length-append a.sorted.items sorted ∙ joint ∙ sym label_lengths;
        indexed = subst (AllByRecursion (IsIndexed a'.labelled.items a'.sorted.items)) (sym records_are)
            (subst (λ ls. AllByRecursion (IsIndexed ls a'.sorted.items) (a.records.items ++ r ∷ [])) (sym labelled_are)
            (subst (λ ss. AllByRecursion (IsIndexed (labels ++ labelled) ss) (a.records.items ++ r ∷ [])) (sym sorted_are)
            (all_pushed (IsIndexed (labels ++ labelled) (a.sorted.items ++ sorted)) a.records.items r
            (both_more (RecordIsWithin (length words) (length labels)) (IsIndexed labels a.sorted.items) (IsIndexed (labels ++ labelled) (a.sorted.items ++ sorted))
            (λ x within index. index_kept labels labelled a.sorted.items sorted x within.labelled (sym sound.as_long) index)
            a.records.items sound.records sound.indexed)
            (subst (λ fs. AreSorted fs (take (l.end - l.start) (drop l.start (a.sorted.items ++ sorted)))) (sym (range_new labels labelled l.start l.end l_start l_end))
            (subst (AreSorted labelled)
            (sym (range_new a.sorted.items sorted l.start l.end (l_start ∙ sym sound.as_long) (l_end ∙ sym joint)))
            in_order)))));
      };
    }

pub kept_by_text : (a a' : Inside) (h : HeapState) (bytes : List ℕ) → heap_state a ≡ h → IsHeapSound a → AddsText a a' bytes → KeepsWords h (heap_state a')
kept_by_text a a' h bytes is sound adds =
    let grounded : AreGrounded (length (heap_state a).texts) 0 (heap_state a).records =
    subst (λ n. AreGrounded n 0 (heap_state a).records) (sym (length-map a.texts.items (text_state a.bytes.items))) sound.grounded in
    subst (λ x. KeepsWords x (heap_state a')) is
    (words_kept (heap_state a) (heap_state a') (bytes ∷ []) [] grounded adds.texts (adds.records ∙ sym (append-nil (heap_state a).records)))

pub kept_by_record : (a a' : Inside) (h : HeapState) (r : RecordState) → heap_state a ≡ h → IsHeapSound a → AddsRecord a a' r → KeepsWords h (heap_state a')
kept_by_record a a' h r is sound adds =
    let grounded : AreGrounded (length (heap_state a).texts) 0 (heap_state a).records =
    subst (λ n. AreGrounded n 0 (heap_state a).records) (sym (length-map a.texts.items (text_state a.bytes.items))) sound.grounded in
    subst (λ x. KeepsWords x (heap_state a')) is
    (words_kept (heap_state a) (heap_state a') [] (r ∷ []) grounded (adds.texts ∙ sym (append-nil (heap_state a).texts)) adds.records)

-- the value of the text that is added
pub new_text : (a a' : Inside) (number : ℕ) (bytes : List ℕ) → AddsText a a' bytes → number ≡ length a.texts.items
    → get_or (heap_state a').texts number [] ≡ bytes
new_text a a' number bytes adds number_is =
    ap (λ ts. get_or ts number []) adds.texts
    ∙ get_or_at (heap_state a).texts bytes [] [] number (length-map a.texts.items (text_state a.bytes.items) ∙ sym number_is)

-- the value of the record that is added
pub new_record : (a a' : Inside) (h : HeapState) (number : ℕ) (r : RecordState) → heap_state a ≡ h → AddsRecord a a' r → number ≡ length a.records.items
    → get_or (heap_values (heap_state a').texts (heap_state a').records) number nothing ≡ record_value h.texts (heap_values h.texts h.records) r
new_record a a' h number r is adds number_is =
    subst (λ x. get_or (heap_values (heap_state a').texts (heap_state a').records) number nothing ≡ record_value x.texts (heap_values x.texts x.records) r) is
    (ap (λ ts. get_or (heap_values ts (heap_state a').records) number nothing) adds.texts
    ∙ ap (λ rs. get_or (heap_values (heap_state a).texts rs) number nothing) adds.records
    ∙ ap (λ vs. get_or vs number nothing) (values_pushed (heap_state a).texts (heap_state a).records r)
    ∙ get_or_at (heap_values (heap_state a).texts (heap_state a).records) (record_value (heap_state a).texts (heap_values (heap_state a).texts (heap_state a).records) r) [] nothing number
    (length-values_of (heap_state a).texts (heap_state a).records ∙ length-map a.records.items (record_state a.words.items a.labelled.items) ∙ sym number_is))

-- the words given to a call are words of the heap of its fields
pub given_words : (a : Inside) (h : HeapState) (positional : List Word) (labelled : List (Name × Word)) → heap_state a ≡ h
    → All (IsWord h) positional → All (λ field. IsWord h field.1) labelled
    → IsRecordOf (length a.texts.items) (length a.records.items) (record { positional = positional; labelled = labelled })
given_words a h positional labelled is all all' =
    let texts : length h.texts ≡ length a.texts.items = ap (λ x. length x.texts) (sym is) ∙ length-map a.texts.items (text_state a.bytes.items) in
    let records : length h.records ≡ length a.records.items = ap (λ x. length x.records) (sym is) ∙ length-map a.records.items (record_state a.words.items a.labelled.items) in
    let more : (w : Word) → IsWord h w → IsWordOf (length a.texts.items) (length a.records.items) w = λ w there.
    word_of_more (length h.texts) (length a.texts.items) (length h.records) (length a.records.items) (omega (arith, texts)) (omega (arith, records)) w there in
    record {
      positional = all_more (IsWord h) (IsWordOf (length a.texts.items) (length a.records.items)) more positional (each (IsWord h) positional all);
      labelled = all_more (λ f. IsWord h f.1) (λ f. IsWordOf (length a.texts.items) (length a.records.items) f.1) (λ f. more f.1) labelled (each (λ f. IsWord h f.1) labelled all');
    }
