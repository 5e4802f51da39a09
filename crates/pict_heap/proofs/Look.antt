-- What a word of a heap has, by the fields of the heap.
use Rattle.std.proofs.Common.{◌≡◌, ℕ, ◌+◌, ◌-◌, ◌<◌, ◌≤◌, true, false, cond, eqb, List, [], ◌∷◌, length, map, take, drop, get_or, Option, Some, None, refl, sym, ◌∙◌, ap, subst, arith}
use Rattle.std.specs.List.{AllByRecursion, slice_get}
use Rattle.std.specs.Option.{option_map, IsSome, is_some, IfSome, unwrap_or}
use Rattle.std.proofs.lemmas.List.{length-map, length-drop, length-take-le, get_or_default, get_or-map}
use Rattle.std.proofs.lemmas.Option.{slice_get-map, slice_get_read}
use Rattle.pict_core.specs.Term as term
use Rattle.pict_core.specs.Term.{Val}
use Rattle.pict_core.specs.Plain.{labelled_of}
use Rattle.pict_core.specs.Matching.{field_at}
use Rattle.pict_syntax.specs.declared.name.Name.{Name}
use Rattle.pict_heap.specs.Fields.{positional_field, labelled_field, labelled_field_at, positional_count, text_bytes}
use Rattle.pict_heap.specs.HeapState.{RecordState, HeapState, field_value, record_value, heap_values, value_of, IsWordOf, IsWord, word_with_label, text_of}
use Rattle.pict_heap.specs.Layout.{text_state, record_state, heap_state, IsWithin, RecordIsWithin, IsRecordOf, IsIndexed, IsHeapSound, slice_of_word}
use Rattle.pict_heap.specs.declared.word.Word.{Word}
use Rattle.pict_heap.specs.declared.word.Word.TheVariants as word
use Rattle.pict_heap.specs.declared.heap.Slice.{Slice}
use Rattle.pict_heap.specs.declared.heap.Record.{Record}
use Rattle.pict_heap.specs.declared.heap.Heap.TheInside.{Inside}
use Rattle.pict_heap.proofs.Values.{nothing, all_more, fold_at, grounded_at, word_of_more, nth-vals_of, count-vals_of, nth-labelled_of}
use Rattle.pict_heap.proofs.Growth.{each_at}

-- a record as a call reads it
pub record ReadsRecord (a : Inside) (h : HeapState) (number : ℕ) (r : Record) : Type 0 where
  pub within : RecordIsWithin (length a.words.items) (length a.labelled.items) r
  pub index : IsIndexed a.labelled.items a.sorted.items r
  pub value : value_of h (word.Fields number) ≡ record_value h.texts (heap_values h.texts h.records) (record_state a.words.items a.labelled.items r)
  pub positional : AllByRecursion (IsWord h) (take (r.positional.end - r.positional.start) (drop r.positional.start a.words.items))
  pub labelled : AllByRecursion (λ field. IsWord h field.1) (take (r.labelled.end - r.labelled.start) (drop r.labelled.start a.labelled.items))

reads_here : (a : Inside) (number : ℕ) (r : Record) → IsHeapSound a → number < length a.records.items → r ≡ get_or a.records.items number r
    → ReadsRecord a (heap_state a) number r
reads_here a number r sound inside read =
    let h : HeapState = heap_state a in
    let state : RecordState = record_state a.words.items a.labelled.items r in
    let found : slice_get a.records.items number ≡ Some r = slice_get_read a.records.items (length a.records.items) number r refl inside read in
    let shown : slice_get h.records number ≡ Some state =
    slice_get-map (record_state a.words.items a.labelled.items) a.records.items number ∙ ap (option_map (record_state a.words.items a.labelled.items)) found in
    let grounded : IsRecordOf (length a.texts.items) (0 + number) state = grounded_at (length a.texts.items) 0 h.records number state sound.grounded shown in
    let texts : length a.texts.items ≡ length h.texts = sym (length-map a.texts.items (text_state a.bytes.items)) in
    let records : length a.records.items ≡ length h.records = sym (length-map a.records.items (record_state a.words.items a.labelled.items)) in
    let more : (w : Word) → IsWordOf (length a.texts.items) (0 + number) w → IsWord h w = λ w is.
    word_of_more (length a.texts.items) (length h.texts) (0 + number) (length h.records) (omega (arith, texts)) (omega (arith, records, inside)) w is in
    let place : 0 + number ≡ number = omega arith in
    record {
      within = each_at (RecordIsWithin (length a.words.items) (length a.labelled.items)) a.records.items number r sound.records found;
      index = each_at (IsIndexed a.labelled.items a.sorted.items) a.records.items number r sound.indexed found;
      value =
          ap (λ n. get_or (heap_values h.texts h.records) n nothing) (sym place)
          ∙ fold_at h.texts (length a.texts.items) h.records [] sound.grounded number state shown;
      positional = all_more (IsWordOf (length a.texts.items) (0 + number)) (IsWord h) more state.positional grounded.positional;
      labelled = all_more (λ f. IsWordOf (length a.texts.items) (0 + number) f.1) (λ f. IsWord h f.1) (λ f. more f.1) state.labelled grounded.labelled;
    }

pub record_read : (a : Inside) (h : HeapState) (w : Word) (number : ℕ) (r : Record) → heap_state a ≡ h → IsHeapSound a → IsWord h w → w ≡ word.Fields number
    → r ≡ get_or a.records.items number r → ReadsRecord a h number r
record_read a h w number r is sound there same read =
    let inside : number < length h.records = subst (IsWord h) same there in
    subst (λ x. ReadsRecord a x number r) is
    (reads_here a number r sound
    (omega (arith, inside, ap (λ x. length x.records) is, length-map a.records.items (record_state a.words.items a.labelled.items))) read)

-- a field of a record
pub positional_read : (a : Inside) (h : HeapState) (w : Word) (number i : ℕ) (r : Record) (result : Option Word) → ReadsRecord a h number r → w ≡ word.Fields number
    → result ≡ slice_get (take (r.positional.end - r.positional.start) (drop r.positional.start a.words.items)) i
    → option_map (value_of h) result ≡ positional_field (value_of h w) i
positional_read a h w number i r result reads same is =
    let words : List Word = take (r.positional.end - r.positional.start) (drop r.positional.start a.words.items) in
    ap (option_map (value_of h)) is
    ∙ sym (slice_get-map (value_of h) words i)
    ∙ sym (nth-vals_of (map (value_of h) words) i)
    ∙ sym (ap (λ v. positional_field v i) (ap (value_of h) same ∙ reads.value))

range_length : {A : Type 0} (xs : List A) (slice : Slice) → slice.end ≤ length xs → length (take (slice.end - slice.start) (drop slice.start xs)) ≡ slice.end - slice.start
range_length xs slice inside =
    let fits : slice.end - slice.start ≤ length (drop slice.start xs) = omega (arith, inside, length-drop slice.start xs) in
    length-take-le (slice.end - slice.start) (drop slice.start xs) fits

pub count_read : (a : Inside) (h : HeapState) (w : Word) (number : ℕ) (r : Record) → ReadsRecord a h number r → w ≡ word.Fields number
    → Some (r.positional.end - r.positional.start) ≡ positional_count (value_of h w)
count_read a h w number r reads same =
    let words : List Word = take (r.positional.end - r.positional.start) (drop r.positional.start a.words.items) in
    let long : length words ≡ r.positional.end - r.positional.start = range_length a.words.items r.positional reads.within.positional.inside in
    ap Some (sym long ∙ sym (length-map words (value_of h)) ∙ sym (count-vals_of (map (value_of h) words)))
    ∙ sym (ap positional_count (ap (value_of h) same ∙ reads.value))

label_found : (h : HeapState) (label : ℕ) (fields : List (Name × Word))
    → field_at label (labelled_of (map (field_value h.texts (heap_values h.texts h.records)) fields)) ≡ option_map (value_of h) (word_with_label label fields)
label_found h label [] = refl
label_found h label (f ∷ fields) =
    elim (eqb label f.0.0) as (λ b.
    cond b (Some (value_of h f.1)) (field_at label (labelled_of (map (field_value h.texts (heap_values h.texts h.records)) fields)))
    ≡ option_map (value_of h) (cond b (Some f.1) (word_with_label label fields))) [ true ↦ refl | false ↦ label_found h label fields ]

pub labelled_read : (a : Inside) (h : HeapState) (w : Word) (number label : ℕ) (r : Record) (result : Option Word) → ReadsRecord a h number r → w ≡ word.Fields number
    → result ≡ word_with_label label (take (r.labelled.end - r.labelled.start) (drop r.labelled.start a.labelled.items))
    → option_map (value_of h) result ≡ labelled_field (value_of h w) label
labelled_read a h w number label r result reads same is =
    let fields : List (Name × Word) = take (r.labelled.end - r.labelled.start) (drop r.labelled.start a.labelled.items) in
    ap (option_map (value_of h)) is
    ∙ sym (label_found h label fields)
    ∙ sym (ap (λ v. labelled_field v label) (ap (value_of h) same ∙ reads.value))

pub label_at_read : (a : Inside) (h : HeapState) (w : Word) (number i : ℕ) (r : Record) (result : Option (Name × Word)) → ReadsRecord a h number r → w ≡ word.Fields number
    → result ≡ slice_get (take (r.labelled.end - r.labelled.start) (drop r.labelled.start a.labelled.items)) i
    → option_map (λ field. (field.0.0, value_of h field.1)) result ≡ labelled_field_at (value_of h w) i
label_at_read a h w number i r result reads same is =
    let fields : List (Name × Word) = take (r.labelled.end - r.labelled.start) (drop r.labelled.start a.labelled.items) in
    let f = field_value h.texts (heap_values h.texts h.records) in
    ap (option_map (λ field. (field.0.0, value_of h field.1))) is
    ∙ sym (joined (slice_get fields i) f (λ field. (field.0.0, field.1)))
    ∙ ap (option_map (λ field. (field.0.0, field.1))) (sym (slice_get-map f fields i))
    ∙ sym (nth-labelled_of (map f fields) i)
    ∙ sym (ap (λ v. labelled_field_at v i) (ap (value_of h) same ∙ reads.value))
  where
    joined : (o : Option (Name × Word)) (f : Name × Word → Name × Val) (g : Name × Val → ℕ × Val) → option_map g (option_map f o) ≡ option_map (λ x. g (f x)) o
    joined None f g = refl
    joined (Some x) f g = refl

-- the words that are found are of the heap
pub found_word : {A : Type 0} (P : A → Type 0) (xs : List A) (i : ℕ) (result : Option A) → AllByRecursion P xs → result ≡ slice_get xs i → IfSome result P
found_word P xs i None all is = tt
found_word P xs i (Some x) all is = each_at P xs i x all (sym is)

pub found_labelled : (P : Word → Type 0) (fields : List (Name × Word)) (label : ℕ) (result : Option Word) → AllByRecursion (λ f. P f.1) fields
    → result ≡ word_with_label label fields → IfSome result P
found_labelled P fields label None all is = tt
found_labelled P [] label (Some w) all is = cc
found_labelled P (f ∷ fields) label (Some w) all is =
    elim (eqb label f.0.0) as (λ b. Some w ≡ cond b (Some f.1) (word_with_label label fields) → P w) [
      | true ↦ λ e. let same : w ≡ f.1 = cc in subst P (sym same) all.0
      | false ↦ λ e. found_labelled P fields label (Some w) all.1 e
    ] is

-- a text as a call reads it
text_here : (a : Inside) (number : ℕ) (slice : Slice) → IsHeapSound a → number < length a.texts.items → slice ≡ get_or a.texts.items number slice
    → value_of (heap_state a) (word.Text number) ≡ term.Text (text_state a.bytes.items slice)
text_here a number slice sound inside read =
    ap term.Text
    (get_or-map (text_state a.bytes.items) a.texts.items number slice [] inside
    ∙ ap (text_state a.bytes.items) (sym read))

pub text_read : (a : Inside) (h : HeapState) (number : ℕ) (slice : Slice) → heap_state a ≡ h → IsHeapSound a → IsWord h (word.Text number) → slice ≡ get_or a.texts.items number slice
    → value_of h (word.Text number) ≡ term.Text (text_state a.bytes.items slice)
text_read a h number slice is sound there read =
    subst (λ x. value_of x (word.Text number) ≡ term.Text (text_state a.bytes.items slice)) is
    (text_here a number slice sound (omega (arith, there, ap (λ x. length x.texts) is, length-map a.texts.items (text_state a.bytes.items))) read)

-- the value of a record is no text
record_no_text : (a : Inside) (h : HeapState) (number : ℕ) → heap_state a ≡ h → IsHeapSound a → IsWord h (word.Fields number)
    → text_bytes (value_of h (word.Fields number)) ≡ None
record_no_text a h number is sound there =
    let empty : Slice = record { start = 0; end = 0 } in
    let r : Record = get_or a.records.items number (record { positional = empty; labelled = empty }) in
    let inside : number < length a.records.items = omega (arith, there, ap (λ x. length x.records) is, length-map a.records.items (record_state a.words.items a.labelled.items)) in
    let read : r ≡ get_or a.records.items number r = get_or_default a.records.items number (record { positional = empty; labelled = empty }) r inside in
    ap text_bytes (record_read a h (word.Fields number) number r is sound there refl read).value

pub no_text : (a : Inside) (h : HeapState) (w : Word) → heap_state a ≡ h → IsHeapSound a → IsWord h w → ((number : ℕ) → w ≡ word.Text number → ⊥) → text_bytes (value_of h w) ≡ None
no_text a h (word.Int n) is sound there other = refl
no_text a h (word.Char n) is sound there other = refl
no_text a h (word.Bool n) is sound there other = refl
no_text a h (word.Chan n) is sound there other = refl
no_text a h (word.Prim n) is sound there other = refl
no_text a h (word.Text n) is sound there other = absurd (other n refl)
no_text a h (word.Fields n) is sound there other = record_no_text a h n is sound there

-- the slice of a text, for a call that joins
pub record SliceOf (a : Inside) (h : HeapState) (w : Word) (slice : Slice) : Type 0 where
  pub within : IsWithin (length a.bytes.items) slice
  pub bytes : text_of h w ≡ text_state a.bytes.items slice

pub slice_read : (a : Inside) (h : HeapState) (w : Word) (slice : Slice) → heap_state a ≡ h → IsHeapSound a → IsWord h w → IsSome (text_bytes (value_of h w))
    → slice ≡ slice_of_word a.texts.items w → SliceOf a h w slice
slice_read a h (word.Int n) slice is sound there text slice_is = cc
slice_read a h (word.Char n) slice is sound there text slice_is = cc
slice_read a h (word.Bool n) slice is sound there text slice_is = cc
slice_read a h (word.Chan n) slice is sound there text slice_is = cc
slice_read a h (word.Prim n) slice is sound there text slice_is = cc
slice_read a h (word.Fields n) slice is sound there text slice_is = cc (ap is_some (record_no_text a h n is sound there))
slice_read a h (word.Text n) slice is sound there text slice_is =
    let inside : n < length a.texts.items = omega (arith, there, ap (λ x. length x.texts) is, length-map a.texts.items (text_state a.bytes.items)) in
    let read : slice ≡ get_or a.texts.items n slice = slice_is ∙ get_or_default a.texts.items n (record { start = 0; end = 0 }) slice inside in
    record {
      within = each_at (IsWithin (length a.bytes.items)) a.texts.items n slice sound.texts (slice_get_read a.texts.items (length a.texts.items) n slice refl inside read);
      bytes = ap (λ v. unwrap_or (text_bytes v) []) (text_read a h n slice is sound there read);
    }

pub slice_length : (a : Inside) (h : HeapState) (w : Word) (slice : Slice) → SliceOf a h w slice → length (text_of h w) ≡ slice.end - slice.start
slice_length a h w slice of = ap length of.bytes ∙ range_length a.bytes.items slice of.within.inside
