use Rattle.std.specs.Prelude.{vec_len}
use Rattle.std.proofs.Common.{◌≡◌, ◌∙◌, ◌+◌, ◌-◌, ◌++◌, ℕ, List, length, refl, ap, sym, arith, length-append}
use Rattle.pict_core.specs.Term as term
use Rattle.pict_heap.specs.HeapState.{text_of}
use Rattle.pict_heap.specs.Layout.{text_state, slice_of_word}
use Rattle.pict_heap.specs.declared.heap.Heap.TheInside.{Inside}
use Rattle.pict_heap.proofs.Growth.{AddsText, text_added, kept_by_text, new_text}
use Rattle.pict_heap.proofs.Look.{SliceOf, slice_read, slice_length}
use Rattle.pict_heap.proofs.heap.Heap.join_texts.Goals as goal

pub append_slices-text-requires-clause-room : goal.append_slices-text-requires-clause-room
append_slices-text-requires-clause-room c =
    let first = slice_read c.self.inside _ c.args.a c.slice_of-first.result c.self.view_is c.self.invariant c.requires.words.0 c.requires.first (c.slice_of-first.ensures ∙ ap (λ ts. slice_of_word ts c.args.a) c.deref.ensures.value) in
    let second = slice_read c.self.inside _ c.args.b c.slice_of-second.result c.self.view_is c.self.invariant c.requires.words.1 c.requires.second (c.slice_of-second.ensures ∙ ap (λ ts. slice_of_word ts c.args.b) c.deref-2.ensures.value) in
    omega (
      arith,
      c.requires.bytes,
      slice_length c.self.inside _ _ _ first,
      slice_length c.self.inside _ _ _ second,
      ap (λ h. h.room.bytes) c.self.view_is,
      c.self.inside.bytes.ok,
    )

first : (c : goal.After-push_reserved) → SliceOf c.self.inside c.args.self.now c.args.a c.slice_of-first.result
first c = slice_read c.self.inside _ c.args.a c.slice_of-first.result c.self.view_is c.self.invariant c.requires.words.0 c.requires.first (c.slice_of-first.ensures ∙ ap (λ ts. slice_of_word ts c.args.a) c.deref.ensures.value)

second : (c : goal.After-push_reserved) → SliceOf c.self.inside c.args.self.now c.args.b c.slice_of-second.result
second c = slice_read c.self.inside _ c.args.b c.slice_of-second.result c.self.view_is c.self.invariant c.requires.words.1 c.requires.second (c.slice_of-second.ensures ∙ ap (λ ts. slice_of_word ts c.args.b) c.deref-2.ensures.value)

after : (c : goal.After-push_reserved) → Inside
after c = record {
  bytes = c.append_slices-text.new.list;
  texts = c.push_reserved.new.self;
  words = c.self.inside.words;
  labelled = c.self.inside.labelled;
  sorted = c.self.inside.sorted;
  records = c.self.inside.records;
}

joined : (c : goal.After-push_reserved) → List ℕ
joined c = text_state c.self.inside.bytes.items c.slice_of-first.result ++ text_state c.self.inside.bytes.items c.slice_of-second.result

adds : (c : goal.After-push_reserved) → AddsText c.self.inside (after c) (joined c)
unfolding after joined
adds c =
    let len : c.self.inside.bytes.len ≡ length c.self.inside.bytes.items = c.self.inside.bytes.ok.0 in
    let long : length (joined c) ≡ (c.slice_of-first.result.end - c.slice_of-first.result.start) + (c.slice_of-second.result.end - c.slice_of-second.result.start) =
    omega (
      arith,
      length-append (text_state c.self.inside.bytes.items c.slice_of-first.result) (text_state c.self.inside.bytes.items c.slice_of-second.result),
      slice_length c.self.inside _ _ _ (first c),
      slice_length c.self.inside _ _ _ (second c),
      ap length (first c).bytes,
      ap length (second c).bytes,
    ) in
    let end : c.append_slices-text.result.end ≡ length c.self.inside.bytes.items + length (joined c) =
    omega (arith, ap (λ p. p.end) c.append_slices-text.ensures.slice, c.append_slices-text.ensures.len, len, long) in
    text_added c.self.inside (after c) (joined c) c.append_slices-text.result c.self.invariant c.append_slices-text.ensures.items
    (ap (λ p. p.start) c.append_slices-text.ensures.slice ∙ len) end c.push_reserved.ensures.items refl refl refl refl

pub invariant_of-self : goal.invariant_of-self
unfolding after
invariant_of-self c = (adds c).sound

pub returns-clause-value : goal.returns-clause-value
unfolding after joined
returns-clause-value c =
    let texts : c.self.inside.texts.len ≡ length c.self.inside.texts.items = c.self.inside.texts.ok.0 in
    ap term.Text (new_text c.self.inside (after c) c.len-number.result (joined c) (adds c) (c.len-number.ensures ∙ texts)
    ∙ sym (ap (λ ws. ws ++ text_of c.args.self.now c.args.b) (first c).bytes
    ∙ ap (λ ws. text_state c.self.inside.bytes.items c.slice_of-first.result ++ ws) (second c).bytes))

pub returns-clause-keeps : goal.returns-clause-keeps
unfolding after
returns-clause-keeps c = kept_by_text c.self.inside (after c) _ (joined c) c.self.view_is c.self.invariant (adds c)

texts_exactly : (c : goal.After-push_reserved) → vec_len c.push_reserved.new.self ≡ c.args.self.now.room.used.texts + 1
texts_exactly c = let e = ap (λ h. h.room.used.texts) c.self.view_is in let f = c.push_reserved.ensures.len in omega (arith, e, f)

bytes_exactly : (c : goal.After-push_reserved) → vec_len c.append_slices-text.new.list ≡ c.args.self.now.room.used.bytes + (length (text_of c.args.self.now c.args.a) + length (text_of c.args.self.now c.args.b))
bytes_exactly c =
    let e = ap (λ h. h.room.used.bytes) c.self.view_is in
    let f = c.append_slices-text.ensures.len in
    let a = slice_length c.self.inside _ _ _ (first c) in
    let b = slice_length c.self.inside _ _ _ (second c) in
    omega (arith, e, f, a, b)

pub returns-clause-room : goal.returns-clause-room
returns-clause-room c =
    let records = ap (λ h. h.room.records) c.self.view_is in
    let fields = ap (λ h. h.room.fields) c.self.view_is in
    let texts = ap (λ h. h.room.texts) c.self.view_is in
    let bytes = ap (λ h. h.room.bytes) c.self.view_is in
    let some_records = ap (λ h. h.room.used.records) c.self.view_is in
    let some_fields = ap (λ h. h.room.used.fields) c.self.view_is in
    let more_texts = texts_exactly c in
    let more_bytes = bytes_exactly c in
    let a = slice_length c.self.inside _ _ _ (first c) in
    let b = slice_length c.self.inside _ _ _ (second c) in
    record {
      records_left = omega (arith, records);
      fields_left = omega (arith, fields);
      texts_left = omega (arith, texts, c.push_reserved.ensures.len, c.push_reserved.ensures.capacity);
      bytes_left = omega (arith, bytes, c.append_slices-text.ensures.len, c.append_slices-text.ensures.capacity, a, b);
      records_more = omega (arith, some_records);
      fields_more = omega (arith, some_fields);
      texts_more = omega (arith, more_texts);
      bytes_more = omega (arith, more_bytes);
      kept = record {
        records = omega (arith, records, some_records);
        fields = omega (arith, fields, some_fields);
        texts = omega (arith, texts, more_texts, c.push_reserved.ensures.len, c.push_reserved.ensures.capacity);
        bytes = omega (arith, bytes, more_bytes, c.append_slices-text.ensures.len, c.append_slices-text.ensures.capacity, a, b);
      };
    }

pub returns-clause-grows : goal.returns-clause-grows
returns-clause-grows c = record {
  records_more = let e = ap (λ h. h.room.used.records) c.self.view_is in omega (arith, e);
  fields_more = let e = ap (λ h. h.room.used.fields) c.self.view_is in omega (arith, e);
  texts_more = texts_exactly c;
  bytes_more = bytes_exactly c;
}
