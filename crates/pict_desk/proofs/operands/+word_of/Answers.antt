use Rattle.std.proofs.Common.{rules, eqb, ◌+◌, List, ◌++◌, length, map, drop, refl, sym, ap, ◌∙◌, subst, arith}
use Rattle.std.proofs.lemmas.List.{length-map}
use Rattle.std.specs.List.{All, IsDistinct}
use Rattle.pict_syntax.specs.declared.name.Name.{Name}
use Rattle.pict_core.specs.Closed.{IsOver}
use Rattle.pict_core.specs.Plain.{plain_val, plain_field, vals_of, labelled_of}
use Rattle.pict_core.specs.Term.{Record}
use Rattle.pict_core.specs.declared.value.CoreVal.{the_lemmas}
use Rattle.pict_heap.specs.HeapState.{IsWord, UsesRoom}
use Rattle.pict_heap.specs.declared.word.Word.{Word}
use Rattle.pict_prim.specs.Acts.{UsesNeed}
use Rattle.pict_desk.specs.Known.{known, operand_value}
use Rattle.pict_desk.specs.Needs.{need_of, HasRoomFor, IsMade, PilesWords}
use Rattle.pict_desk.proofs.Making.{operand_field, keeps_more, pairs_keep, over_at, labelled_over_at, pair_packed, level_made, take_whole}
use Rattle.pict_desk.proofs.Recording.{room_words, room_labelled, record_room, all_used, made_distinct, words_top, labels_top, many_words, many_labels, are_words, are_labelled, words_left, labels_left, top_inside, record_made, record_val, need_of_record, piled_length, room_next, used_next, piled_next, labelled_room_next, labelled_used_next, labelled_piled_next, plain_var}
use Rattle.pict_desk.proofs.operands.+word_of.Goals as goal

pub pile_labelled-word_of-word-requires : goal.pile_labelled-word_of-word-requires
pile_labelled-word_of-word-requires t c =
    let l = c.loop-field in (
      search (rules, the_lemmas),
      (
        labelled_over_at (length c.args.values.now) c.args.operands.now l.field-index c.field-item.result c.loop-field-test.true c.field-item.is c.requires.over,
        (
          pairs_keep c.args.heap.now l.heap l.invariant.keeps c.args.values.now c.requires.pairs,
          labelled_room_next c.args.heap.now l.heap c.args.pending.now l.pending c.args.operands.now l.field-index c.field-item.result c.loop-field-test.true c.field-item.is
              (operand_field (known c.args.heap.now c.args.values.now)) c.requires.room l.invariant.used l.invariant.piled,
        ),
      ),
    )

pub pile_labelled-loop-field-preserved : goal.pile_labelled-loop-field-preserved
pile_labelled-loop-field-preserved t c =
    let l = c.loop-field in
    let w = c.word_of-word in
    record {
      piled = labelled_piled_next c.args.heap.now l.heap c.args.pending.now l.pending c.args.operands.now l.field-index c.field-item.result c.loop-field-test.true c.field-item.is
          w.new.heap w.new.pending (record w.new.pending { labelled = c.push_reserved.new.self }) c.args.values.now w.result l.invariant.keeps c.requires.pairs l.invariant.piled
          w.ensures.made w.ensures.pending c.push_reserved.ensures.items c.push_reserved.ensures.capacity refl;
      keeps = keeps_more c.args.heap.now l.heap w.new.heap l.invariant.keeps w.ensures.made.keeps;
      used = labelled_used_next c.args.heap.now l.heap c.args.pending.now l.pending c.args.operands.now l.field-index c.field-item.result c.loop-field-test.true c.field-item.is w.new.heap l.invariant.used w.ensures.used;
    }

pub pile_words-word_of-word-requires : goal.pile_words-word_of-word-requires
pile_words-word_of-word-requires t c =
    let l = c.loop-operand in (
      search (rules, the_lemmas),
      (
        over_at (length c.args.values.now) c.args.operands.now l.operand-index c.operand-item.result c.loop-operand-test.true c.operand-item.is c.requires.over,
        (
          pairs_keep c.args.heap.now l.heap l.invariant.keeps c.args.values.now c.requires.pairs,
          room_next c.args.heap.now l.heap c.args.pending.now l.pending c.args.operands.now l.operand-index c.operand-item.result c.loop-operand-test.true c.operand-item.is
              (λ v. operand_value (known c.args.heap.now c.args.values.now) (plain_val v)) c.requires.room l.invariant.used l.invariant.piled,
        ),
      ),
    )

pub pile_words-loop-operand-preserved : goal.pile_words-loop-operand-preserved
pile_words-loop-operand-preserved t c =
    let l = c.loop-operand in
    let w = c.word_of-word in
    record {
      piled = piled_next c.args.heap.now l.heap c.args.pending.now l.pending c.args.operands.now l.operand-index c.operand-item.result c.loop-operand-test.true c.operand-item.is
          w.new.heap w.new.pending (record w.new.pending { words = c.push_reserved.new.self }) c.args.values.now w.result l.invariant.keeps c.requires.pairs l.invariant.piled
          w.ensures.made w.ensures.pending c.push_reserved.ensures.items c.push_reserved.ensures.capacity refl;
      keeps = keeps_more c.args.heap.now l.heap w.new.heap l.invariant.keeps w.ensures.made.keeps;
      used = used_next c.args.heap.now l.heap c.args.pending.now l.pending c.args.operands.now l.operand-index c.operand-item.result c.loop-operand-test.true c.operand-item.is w.new.heap l.invariant.used w.ensures.used;
    }

pub pile_words-returns-clause-piled : goal.pile_words-returns-clause-piled
pile_words-returns-clause-piled t c =
    subst (λ xs. PilesWords c.loop-operand.heap c.args.pending.now c.loop-operand.pending (map (λ v. operand_value (known c.args.heap.now c.args.values.now) (plain_val v)) xs))
    (take_whole c.args.operands.now c.loop-operand.operand-index c.loop-operand-test.false) c.loop-operand.invariant.piled

pub word_of-pile_words-requires : goal.word_of-pile_words-requires
word_of-pile_words-requires t c =
    let is = record_val c.args.operand.now c.in-Fields.positional c.in-Fields.labelled c.deref.result.now c.in-Fields.labelled.items c.in-Fields.is c.deref.ensures.value refl in
    let over : IsOver (length c.args.values.now) 0 (Record (vals_of (map plain_val c.deref.result.now)) (labelled_of (map plain_field c.in-Fields.labelled.items))) = subst (IsOver (length c.args.values.now) 0) is c.requires.over in (
      search (rules, the_lemmas),
      (
        over.0,
        (
          c.requires.pairs,
          room_words c.args.heap.now c.args.pending.now (length c.deref.result.now) (length c.in-Fields.labelled.items) _ _ (subst (HasRoomFor c.args.heap.now c.args.pending.now) (need_of_record c.deref.result.now c.in-Fields.labelled.items) (subst (λ v. HasRoomFor c.args.heap.now c.args.pending.now (need_of v)) is c.requires.room)),
        ),
      ),
    )

pub word_of-pile_labelled-requires : goal.word_of-pile_labelled-requires
word_of-pile_labelled-requires t c =
    let is = record_val c.args.operand.now c.in-Fields.positional c.in-Fields.labelled c.deref.result.now c.deref-in-Fields.result.now c.in-Fields.is c.deref.ensures.value c.deref-in-Fields.ensures.value in
    let over : IsOver (length c.args.values.now) 0 (Record (vals_of (map plain_val c.deref.result.now)) (labelled_of (map plain_field c.deref-in-Fields.result.now))) = subst (IsOver (length c.args.values.now) 0) is c.requires.over in
    let p = c.pile_words in (
      search (rules, the_lemmas),
      (
        over.1,
        (
          pairs_keep c.args.heap.now p.new.heap p.ensures.keeps c.args.values.now c.requires.pairs,
          room_labelled c.args.heap.now c.args.pending.now (length c.deref.result.now) (length c.deref-in-Fields.result.now) _ _ (subst (HasRoomFor c.args.heap.now c.args.pending.now) (need_of_record c.deref.result.now c.deref-in-Fields.result.now) (subst (λ v. HasRoomFor c.args.heap.now c.args.pending.now (need_of v)) is c.requires.room))
              p.new.heap p.new.pending p.ensures.used
              (piled_length p.new.heap c.args.pending.now p.new.pending _ p.ensures.piled ∙ ap (λ n. length c.args.pending.now.words.items + n) (length-map c.deref.result.now (λ v. operand_value (known c.args.heap.now c.args.values.now) (plain_val v))))
              p.ensures.piled.words_room p.ensures.piled.labelled p.ensures.piled.labelled_room,
        ),
      ),
    )

pub word_of-close_record-requires : goal.word_of-close_record-requires
word_of-close_record-requires t c =
    let is = record_val c.args.operand.now c.in-Fields.positional c.in-Fields.labelled c.deref.result.now c.deref-in-Fields.result.now c.in-Fields.is c.deref.ensures.value c.deref-in-Fields.ensures.value in
    let over : IsOver (length c.args.values.now) 0 (Record (vals_of (map plain_val c.deref.result.now)) (labelled_of (map plain_field c.deref-in-Fields.result.now))) = subst (IsOver (length c.args.values.now) 0) is c.requires.over in
    let words = words_top c.args.heap.now c.pile_words.new.heap c.pile_labelled.new.heap c.args.pending.now c.pile_words.new.pending c.pile_labelled.new.pending c.args.values.now c.deref.result.now c.deref-in-Fields.result.now c.requires.pairs c.pile_words.ensures.piled c.pile_words.ensures.keeps c.pile_labelled.ensures.piled c.pile_labelled.ensures.keeps c.len-words.result (c.len-words.ensures ∙ c.args.pending.now.words.ok.0) in
    let labels = labels_top c.args.heap.now c.pile_words.new.heap c.pile_labelled.new.heap c.args.pending.now c.pile_words.new.pending c.pile_labelled.new.pending c.args.values.now c.deref.result.now c.deref-in-Fields.result.now c.requires.pairs c.pile_words.ensures.piled c.pile_words.ensures.keeps c.pile_labelled.ensures.piled c.pile_labelled.ensures.keeps c.len-labels.result (c.len-labels.ensures ∙ c.args.pending.now.labelled.ok.0) in
    let many = ap length words ∙ many_words c.args.heap.now c.pile_words.new.heap c.pile_labelled.new.heap c.args.pending.now c.pile_words.new.pending c.pile_labelled.new.pending c.args.values.now c.deref.result.now c.deref-in-Fields.result.now c.requires.pairs c.pile_words.ensures.piled c.pile_words.ensures.keeps c.pile_labelled.ensures.piled c.pile_labelled.ensures.keeps in
    let many_fields = ap length labels ∙ many_labels c.args.heap.now c.pile_words.new.heap c.pile_labelled.new.heap c.args.pending.now c.pile_words.new.pending c.pile_labelled.new.pending c.args.values.now c.deref.result.now c.deref-in-Fields.result.now c.requires.pairs c.pile_words.ensures.piled c.pile_words.ensures.keeps c.pile_labelled.ensures.piled c.pile_labelled.ensures.keeps in
    let room = record_room c.args.heap.now c.args.pending.now (length c.deref.result.now) (length c.deref-in-Fields.result.now) _ _
    (subst (HasRoomFor c.args.heap.now c.args.pending.now) (need_of_record c.deref.result.now c.deref-in-Fields.result.now) (subst (λ v. HasRoomFor c.args.heap.now c.args.pending.now (need_of v)) is c.requires.room))
    c.pile_words.new.heap c.pile_labelled.new.heap c.pile_words.ensures.used c.pile_labelled.ensures.used in
    let one = room.0 in
    let enough = room.1 in
    let few = room.2 in
    let first = c.pile_words.ensures.piled.words in
    let second = c.pile_labelled.ensures.piled in
    record {
      words = top_inside c.len-words.result c.pile_labelled.new.pending.words.items c.args.pending.now.words.items c.pile_words.ensures.piled.made (c.len-words.ensures ∙ c.args.pending.now.words.ok.0) (second.words ∙ first);
      labels = top_inside c.len-labels.result c.pile_labelled.new.pending.labelled.items c.args.pending.now.labelled.items second.made (c.len-labels.ensures ∙ c.args.pending.now.labelled.ok.0) (second.labelled ∙ ap (λ xs. xs ++ second.made) c.pile_words.ensures.piled.labelled);
      room = one;
      fields = omega (arith, many, many_fields, enough);
      countable = omega (arith, many, few);
      are = subst (All (IsWord c.pile_labelled.new.heap)) (sym words) (are_words c.args.heap.now c.pile_words.new.heap c.pile_labelled.new.heap c.args.pending.now c.pile_words.new.pending c.pile_labelled.new.pending c.args.values.now c.deref.result.now c.deref-in-Fields.result.now c.requires.pairs c.pile_words.ensures.piled c.pile_words.ensures.keeps c.pile_labelled.ensures.piled c.pile_labelled.ensures.keeps);
      are_labelled = subst (All (λ (field : Name × Word). IsWord c.pile_labelled.new.heap field.1)) (sym labels) (are_labelled c.args.heap.now c.pile_words.new.heap c.pile_labelled.new.heap c.args.pending.now c.pile_words.new.pending c.pile_labelled.new.pending c.args.values.now c.deref.result.now c.deref-in-Fields.result.now c.requires.pairs c.pile_words.ensures.piled c.pile_words.ensures.keeps c.pile_labelled.ensures.piled c.pile_labelled.ensures.keeps);
      distinct = subst (λ (fs : List (Name × Word)). IsDistinct eqb (map (λ (x : Name × Word). x.0.0) fs)) (sym labels)
          (made_distinct c.pile_labelled.new.heap (known c.pile_words.new.heap c.args.values.now) second.made c.deref-in-Fields.result.now second.stand over.2);
    }

pub word_of-word_at-requires : goal.word_of-word_at-requires
word_of-word_at-requires t c = pair_packed c.args.heap.now c.args.values.now c.requires.pairs c.in-Var.level

pub word_of-returns-in-Var-clause-made : goal.word_of-returns-in-Var-clause-made
word_of-returns-in-Var-clause-made t c =
    let value = known c.args.heap.now c.args.values.now in
    subst (IsMade c.args.heap.now c.args.heap.now c.word_at.result) (sym (ap (λ v. operand_value value (plain_val v)) c.in-Var.is ∙ ap (operand_value value) (plain_var c.in-Var.level)))
    (level_made c.args.heap.now c.args.values.now c.in-Var.level c.word_at.result c.requires.pairs c.word_at.ensures)

pub word_of-returns-in-Fields-clause-made : goal.word_of-returns-in-Fields-clause-made
word_of-returns-in-Fields-clause-made t c =
    let is = record_val c.args.operand.now c.in-Fields.positional c.in-Fields.labelled c.deref.result.now c.deref-in-Fields.result.now c.in-Fields.is c.deref.ensures.value c.deref-in-Fields.ensures.value in
    subst (λ v. IsMade c.args.heap.now c.close_record.new.heap c.close_record.result (operand_value (known c.args.heap.now c.args.values.now) v)) (sym is)
    (record_made c.args.heap.now c.pile_words.new.heap c.pile_labelled.new.heap c.args.pending.now c.pile_words.new.pending c.pile_labelled.new.pending c.args.values.now c.deref.result.now c.deref-in-Fields.result.now c.requires.pairs c.pile_words.ensures.piled c.pile_words.ensures.keeps c.pile_labelled.ensures.piled c.pile_labelled.ensures.keeps
    c.close_record.new.heap c.close_record.result _ _ (words_top c.args.heap.now c.pile_words.new.heap c.pile_labelled.new.heap c.args.pending.now c.pile_words.new.pending c.pile_labelled.new.pending c.args.values.now c.deref.result.now c.deref-in-Fields.result.now c.requires.pairs c.pile_words.ensures.piled c.pile_words.ensures.keeps c.pile_labelled.ensures.piled c.pile_labelled.ensures.keeps c.len-words.result (c.len-words.ensures ∙ c.args.pending.now.words.ok.0)) (labels_top c.args.heap.now c.pile_words.new.heap c.pile_labelled.new.heap c.args.pending.now c.pile_words.new.pending c.pile_labelled.new.pending c.args.values.now c.deref.result.now c.deref-in-Fields.result.now c.requires.pairs c.pile_words.ensures.piled c.pile_words.ensures.keeps c.pile_labelled.ensures.piled c.pile_labelled.ensures.keeps c.len-labels.result (c.len-labels.ensures ∙ c.args.pending.now.labelled.ok.0))
    c.close_record.ensures.word c.close_record.ensures.value c.close_record.ensures.keeps)

pub word_of-returns-in-Fields-clause-used : goal.word_of-returns-in-Fields-clause-used
word_of-returns-in-Fields-clause-used t c =
    let is = record_val c.args.operand.now c.in-Fields.positional c.in-Fields.labelled c.deref.result.now c.deref-in-Fields.result.now c.in-Fields.is c.deref.ensures.value c.deref-in-Fields.ensures.value in
    let words = ap length (words_top c.args.heap.now c.pile_words.new.heap c.pile_labelled.new.heap c.args.pending.now c.pile_words.new.pending c.pile_labelled.new.pending c.args.values.now c.deref.result.now c.deref-in-Fields.result.now c.requires.pairs c.pile_words.ensures.piled c.pile_words.ensures.keeps c.pile_labelled.ensures.piled c.pile_labelled.ensures.keeps c.len-words.result (c.len-words.ensures ∙ c.args.pending.now.words.ok.0)) ∙ many_words c.args.heap.now c.pile_words.new.heap c.pile_labelled.new.heap c.args.pending.now c.pile_words.new.pending c.pile_labelled.new.pending c.args.values.now c.deref.result.now c.deref-in-Fields.result.now c.requires.pairs c.pile_words.ensures.piled c.pile_words.ensures.keeps c.pile_labelled.ensures.piled c.pile_labelled.ensures.keeps in
    let labels = ap length (labels_top c.args.heap.now c.pile_words.new.heap c.pile_labelled.new.heap c.args.pending.now c.pile_words.new.pending c.pile_labelled.new.pending c.args.values.now c.deref.result.now c.deref-in-Fields.result.now c.requires.pairs c.pile_words.ensures.piled c.pile_words.ensures.keeps c.pile_labelled.ensures.piled c.pile_labelled.ensures.keeps c.len-labels.result (c.len-labels.ensures ∙ c.args.pending.now.labelled.ok.0)) ∙ many_labels c.args.heap.now c.pile_words.new.heap c.pile_labelled.new.heap c.args.pending.now c.pile_words.new.pending c.pile_labelled.new.pending c.args.values.now c.deref.result.now c.deref-in-Fields.result.now c.requires.pairs c.pile_words.ensures.piled c.pile_words.ensures.keeps c.pile_labelled.ensures.piled c.pile_labelled.ensures.keeps in
    subst (λ v. UsesNeed c.args.heap.now.room c.close_record.new.heap.room (need_of v)) (sym is)
    (subst (UsesNeed c.args.heap.now.room c.close_record.new.heap.room) (sym (need_of_record c.deref.result.now c.deref-in-Fields.result.now))
    (all_used c.args.heap.now.room c.pile_words.new.heap.room c.pile_labelled.new.heap.room c.close_record.new.heap.room (length c.deref.result.now + length c.deref-in-Fields.result.now) _ _ c.pile_words.ensures.used c.pile_labelled.ensures.used
    (subst (λ k. UsesRoom c.pile_labelled.new.heap.room c.close_record.new.heap.room 1 k 0 0)
    (ap (λ k. k + length (drop c.len-labels.result c.pile_labelled.new.pending.labelled.items)) words ∙ ap (λ k. length c.deref.result.now + k) labels) c.close_record.ensures.used)))

pub word_of-returns-in-Fields-clause-pending : goal.word_of-returns-in-Fields-clause-pending
word_of-returns-in-Fields-clause-pending t c =
    let first = c.pile_words.ensures.piled in
    let second = c.pile_labelled.ensures.piled in
    record {
      words = c.close_record.ensures.words_left ∙ words_left c.args.heap.now c.pile_words.new.heap c.pile_labelled.new.heap c.args.pending.now c.pile_words.new.pending c.pile_labelled.new.pending c.args.values.now c.deref.result.now c.deref-in-Fields.result.now c.requires.pairs c.pile_words.ensures.piled c.pile_words.ensures.keeps c.pile_labelled.ensures.piled c.pile_labelled.ensures.keeps c.len-words.result (c.len-words.ensures ∙ c.args.pending.now.words.ok.0);
      words_room = c.close_record.ensures.words_room ∙ second.words_room ∙ first.words_room;
      labelled = c.close_record.ensures.labelled_left ∙ labels_left c.args.heap.now c.pile_words.new.heap c.pile_labelled.new.heap c.args.pending.now c.pile_words.new.pending c.pile_labelled.new.pending c.args.values.now c.deref.result.now c.deref-in-Fields.result.now c.requires.pairs c.pile_words.ensures.piled c.pile_words.ensures.keeps c.pile_labelled.ensures.piled c.pile_labelled.ensures.keeps c.len-labels.result (c.len-labels.ensures ∙ c.args.pending.now.labelled.ok.0);
      labelled_room = c.close_record.ensures.labelled_room ∙ second.labelled_room ∙ first.labelled_room;
    }
