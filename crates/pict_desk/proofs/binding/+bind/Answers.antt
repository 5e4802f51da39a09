use Rattle.std.proofs.Common.{rules, ◌<◌, length, map, refl, sym, ◌∙◌, arith, subst}
use Rattle.std.specs.List.{AllByRecursion}
use Rattle.pict_code.specs.Plain.{plain_pat, plain_pat_field, pats_of, labelled_pats_of}
use Rattle.pict_code.specs.declared.pattern.CodePat.{the_lemmas}
use Rattle.pict_heap.specs.HeapState.{value_of}
use Rattle.pict_desk.specs.Binding.{levels_of_all, levels_of_labelled}
use Rattle.pict_desk.proofs.Loops.{counted, no_field, field_inside, field_rises, field_fits, field_bound, fields_bound, label_inside, label_rises, label_fits, label_bound, record_pattern, first_fits, second_fits, first_inside, second_inside, first_rises, second_rises, record_bound}
use Rattle.pict_desk.proofs.binding.+bind.Goals as goal

pub bind-bind_positional-requires : goal.bind-bind_positional-requires
bind-bind_positional-requires t c =
    let is = record_pattern c.args.pattern.now c.in-Fields.positional c.in-Fields.labelled c.deref.result.now c.in-Fields.labelled.items c.in-Fields.is c.deref.ensures.value refl in (
      search (rules, the_lemmas),
      (
        c.requires.word,
        (
          first_fits (value_of c.args.heap.now c.args.word) _ _ _ is c.requires.fits,
          (
            first_inside (value_of c.args.heap.now c.args.word) _ _ _ is (length c.args.values.now) c.requires.inside,
            first_rises (value_of c.args.heap.now c.args.word) _ _ _ is c.requires.rising,
          ),
        ),
      ),
    )

pub bind-bind_labelled-requires : goal.bind-bind_labelled-requires
bind-bind_labelled-requires t c =
    let is = record_pattern c.args.pattern.now c.in-Fields.positional c.in-Fields.labelled c.deref.result.now c.deref-in-Fields.result.now c.in-Fields.is c.deref.ensures.value c.deref-in-Fields.ensures.value in (
      search (rules, the_lemmas),
      (
        c.requires.word,
        (
          second_fits (value_of c.args.heap.now c.args.word) _ _ _ is c.requires.fits,
          (
            subst (λ n. AllByRecursion (λ level. level < n) (levels_of_labelled (labelled_pats_of (map plain_pat_field c.deref-in-Fields.result.now)))) (sym c.bind_positional.ensures.len)
                (second_inside (value_of c.args.heap.now c.args.word) _ _ _ is (length c.args.values.now) c.requires.inside),
            second_rises (value_of c.args.heap.now c.args.word) _ _ _ is c.requires.rising,
          ),
        ),
      ),
    )

pub bind-returns-in-Fields-clause-binds : goal.bind-returns-in-Fields-clause-binds
bind-returns-in-Fields-clause-binds t c =
    let is = record_pattern c.args.pattern.now c.in-Fields.positional c.in-Fields.labelled c.deref.result.now c.deref-in-Fields.result.now c.in-Fields.is c.deref.ensures.value c.deref-in-Fields.ensures.value in
    record_bound (value_of c.args.heap.now c.args.word) _ _ _ is c.args.heap.now c.args.values.now c.bind_positional.new.values c.bind_labelled.new.values c.requires.rising c.bind_positional.ensures.binds c.bind_labelled.ensures.binds

pub bind_labelled-bind-requires : goal.bind_labelled-bind-requires
bind_labelled-bind-requires t c =
    let s = c.loop-field.invariant.so_far in
    let v = value_of c.args.heap.now c.args.word in (
      search (rules, the_lemmas),
      (
        c.in-Some.ensures.word,
        (
          label_fits c.args.heap.now v c.args.patterns.now c.loop-field.field-index c.args.values.now c.loop-field.values c.requires.fits s c.field-item.result c.loop-field-test.true c.field-item.is c.in-Some.part c.in-Some.ensures.value,
          (
            label_inside c.args.heap.now v c.args.patterns.now c.loop-field.field-index c.args.values.now c.loop-field.values c.requires.fits s c.field-item.result c.loop-field-test.true c.field-item.is (length c.loop-field.values)
                (subst (λ n. AllByRecursion (λ level. level < n) (levels_of_labelled (labelled_pats_of (map plain_pat_field c.args.patterns.now)))) (sym c.loop-field.invariant.len) c.requires.inside),
            label_rises c.args.heap.now v c.args.patterns.now c.loop-field.field-index c.args.values.now c.loop-field.values c.requires.fits s c.field-item.result c.loop-field-test.true c.field-item.is c.requires.rising,
          ),
        ),
      ),
    )

pub bind_labelled-loop-field-preserved : goal.bind_labelled-loop-field-preserved
bind_labelled-loop-field-preserved t c = record {
  so_far = label_bound c.args.heap.now (value_of c.args.heap.now c.args.word) c.args.patterns.now c.loop-field.field-index c.args.values.now c.loop-field.values c.requires.fits c.loop-field.invariant.so_far
      c.field-item.result c.loop-field-test.true c.field-item.is c.in-Some.part c.in-Some.ensures.value c.bind.new.values c.requires.rising c.bind.ensures.binds;
  len = c.bind.ensures.len ∙ c.loop-field.invariant.len;
  pairs = λ pairs. c.bind.ensures.pairs (c.loop-field.invariant.pairs pairs);
}

pub bind_positional-bounds-patterns-i : goal.bind_positional-bounds-patterns-i
bind_positional-bounds-patterns-i t c =
    let many = counted (value_of c.args.heap.now c.args.word) c.args.patterns.now c.in-Some.count c.in-Some.ensures c.requires.fits in
    omega (arith, many, c.loop-i-test.true)

pub bind_positional-bind-requires : goal.bind_positional-bind-requires
bind_positional-bind-requires t c =
    let s = c.loop-i.invariant.so_far in
    let v = value_of c.args.heap.now c.args.word in
    let many = counted v c.args.patterns.now c.in-Some.count c.in-Some.ensures c.requires.fits in
    let low : c.loop-i.i < length c.args.patterns.now = omega (arith, many, c.loop-i-test.true) in (
      search (rules, the_lemmas),
      (
        c.in-Some-positional.ensures.word,
        (
          field_fits c.args.heap.now v c.args.patterns.now c.loop-i.i c.args.values.now c.loop-i.values c.requires.fits s c.index-patterns-i.result low c.index-patterns-i.is c.in-Some-positional.part c.in-Some-positional.ensures.value,
          (
            field_inside c.args.heap.now v c.args.patterns.now c.loop-i.i c.args.values.now c.loop-i.values c.requires.fits s c.index-patterns-i.result low c.index-patterns-i.is (length c.loop-i.values)
                (subst (λ n. AllByRecursion (λ level. level < n) (levels_of_all (pats_of (map plain_pat c.args.patterns.now)))) (sym c.loop-i.invariant.len) c.requires.inside),
            field_rises c.args.heap.now v c.args.patterns.now c.loop-i.i c.args.values.now c.loop-i.values c.requires.fits s c.index-patterns-i.result low c.index-patterns-i.is c.requires.rising,
          ),
        ),
      ),
    )

pub bind_positional-unreachable-requires-in-None-positional : goal.bind_positional-unreachable-requires-in-None-positional
bind_positional-unreachable-requires-in-None-positional t c =
    let v = value_of c.args.heap.now c.args.word in
    let many = counted v c.args.patterns.now c.in-Some.count c.in-Some.ensures c.requires.fits in
    let low : c.loop-i.i < length c.args.patterns.now = omega (arith, many, c.loop-i-test.true) in
    no_field c.args.heap.now v c.args.patterns.now c.loop-i.i c.args.values.now c.loop-i.values c.requires.fits c.loop-i.invariant.so_far low c.in-None-positional.ensures.value

pub bind_positional-loop-i-preserved : goal.bind_positional-loop-i-preserved
bind_positional-loop-i-preserved t c =
    let v = value_of c.args.heap.now c.args.word in
    let many = counted v c.args.patterns.now c.in-Some.count c.in-Some.ensures c.requires.fits in
    let low : c.loop-i.i < length c.args.patterns.now = omega (arith, many, c.loop-i-test.true) in
    record {
      so_far = field_bound c.args.heap.now v c.args.patterns.now c.loop-i.i c.args.values.now c.loop-i.values c.requires.fits c.loop-i.invariant.so_far
          c.index-patterns-i.result low c.index-patterns-i.is c.in-Some-positional.part c.in-Some-positional.ensures.value c.bind.new.values c.requires.rising c.bind.ensures.binds;
      len = c.bind.ensures.len ∙ c.loop-i.invariant.len;
      pairs = λ pairs. c.bind.ensures.pairs (c.loop-i.invariant.pairs pairs);
    }

pub bind_positional-returns-clause-binds : goal.bind_positional-returns-clause-binds
bind_positional-returns-clause-binds t c =
    let v = value_of c.args.heap.now c.args.word in
    let many = counted v c.args.patterns.now c.in-Some.count c.in-Some.ensures c.requires.fits in
    fields_bound c.args.heap.now v c.args.patterns.now c.loop-i.i c.args.values.now c.loop-i.values c.requires.fits c.loop-i.invariant.so_far (omega (arith, many, c.loop-i-test.false, c.loop-i.auto))
