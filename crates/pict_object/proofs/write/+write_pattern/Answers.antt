use Rattle.std.proofs.Common.{rules, refl, ◌∙◌, ◌++◌, ap, sym, length, map}
use Rattle.std.proofs.lemmas.Result.{on_ok_weaker}
use Rattle.pict_core.specs.declared.pattern.CorePat.{the_lemmas}
use Rattle.pict_core.specs.Plain.{plain_pat, plain_pat_field, pats_of, labelled_pats_of}
use Rattle.pict_object.specs.Objects.{patterns_bytes, labelled_patterns_bytes, count_bytes}
use Rattle.pict_object.specs.Sizes.{place_at}
use Rattle.pict_object.proofs.Writing.{in_turn, record_pattern_bytes, patterns_needs}
use Rattle.pict_object.proofs.write.+write_pattern.Goals as goal

pub write_pattern-write_patterns-requires : goal.write_pattern-write_patterns-requires
write_pattern-write_patterns-requires t c =
    let n = patterns_needs c.args.pattern.now c.in-Fields.positional c.in-Fields.labelled c.deref.result.now c.in-Fields.labelled.items c.in-Fields.is c.deref.ensures.value refl c.requires in
    (search (rules, the_lemmas), (n.few, n.fit))

pub write_pattern-write_pattern_fields-requires : goal.write_pattern-write_pattern_fields-requires
write_pattern-write_pattern_fields-requires t c =
    let n = patterns_needs c.args.pattern.now c.in-Fields.positional c.in-Fields.labelled c.deref.result.now c.deref-in-Fields.result.now c.in-Fields.is c.deref.ensures.value c.deref-in-Fields.ensures.value c.requires in
    (search (rules, the_lemmas), (n.few_labelled, n.labelled_fit))

pub write_pattern-returns-in_ok-write_patterns-in-Fields : goal.write_pattern-returns-in_ok-write_patterns-in-Fields
write_pattern-returns-in_ok-write_patterns-in-Fields t c =
    on_ok_weaker c.write_pattern_fields.result
    (λ h. in_turn 0x22 c.args.out.now.items c.push.new.self.items c.write_patterns.new.out.items c.write_pattern_fields.new.out.items
    (count_bytes (length c.deref.result.now)) (patterns_bytes (place_at c.args.places.now) (pats_of (map plain_pat c.deref.result.now)))
    (count_bytes (length c.deref-in-Fields.result.now)) (labelled_patterns_bytes (place_at c.args.places.now) (labelled_pats_of (map plain_pat_field c.deref-in-Fields.result.now)))
    c.in_ok-push-in-Fields.ensures.items c.in_ok-write_patterns-in-Fields.ensures h
    ∙ ap (λ z. c.args.out.now.items ++ z) (sym (record_pattern_bytes (place_at c.args.places.now) c.args.pattern.now c.in-Fields.positional c.in-Fields.labelled c.deref.result.now c.deref-in-Fields.result.now c.in-Fields.is c.deref.ensures.value c.deref-in-Fields.ensures.value)))
    c.write_pattern_fields.ensures
