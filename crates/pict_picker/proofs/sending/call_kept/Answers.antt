use Rattle.std.proofs.Common.{◌≡◌, IsSome, sym, ap, ◌∙◌, subst}
use Rattle.pict_core.specs.Primitives.{effect_of}
use Rattle.pict_core.specs.Term.{PrimitiveVal}
use Rattle.pict_desk.specs.Code.{core_in}
use Rattle.pict_heap.specs.HeapState.{value_of, IsWord}
use Rattle.pict_desk.proofs.Reading.{whole_value}
use Rattle.pict_desk.proofs.Tagged.{prim_word}
use Rattle.pict_picker.specs.Waiting.{pair_value, kept_process}
use Rattle.pict_picker.proofs.Outputs.{kept_primitive, kept_calls, kept_taken, called_ok}
use Rattle.pict_picker.proofs.sending.call_kept.Goals as goal

pub word_at-requires : goal.word_at-requires
word_at-requires c = let p = c.requires.kept.to in (p.word, p.fits, p.packs)

pub word_at-requires-in-Prim : goal.word_at-requires-in-Prim
word_at-requires-in-Prim c = let p = c.requires.kept.message in (p.word, p.fits, p.packs)

pub call-requires-clause-word : goal.call-requires-clause-word
call-requires-clause-word c =
    let p = c.requires.kept.message in
    subst (IsWord c.args.desk.now.heap) (sym (c.word_at-in-Prim.ensures p.word p.fits p.packs)) p.is

pub call-requires-clause-takes : goal.call-requires-clause-takes
call-requires-clause-takes c =
    let m = c.requires.acts in
    let h = c.args.desk.now.heap in
    let kept = c.args.kept in
    let to : pair_value h kept.to ≡ PrimitiveVal c.in-Prim.p = sym (whole_value h kept.to c.word_at.result c.requires.kept.to c.word_at.ensures) ∙ ap (value_of h) c.in-Prim.is in
    subst (λ v. IsSome (effect_of c.in-Prim.p v)) (sym (whole_value h kept.message c.word_at-in-Prim.result c.requires.kept.message c.word_at-in-Prim.ensures))
    (kept_taken m.0 c.args.desk.now m.1 m.2 kept c.requires.kept m.3 c.in-Prim.p to)

pub unreachable-requires : goal.unreachable-requires
unreachable-requires c =
    let m = c.requires.acts in
    let h = c.args.desk.now.heap in
    let kept = c.args.kept in
    let p = kept_primitive m.0 c.args.desk.now m.1 m.2 kept c.requires.kept m.3 c.requires.elsewhere in
    c.in_default.not-Prim p.0 (prim_word h c.word_at.result p.0 (whole_value h kept.to c.word_at.result c.requires.kept.to c.word_at.ensures ∙ p.1))

pub returns-clause-deed : goal.returns-clause-deed
returns-clause-deed c code lists j may =
    let h = c.args.desk.now.heap in
    let kept = c.args.kept in
    let to : pair_value h kept.to ≡ PrimitiveVal c.in-Prim.p = sym (whole_value h kept.to c.word_at.result c.requires.kept.to c.word_at.ensures) ∙ ap (value_of h) c.in-Prim.is in
    let same = whole_value h kept.message c.word_at-in-Prim.result c.requires.kept.message c.word_at-in-Prim.ensures in
    called_ok (core_in code) c.call.new.desk.heap lists j (kept_process h kept) c.in-Prim.p (pair_value h kept.message) kept.at c.call.result
    (kept_calls code c.args.desk.now lists j kept c.requires.kept may c.in-Prim.p to)
    (kept_taken code c.args.desk.now lists j kept c.requires.kept may c.in-Prim.p to)
    (λ e is. c.call.ensures.effect e (ap (effect_of c.in-Prim.p) same ∙ is))
