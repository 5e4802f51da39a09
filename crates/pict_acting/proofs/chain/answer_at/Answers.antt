use Rattle.std.proofs.Common.{◌≡◌, IsTrue, FitsSigned, w64, sym, ap, ◌∙◌, rules}
use Rattle.std.proofs.lemmas.Int.{to_z-of_z}
use Rattle.pict_core.specs.Plain.{plain_val}
use Rattle.pict_core.specs.Primitives.{answers}
use Rattle.pict_core.specs.Term.{Int, Var, no_labelled}
use Rattle.pict_heap.specs.HeapState.{value_of}
use Rattle.pict_desk.specs.Arguments.{operand_in}
use Rattle.pict_desk.proofs.Numbers.{answered}
use Rattle.pict_acting.proofs.chain.answer_at.Goals as goal

pub returns : goal.returns
returns c h pairs =
    let x = c.index-fields-0.result in
    let y = c.index-fields-1.result in
    let z = c.index-fields-2.result in
    let answer = c.in_ok-answer.answer in
    let fits_a : FitsSigned w64 c.in_ok-a.a = search rules in
    let fits_b : FitsSigned w64 c.in_ok-b.b = search rules in
    let yes : IsTrue c.is_level.result = cc in
    let there : plain_val z ≡ Var c.args.level = c.is_level.ensures.0 yes in
    record {
      word = (c.in_ok-answer.ensures.answer no_labelled).word h;
      effect = λ later keeps labelled.
          let first = c.in_ok-a.ensures h pairs later keeps ∙ ap Int (sym (to_z-of_z w64 c.in_ok-a.a fits_a)) in
          let second = c.in_ok-b.ensures h pairs later keeps ∙ ap Int (sym (to_z-of_z w64 c.in_ok-b.b fits_b)) in
          answered h later c.args.p x y z _ _ answer first second c.in_ok-answer.ensures.answer c.args.fields.now c.if-fields-ne3.false c.index-fields-0.is c.index-fields-1.is
          c.index-fields-2.is labelled
          ∙ ap (λ v. answers (operand_in h later v) (value_of h answer)) there;
    }
