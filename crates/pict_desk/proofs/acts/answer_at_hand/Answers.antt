use Rattle.std.proofs.Common.{FitsSigned, w64, refl, sym, ap, ◌∙◌, rules}
use Rattle.std.proofs.lemmas.Int.{to_z-of_z}
use Rattle.pict_core.specs.Plain.{plain_val}
use Rattle.pict_core.specs.Term.{Int, no_labelled}
use Rattle.pict_heap.specs.HeapState.{value_of}
use Rattle.pict_desk.proofs.Pairs.{value_packed}
use Rattle.pict_desk.specs.Arguments.{operand_in}
use Rattle.pict_desk.proofs.Numbers.{is_number, answered}
use Rattle.pict_desk.proofs.acts.answer_at_hand.Goals as goal

pub returns : goal.returns
returns c h pairs =
    let values = c.args.values.now in
    let x = c.index-fields-0.result in
    let y = c.index-fields-1.result in
    let z = c.index-fields-2.result in
    let to = c.in_ok-to.ensures.pair h pairs in
    let answer = c.in_ok-answer.answer in
    let fits_a : FitsSigned w64 c.in_ok-a.a = search rules in
    let fits_b : FitsSigned w64 c.in_ok-b.b = search rules in
    let first = is_number _ c.in_ok-a.a (c.in_ok-a.ensures h pairs) ∙ ap Int (sym (to_z-of_z w64 c.in_ok-a.a fits_a)) in
    let second = is_number _ c.in_ok-b.b (c.in_ok-b.ensures h pairs) ∙ ap Int (sym (to_z-of_z w64 c.in_ok-b.b fits_b)) in
    record {
      to = operand_in h values (plain_val z);
      answer = value_of h answer;
      effect = answered h values c.args.p x y z _ _ answer first second c.in_ok-answer.ensures.answer c.args.fields.now c.if-fields-ne3.false
          c.index-fields-0.is c.index-fields-1.is c.index-fields-2.is;
      output = record {
        to_pair = to.pair_is;
        to_is = to.value;
        message_pair = record { word = answer; is = (c.in_ok-answer.ensures.answer no_labelled).word h; fits = c.pack.ensures.fits; packs = sym c.pack.ensures.pair };
        message_is = value_packed h answer c.pack.result c.pack.ensures.fits (sym c.pack.ensures.pair);
        at_is = refl;
        fits = search rules;
      };
    }
