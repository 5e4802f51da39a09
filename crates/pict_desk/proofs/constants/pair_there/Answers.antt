use Rattle.std.proofs.Common.{sym, ◌∙◌, subst}
use Rattle.pict_core.specs.Plain.{plain_val}
use Rattle.pict_desk.specs.Known.{known}
use Rattle.pict_desk.proofs.Pairs.{value_packed}
use Rattle.pict_desk.specs.Constants.{IsConstant, IsConstantWord}
use Rattle.pict_desk.proofs.constants.pair_there.Goals as goal

pub returns-in-Some-constant-clause-pair : goal.returns-in-Some-constant-clause-pair
returns-in-Some-constant-clause-pair c h pairs constant =
    let word = c.in-Some-constant.word in
    let v = plain_val c.args.operand.now in
    let made : IsConstantWord h v word = subst (IsConstant h v) c.in-Some-constant.is constant in
    let packs = sym c.pack.ensures.pair in
    record {
      pair_is = record { word = word; is = made.word; fits = c.pack.ensures.fits; packs = packs };
      value = value_packed h word c.pack.result c.pack.ensures.fits packs ∙ made.value (known h c.args.values.now);
    }
