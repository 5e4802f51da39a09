-- The measures and the arguments of an applied variable.
use Rattle.std.proofs.Common.{◌∙◌, ap, arith}
use Rattle.pict_types.specs.Types.{Apply}
use Rattle.pict_types.specs.Plain.{plain_types}
use Rattle.pict_normal.proofs.Making.{row_is}
use Rattle.pict_types.proofs.Rows.{plain_apply}
use Rattle.pict_normal.proofs.made.applied_variable.Goals as goal

pub returns-in_ok-new-in-Some-clause-made : goal.returns-in_ok-new-in-Some-clause-made
returns-in_ok-new-in-Some-clause-made c = λ ws hs ts x.
    let i = c.args.i in
    let is = plain_apply i c.in_ok-new-in-Some.field-0 ∙ ap (λ v. Apply i (plain_types v.items)) (c.in_ok-new-in-Some.ensures.ok ∙ c.in-Some.us-is) ∙ ap (Apply i) (row_is c.args.args c.in-Some.us x c.in-Some.is) in
    let w = ap (λ m. m.weight) c.in_ok-measures.ensures.same in
    let h' = ap (λ m. m.height) c.in_ok-measures.ensures.same in
    c.new-in-Some.ensures.made ws hs (Apply i ts) is (omega (arith, w, c.above.ensures.weight, x.weight, x.light)) (omega (arith, h', c.above.ensures.height, x.height, x.height_fits))
