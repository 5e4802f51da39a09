-- A node over a type that was made.
use Rattle.std.proofs.Common.{◌∙◌, ap, arith}
use Rattle.pict_types.specs.Types.{Chan}
use Rattle.pict_types.specs.Plain.{plain, plain_cap}
use Rattle.pict_normal.proofs.Making.{made_is}
use Rattle.pict_normal.proofs.made.channel.Goals as goal

pub returns-in_ok-new-in-Some-clause-made : goal.returns-in_ok-new-in-Some-clause-made
returns-in_ok-new-in-Some-clause-made c = λ ws hs t h.
    let is = ap (λ x. Chan (plain_cap c.args.cap) (plain x)) (c.in_ok-new-in-Some.ensures.ok ∙ c.in-Some.u-is) ∙ ap (Chan (plain_cap c.args.cap)) (made_is c.args.part c.in-Some.u h c.in-Some.is) in
    let w = ap (λ m. m.weight) c.in_ok-measures.ensures.same in
    let h' = ap (λ m. m.height) c.in_ok-measures.ensures.same in
    c.new-in-Some.ensures.made ws hs (Chan (plain_cap c.args.cap) t) is (omega (arith, w, c.above.ensures.weight, h.weight)) (omega (arith, h', c.above.ensures.height, h.height))
