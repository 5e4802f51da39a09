use Rattle.std.proofs.Common.{Some, ap, ◌∙◌}
use Rattle.std.specs.Int.{w64}
use Rattle.std.proofs.lemmas.Int.{to_z-of_z}
use Rattle.pict_heap.specs.HeapState.{value_of}
use Rattle.pict_prim.proofs.SameNumbers.{same_numbers}
use Rattle.pict_prim.proofs.deciding.act_on_numbers.Goals as goal

pub returns-in-None-clause-effect : goal.returns-in-None-clause-effect
returns-in-None-clause-effect c h =
    c.in-None.ensures (value_of h c.args.k)
    ∙ same_numbers c.args.p c.args.a c.args.b _ _ (value_of h c.args.k) (to_z-of_z w64 c.args.a c.ranges.a) (to_z-of_z w64 c.args.b c.ranges.b)

pub returns-in-Some-clause-effect : goal.returns-in-Some-clause-effect
returns-in-Some-clause-effect c h =
    ap Some (c.answer_calculated.ensures.effect h) ∙ c.in-Some.ensures (value_of h c.args.k)
    ∙ same_numbers c.args.p c.args.a c.args.b _ _ (value_of h c.args.k) (to_z-of_z w64 c.args.a c.ranges.a) (to_z-of_z w64 c.args.b c.ranges.b)
