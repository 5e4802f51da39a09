-- The type field of a type that was made.
use Rattle.std.proofs.Common.{◌∙◌, sym, ap, subst}
use Rattle.pict_types.specs.Measures.{held, weigh, weigh_variable, rise}
use Rattle.pict_normal.specs.Made.{IsMadeBound, IsReason}
use Rattle.pict_types.specs.Replacing.{bound_by}
use Rattle.pict_normal.proofs.Making.{if_err, if_ok, made_is}
use Rattle.pict_normal.proofs.made.bound_of.Goals as goal

pub returns-in-Some-clause-made : goal.returns-in-Some-clause-made
returns-in-Some-clause-made c =
    if_ok c.below.result (λ m f ws hs t h.
    let e = made_is c.args.part c.in-Some.t h c.in-Some.is in
    subst (λ x. IsMadeBound ws hs m (bound_by x)) e (f ws hs (h.weight ∙ ap (weigh ws) (sym e)) (h.height ∙ ap (λ x. held (rise hs x)) (sym e)))) c.below.ensures.made

pub returns-in-Some-clause-reason : goal.returns-in-Some-clause-reason
returns-in-Some-clause-reason c =
    if_err c.below.result (λ y f ws hs t h.
    let e = made_is c.args.part c.in-Some.t h c.in-Some.is in
    subst (λ x. IsReason (weigh_variable ws (bound_by x)) y) e (f ws (h.weight ∙ ap (weigh ws) (sym e)))) c.below.ensures.reason
