-- The body, where the variable stays and measures what the whole does, measures what the unfolding does.
use Rattle.std.proofs.Common.{◌≡◌, ◌∷◌, ◌∙◌, sym, ap}
use Rattle.pict_types.specs.Types.{Var, Rec, no_type, types}
use Rattle.pict_types.specs.Measures.{held, weigh, weights, rise, heights}
use Rattle.pict_types.specs.Plain.{plain, plain_types}
use Rattle.pict_types.specs.PlainContext.{type_context}
use Rattle.pict_types.specs.Replacing.{fill}
use Rattle.pict_types.specs.Filling.{put_for}
use Rattle.pict_types.proofs.Held.{alike_more, held_alike, alike_same, weigh_held, rise_held}
use Rattle.pict_types.proofs.FilledReplaced.{unfolding_weighs, unfolding_rises}
use Rattle.pict_types.proofs.unfolding.unfolded_measures.Goals as goal

pub returns-clause-weight : goal.returns-clause-weight
returns-clause-weight c =
    let ws = weights (type_context c.args.c.now) in
    let b = plain c.args.body.now in
    let e : c.measures.result.weight ≡ held (weigh ws (Rec b)) = c.measures.ensures.weight ∙ ap (λ x. held (weigh ws x)) c.requires.body in
    let k : plain c.in_ok-kept.kept ≡ fill (put_for (types (Var 0) no_type) 1) b = c.in_ok-kept.ensures ∙ ap (λ x. fill (put_for (plain_types x) 1) b) c.from_ref.ensures.value in
    c.measures_with.ensures.weight
    ∙ (weigh_held (alike_more (held_alike c.measures.result.weight (weigh ws (Rec b)) e) (alike_same ws)) (plain c.in_ok-kept.kept)).same
    ∙ ap (λ x. held (weigh (weigh ws (Rec b) ∷ ws) x)) k
    ∙ ap held (sym (unfolding_weighs ws b))

pub returns-clause-height : goal.returns-clause-height
returns-clause-height c =
    let hs = heights (type_context c.args.c.now) in
    let b = plain c.args.body.now in
    let e : c.measures.result.height ≡ held (rise hs (Rec b)) = c.measures.ensures.height ∙ ap (λ x. held (rise hs x)) c.requires.body in
    let k : plain c.in_ok-kept.kept ≡ fill (put_for (types (Var 0) no_type) 1) b = c.in_ok-kept.ensures ∙ ap (λ x. fill (put_for (plain_types x) 1) b) c.from_ref.ensures.value in
    c.measures_with.ensures.height
    ∙ (rise_held (alike_more (held_alike c.measures.result.height (rise hs (Rec b)) e) (alike_same hs)) (plain c.in_ok-kept.kept)).same
    ∙ ap (λ x. held (rise (rise hs (Rec b) ∷ hs) x)) k
    ∙ ap held (sym (unfolding_rises hs b))
