-- One more part points to the next, or as far as two steps go.
use Rattle.std.proofs.Common.{◌≡◌, ◌+◌, length, subst, arith}
use Rattle.pict_types.specs.Around.{Skips, around_weights, around_heights, weights_inside, heights_inside}
use Rattle.pict_types.proofs.Around.{skips_weights, skips_heights, skips_twice}
use Rattle.pict_types.proofs.measure.inside.Goals as goal

pub returns-in_default-clause-linked : goal.returns-in_default-clause-linked
returns-in_default-clause-linked c =
    let o = c.args.outer.now in
    ((skips_weights c.args.known.now (around_weights o), skips_heights c.args.known.now (around_heights o)), (c.requires.linked, c.requires.linked))

pub returns-in-None-clause-linked : goal.returns-in-None-clause-linked
returns-in-None-clause-linked c =
    let o = c.args.outer.now in
    ((skips_weights c.args.known.now (around_weights o), skips_heights c.args.known.now (around_heights o)), (c.requires.linked, c.requires.linked))

pub returns-in-Some-checked_add-clause-linked : goal.returns-in-Some-checked_add-clause-linked
returns-in-Some-checked_add-clause-linked c =
    let o = c.args.outer.now in
    let f = c.in-Some.field-0 in
    let n = length c.args.known.now in
    let e : n + f.skipped ≡ c.in-Some-checked_add.skipped = omega (arith, c.in-Some-checked_add.ensures, c.in-Some.skipped-is) in
    let w = skips_twice n f.skipped (weights_inside c.args.known.now (around_weights o)) (around_weights o) (around_weights f.far.now) (skips_weights c.args.known.now (around_weights o)) c.in-Some.ensures.weights in
    let h = skips_twice n f.skipped (heights_inside c.args.known.now (around_heights o)) (around_heights o) (around_heights f.far.now) (skips_heights c.args.known.now (around_heights o)) c.in-Some.ensures.heights in
    ((subst (λ k. Skips k (weights_inside c.args.known.now (around_weights o)) (around_weights f.far.now)) e w, subst (λ k. Skips k (heights_inside c.args.known.now (around_heights o)) (around_heights f.far.now)) e h), (c.requires.linked, c.in-Some.ensures.linked))
