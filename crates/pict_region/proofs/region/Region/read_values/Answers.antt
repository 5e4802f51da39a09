use Rattle.std.proofs.Common.{◌∙◌, ◌*◌, ◌+◌, length, take, drop, ap, arith}
use Rattle.pict_region.proofs.Pairs.{range_inside, values_between}
use Rattle.pict_region.proofs.region.Region.read_values.Goals as goal

pub overflow_add-start : goal.overflow_add-start
overflow_add-start c = let fits = range_inside c.self.inside _ _ _ c.self.view_is c.self.invariant c.b.view_is c.requires.live in
    omega (arith, fits, c.self.inside.words.ok, c.self.inside.words.small)

pub overflow_add-start-2 : goal.overflow_add-start-2
overflow_add-start-2 c = let fits = range_inside c.self.inside _ _ _ c.self.view_is c.self.invariant c.b.view_is c.requires.live in
    omega (arith, fits, c.requires.inside, c.self.inside.words.ok, c.self.inside.words.small)

pub read_pairs-requires-clause-inside : goal.read_pairs-requires-clause-inside
read_pairs-requires-clause-inside c = let fits = range_inside c.self.inside _ _ _ c.self.view_is c.self.invariant c.b.view_is c.requires.live in
    omega (arith, fits, c.requires.inside, ap length c.as_slice-words.ensures.value)

pub returns-clause-words : goal.returns-clause-words
returns-clause-words c =
    c.read_pairs.ensures.words
    ∙ ap (λ s. take (2 * length c.args.indices.now) (drop (c.b.inside.number + 1 + c.args.first) s)) c.as_slice-words.ensures.value
    ∙ values_between c.self.inside _ _ _ c.args.first (2 * length c.args.indices.now) c.self.view_is c.self.invariant c.b.view_is c.requires.live c.requires.inside
