use Rattle.std.proofs.Common.{◌≡◌, ◌∙◌, ◌+◌, get_or, ap, arith, refl}
use Rattle.std.proofs.lemmas.List.{get_or_default}
use Rattle.pict_region.proofs.Calls.{word_read}
use Rattle.pict_region.proofs.region.Region.open.Goals as goal

pub overflow_add-start : goal.overflow_add-start
overflow_add-start c = let read = word_read c.self.inside _ _ c.args.number 1 c.self.view_is c.self.invariant refl c.requires.live c.requires.wide in
    omega (arith, read.inside, c.self.inside.words.ok, c.self.inside.words.small)

pub overflow_add-start-2 : goal.overflow_add-start-2
overflow_add-start-2 c = let read = word_read c.self.inside _ _ c.args.number 1 c.self.view_is c.self.invariant refl c.requires.live c.requires.wide in
    omega (arith, read.inside, c.self.inside.words.ok, c.self.inside.words.small)

pub index-requires : goal.index-requires
index-requires c = let read = word_read c.self.inside _ _ c.args.number 1 c.self.view_is c.self.invariant refl c.requires.live c.requires.wide in
    omega (arith, read.inside, c.self.inside.words.ok)

pub index-requires-2 : goal.index-requires-2
index-requires-2 c = let read = word_read c.self.inside _ _ c.args.number 1 c.self.view_is c.self.invariant refl c.requires.live c.requires.wide in
    omega (arith, read.inside, c.self.inside.words.ok)

pub returns-clause-first : goal.returns-clause-first
returns-clause-first c =
    let read = word_read c.self.inside _ _ c.args.number 0 c.self.view_is c.self.invariant refl c.requires.live (omega (arith, c.requires.wide)) in
    let place : c.args.number + 1 ≡ c.args.number + 1 + 0 = omega arith in
    c.index.ensures ∙ ap (λ n. get_or c.self.inside.words.items n c.index.result.now) place ∙ get_or_default c.self.inside.words.items _ _ 0 read.inside ∙ read.word_is

pub returns-clause-second : goal.returns-clause-second
returns-clause-second c =
    let read = word_read c.self.inside _ _ c.args.number 1 c.self.view_is c.self.invariant refl c.requires.live c.requires.wide in
    c.index-2.ensures ∙ get_or_default c.self.inside.words.items _ _ 0 read.inside ∙ read.word_is
