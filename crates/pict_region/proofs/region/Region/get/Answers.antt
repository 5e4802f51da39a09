use Rattle.std.proofs.Common.{◌∙◌, arith}
use Rattle.std.proofs.lemmas.List.{get_or_default}
use Rattle.pict_region.proofs.Calls.{word_read}
use Rattle.pict_region.proofs.region.Region.get.Goals as goal

pub overflow_add-place : goal.overflow_add-place
overflow_add-place c =
    omega (arith, word_read c.self.inside _ _ _ _ c.self.view_is c.self.invariant c.b.view_is c.requires.live c.requires.inside, c.self.inside.words.ok, c.self.inside.words.small)

pub overflow_add-place-2 : goal.overflow_add-place-2
overflow_add-place-2 c =
    omega (arith, word_read c.self.inside _ _ _ _ c.self.view_is c.self.invariant c.b.view_is c.requires.live c.requires.inside, c.self.inside.words.ok, c.self.inside.words.small)

pub index-requires : goal.index-requires
index-requires c =
    omega (arith, word_read c.self.inside _ _ _ _ c.self.view_is c.self.invariant c.b.view_is c.requires.live c.requires.inside, c.self.inside.words.ok)

pub returns-clause-word : goal.returns-clause-word
returns-clause-word c =
    let read = word_read c.self.inside _ _ _ _ c.self.view_is c.self.invariant c.b.view_is c.requires.live c.requires.inside in c.index.ensures ∙ get_or_default c.self.inside.words.items _ _ 0 read.inside ∙ read.word_is
