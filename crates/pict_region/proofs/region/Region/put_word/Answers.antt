use Rattle.std.proofs.Common.{set, ap, ◌+◌, arith, refl}
use Rattle.pict_region.proofs.Calls.{word_read, word_set}
use Rattle.std.proofs.lemmas.List.{length-set}
use Rattle.std.specs.Vec.{with_item}
use Rattle.pict_region.specs.RegionState.{words_of}
use Rattle.pict_region.specs.Layout.{region_state}
use Rattle.pict_region.proofs.Counts.{blocks_written}
use Rattle.pict_region.proofs.region.Region.put_word.Goals as goal

pub overflow_add-number : goal.overflow_add-number
overflow_add-number c =
    omega (arith, word_read c.self.inside _ _ _ _ c.self.view_is c.self.invariant refl c.requires.live c.requires.inside, c.self.inside.words.ok, c.self.inside.words.small)

pub overflow_add-number-2 : goal.overflow_add-number-2
overflow_add-number-2 c =
    omega (arith, word_read c.self.inside _ _ _ _ c.self.view_is c.self.invariant refl c.requires.live c.requires.inside, c.self.inside.words.ok, c.self.inside.words.small)

pub index_mut-requires : goal.index_mut-requires
index_mut-requires c =
    omega (arith, word_read c.self.inside _ _ _ _ c.self.view_is c.self.invariant refl c.requires.live c.requires.inside, c.self.inside.words.ok)

pub invariant_of-self : goal.invariant_of-self
invariant_of-self c = (word_set c.self.inside _ _ _ _ c.args.word c.self.view_is c.self.invariant refl c.requires.live c.requires.inside).kept

pub returns-clause-live : goal.returns-clause-live
returns-clause-live c = (word_set c.self.inside _ _ _ _ c.args.word c.self.view_is c.self.invariant refl c.requires.live c.requires.inside).live

pub returns-clause-blocks : goal.returns-clause-blocks
returns-clause-blocks c =
    blocks_written c.args.self.now
    (region_state (record { words = with_item c.self.inside.words (c.args.number + 1 + c.args.i) c.args.word; made = c.self.inside.made; free = c.self.inside.free; work = c.self.inside.work }))
    c.args.number (set (words_of c.args.self.now c.args.number) c.args.i c.args.word) c.requires.live (returns-clause-live c)
    (length-set (words_of c.args.self.now c.args.number) c.args.i c.args.word) (ap (λ s. s.free) c.self.view_is)
