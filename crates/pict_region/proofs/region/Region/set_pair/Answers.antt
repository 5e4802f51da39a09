use Rattle.std.proofs.Common.{◌∙◌, ◌+◌, length, set, ap, sym, subst, arith}
use Rattle.std.proofs.lemmas.List.{length-set}
use Rattle.std.specs.Vec.{with_items}
use Rattle.pict_region.specs.RegionState.{words_of}
use Rattle.pict_region.specs.Layout.{region_state}
use Rattle.pict_region.proofs.Calls.{word_read, SetsWord, pair_set, lent_whole}
use Rattle.pict_region.proofs.Counts.{blocks_written}
use Rattle.pict_region.proofs.region.Region.set_pair.Goals as goal

pub overflow_add-start : goal.overflow_add-start
overflow_add-start c = let read = word_read c.self.inside _ _ _ (c.args.i + 1) c.self.view_is c.self.invariant c.b.view_is c.requires.live c.requires.inside in
    omega (arith, read.inside, c.self.inside.words.ok, c.self.inside.words.small)

pub overflow_add-start-2 : goal.overflow_add-start-2
overflow_add-start-2 c = let read = word_read c.self.inside _ _ _ (c.args.i + 1) c.self.view_is c.self.invariant c.b.view_is c.requires.live c.requires.inside in
    omega (arith, read.inside, c.self.inside.words.ok, c.self.inside.words.small)

pub put_pair-requires : goal.put_pair-requires
put_pair-requires c = let read = word_read c.self.inside _ _ _ (c.args.i + 1) c.self.view_is c.self.invariant c.b.view_is c.requires.live c.requires.inside in
    omega (arith, read.inside, ap length c.as_mut_slice.ensures.value)

written : (c : goal.After-self-2-1) → SetsWord c.self.inside (with_items c.self.inside.words c.put_pair.new.words).items c.args.self.now c.args.b.now
    (set (set (words_of c.args.self.now c.args.b.now) c.args.i c.args.pair.0) (c.args.i + 1) c.args.pair.1)
written c =
    let whole = lent_whole _ c.self.inside.words.items c.put_pair.new.words c.self.inside.words.ok.0 (c.put_pair.ensures.len ∙ ap length c.as_mut_slice.ensures.value) in
    let is = whole ∙ c.put_pair.ensures.words
    ∙ ap (λ s. set (set s (c.b.inside.number + 1 + c.args.i) c.args.pair.0) (c.b.inside.number + 1 + c.args.i + 1) c.args.pair.1) c.as_mut_slice.ensures.value in
    subst (λ s. SetsWord c.self.inside s c.args.self.now c.args.b.now (set (set (words_of c.args.self.now c.args.b.now) c.args.i c.args.pair.0) (c.args.i + 1) c.args.pair.1)) (sym is)
    (pair_set c.self.inside _ _ _ _ c.args.pair.0 c.args.pair.1 c.self.view_is c.self.invariant c.b.view_is c.requires.live c.requires.inside)

pub invariant_of-self : goal.invariant_of-self
invariant_of-self c = (written c).kept

pub returns-clause-live : goal.returns-clause-live
returns-clause-live c = (written c).live

pub returns-clause-blocks : goal.returns-clause-blocks
returns-clause-blocks c =
    blocks_written c.args.self.now
    (region_state (record { words = with_items c.self.inside.words c.put_pair.new.words; made = c.self.inside.made; free = c.self.inside.free; work = c.one_more-self-inside.result }))
    c.args.b.now (set (set (words_of c.args.self.now c.args.b.now) c.args.i c.args.pair.0) (c.args.i + 1) c.args.pair.1) c.requires.live (returns-clause-live c)
    (length-set (set (words_of c.args.self.now c.args.b.now) c.args.i c.args.pair.0) (c.args.i + 1) c.args.pair.1
    ∙ length-set (words_of c.args.self.now c.args.b.now) c.args.i c.args.pair.0)
    (ap (λ s. s.free) c.self.view_is)
