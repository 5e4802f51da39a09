use Rattle.std.proofs.Common.{◌≡◌, ◌∙◌, ◌+◌, ◌-◌, ◌<◌, ◌∷◌, ℕ, List, set, length, ap, sym, refl, subst, arith}
use Rattle.std.proofs.lemmas.List.{get_or_read}
use Rattle.std.specs.Vec.{with_item, with_items}
use Rattle.pict_region.specs.RegionState.{spare}
use Rattle.pict_region.specs.Layout.{region_state}
use Rattle.pict_region.specs.Values.{gathered, overlaid}
use Rattle.pict_region.specs.declared.region.FreeList.{FreeList}
use Rattle.pict_region.proofs.Calls.{first_read, spare_at, spare_set, spare_kept, read_list, reads_first, lent_whole}
use Rattle.pict_region.proofs.Counts.{blocks_taken}
use Rattle.pict_region.proofs.Pairs.{TakesWords, taken_with, length_gathered}
use Rattle.pict_region.proofs.region.Region.cut_gathered.Goals as goal

pub overflow_add-start : goal.overflow_add-start
overflow_add-start c =
    let first = first_read c.self.inside _ c.args.width c.self.view_is c.self.invariant c.requires.spare in
    omega (arith, (reads_first c.self.inside c.args.width c.index-list.result.now first c.index-list.ensures).inside, c.self.inside.words.ok, c.self.inside.words.small)

pub overflow_add-start-2 : goal.overflow_add-start-2
overflow_add-start-2 c =
    let first = first_read c.self.inside _ c.args.width c.self.view_is c.self.invariant c.requires.spare in
    let reads = reads_first c.self.inside c.args.width c.index-list.result.now first c.index-list.ensures in
    omega (arith, reads.inside, reads.positive, c.self.inside.words.ok, c.self.inside.words.small)

pub index-first-requires : goal.index-first-requires
index-first-requires c =
    let first = first_read c.self.inside _ c.args.width c.self.view_is c.self.invariant c.requires.spare in
    let reads = reads_first c.self.inside c.args.width c.index-list.result.now first c.index-list.ensures in
    omega (arith, reads.inside, reads.positive, c.self.inside.words.ok)

pub put_gathered-requires-clause-inside : goal.put_gathered-requires-clause-inside
put_gathered-requires-clause-inside c =
    let first = first_read c.self.inside _ c.args.width c.self.view_is c.self.invariant c.requires.spare in
    let reads = reads_first c.self.inside c.args.width c.index-list.result.now first c.index-list.ensures in
    omega (arith, reads.inside, c.requires.wide, ap length c.as_mut_slice.ensures.value)

words : (c : goal.After-self-2-1) → List ℕ
words c = c.args.word ∷ gathered c.args.values.now c.args.indices.now

block_taken : (c : goal.After-self-2-1) → TakesWords (with_items c.self.inside.words c.put_gathered.new.words).items c.self.inside.made
    (set c.self.inside.free.items c.args.width (record { first = c.index-first.result.now; count = c.index-list.result.now.count - 1 }))
    c.args.self.now c.index-list.result.now.first (words c)
unfolding words
block_taken c =
    let first = first_read c.self.inside _ c.args.width c.self.view_is c.self.invariant c.requires.spare in
    let reads = reads_first c.self.inside c.args.width c.index-list.result.now first c.index-list.ensures in
    let inside : c.index-list.result.now.first + 1 < length c.self.inside.words.items = omega (arith, reads.inside, reads.positive) in
    let whole = lent_whole _ c.self.inside.words.items c.put_gathered.new.words c.self.inside.words.ok.0 (c.put_gathered.ensures.len ∙ ap length c.as_mut_slice.ensures.value) in
    let is = whole ∙ c.put_gathered.ensures.words ∙ ap (overlaid (c.index-list.result.now.first + 1 + 1) (words c)) c.as_mut_slice.ensures.value in
    subst (λ s. TakesWords s c.self.inside.made
    (set c.self.inside.free.items c.args.width (record { first = c.index-first.result.now; count = c.index-list.result.now.count - 1 }))
    c.args.self.now c.index-list.result.now.first (words c)) (sym is)
    (taken_with c.self.inside c.args.self.now c.args.width c.index-first.result.now c.index-list.result.now (words c) c.self.view_is c.self.invariant c.requires.spare
    (omega (arith, c.requires.wide, length_gathered c.args.values.now c.args.indices.now))
    (read_list c.self.inside c.args.width c.index-list.result.now first c.index-list.ensures)
    (get_or_read c.self.inside.words.items (c.index-list.result.now.first + 1) c.index-first.result.now inside c.index-first.ensures 0))

pub invariant_of-self : goal.invariant_of-self
unfolding words
invariant_of-self c = (block_taken c).kept

pub returns-clause-fresh : goal.returns-clause-fresh
unfolding words
returns-clause-fresh c = (block_taken c).fresh

pub returns-clause-small : goal.returns-clause-small
returns-clause-small c =
    let first = first_read c.self.inside _ c.args.width c.self.view_is c.self.invariant c.requires.spare in
    let reads = reads_first c.self.inside c.args.width c.index-list.result.now first c.index-list.ensures in
    omega (arith, reads.inside, reads.positive, c.self.invariant.small)

pub returns-clause-live : goal.returns-clause-live
unfolding words
returns-clause-live c = record { first = (block_taken c).first; live = (block_taken c).live }

pub returns-clause-spare : goal.returns-clause-spare
returns-clause-spare c =
    let first = first_read c.self.inside _ c.args.width c.self.view_is c.self.invariant c.requires.spare in
    let listed = read_list c.self.inside c.args.width c.index-list.result.now first c.index-list.ensures in
    let spare_is = spare_at c.self.inside _ c.args.width c.self.view_is in
    let count : c.index-list.result.now.count ≡ spare c.args.self.now c.args.width = ap (λ l. l.count) listed ∙ sym spare_is in
    ap (λ n. n + 1) (spare_set c.self.inside.free.items c.args.width c.args.width (record { first = c.index-first.result.now; count = c.index-list.result.now.count - 1 }) refl first.listed)
    ∙ (let back : c.index-list.result.now.count - 1 + 1 ≡ c.index-list.result.now.count = omega (arith, count, c.requires.spare) in back)
    ∙ count

pub returns-clause-others : goal.returns-clause-others
returns-clause-others c other apart =
    spare_kept c.self.inside.free.items c.args.width other (record { first = c.index-first.result.now; count = c.index-list.result.now.count - 1 }) apart
    ∙ ap (λ s. spare s other) c.self.view_is

pub returns-clause-blocks : goal.returns-clause-blocks
unfolding words
returns-clause-blocks c =
    let list : FreeList = record { first = c.index-first.result.now; count = c.index-list.result.now.count - 1 } in
    let taken = block_taken c in
    blocks_taken c.args.self.now
    (region_state (record { words = with_items c.self.inside.words c.put_gathered.new.words; made = c.self.inside.made; free = with_item c.self.inside.free c.args.width list; work = c.self.inside.work }))
    c.index-list.result.now.first c.args.width (taken.first ∷ words c) taken.fresh taken.live
    (omega (arith, c.requires.wide, length_gathered c.args.values.now c.args.indices.now))
    (returns-clause-spare c) (returns-clause-others c)
