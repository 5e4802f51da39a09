use Rattle.std.proofs.Common.{◌≡◌, ◌∙◌, ◌+◌, ◌-◌, ◌<◌, length, set, replicate, ap, sym, refl, arith}
use Rattle.std.proofs.lemmas.List.{get_or_read, length-replicate}
use Rattle.pict_region.specs.RegionState.{spare}
use Rattle.pict_region.specs.Layout.{region_state}
use Rattle.pict_region.specs.declared.region.FreeList.{FreeList}
use Rattle.pict_region.proofs.Calls.{first_read, TakesFirst, taken, spare_at, spare_set, spare_kept, read_list, reads_first}
use Rattle.std.specs.Vec.{with_item}
use Rattle.pict_region.proofs.Counts.{blocks_taken}
use Rattle.pict_region.proofs.region.Region.take.Goals as goal

pub overflow_add-start : goal.overflow_add-start
overflow_add-start c =
    let first = first_read c.self.inside _ c.args.width c.self.view_is c.self.invariant c.requires in
    omega (arith, (reads_first c.self.inside c.args.width c.index-list.result.now first c.index-list.ensures).inside, c.self.inside.words.ok, c.self.inside.words.small)

pub index-requires : goal.index-requires
index-requires c =
    let first = first_read c.self.inside _ c.args.width c.self.view_is c.self.invariant c.requires in
    let reads = reads_first c.self.inside c.args.width c.index-list.result.now first c.index-list.ensures in
    omega (arith, reads.inside, reads.positive, c.self.inside.words.ok)

pub clear-requires : goal.clear-requires
clear-requires c =
    let first = first_read c.self.inside _ c.args.width c.self.view_is c.self.invariant c.requires in
    omega (arith, (reads_first c.self.inside c.args.width c.index-list.result.now first c.index-list.ensures).inside, c.self.inside.words.ok)

block_taken : (c : goal.After-clear) → TakesFirst c.clear.new.words.items c.self.inside.made
    (set c.self.inside.free.items c.args.width (record { first = c.index.result.now; count = c.index-list.result.now.count - 1 }))
    c.args.self.now c.index-list.result.now.first c.args.width
block_taken c =
    let first = first_read c.self.inside _ c.args.width c.self.view_is c.self.invariant c.requires in
    let reads = reads_first c.self.inside c.args.width c.index-list.result.now first c.index-list.ensures in
    let inside : c.index-list.result.now.first + 1 < length c.self.inside.words.items = omega (arith, reads.inside, reads.positive) in
    taken c.self.inside c.args.self.now c.args.width c.index.result.now c.index-list.result.now c.clear.new.words.items c.self.view_is c.self.invariant c.requires
    (read_list c.self.inside c.args.width c.index-list.result.now first c.index-list.ensures)
    (get_or_read c.self.inside.words.items (c.index-list.result.now.first + 1) c.index.result.now inside c.index.ensures 0)
    c.clear.ensures.items

pub invariant_of-self : goal.invariant_of-self
invariant_of-self c = (block_taken c).kept

pub returns-clause-fresh : goal.returns-clause-fresh
returns-clause-fresh c = (block_taken c).fresh

pub returns-clause-small : goal.returns-clause-small
returns-clause-small c =
    let first = first_read c.self.inside _ c.args.width c.self.view_is c.self.invariant c.requires in
    let reads = reads_first c.self.inside c.args.width c.index-list.result.now first c.index-list.ensures in
    omega (arith, reads.inside, reads.positive, c.self.invariant.small)

pub returns-clause-live : goal.returns-clause-live
returns-clause-live c = (block_taken c).live

pub returns-clause-spare : goal.returns-clause-spare
returns-clause-spare c =
    let first = first_read c.self.inside _ c.args.width c.self.view_is c.self.invariant c.requires in
    let listed = read_list c.self.inside c.args.width c.index-list.result.now first c.index-list.ensures in
    let spare_is = spare_at c.self.inside _ c.args.width c.self.view_is in
    let count : c.index-list.result.now.count ≡ spare c.args.self.now c.args.width = ap (λ l. l.count) listed ∙ sym spare_is in
    ap (λ n. n + 1) (spare_set c.self.inside.free.items c.args.width c.args.width (record { first = c.index.result.now; count = c.index-list.result.now.count - 1 }) refl first.listed)
    ∙ (let back : c.index-list.result.now.count - 1 + 1 ≡ c.index-list.result.now.count = omega (arith, count, c.requires) in back)
    ∙ count

pub returns-clause-others : goal.returns-clause-others
returns-clause-others c other apart =
    spare_kept c.self.inside.free.items c.args.width other (record { first = c.index.result.now; count = c.index-list.result.now.count - 1 }) apart
    ∙ ap (λ s. spare s other) c.self.view_is

pub returns-clause-blocks : goal.returns-clause-blocks
returns-clause-blocks c =
    let list : FreeList = record { first = c.index.result.now; count = c.index-list.result.now.count - 1 } in
    blocks_taken c.args.self.now
    (region_state (record { words = c.clear.new.words; made = c.self.inside.made; free = with_item c.self.inside.free c.args.width list; work = c.one_more-self-inside.result }))
    c.index-list.result.now.first c.args.width (replicate c.args.width 0) (returns-clause-fresh c) (returns-clause-live c) (length-replicate c.args.width 0)
    (returns-clause-spare c) (returns-clause-others c)
