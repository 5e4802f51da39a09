use Rattle.std.proofs.Common.{◌≡◌, ◌∙◌, ◌+◌, ◌<◌, ℕ, length, set, get_or, ap, sym, arith}
use Rattle.std.proofs.lemmas.List.{get_or_read}
use Rattle.pict_region.specs.RegionState.{RegionState, IsLive, width_of, spare}
use Rattle.pict_region.specs.Layout.{list_at, region_state, made_words, IsLaidOut}
use Rattle.pict_region.specs.declared.region.FreeList.{FreeList}
use Rattle.pict_region.specs.declared.region.Region.TheInside.{Inside}
use Rattle.pict_region.proofs.Calls.{ReadsWidth, width_read, GivesBlock, given, count_fits, spare_at, spare_set, spare_kept}
use Rattle.std.specs.Vec.{with_item}
use Rattle.pict_region.proofs.Counts.{blocks_given}
use Rattle.pict_region.proofs.region.Region.free_block.Goals as goal

-- the width and its list as the call reads them
record Reads (a : Inside) (r : RegionState) (number token width : ℕ) (list : FreeList) : Type 0 where
  at : ReadsWidth a.words.items a.free.items token (width_of r number)
  width_is : width ≡ width_of r number
  listed : width < length a.free.items
  list_is : list ≡ list_at a.free.items width

reads : (a : Inside) (r : RegionState) (number token width : ℕ) (list : FreeList) → region_state a ≡ r → IsLaidOut a.words.items a.made a.free.items → token ≡ number
    → IsLive r number → width ≡ get_or a.words.items token width → list ≡ get_or a.free.items width list → Reads a r number token width list
reads a r number token width list is sound same live width_read_is list_read =
    let at = width_read a r number token is sound same live in
    let inside : token < length a.words.items = omega (arith, at.inside) in
    let width_is : width ≡ width_of r number = get_or_read a.words.items token width inside width_read_is 0 ∙ at.width_is in
    let listed : width < length a.free.items = omega (arith, at.listed, width_is) in
    record {
      at = at;
      width_is = width_is;
      listed = listed;
      list_is = get_or_read a.free.items width list listed list_read (record { first = 0; count = 0 });
    }

pub index-requires : goal.index-requires
index-requires c =
    omega (arith, (width_read c.self.inside _ _ _ c.self.view_is c.self.invariant c.b.view_is c.requires).inside, c.self.inside.words.ok)

pub index-list-requires : goal.index-list-requires
index-list-requires c =
    let at = width_read c.self.inside _ _ _ c.self.view_is c.self.invariant c.b.view_is c.requires in
    let inside : c.b.inside.number < length c.self.inside.words.items = omega (arith, at.inside) in
    let width_is = get_or_read c.self.inside.words.items c.b.inside.number c.index.result.now inside c.index.ensures 0 ∙ at.width_is in
    omega (arith, at.listed, width_is, c.self.inside.free.ok)

pub overflow_add-index : goal.overflow_add-index
overflow_add-index c =
    omega (arith, (width_read c.self.inside _ _ _ c.self.view_is c.self.invariant c.b.view_is c.requires).inside, c.self.inside.words.ok, c.self.inside.words.small)

pub index_mut-requires : goal.index_mut-requires
index_mut-requires c =
    let at = width_read c.self.inside _ _ _ c.self.view_is c.self.invariant c.b.view_is c.requires in
    omega (arith, at.inside, at.positive, c.self.inside.words.ok)

pub overflow_add-list : goal.overflow_add-list
overflow_add-list c =
    let read = reads c.self.inside _ _ _ _ _ c.self.view_is c.self.invariant c.b.view_is c.requires c.index.ensures c.index-list.ensures in
    omega (arith, count_fits (made_words c.self.inside) c.self.inside.free.items c.index.result.now c.self.invariant.sound, c.self.invariant.sound.small, ap (λ l. l.count) read.list_is, c.self.inside.words.ok, c.self.inside.words.small)

pub index_mut-requires-2 : goal.index_mut-requires-2
index_mut-requires-2 c =
    omega (arith, (reads c.self.inside _ _ _ _ _ c.self.view_is c.self.invariant c.b.view_is c.requires c.index.ensures c.index-list.ensures).listed, c.self.inside.free.ok)

block_given : (c : goal.After-self-2-1) → GivesBlock
    (set c.self.inside.words.items (c.b.inside.number + 1) c.index-list.result.now.first) c.self.inside.made
    (set c.self.inside.free.items c.index.result.now (record { first = c.b.inside.number; count = c.index-list.result.now.count + 1 }))
    c.args.self.now c.args.b
block_given c =
    let read = reads c.self.inside _ _ _ _ _ c.self.view_is c.self.invariant c.b.view_is c.requires c.index.ensures c.index-list.ensures in
    given c.self.inside c.args.self.now c.args.b c.b.inside.number c.index.result.now c.index-list.result.now c.self.view_is c.self.invariant c.b.view_is c.requires
    read.width_is read.list_is

pub invariant_of-self : goal.invariant_of-self
invariant_of-self c = (block_given c).kept

pub returns-clause-live : goal.returns-clause-live
returns-clause-live c = (block_given c).live

pub returns-clause-spare : goal.returns-clause-spare
returns-clause-spare c =
    let read = reads c.self.inside _ _ _ _ _ c.self.view_is c.self.invariant c.b.view_is c.requires c.index.ensures c.index-list.ensures in
    let list : FreeList = record { first = c.b.inside.number; count = c.index-list.result.now.count + 1 } in
    spare_set c.self.inside.free.items c.index.result.now (width_of c.args.self.now c.args.b) list (sym read.width_is) read.listed
    ∙ ap (λ n. n + 1) (ap (λ l. l.count) read.list_is ∙ sym (spare_at c.self.inside _ c.index.result.now c.self.view_is) ∙ ap (spare c.args.self.now) read.width_is)

pub returns-clause-others : goal.returns-clause-others
returns-clause-others c other apart =
    let read = reads c.self.inside _ _ _ _ _ c.self.view_is c.self.invariant c.b.view_is c.requires c.index.ensures c.index-list.ensures in
    spare_kept c.self.inside.free.items c.index.result.now other (record { first = c.b.inside.number; count = c.index-list.result.now.count + 1 }) (λ e. apart (e ∙ read.width_is))
    ∙ ap (λ s. spare s other) c.self.view_is

pub returns-clause-blocks : goal.returns-clause-blocks
returns-clause-blocks c =
    let list : FreeList = record { first = c.b.inside.number; count = c.index-list.result.now.count + 1 } in
    blocks_given c.args.self.now
    (region_state (record {
      words = with_item c.self.inside.words (c.b.inside.number + 1) c.index-list.result.now.first;
      made = c.self.inside.made;
      free = with_item c.self.inside.free c.index.result.now list;
      work = c.self.inside.work;
    }))
    c.args.b c.requires (returns-clause-live c) (returns-clause-spare c) (returns-clause-others c)
