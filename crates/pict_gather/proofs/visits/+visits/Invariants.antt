use Rattle.std.proofs.Common.{◌≡◌, ◌≤◌, ◌+◌, ◌-◌, ◌*◌, length}
use Rattle.pict_gather.specs.Kept.{gathered_in, IsKept}
use Rattle.pict_gather.proofs.Following.{Following}
use Rattle.pict_gather.proofs.visits.+visits.Given as goal

-- a visit adds a text, and there are at most 65
abbrev pub decreases-follow : goal.decreases-follow
decreases-follow g l = 3 * (65 - length l.sources.now.list.items) + 2

abbrev pub decreases-lead : goal.decreases-lead
decreases-lead g l = 3 * (65 - length l.sources.now.list.items) + 1

abbrev pub decreases-visit : goal.decreases-visit
decreases-visit g l = 3 * (65 - length l.sources.now.list.items)

abbrev pub invariant-follow-loop-import : goal.invariant-follow-loop-import
invariant-follow-loop-import g l = record {
  following : Following (g.S.Shelf.held l.fn.shelf) (gathered_in l.fn.sources l.fn.gathering) (gathered_in l.sources l.gathering) l.imports l.import-index;
  kept : IsKept l.sources l.gathering;
  grown : length l.fn.sources.list.items ≤ length l.sources.list.items;
  held : g.S.Shelf.held l.shelf ≡ g.S.Shelf.held l.fn.shelf;
  faults : g.S.Shelf.faults l.fn.shelf ≤ g.S.Shelf.faults l.shelf;
  misses : g.S.Shelf.misses l.fn.shelf ≤ g.S.Shelf.misses l.shelf;
}
