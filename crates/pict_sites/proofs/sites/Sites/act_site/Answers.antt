use Rattle.std.proofs.Common.{sym, subst}
use Rattle.pict_heap.specs.HeapState.{HeapState}
use Rattle.pict_desk.specs.Code.{core_in}
use Rattle.pict_network.specs.Events.{act_at}
use Rattle.pict_sites.specs.Happening.{Happens}
use Rattle.pict_sites.specs.Views.{heap_in, StandFor}
use Rattle.pict_sites.specs.Working.{StandWhile}
use Rattle.pict_sites.proofs.Happenings.{happens_by}
use Rattle.pict_sites.proofs.sites.Sites.act_site.Goals as goal

pub act_of_turn-happened-requires-clause-right : goal.act_of_turn-happened-requires-clause-right
act_of_turn-happened-requires-clause-right c = record {
  network = c.requires.right.network;
  stands = c.lend.ensures.stands c.requires.right.network c.requires.right.stands;
  right = c.requires.right.right;
}

pub returns-clause-happens : goal.returns-clause-happens
returns-clause-happens c =
    let core = core_in c.args.code.now in
    let n = c.args.self.now in
    let lent = c.lend.new.self in
    let m = c.act_of_turn-happened.new.self in
    let last = c.settle.new.self in
    happens_by (heap_in last) (StandFor core n) (StandWhile core c.args.s lent) (StandWhile core c.args.s m) (StandFor core last) (λ N. act_at N c.args.s)
    c.lend.ensures.stands c.settle.ensures.stands c.act_of_turn-happened.result
    (subst (λ (h : HeapState). Happens h (StandWhile core c.args.s lent) (StandWhile core c.args.s m) (λ N. act_at N c.args.s) c.act_of_turn-happened.result) (sym c.settle.ensures.heap) c.act_of_turn-happened.ensures.happens)
