use Rattle.std.proofs.Common.{◌≤◌, ◌<◌, length, ap, ◌∙◌, arith}
use Rattle.std.proofs.lemmas.List.{length-map}
use Rattle.pict_queue.specs.Contents.{contents}
use Rattle.pict_network.specs.Network.{Packet}
use Rattle.pict_sites.proofs.Events.{idle_here, busy_here, behind_sites, count_deliveries, nothing_in}
use Rattle.pict_sites.proofs.Lists.{got_same}
use Rattle.pict_sites.proofs.sites.Sites.count.Goals as goal
use Rattle.pict_sites.proofs.sites.Sites.count.Goals.{then-is_busy, else-is_busy}

pub loop-s-preserved : goal.loop-s-preserved
loop-s-preserved c =
    let n = c.args.self.now in
    let low : c.loop-s.s < length n.queues.items = let t = c.loop-s-test.true in let e = c.len-s-end.ensures in let ok = n.queues.ok.0 in omega (arith, t, e, ok) in
    let at = got_same n.queues.items c.loop-s.s c.index.result.now low c.index.ensures in
    let few = c.loop-s.invariant.few in
    elim c.if-is_busy.branch [
      | then-is_busy w ↦ record {
        few = let e = w.busy-is in omega (arith, few, e);
        counted = λ core N st.
            let before = c.loop-s.invariant.counted core N st in
            let more = ap length (busy_here core n N st c.loop-s.s c.index.result.now at (c.is_busy.ensures.0 w.if-is_busy.true)) in
            let e = w.busy-is in
            omega (arith, before, more, e);
      }
      | else-is_busy w ↦ record {
        few = let e = w.busy-is in omega (arith, few, e);
        counted = λ core N st.
            let before = c.loop-s.invariant.counted core N st in
            let more = ap length (idle_here core n N st c.loop-s.s c.index.result.now at (nothing_in c.is_busy.result (contents c.index.result.now 0) c.is_busy.ensures w.if-is_busy.false)) in
            let e = w.busy-is in
            omega (arith, before, more, e);
      }
    ]

pub returns : goal.returns
returns c core N sites st =
    let n = c.args.self.now in
    let past : length N.sites ≤ c.loop-s.s = let f = c.loop-s-test.false in let e = c.len-s-end.ensures in let ok = n.queues.ok.0 in let many = st.count in omega (arith, f, e, ok, many) in
    let behind = ap length (behind_sites N c.loop-s.s past) in
    let left = count_deliveries 0 N.packets in
    let before = c.loop-s.invariant.counted core N st in
    let packets = ap length st.to ∙ length-map N.packets (λ (p : Packet). p.to) in
    let len = c.len.ensures in
    let ok = n.to.ok.0 in
    omega (arith, behind, left, before, packets, len, ok)
