use Rattle.std.proofs.Common.{◌≤◌, ◌<◌, ◌+◌, length, sym, ap, ◌∙◌, slice_get, arith}
use Rattle.std.proofs.lemmas.List.{length-map}
use Rattle.pict_queue.specs.Contents.{contents}
use Rattle.pict_network.specs.Network.{Packet}
use Rattle.pict_network.specs.Events.{Act}
use Rattle.pict_sites.proofs.Events.{events_from, idle_here, busy_here, behind_sites, count_deliveries, delivery_there, next_event, nothing_in}
use Rattle.pict_sites.proofs.Lists.{got_same}
use Rattle.pict_sites.proofs.sites.Sites.place.Goals as goal
use Rattle.pict_sites.proofs.sites.Sites.place.Goals.{then-is_busy+else-left-eq0, else-is_busy}

pub returns-then-left-eq0-clause-event : goal.returns-then-left-eq0-clause-event
returns-then-left-eq0-clause-event c core N sites st =
    let n = c.args.self.now in
    let low : c.loop-s.s < length n.queues.items = let t = c.loop-s-test.true in let e = c.len-s-end.ensures in let ok = n.queues.ok.0 in omega (arith, t, e, ok) in
    let at = got_same n.queues.items c.loop-s.s c.index.result.now low c.index.ensures in
    sym (c.loop-s.invariant core N st).0 ∙ ap (slice_get (events_from c.loop-s.s N)) c.if-left-eq0.true
    ∙ ap (λ es. slice_get es 0) (busy_here core n N st c.loop-s.s c.index.result.now at (c.is_busy.ensures.0 c.if-is_busy.true))

pub loop-s-preserved : goal.loop-s-preserved
loop-s-preserved c core N st =
    let n = c.args.self.now in
    let low : c.loop-s.s < length n.queues.items = let t = c.loop-s-test.true in let e = c.len-s-end.ensures in let ok = n.queues.ok.0 in omega (arith, t, e, ok) in
    let at = got_same n.queues.items c.loop-s.s c.index.result.now low c.index.ensures in
    let before = c.loop-s.invariant core N st in
    elim c.if-is_busy.branch [
      | then-is_busy+else-left-eq0 w ↦
          let here = busy_here core n N st c.loop-s.s c.index.result.now at (c.is_busy.ensures.0 w.if-is_busy.true) in
          let more = ap length here in
          let count = before.1 in
          let e = w.left-is in
          let some = w.if-left-eq0.false in (
            ap (slice_get (events_from (c.loop-s.s + 1) N)) w.left-is ∙ sym (next_event (Act c.loop-s.s) (events_from (c.loop-s.s + 1) N) c.loop-s.left w.if-left-eq0.false)
                ∙ ap (λ es. slice_get es c.loop-s.left) (sym here) ∙ before.0,
            omega (arith, more, count, e, some),
          )
      | else-is_busy w ↦
          let here = idle_here core n N st c.loop-s.s c.index.result.now at (nothing_in c.is_busy.result (contents c.index.result.now 0) c.is_busy.ensures w.if-is_busy.false) in
          let more = ap length here in
          let count = before.1 in
          let e = w.left-is in (
            ap (slice_get (events_from (c.loop-s.s + 1) N)) w.left-is ∙ ap (λ es. slice_get es c.loop-s.left) (sym here) ∙ before.0,
            omega (arith, more, count, e),
          )
    ]

pub returns-clause-there : goal.returns-clause-there
returns-clause-there c =
    let n = c.args.self.now in
    let N = c.requires.sites.2.0 in
    let st = c.requires.sites.2.1 in
    let past : length N.sites ≤ c.loop-s.s = let f = c.loop-s-test.false in let e = c.len-s-end.ensures in let ok = n.queues.ok.0 in let many = st.count in omega (arith, f, e, ok, many) in
    let behind = ap length (behind_sites N c.loop-s.s past) in
    let left = count_deliveries 0 N.packets in
    let before = (c.loop-s.invariant c.requires.sites.0 N st).1 in
    let packets = ap length st.to ∙ length-map N.packets (λ (p : Packet). p.to) in
    let low = c.requires.sites.2.2 in
    omega (arith, behind, left, before, packets, low)

pub returns-clause-event : goal.returns-clause-event
returns-clause-event c core N sites st =
    let n = c.args.self.now in
    let past : length N.sites ≤ c.loop-s.s = let f = c.loop-s-test.false in let e = c.len-s-end.ensures in let ok = n.queues.ok.0 in let many = st.count in omega (arith, f, e, ok, many) in
    let there = returns-clause-there c in
    let packets = ap length st.to ∙ length-map N.packets (λ (p : Packet). p.to) in
    sym (c.loop-s.invariant core N st).0 ∙ ap (λ es. slice_get es c.loop-s.left) (behind_sites N c.loop-s.s past)
    ∙ delivery_there c.loop-s.left N.packets (omega (arith, there, packets))
