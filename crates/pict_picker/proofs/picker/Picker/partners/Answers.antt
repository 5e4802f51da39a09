use Rattle.std.proofs.Common.{◌≡◌, length, sym, ap, ◌∙◌, subst}
use Rattle.pict_desk.specs.Code as codes
use Rattle.pict_picker.specs.Picker.{core_in, heap_of, channel_processes}
use Rattle.pict_picker.specs.Partners.{stands_at}
use Rattle.pict_picker.specs.Waiting.{process_of, IsWaiting}
use Rattle.pict_picker.proofs.Acts.{all_at}
use Rattle.pict_picker.proofs.Counts.{partners_by, seen_by, seen_for}
use Rattle.pict_picker.proofs.picker.Picker.partners.Goals as goal

pub channel_of_waiting-requires-clause-waiting : goal.channel_of_waiting-requires-clause-waiting
channel_of_waiting-requires-clause-waiting c =
    let p = c.args.self.now in
    let e = c.deref.ensures.value in (
      heap_of p,
      subst (λ ns. IsWaiting (codes.core_in ns) (heap_of p) c.get.result.now) (sym e)
          (all_at (IsWaiting (core_in p) (heap_of p)) p.lists.ready.items c.args.i c.get.result.now c.requires.kept.lists.ready c.get.ensures),
    )

pub returns-in-Some-clause-view : goal.returns-in-Some-clause-view
returns-in-Some-clause-view c =
    let p = c.args.self.now in
    let h = heap_of p in
    let w = c.get.result.now in
    let e = c.deref.ensures.value in
    let ls = channel_processes (core_in p) h p.lists in
    let waits = subst (λ ns. IsWaiting (codes.core_in ns) h w) (sym e) (all_at (IsWaiting (core_in p) h) p.lists.ready.items c.args.i w c.requires.kept.lists.ready c.get.ensures) in
    let side = subst (λ ns. c.channel_of_waiting.result ≡ stands_at (process_of (codes.core_in ns) h w)) e (c.channel_of_waiting.ensures h waits) in
    let count = c.partners_at.ensures ∙ ap (λ o. length (partners_by ls o)) (sym c.in-Some.is) in
    seen_by (core_in p) h p.lists c.args.i w c.get.ensures c.channel_of_waiting.result c.partners_at.result side count

pub returns-in-Some-clause-partners : goal.returns-in-Some-clause-partners
returns-in-Some-clause-partners c =
    let p = c.args.self.now in
    let h = heap_of p in
    let w = c.get.result.now in
    let e = c.deref.ensures.value in
    let ls = channel_processes (core_in p) h p.lists in
    let waits = subst (λ ns. IsWaiting (codes.core_in ns) h w) (sym e) (all_at (IsWaiting (core_in p) h) p.lists.ready.items c.args.i w c.requires.kept.lists.ready c.get.ensures) in
    let side = subst (λ ns. c.channel_of_waiting.result ≡ stands_at (process_of (codes.core_in ns) h w)) e (c.channel_of_waiting.ensures h waits) in
    let count = c.partners_at.ensures ∙ ap (λ o. length (partners_by ls o)) (sym c.in-Some.is) in
    seen_for (core_in p) h p.lists c.args.i w c.get.ensures c.channel_of_waiting.result c.partners_at.result side count c.requires.kept.apart

pub returns-in-None-clause-view : goal.returns-in-None-clause-view
returns-in-None-clause-view c =
    let p = c.args.self.now in
    let h = heap_of p in
    let w = c.get.result.now in
    let e = c.deref.ensures.value in
    let ls = channel_processes (core_in p) h p.lists in
    let waits = subst (λ ns. IsWaiting (codes.core_in ns) h w) (sym e) (all_at (IsWaiting (core_in p) h) p.lists.ready.items c.args.i w c.requires.kept.lists.ready c.get.ensures) in
    let side = subst (λ ns. c.channel_of_waiting.result ≡ stands_at (process_of (codes.core_in ns) h w)) e (c.channel_of_waiting.ensures h waits) in
    let count = sym (ap (λ o. length (partners_by ls o)) c.in-None.is) in
    seen_by (core_in p) h p.lists c.args.i w c.get.ensures c.channel_of_waiting.result 0 side count

pub returns-in-None-clause-partners : goal.returns-in-None-clause-partners
returns-in-None-clause-partners c =
    let p = c.args.self.now in
    let h = heap_of p in
    let w = c.get.result.now in
    let e = c.deref.ensures.value in
    let ls = channel_processes (core_in p) h p.lists in
    let waits = subst (λ ns. IsWaiting (codes.core_in ns) h w) (sym e) (all_at (IsWaiting (core_in p) h) p.lists.ready.items c.args.i w c.requires.kept.lists.ready c.get.ensures) in
    let side = subst (λ ns. c.channel_of_waiting.result ≡ stands_at (process_of (codes.core_in ns) h w)) e (c.channel_of_waiting.ensures h waits) in
    let count = sym (ap (λ o. length (partners_by ls o)) c.in-None.is) in
    seen_for (core_in p) h p.lists c.args.i w c.get.ensures c.channel_of_waiting.result 0 side count c.requires.kept.apart
