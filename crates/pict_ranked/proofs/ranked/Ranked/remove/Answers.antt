use Rattle.std.proofs.Common.{◌+◌, ◌≡◌, ◌++◌, length, take, drop, get_or, sym, ap, ◌∙◌, subst, Some, arith}
use Rattle.std.specs.Prelude.{slice_get}
use Rattle.pict_ranked.specs.Ranking.{standing}
use Rattle.pict_ranked.proofs.Ranks.{counted, found, item_is, gone_ranked, gone_items}
use Rattle.pict_ranked.proofs.ranked.Ranked.remove.Goals as goal

pub find-slot-requires : goal.find-slot-requires
find-slot-requires g c =
    let e = counted c.self.inside.slots.items _ c.self.inside.counts c.self.invariant in
    let v : length (standing c.self.inside.slots.items) ≡ length c.args.self.now.items = ap (λ z. length z.items) c.self.view_is in
    let r = c.requires in
    omega (arith, e, v, r)

pub invariant_of-self : goal.invariant_of-self
invariant_of-self g c =
    let a = found c.self.inside.slots.items _ c.self.inside.counts c.self.invariant c.args.i c.find-slot.result c.find-slot.ensures.within c.find-slot.ensures.before c.find-slot.ensures.here in
    gone_ranked c.self.inside.slots.items _ c.self.inside.counts c.self.invariant c.args.i c.find-slot.result c.take.new.self c.subtract.new.self c.take.ensures.after a c.subtract.ensures

pub returns-clause-old : goal.returns-clause-old
returns-clause-old g c =
    let a = found c.self.inside.slots.items _ c.self.inside.counts c.self.invariant c.args.i c.find-slot.result c.find-slot.ensures.within c.find-slot.ensures.before c.find-slot.ensures.here in
    let e : Some c.unwrap.result ≡ c.index_mut.result.now = sym c.unwrap.ensures ∙ c.take.ensures.value in
    let i : Some c.unwrap.result ≡ get_or c.self.inside.slots.items c.find-slot.result (Some c.unwrap.result) = subst (λ o. o ≡ get_or c.self.inside.slots.items c.find-slot.result o) (sym e) c.index_mut.ensures.value in
    sym (ap (λ z. slice_get z.items c.args.i) c.self.view_is) ∙ item_is c.self.inside.slots.items _ c.self.inside.counts c.self.invariant c.args.i c.find-slot.result a c.unwrap.result i

pub returns-clause-items : goal.returns-clause-items
returns-clause-items g c =
    let a = found c.self.inside.slots.items _ c.self.inside.counts c.self.invariant c.args.i c.find-slot.result c.find-slot.ensures.within c.find-slot.ensures.before c.find-slot.ensures.here in
    gone_items c.self.inside.slots.items _ c.self.inside.counts c.self.invariant c.args.i c.find-slot.result c.take.new.self c.take.ensures.after a
    ∙ ap (λ z. take c.args.i z.items ++ drop (c.args.i + 1) z.items) c.self.view_is
