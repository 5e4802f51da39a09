use Rattle.std.proofs.Common.{◌≡◌, length, get_or, sym, ap, ◌∙◌, subst, Some, arith}
use Rattle.std.specs.Prelude.{slice_get, option_copied}
use Rattle.pict_ranked.specs.Ranking.{standing}
use Rattle.pict_ranked.proofs.Ranks.{counted, found, item_is}
use Rattle.pict_ranked.proofs.ranked.Ranked.get.Goals as goal

pub find-slot-requires : goal.find-slot-requires
find-slot-requires g c =
    let e = counted c.self.inside.slots.items _ c.self.inside.counts c.self.invariant in
    let v : length (standing c.self.inside.slots.items) ≡ length c.args.self.now.items = ap (λ z. length z.items) c.self.view_is in
    let r = c.requires in
    omega (arith, e, v, r)

pub returns : goal.returns
returns g c =
    let a = found c.self.inside.slots.items _ c.self.inside.counts c.self.invariant c.args.i c.find-slot.result c.find-slot.ensures.within c.find-slot.ensures.before c.find-slot.ensures.here in
    let e : Some c.unwrap.result.now ≡ c.index.result.now = sym (ap option_copied c.unwrap.ensures) ∙ c.as_ref.ensures.value in
    let i : Some c.unwrap.result.now ≡ get_or c.self.inside.slots.items c.find-slot.result (Some c.unwrap.result.now) = subst (λ o. o ≡ get_or c.self.inside.slots.items c.find-slot.result o) (sym e) c.index.ensures in
    sym (ap (λ z. slice_get z.items c.args.i) c.self.view_is) ∙ item_is c.self.inside.slots.items _ c.self.inside.counts c.self.invariant c.args.i c.find-slot.result a c.unwrap.result.now i
