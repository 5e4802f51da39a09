use Rattle.std.proofs.Common.{◌+◌, ◌-◌, ◌≤◌, ◌≡◌, [], ◌∷◌, ◌++◌, length, set, get_or, sym, ap, ◌∙◌, subst, Some, arith}
use Rattle.std.specs.Prelude.{vec_capacity}
use Rattle.pict_ranked.specs.Ranking.{standing, IsRanked}
use Rattle.pict_ranked.proofs.Slots.{standing_fewer}
use Rattle.pict_ranked.proofs.Ranks.{counted, pushed_ranked, pushed_items}
use Rattle.pict_ranked.proofs.ranked.Ranked.push.Goals as goal

pub add-requires-clause-fits : goal.add-requires-clause-fits
add-requires-clause-fits g c =
    let e = counted c.self.inside.slots.items _ c.self.inside.counts c.self.invariant in
    let f = standing_fewer c.self.inside.slots.items in
    let v : length c.self.inside.counts - length c.self.inside.slots.items ≡ c.args.self.now.room = ap (λ z. z.room) c.self.view_is in
    let r = c.requires in
    omega (arith, e, f, v, r)

pub invariant_of-self : goal.invariant_of-self
invariant_of-self g c =
    let v : length c.self.inside.counts - length c.self.inside.slots.items ≡ c.args.self.now.room = ap (λ z. z.room) c.self.view_is in
    let r : 1 ≤ length c.self.inside.counts - length c.self.inside.slots.items = let q = c.requires in omega (arith, v, q) in
    let n : c.len.result ≡ length c.self.inside.slots.items = omega (arith, c.len.ensures, c.self.inside.slots.ok) in
    let k = pushed_ranked c.self.inside.slots.items _ c.self.inside.counts c.self.invariant c.args.x c.add.new.self r (c.add.ensures ∙ ap (λ z. set c.self.inside.counts z (get_or c.self.inside.counts z 0 + 1)) n) in
    let l : IsRanked (c.self.inside.slots.items ++ Some c.args.x ∷ []) (vec_capacity c.push_reserved.new.self) c.add.new.self = subst (λ z. IsRanked (c.self.inside.slots.items ++ Some c.args.x ∷ []) z c.add.new.self) (sym c.push_reserved.ensures.capacity) k in
    subst (λ z. IsRanked z (vec_capacity c.push_reserved.new.self) c.add.new.self) (sym c.push_reserved.ensures.items) l

pub returns-clause-items : goal.returns-clause-items
returns-clause-items g c =
    ap standing c.push_reserved.ensures.items ∙ pushed_items c.self.inside.slots.items _ c.self.inside.counts c.self.invariant c.args.x ∙ ap (λ z. z.items ++ c.args.x ∷ []) c.self.view_is
