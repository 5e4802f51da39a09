-- The number before has its place.
use Rattle.std.proofs.Common.{rules, ◌≡◌, ◌+◌, ◌-◌, ◌<◌, length, refl, subst, arith}
use Rattle.pict_scope.specs.Places.{HasPlacesFrom}
use Rattle.pict_scope.proofs.Placing.{one_place}
use Rattle.pict_scope.proofs.places.table_of.Goals as goal

pub loop-place-preserved : goal.loop-place-preserved
loop-place-preserved c =
    let l = c.loop-place in
    let order = c.args.order.now in
    let some : 0 < l.place = search rules in
    let inside : l.place - 1 < length order = omega (arith, l.invariant.within, some) in
    let same : l.place ≡ l.place - 1 + 1 = omega (arith, some) in
    let after : HasPlacesFrom (l.place - 1 + 1) order l.table.items = subst (λ i. HasPlacesFrom i order l.table.items) same l.invariant.places in
    record {
      within = omega (arith, inside);
      places = one_place order l.table.items c.set_place.new.table.items c.args.none (l.place - 1) _ _ inside refl c.requires after c.in_ok-set_place.ensures;
    }
