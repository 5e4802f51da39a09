-- One binder less is left.
use Rattle.std.proofs.Common.{◌≡◌, suc, ◌-◌, ◌∙◌, ap, drop, arith}
use Rattle.pict_normal.specs.Around.{scope_of}
use Rattle.pict_normal.proofs.BinderPlaces.{drop_more}
use Rattle.pict_normal.proofs.binders.Binders.pop_all.Goals as goal

pub loop-left-preserved : goal.loop-left-preserved
loop-left-preserved c =
    let n = c.args.count - c.loop-left.left in
    let e : suc n ≡ c.args.count - (c.loop-left.left - 1) = omega arith in
    let xs = scope_of c.args.self.now in
    record {
      less = omega arith;
      gone = c.pop.ensures ∙ ap (drop 1) c.loop-left.invariant.gone ∙ drop_more n xs ∙ ap (λ m. drop m xs) e;
    }
