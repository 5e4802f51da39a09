-- One value more.
use Rattle.std.proofs.Common.{◌++◌, ◌∷◌, [], List, sym, subst, arith}
use Rattle.pict_infer.specs.declared.known.Known.{Known}
use Rattle.pict_infer.specs.Beside.{AreJoined}
use Rattle.pict_infer.proofs.Depths.{deepest_one}
use Rattle.pict_infer.proofs.Beside.{first_alone, one_beside}
use Rattle.pict_infer.proofs.added.join_values.Goals as goal

pub loop-v-init : goal.loop-v-init
loop-v-init c = record { each = λ more h. first_alone c.args.base c.args.by more c.args.outer.items c.requires.outer }

pub loop-v-preserved : goal.loop-v-preserved
loop-v-preserved c =
    let y = c.loop-v.yielded in
    let v = c.in-Some.v in
    let all = c.loop-v.all.items in
    let w = c.in_ok-moved_value.field-0 in
    let one : AreJoined c.args.base c.args.by c.args.outer.items (y ++ v ∷ []) (all ++ w ∷ []) = record {
      each = λ more h.
          one_beside c.args.base c.args.by more c.args.outer.items y all v w (c.in_ok-moved_value.ensures more (omega (arith, deepest_one y v, h))) (c.loop-v.invariant.each more (omega (arith, deepest_one y v, h)));
    } in
    subst (λ (z : List Known). AreJoined c.args.base c.args.by c.args.outer.items (y ++ v ∷ []) z) (sym {A = List Known} c.in_ok-push.ensures.items) one
