use Rattle.std.proofs.Common.{◌∷◌, [], ◌++◌, map, get_or, refl, sym, ap, ◌∙◌, arith}
use Rattle.pict_desk.specs.Known.{pair_at}
use Rattle.pict_desk.proofs.Making.{take_level, take_whole}
use Rattle.pict_picker.proofs.frames.write_values.Goals as goal

pub loop-level-preserved : goal.loop-level-preserved
loop-level-preserved c =
    let i = c.loop-level.level-index in
    let levels = c.args.levels.now in
    let level = get_or levels i 0 in
    record {
      items = c.push_reserved.ensures.items ∙ ap (λ ps. ps ++ pair_at c.args.values.now level ∷ []) c.loop-level.invariant.items
          ∙ sym (take_level (pair_at c.args.values.now) levels i level c.loop-level-test.true refl);
      room = omega (arith, c.loop-level.invariant.room, c.push_reserved.ensures.capacity);
    }

pub returns : goal.returns
returns c = c.loop-level.invariant.items ∙ ap (map (pair_at c.args.values.now)) (take_whole c.args.levels.now c.loop-level.level-index c.loop-level-test.false)
