use Rattle.std.proofs.Common.{◌≡◌, ◌||◌, ◌==◌, length, arith, ap, sym, ◌∙◌, subst}
use Rattle.std.specs.Vec.{vec_len}
use Rattle.pict_core.specs.Plain.{plain_core}
use Rattle.pict_code.specs.Levels.{has, Rises}
use Rattle.pict_lower.proofs.Framing.{frame_at_rises, without_operands, with_operands}
use Rattle.pict_syntax.proofs.ListLemmas.{both_ok}
use Rattle.pict_lower.proofs.frames.frame_from.Goals as goal

pub below-requires : goal.below-requires
below-requires c = subst (Rises 0) (sym c.requires.first) (frame_at_rises c.args.place.around (plain_core c.args.place.process.now) 0)

pub below-requires-2 : goal.below-requires-2
below-requires-2 c = subst (Rises 0) (sym c.requires.second) (frame_at_rises c.args.place.around (plain_core c.args.place.process.now) 1)

pub returns-then-is_empty : goal.returns-then-is_empty
returns-then-is_empty c =
    let count : length c.operands.new.levels.items ≡ vec_len c.operands.new.levels = omega (arith, c.operands.new.levels.ok.0) in
    without_operands c.args.place.around (plain_core c.args.place.process.now) c.args.first.now c.args.second.now c.below.result.now c.below-2.result.now c.in_ok-parts.parts.items
    c.new-levels.result.items c.operands.new.levels.items c.requires.first c.requires.second c.below.ensures.below c.below-2.ensures.below c.in_ok-parts.ensures.both c.in_ok-parts.ensures.rises
    c.new-levels.ensures.items c.in_ok-operands.ensures (ap (λ n. n == 0) count ∙ sym c.is_empty.ensures ∙ c.if-is_empty.true)

pub returns : goal.returns
returns c =
    both_ok c.united-2.result
    (λ whole rises both.
    with_operands c.args.place.around (plain_core c.args.place.process.now) c.args.first.now c.args.second.now c.below.result.now c.below-2.result.now c.in_ok-parts.parts.items
    c.new-levels.result.items c.operands.new.levels.items c.in_order-levels.result.items c.deref.result.now c.below-3.result.now whole.items
    c.requires.first c.requires.second c.below.ensures.below c.below-2.ensures.below c.in_ok-parts.ensures.both
    c.new-levels.ensures.items c.in_ok-operands.ensures c.in_order-levels.ensures.same c.deref.ensures.value c.below-3.ensures.below rises
    (λ level. both level ∙ ap (λ l. has level c.below-3.result.now || has level l) c.deref-2.ensures.value))
    c.united-2.ensures.rises c.united-2.ensures.both
