use Rattle.std.proofs.Common.{refl, sym, ap, ◌∙◌, arith}
use Rattle.pict_desk.specs.AtHand.{channel_named}
use Rattle.pict_picker.proofs.Counts.{value_here, value_next, value_past}
use Rattle.pict_picker.proofs.partners.channel_of_level.Goals as goal

pub loop-k-init : goal.loop-k-init
loop-k-init c h = refl

pub loop-k-preserved : goal.loop-k-preserved
loop-k-preserved c h =
    value_next h c.args.level c.args.levels.now c.args.frame.now c.loop-k.k c.loop-k-test.true c.requires.many (λ e. c.if-levels-k.false e) ∙ c.loop-k.invariant h

pub channel_of-requires : goal.channel_of-requires
channel_of-requires c = let p = c.requires.pairs in (p.0, p.1 c.loop-k.k (0, 0) (omega (arith, c.loop-k-test.true, c.requires.many)))

pub returns-then-levels-k : goal.returns-then-levels-k
returns-then-levels-k c h pairs =
    c.channel_of.ensures h (pairs c.loop-k.k (0, 0) (omega (arith, c.loop-k-test.true, c.requires.many)))
    ∙ ap channel_named (sym (value_here h c.args.level c.args.levels.now c.args.frame.now c.loop-k.k c.loop-k-test.true c.requires.many c.if-levels-k.true) ∙ c.loop-k.invariant h)

pub returns : goal.returns
returns c h pairs = sym (value_past h c.args.level c.args.levels.now c.args.frame.now c.loop-k.k c.loop-k-test.false) ∙ ap channel_named (c.loop-k.invariant h)
