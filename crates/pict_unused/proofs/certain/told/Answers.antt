-- What is told of the binders so far, and what is to be told of those to come, is all.
use Rattle.std.proofs.Common.{◌++◌, ◌+◌, ◌∙◌, drop, arith}
use Rattle.pict_unused.specs.Telling.{told_from}
use Rattle.pict_unused.proofs.Written.{told_use, told_bind, told_end}
use Rattle.pict_unused.proofs.certain.told.Goals.{in-Bind+in_ok-tell, in_default}
use Rattle.pict_unused.proofs.certain.told.Goals as goal

pub loop-item-preserved : goal.loop-item-preserved
loop-item-preserved c =
    let l = c.loop-item in
    elim c.match-item.branch [
      | in-Bind+in_ok-tell w ↦ record {
        within = omega (arith, w.number-is, l.invariant.within);
        told =
            (λ i. (w.hints-is i).items ++ told_from (w.number-is i) (drop (l.item-index + 1) c.args.items.now) c.args.table.now)
            ∙ told_bind l.hints.items w.tell.new.hints.items c.args.items.now l.item-index l.number _ w.in-Bind.form w.in-Bind.id w.uses_at.result c.args.table.now _ c.loop-item-test.true w.in-Bind.is w.uses_at.ensures w.in_ok-tell.ensures l.invariant.told;
      }
      | in_default w ↦ record {
        within = omega (arith, w.number-is, l.invariant.within);
        told =
            (λ i. (w.hints-is i).items ++ told_from (w.number-is i) (drop (l.item-index + 1) c.args.items.now) c.args.table.now)
            ∙ told_use l.hints.items c.args.items.now l.item-index l.number _ w.in_default.field-0 w.in_default.field-1 c.args.table.now _ c.loop-item-test.true w.in_default.is l.invariant.told;
      }
    ]

pub returns : goal.returns
returns c = told_end c.loop-item.hints.items c.args.items.now c.loop-item.item-index c.loop-item.number c.args.table.now _ c.loop-item-test.false c.loop-item.invariant.told
