-- One argument more, and all of them.
use Rattle.std.proofs.Common.{length, sym, ◌∙◌, ap}
use Rattle.pict_lines.proofs.Finding.{arguments_next}
use Rattle.pict_lines.proofs.fields.arguments.Goals as goal

pub loop-i-preserved : goal.loop-i-preserved
loop-i-preserved c =
    arguments_next c.args.bs.now c.deref-x-items.result.now c.loop-i.i c.x-item.result c.index-bs-i.result c.in_ok-argument.field-0 c.loop-i.args.items c.push.new.self.items
    c.loop-i-test.true (c.requires.count ∙ sym (ap length c.deref-x-items.ensures.value)) c.x-item.is c.index-bs-i.is c.in_ok-argument.ensures c.in_ok-push.ensures.items c.loop-i.invariant
