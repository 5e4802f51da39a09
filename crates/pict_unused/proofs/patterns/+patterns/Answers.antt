-- One more of a list is read.
use Rattle.std.proofs.Common.{rules, ◌<◌, length}
use Rattle.pict_unused.proofs.Forms.{before_pats, before_labelled_pats, one_pat, one_labelled_pat}
use Rattle.pict_unused.proofs.patterns.+patterns.Goals as goal

pub patterns-loop-p-init : goal.patterns-loop-p-init
patterns-loop-p-init t c = before_pats c.args.out.now.items

pub patterns-loop-p-preserved : goal.patterns-loop-p-preserved
patterns-loop-p-preserved t c =
    let h : c.loop-p.p-index < length c.args.ps.now = search rules in
    one_pat c.args.out.now.items c.loop-p.out.items c.pattern.new.out.items c.args.ps.now c.loop-p.p-index c.p-item.result h c.p-item.is c.loop-p.invariant c.in_ok-pattern.ensures

pub labelled_patterns-loop-l-init : goal.labelled_patterns-loop-l-init
labelled_patterns-loop-l-init t c = before_labelled_pats c.args.out.now.items

pub labelled_patterns-loop-l-preserved : goal.labelled_patterns-loop-l-preserved
labelled_patterns-loop-l-preserved t c =
    let h : c.loop-l.l-index < length c.args.ls.now = search rules in
    one_labelled_pat c.args.out.now.items c.loop-l.out.items c.pattern.new.out.items c.args.ls.now c.loop-l.l-index c.l-item.result h c.l-item.is c.loop-l.invariant c.in_ok-pattern.ensures
