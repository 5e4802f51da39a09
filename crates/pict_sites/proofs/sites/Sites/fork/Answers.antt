use Rattle.std.proofs.Common.{refl, rules, arith}
use Rattle.pict_desk.specs.Code.{core_in}
use Rattle.pict_sites.proofs.Lists.{taken_back}
use Rattle.pict_sites.proofs.Acts.{refused_working, refused_stand, split_working, split_happens}
use Rattle.pict_sites.proofs.sites.Sites.fork.Goals as goal

pub returns-in-Ok-clause-working : goal.returns-in-Ok-clause-working
returns-in-Ok-clause-working c =
    split_working (core_in c.args.code.now) c.args.s c.args.self.now (record c.args.self.now { store = c.split.new.store; post = c.split.new.queues; to = c.push.new.self }) c.requires.working
    c.requires.acts.acting c.in-Ok.ensures.splits refl refl (search rules)

pub returns-in-Ok-clause-happens : goal.returns-in-Ok-clause-happens
returns-in-Ok-clause-happens c N st =
    split_happens (core_in c.args.code.now) c.args.s c.args.self.now (record c.args.self.now { store = c.split.new.store; post = c.split.new.queues; to = c.push.new.self }) c.requires.working
    c.requires.acts.acting c.in-Ok.ensures.splits refl refl (search rules) c.requires.several N st

pub returns-in-Err-clause-working : goal.returns-in-Err-clause-working
returns-in-Err-clause-working c =
    let some = c.pop-to.ensures.variant.1 (let more = c.in_ok-push.ensures.len in omega (arith, more)) in
    refused_working (core_in c.args.code.now) c.args.s c.args.self.now (record c.args.self.now { store = c.split.new.store; post = c.split.new.queues; to = c.pop-to.new.self }) c.requires.working
    c.requires.acts.acting c.in-Err.ensures.refused refl refl c.in-Err.ensures.same (taken_back _ _ _ _ _ c.in_ok-push.ensures.items c.pop-to.ensures.items some)

pub returns-in-Err-clause-happens : goal.returns-in-Err-clause-happens
returns-in-Err-clause-happens c =
    let some = c.pop-to.ensures.variant.1 (let more = c.in_ok-push.ensures.len in omega (arith, more)) in
    refused_stand (core_in c.args.code.now) c.args.s c.args.self.now (record c.args.self.now { store = c.split.new.store; post = c.split.new.queues; to = c.pop-to.new.self }) c.requires.working
    c.requires.acts.acting c.in-Err.ensures.refused refl refl c.in-Err.ensures.same (taken_back _ _ _ _ _ c.in_ok-push.ensures.items c.pop-to.ensures.items some)
