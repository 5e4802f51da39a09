use Rattle.std.proofs.Common.{refl, arith}
use Rattle.pict_desk.specs.Code.{core_in}
use Rattle.pict_network.specs.Events.{act_at}
use Rattle.pict_sites.proofs.Acts.{step_right, refused_working, refused_stand, refused_happens, did_working, did_happens}
use Rattle.pict_sites.proofs.sites.Sites.step_here.Goals as goal

pub step-requires-clause-may : goal.step-requires-clause-may
step-requires-clause-may c = record {
  code_is = c.requires.code;
  acting = c.requires.acting;
  few = let few = c.requires.few in let own = c.requires.working.channels in omega (arith, few, own);
  right = step_right (core_in c.args.code.now) c.args.s c.args.self.now c.requires.acting c.requires.right.network c.requires.right.stands c.requires.fork c.requires.here c.requires.right.right;
}

pub returns-in_err-did-clause-working : goal.returns-in_err-did-clause-working
returns-in_err-did-clause-working c =
    refused_working (core_in c.args.code.now) c.args.s c.args.self.now (record c.args.self.now { store = c.step.new.store }) c.requires.working c.requires.acting c.in_err-did.ensures refl refl
    (record { contents = λ queue. refl; queues = refl }) refl

pub returns-in_err-did-clause-happens : goal.returns-in_err-did-clause-happens
returns-in_err-did-clause-happens c =
    refused_happens c.step.new.store.desk.heap _ _ (λ N. act_at N c.args.s) c.from_residual.result c.from_residual.ensures.0
    (refused_stand (core_in c.args.code.now) c.args.s c.args.self.now (record c.args.self.now { store = c.step.new.store }) c.requires.working c.requires.acting c.in_err-did.ensures refl refl
    (record { contents = λ queue. refl; queues = refl }) refl)

pub returns-clause-working : goal.returns-clause-working
returns-clause-working c =
    did_working (core_in c.args.code.now) c.args.s c.args.self.now c.requires.working c.requires.acting c.step.new.store c.requires.fork c.requires.opening c.requires.here
    c.requires.right.network c.requires.right.stands c.in_ok-did.did c.in_ok-did.ensures

pub returns-clause-happens : goal.returns-clause-happens
returns-clause-happens c N st =
    did_happens (core_in c.args.code.now) c.args.s c.args.self.now c.requires.working c.requires.acting c.step.new.store c.requires.fork c.requires.opening c.requires.here
    N st c.in_ok-did.did c.in_ok-did.ensures
