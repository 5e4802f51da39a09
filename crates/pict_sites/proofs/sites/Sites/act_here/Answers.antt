use Rattle.pict_desk.specs.Code.{core_in}
use Rattle.pict_sites.proofs.Shapes.{fork_opens_none}
use Rattle.pict_sites.proofs.sites.Sites.act_here.Goals as goal

pub step_here-requires-clause-opening : goal.step_here-requires-clause-opening
step_here-requires-clause-opening c = fork_opens_none (core_in c.args.code.now) c.args.self.now.store c.in-Fork.left c.in-Fork.right c.in-Fork.ensures
