use Rattle.std.proofs.Common.{◌≡◌, IfOk, subst}
use Rattle.pict_core.specs.Plain.{plain_core}
use Rattle.pict_core.proofs.Substituting.{substitute-none}
use Rattle.pict_core.proofs.process.Core.copy.Goals as goal

pub returns : goal.returns
returns c = subst (λ q. IfOk c.substitute.result (λ p. plain_core p ≡ q)) (substitute-none (plain_core c.args.self.now)) c.substitute.ensures
