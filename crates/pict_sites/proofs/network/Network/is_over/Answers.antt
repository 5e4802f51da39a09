use Rattle.std.proofs.Common.{Bool, subst}
use Rattle.pict_sites.specs.Alone.{IsAlone, IsRunning, StandsIn}
use Rattle.pict_sites.specs.Network.{core_in}
use Rattle.pict_sites.proofs.Only.{over}
use Rattle.pict_sites.proofs.network.Network.is_over.Goals as goal

pub returns-then-alone : goal.returns-then-alone
returns-then-alone c N st =
    let n = c.args.self.now in
    let k : IsAlone n = subst (λ (b : Bool). IsRunning b n) c.if-alone.true c.requires.kept in
    over (core_in n) n.sites k.one k.none N (subst (λ (b : Bool). StandsIn b n N) c.if-alone.true st) c.has_next.result (c.has_next.ensures (core_in n) k.sites.store)
