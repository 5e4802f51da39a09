use Rattle.std.proofs.Common.{List, ap, subst}
use Rattle.pict_code.specs.Plain.{plain_code}
use Rattle.pict_code.specs.declared.instruction.Node.{Node}
use Rattle.pict_desk.specs.Code as code
use Rattle.pict_desk.proofs.MadeOnce.{constants_keep}
use Rattle.pict_network.specs.Events.{act_at, happening_of, happening_at}
use Rattle.pict_sites.specs.Happening.{Happens}
use Rattle.pict_sites.specs.Network.{core_in, heap_of, StandsForNetwork}
use Rattle.pict_sites.specs.Views.{heap_in, StandFor, AreSites}
use Rattle.pict_sites.proofs.Happenings.{happens_ok}
use Rattle.pict_sites.proofs.network.Network.event.Goals as goal

pub returns-in-Act-clause-kept : goal.returns-in-Act-clause-kept
returns-in-Act-clause-kept c =
    let n = c.args.self.now in
    record {
      code = c.requires.kept.code;
      constants = constants_keep (heap_of n) (heap_in c.act_site.new.self) c.act_site.ensures.keeps (plain_code n.code) n.constants.items c.requires.kept.constants;
      sites = subst (λ (nodes : List Node). AreSites (code.core_in nodes) c.act_site.new.self) c.deref.ensures.value c.act_site.ensures.sites;
    }

pub returns-in-Act-clause-ok : goal.returns-in-Act-clause-ok
returns-in-Act-clause-ok c =
    let n = c.args.self.now in
    let m = c.act_site.new.self in
    happens_ok (heap_in m) (StandsForNetwork n) (StandFor (core_in n) m) (λ N. act_at N c.in-Act.s) (λ N. happening_at N c.args.i) c.act_site.result
    (λ N st. ap (happening_of N) (c.in-Act.ensures.event (core_in n) N c.requires.kept.sites st))
    (subst (λ (nodes : List Node). Happens (heap_in m) (StandFor (code.core_in nodes) n.sites) (StandFor (code.core_in nodes) m) (λ N. act_at N c.in-Act.s) c.act_site.result) c.deref.ensures.value c.act_site.ensures.happens)
