use Rattle.std.proofs.Common.{IsTrue, List, length, sym, ap, ◌∙◌, subst}
use Rattle.pict_code.specs.Plain.{plain_code}
use Rattle.pict_code.specs.declared.instruction.Node.{Node}
use Rattle.pict_heap.specs.HeapState.{HeapState}
use Rattle.pict_desk.specs.Code as code
use Rattle.pict_desk.specs.Constants.{AreConstants}
use Rattle.pict_sites.specs.Views.{StandFor}
use Rattle.pict_sites.specs.Working.{StandWhile, AreWorking}
use Rattle.pict_sites.proofs.network.Network.begin.Goals as goal

pub returns-clause-kept : goal.returns-clause-kept
returns-clause-kept c =
    let n = c.args.self.now in
    let k = c.requires.kept in
    let is : IsTrue c.is_alone.result = cc in
    record {
      code = k.code;
      constants = subst (λ (h : HeapState). AreConstants h (plain_code n.code) n.constants.items) (sym c.lend.ensures.heap) k.constants;
      sites = subst (λ (nodes : List Node). AreWorking (code.core_in nodes) 0 c.lend.new.self) c.deref.ensures.value c.lend.ensures.working;
      one = c.lend.ensures.count ∙ c.is_alone.ensures.one is;
      none = ap (λ ts. length ts.items) c.lend.ensures.to ∙ c.is_alone.ensures.none is;
    }

pub returns-clause-stands : goal.returns-clause-stands
returns-clause-stands c N st =
    let n = c.args.self.now in
    subst (λ (nodes : List Node). StandWhile (code.core_in nodes) 0 c.lend.new.self N) c.deref.ensures.value
    (c.lend.ensures.stands N (subst (λ (nodes : List Node). StandFor (code.core_in nodes) n.sites N) (sym c.deref.ensures.value) st))
