use Rattle.std.proofs.Common.{◌≡◌, Bool, true, false, List, sym, subst}
use Rattle.pict_code.specs.Plain.{plain_code}
use Rattle.pict_code.specs.declared.instruction.Node.{Node}
use Rattle.pict_heap.specs.HeapState.{HeapState}
use Rattle.pict_desk.specs.Code as code
use Rattle.pict_desk.specs.Constants.{AreConstants}
use Rattle.pict_sites.specs.Alone.{IsAlone, IsRunning, StandsIn}
use Rattle.pict_sites.specs.Views.{StandFor, AreSites}
use Rattle.pict_sites.specs.Working.{StandWhile, AreWorking}
use Rattle.pict_sites.proofs.network.Network.rest.Goals as goal

pub returns-then-not-alone-clause-kept : goal.returns-then-not-alone-clause-kept
returns-then-not-alone-clause-kept c =
    let e : c.args.alone ≡ false = cc in
    subst (λ (b : Bool). IsRunning b c.args.self.now) e c.requires.kept

pub returns-then-not-alone-clause-stands : goal.returns-then-not-alone-clause-stands
returns-then-not-alone-clause-stands c N st =
    let e : c.args.alone ≡ false = cc in
    subst (λ (b : Bool). StandsIn b c.args.self.now N) e st

pub settle-requires-clause-working : goal.settle-requires-clause-working
settle-requires-clause-working c =
    let e : c.args.alone ≡ true = cc in
    let k : IsAlone c.args.self.now = subst (λ (b : Bool). IsRunning b c.args.self.now) e c.requires.kept in
    subst (λ (nodes : List Node). AreWorking (code.core_in nodes) 0 c.args.self.now.sites) (sym c.deref.ensures.value) k.sites

pub returns-clause-kept : goal.returns-clause-kept
returns-clause-kept c =
    let n = c.args.self.now in
    let e : c.args.alone ≡ true = cc in
    let k : IsAlone n = subst (λ (b : Bool). IsRunning b n) e c.requires.kept in
    record {
      code = k.code;
      constants = subst (λ (h : HeapState). AreConstants h (plain_code n.code) n.constants.items) (sym c.settle.ensures.heap) k.constants;
      sites = subst (λ (nodes : List Node). AreSites (code.core_in nodes) c.settle.new.self) c.deref.ensures.value c.settle.ensures.sites;
    }

pub returns-clause-stands : goal.returns-clause-stands
returns-clause-stands c N st =
    let n = c.args.self.now in
    let e : c.args.alone ≡ true = cc in
    subst (λ (nodes : List Node). StandFor (code.core_in nodes) c.settle.new.self N) c.deref.ensures.value
    (c.settle.ensures.stands N
    (subst (λ (nodes : List Node). StandWhile (code.core_in nodes) 0 n.sites N) (sym c.deref.ensures.value) (subst (λ (b : Bool). StandsIn b n N) e st)))
