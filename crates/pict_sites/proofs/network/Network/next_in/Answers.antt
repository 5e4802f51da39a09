use Rattle.std.proofs.Common.{◌≡◌, Bool, true, false, sym, subst}
use Rattle.rand_pcg.specs.Lcg.{Lcg}
use Rattle.pict_network.specs.Network as plain
use Rattle.pict_sites.specs.Alone.{IsRunning, StandsIn}
use Rattle.pict_sites.specs.Happening.{IsNext}
use Rattle.pict_sites.specs.Network.{heap_of}
use Rattle.pict_sites.specs.Runs.{AreNext}
use Rattle.pict_sites.proofs.Going.{goes_none, end_as}
use Rattle.pict_sites.proofs.network.Network.next_in.Goals as goal

pub next_alone-requires-clause-kept : goal.next_alone-requires-clause-kept
next_alone-requires-clause-kept c = subst (λ (b : Bool). IsRunning b c.args.self.now) c.if-alone.true c.requires.kept

pub returns-then-alone-clause-ok : goal.returns-then-alone-clause-ok
returns-then-alone-clause-ok c =
    let n = c.args.self.now in
    let m = c.next_alone.new.self in
    let h = c.args.chooser.now in
    end_as (λ next. (N : plain.Network) (g : Lcg) → StandsIn true n N → AreNext (heap_of m) (StandsIn true m) N g g next)
    (λ next. (N : plain.Network) → StandsIn c.args.alone n N → AreNext (heap_of m) (StandsIn c.args.alone m) N h h next)
    (λ next ok N st. subst (λ (b : Bool). AreNext (heap_of m) (StandsIn b m) N h h next) (sym c.if-alone.true) (ok N h (subst (λ (b : Bool). StandsIn b n N) c.if-alone.true st)))
    c.next_alone.result c.next_alone.ensures.ok

pub returns-clause-ok : goal.returns-clause-ok
returns-clause-ok c N st =
    let n = c.args.self.now in
    let m = c.next_event.new.self in
    let several : c.args.alone ≡ false = c.if-alone.false in (
      goes_none N c.args.chooser.now,
      subst (λ (b : Bool). IsNext (heap_of m) (StandsIn b m) N c.args.chooser.now c.next_event.new.chooser c.in_ok-last.last) (sym several)
          (c.in_ok-last.ensures.ok N (subst (λ (b : Bool). StandsIn b n N) several st)),
    )
