use Rattle.std.proofs.Common.{◌≡◌, ◌-◌, ◌∙◌, refl, sym, arith}
use Rattle.std.proofs.lemmas.Bool.{false≢true}
use Rattle.pict_view.specs.Watching.{Saw}
use Rattle.pict_sites.specs.declared.running.Gone.TheVariants as gone
use Rattle.pict_sites.specs.Alone.{StandsIn}
use Rattle.pict_sites.proofs.Going.{comes_none, done_on, trapped_on, moves_on, steps_on, broke_behind, ran_out, ran_spent}
use Rattle.pict_sites.proofs.network.Network.watch.Goals as goal

pub loop-count-init : goal.loop-count-init
loop-count-init g c =
    record {
      within = omega arith;
      kept = c.requires.kept;
      channels = omega arith;
      few = omega arith;
      so_far = λ N st. comes_none (StandsIn c.args.alone c.args.self.now) N c.args.chooser.now (g.W.Watcher.next c.args.watcher.now) (g.W.Watcher.view c.args.watcher.now) st;
      next_stays = λ v n k. refl;
      torn_stays = λ v n k after. (λ t. t, λ t. t);
      faults_stay = omega arith;
      same = g.met.W.Watcher.same_itself _;
    }

pub returns-in-Done-clause-end : goal.returns-in-Done-clause-end
returns-in-Done-clause-end g c N st =
    let s = c.loop-count.invariant.so_far N st in
    let within = c.in-Ok.ensures.within in
    done_on (StandsIn c.args.alone c.loop-count.self) (StandsIn c.args.alone c.advance.new.self) N c.args.chooser.now c.loop-count.chooser c.advance.new.chooser c.loop-count.count c.loop-count.steps (g.W.Watcher.next c.args.watcher.now)
    (g.W.Watcher.next c.loop-count.watcher) c.loop-count.invariant.next_stays (g.W.Watcher.view c.args.watcher.now) (g.W.Watcher.view c.loop-count.watcher) (g.W.Watcher.view c.advance.new.watcher) s c.in-Ok.went (c.in-Ok.ensures.gone s.last s.stands)
    c.args.fuel (omega (arith, within)) c.in-Done.is

pub returns-in-Trapped-clause-end : goal.returns-in-Trapped-clause-end
returns-in-Trapped-clause-end g c N st =
    let s = c.loop-count.invariant.so_far N st in
    let within = c.in-Ok.ensures.within in
    trapped_on (StandsIn c.args.alone c.loop-count.self) (StandsIn c.args.alone c.advance.new.self) N c.args.chooser.now c.loop-count.chooser c.advance.new.chooser c.loop-count.count c.loop-count.steps (g.W.Watcher.next c.args.watcher.now)
    (g.W.Watcher.next c.loop-count.watcher) c.loop-count.invariant.next_stays (g.W.Watcher.view c.args.watcher.now) (g.W.Watcher.view c.loop-count.watcher) (g.W.Watcher.view c.advance.new.watcher) s c.in-Ok.went (c.in-Ok.ensures.gone s.last s.stands)
    c.args.fuel c.in-Trapped.at (omega (arith, within)) c.in-Trapped.is

pub returns-in-Err-clause-broken : goal.returns-in-Err-clause-broken
returns-in-Err-clause-broken g c N st =
    let s = c.loop-count.invariant.so_far N st in
    let within = c.loop-count.invariant.within in
    broke_behind (StandsIn c.args.alone c.loop-count.self) (StandsIn c.args.alone c.advance.new.self) N c.args.chooser.now c.loop-count.chooser c.advance.new.chooser c.loop-count.count c.loop-count.steps (g.W.Watcher.next c.args.watcher.now)
    (g.W.Watcher.next c.loop-count.watcher) c.loop-count.invariant.next_stays (g.W.Watcher.view c.args.watcher.now) (g.W.Watcher.view c.loop-count.watcher) (g.W.Watcher.view c.advance.new.watcher) s
    c.args.fuel (c.args.fuel - c.loop-count.count) (g.W.Watcher.torn c.args.watcher.now) (g.W.Watcher.torn c.loop-count.watcher) c.loop-count.invariant.torn_stays (omega (arith, within))
    (c.in-Err.ensures.broken s.last s.stands)

pub loop-count-preserved : goal.loop-count-preserved
loop-count-preserved g c =
    record {
      within = omega (arith, c.in-Ok.ensures.within);
      kept = c.advance.ensures.kept;
      channels = omega (arith, c.loop-count.invariant.channels, c.advance.ensures.channels);
      few = omega (arith, c.loop-count.invariant.few);
      so_far = λ N st.
          let s = c.loop-count.invariant.so_far N st in
          steps_on (StandsIn c.args.alone c.loop-count.self) (StandsIn c.args.alone c.advance.new.self) N c.args.chooser.now c.loop-count.chooser c.advance.new.chooser c.loop-count.count c.loop-count.steps (g.W.Watcher.next c.args.watcher.now)
          (g.W.Watcher.next c.loop-count.watcher) c.loop-count.invariant.next_stays (g.W.Watcher.view c.args.watcher.now) (g.W.Watcher.view c.loop-count.watcher) (g.W.Watcher.view c.advance.new.watcher) s c.in-Ok.went (c.in-Ok.ensures.gone s.last s.stands) c.in-Stepped.is;
      next_stays = λ v n k. c.advance.ensures.next_stays v n k ∙ c.loop-count.invariant.next_stays v n k;
      torn_stays = λ v n k after. (λ t. (c.loop-count.invariant.torn_stays v n k after).0 ((c.advance.ensures.torn_stays v n k after).0 t), λ t. (c.advance.ensures.torn_stays v n k after).1 ((c.loop-count.invariant.torn_stays v n k after).1 t));
      faults_stay = omega (arith, c.loop-count.invariant.faults_stay, c.advance.ensures.faults_stay);
      same = g.met.W.Watcher.same_along _ _ _ c.loop-count.invariant.same c.advance.ensures.same;
    }

pub loop-count-preserved-in-Moved : goal.loop-count-preserved-in-Moved
loop-count-preserved-in-Moved g c =
    record {
      within = omega (arith, c.in-Ok.ensures.within);
      kept = c.advance.ensures.kept;
      channels = omega (arith, c.loop-count.invariant.channels, c.advance.ensures.channels);
      few = omega (arith, c.loop-count.invariant.few);
      so_far = λ N st.
          let s = c.loop-count.invariant.so_far N st in
          moves_on (StandsIn c.args.alone c.loop-count.self) (StandsIn c.args.alone c.advance.new.self) N c.args.chooser.now c.loop-count.chooser c.advance.new.chooser c.loop-count.count c.loop-count.steps (g.W.Watcher.next c.args.watcher.now)
          (g.W.Watcher.next c.loop-count.watcher) c.loop-count.invariant.next_stays (g.W.Watcher.view c.args.watcher.now) (g.W.Watcher.view c.loop-count.watcher) (g.W.Watcher.view c.advance.new.watcher) s c.in-Ok.went (c.in-Ok.ensures.gone s.last s.stands) c.in-Moved.is;
      next_stays = λ v n k. c.advance.ensures.next_stays v n k ∙ c.loop-count.invariant.next_stays v n k;
      torn_stays = λ v n k after. (λ t. (c.loop-count.invariant.torn_stays v n k after).0 ((c.advance.ensures.torn_stays v n k after).0 t), λ t. (c.advance.ensures.torn_stays v n k after).1 ((c.loop-count.invariant.torn_stays v n k after).1 t));
      faults_stay = omega (arith, c.loop-count.invariant.faults_stay, c.advance.ensures.faults_stay);
      same = g.met.W.Watcher.same_along _ _ _ c.loop-count.invariant.same c.advance.ensures.same;
    }

pub returns-then-is_over-clause-end : goal.returns-then-is_over-clause-end
returns-then-is_over-clause-end g c N st =
    let s = c.loop-count.invariant.so_far N st in
    let all : c.loop-count.count ≡ c.args.fuel = omega (arith, c.loop-count-test.false, c.loop-count.invariant.within) in
    ran_out (StandsIn c.args.alone c.loop-count.self) N c.args.chooser.now c.loop-count.chooser c.loop-count.count c.loop-count.steps c.args.fuel
    (Saw (g.W.Watcher.next c.args.watcher.now) (g.W.Watcher.view c.args.watcher.now) (g.W.Watcher.view c.loop-count.watcher)) s all ((c.is_over.ensures s.last s.stands).0 c.if-is_over.true)

pub returns-clause-end : goal.returns-clause-end
returns-clause-end g c N st =
    let s = c.loop-count.invariant.so_far N st in
    let all : c.loop-count.count ≡ c.args.fuel = omega (arith, c.loop-count-test.false, c.loop-count.invariant.within) in
    ran_spent (StandsIn c.args.alone c.loop-count.self) N c.args.chooser.now c.loop-count.chooser c.loop-count.count c.loop-count.steps c.args.fuel
    (Saw (g.W.Watcher.next c.args.watcher.now) (g.W.Watcher.view c.args.watcher.now) (g.W.Watcher.view c.loop-count.watcher)) s all (λ e. false≢true (sym c.if-is_over.false ∙ (c.is_over.ensures s.last s.stands).1 e))
