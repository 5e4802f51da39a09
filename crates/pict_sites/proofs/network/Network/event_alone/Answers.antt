use Rattle.std.proofs.Common.{◌≡◌, false, List, refl, sym, ◌∙◌, subst}
use Rattle.pict_code.specs.declared.instruction.Node.{Node}
use Rattle.pict_code.proofs.Lines.{on_err}
use Rattle.pict_desk.specs.Code as code
use Rattle.pict_turns.specs.Stepping.{GivesTurn}
use Rattle.pict_network.specs.Events.{act_at}
use Rattle.pict_sites.specs.Happening.{IsHappened}
use Rattle.pict_sites.specs.Network.{core_in}
use Rattle.pict_sites.specs.Views.{heap_in}
use Rattle.pict_sites.specs.Working.{StandWhile, AreWorking}
use Rattle.pict_sites.proofs.Only.{acts_next, is_next, none_next, stays_home, given_working, given_stand, alone_still}
use Rattle.pict_sites.proofs.network.Network.event_alone.Goals as goal

pub returns-then-not-has_next-clause-ok : goal.returns-then-not-has_next-clause-ok
returns-then-not-has_next-clause-ok c N g st =
    let n = c.args.self.now in
    let k = c.requires.kept in
    let f : c.has_next.result ≡ false = cc in
    (none_next (core_in n) n.sites k.one k.none N st c.has_next.result (c.has_next.ensures (core_in n) k.sites.store) f, st, refl)

pub act_here-requires-clause-working : goal.act_here-requires-clause-working
act_here-requires-clause-working c =
    let n = c.args.self.now in
    let new = c.ensure_turn.new.store in
    let given = subst (λ (nodes : List Node). GivesTurn (code.core_in nodes) n.sites.store new) c.deref.ensures.value c.ensure_turn.ensures.given in
    subst (λ (nodes : List Node). AreWorking (code.core_in nodes) 0 (record n.sites { store = new })) (sym c.deref-2.ensures.value)
    (given_working (core_in n) 0 n.sites c.requires.kept.sites new given c.ensure_turn.ensures.levels)

pub act_here-requires-clause-right : goal.act_here-requires-clause-right
act_here-requires-clause-right c =
    let n = c.args.self.now in
    let k = c.requires.kept in
    let new = c.ensure_turn.new.store in
    let given = subst (λ (nodes : List Node). GivesTurn (code.core_in nodes) n.sites.store new) c.deref.ensures.value c.ensure_turn.ensures.given in
    let r = c.requires.right in
    record {
      network = r.0;
      stands = subst (λ (nodes : List Node). StandWhile (code.core_in nodes) 0 (record n.sites { store = new }) r.0) (sym c.deref-2.ensures.value)
          (given_stand (core_in n) 0 n.sites k.sites new given c.ensure_turn.ensures.levels r.0 r.2);
      right = λ e. r.3 (acts_next (core_in n) n.sites k.one k.none r.0 r.2 r.1 ∙ e);
    }

pub act_here-requires-clause-here : goal.act_here-requires-clause-here
act_here-requires-clause-here c =
    let n = c.args.self.now in
    stays_home (core_in n) n.sites c.requires.kept.sites c.requires.kept.one _

pub returns-in_err-happened-clause-kept : goal.returns-in_err-happened-clause-kept
returns-in_err-happened-clause-kept c =
    let k = c.requires.kept in
    let acts = c.act_here.ensures in
    alone_still c.args.self.now k c.ensure_turn.new.store.desk.heap c.ensure_turn.ensures.given.heap c.act_here.new.self acts.keeps c.deref-2.result.now c.deref-2.ensures.value
    acts.working acts.count (acts.to k.one)

pub returns-in_err-happened-clause-refused : goal.returns-in_err-happened-clause-refused
returns-in_err-happened-clause-refused c =
    let n = c.args.self.now in
    let new = c.ensure_turn.new.store in
    let given = subst (λ (nodes : List Node). GivesTurn (code.core_in nodes) n.sites.store new) c.deref.ensures.value c.ensure_turn.ensures.given in
    on_err c.from_residual.result
    (λ N st. subst (λ (nodes : List Node). StandWhile (code.core_in nodes) 0 c.act_here.new.self N) c.deref-2.ensures.value
    (c.in_err-happened.ensures.happens N
    (subst (λ (nodes : List Node). StandWhile (code.core_in nodes) 0 (record n.sites { store = new }) N) (sym c.deref-2.ensures.value)
    (given_stand (core_in n) 0 n.sites c.requires.kept.sites new given c.ensure_turn.ensures.levels N st))))

pub returns-clause-kept : goal.returns-clause-kept
returns-clause-kept c =
    let k = c.requires.kept in
    let acts = c.act_here.ensures in
    alone_still c.args.self.now k c.ensure_turn.new.store.desk.heap c.ensure_turn.ensures.given.heap c.act_here.new.self acts.keeps c.deref-2.result.now c.deref-2.ensures.value
    acts.working acts.count (acts.to k.one)

pub returns-clause-ok : goal.returns-clause-ok
returns-clause-ok c N g st =
    let n = c.args.self.now in
    let k = c.requires.kept in
    let m = c.act_here.new.self in
    let new = c.ensure_turn.new.store in
    let x = c.in_ok-happened.happened in
    let given = subst (λ (nodes : List Node). GivesTurn (code.core_in nodes) n.sites.store new) c.deref.ensures.value c.ensure_turn.ensures.given in
    is_next (core_in n) n.sites k.one k.none N st (heap_in m) (StandWhile (core_in n) 0 m) x g
    (subst (λ (nodes : List Node). IsHappened (heap_in m) (StandWhile (code.core_in nodes) 0 m) N x (act_at N 0)) c.deref-2.ensures.value
    (c.in_ok-happened.ensures.happens N
    (subst (λ (nodes : List Node). StandWhile (code.core_in nodes) 0 (record n.sites { store = new }) N) (sym c.deref-2.ensures.value)
    (given_stand (core_in n) 0 n.sites k.sites new given c.ensure_turn.ensures.levels N st))))
