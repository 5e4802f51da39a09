use Rattle.std.proofs.Common.{ℕ, ◌≡◌, List, Some, sym, ap, ◌∙◌, subst}
use Rattle.pict_desk.specs.Code.{core_in}
use Rattle.pict_turns.specs.Acting.{IsRefused}
use Rattle.pict_turns.proofs.Room.{refused_still, reserves_nothing}
use Rattle.pict_network.specs.Events.{act_at}
use Rattle.pict_sites.specs.Standing.{channel_at, other_home, home_in}
use Rattle.pict_sites.specs.Views.{heap_in}
use Rattle.pict_sites.specs.Working.{acting_process}
use Rattle.pict_sites.specs.declared.sites.Sites.{Sites}
use Rattle.pict_sites.proofs.Acts.{refused_working, refused_stand, refused_happens, sent_working, sent_moves}
use Rattle.pict_sites.proofs.sites.Sites.act_of_turn.Goals as goal

pub returns-in_err-send_turn-in-Some-clause-working : goal.returns-in_err-send_turn-in-Some-clause-working
returns-in_err-send_turn-in-Some-clause-working c =
    let core = core_in c.args.code.now in
    let n = c.args.self.now in
    let x = c.in_err-send_turn-in-Some.ensures in
    let r = subst (IsRefused core n.store) (sym (ap (λ (y : Sites). y.store) x.rest)) (refused_still core n.store n.store (reserves_nothing n.store) c.requires.working.store) in
    refused_working core c.args.s n c.send_turn.new.self c.requires.working c.requires.acting r (ap (λ (y : Sites). y.queues.items) x.rest) (ap (λ (y : Sites). y.homes.items) x.rest) x.refused x.to

pub returns-in_err-send_turn-in-Some-clause-happens : goal.returns-in_err-send_turn-in-Some-clause-happens
returns-in_err-send_turn-in-Some-clause-happens c =
    let core = core_in c.args.code.now in
    let n = c.args.self.now in
    let x = c.in_err-send_turn-in-Some.ensures in
    let r = subst (IsRefused core n.store) (sym (ap (λ (y : Sites). y.store) x.rest)) (refused_still core n.store n.store (reserves_nothing n.store) c.requires.working.store) in
    refused_happens (heap_in c.send_turn.new.self) _ _ (λ N. act_at N c.args.s) c.from_residual.result c.from_residual.ensures.0
    (refused_stand core c.args.s n c.send_turn.new.self c.requires.working c.requires.acting r (ap (λ (y : Sites). y.queues.items) x.rest) (ap (λ (y : Sites). y.homes.items) x.rest) x.refused x.to)

pub returns-in_ok-send_turn-in-Some-clause-working : goal.returns-in_ok-send_turn-in-Some-clause-working
returns-in_ok-send_turn-in-Some-clause-working c =
    let core = core_in c.args.code.now in
    let n = c.args.self.now in
    let goes = subst (λ (hs : List ℕ). other_home c.args.s (home_in hs (channel_at (acting_process core n.store))) ≡ Some c.in-Some.home) c.deref.ensures.value (sym c.home_elsewhere.ensures ∙ c.in-Some.is) in
    sent_working core c.args.s n c.send_turn.new.self c.requires.working c.requires.acting c.in-Some.home goes c.in_ok-send_turn-in-Some.ensures.sends

pub returns-in_ok-send_turn-in-Some-clause-happens : goal.returns-in_ok-send_turn-in-Some-clause-happens
returns-in_ok-send_turn-in-Some-clause-happens c N st =
    let core = core_in c.args.code.now in
    let n = c.args.self.now in
    let goes = subst (λ (hs : List ℕ). other_home c.args.s (home_in hs (channel_at (acting_process core n.store))) ≡ Some c.in-Some.home) c.deref.ensures.value (sym c.home_elsewhere.ensures ∙ c.in-Some.is) in
    sent_moves core c.args.s n c.send_turn.new.self c.requires.working c.requires.acting c.in-Some.home goes c.in_ok-send_turn-in-Some.ensures.sends N st
