use Rattle.std.proofs.Common.{Result, IfOk, OnErr, ◌≡◌, length, Ok, Some, List, refl, sym, ap, ◌∙◌, subst, arith}
use Rattle.pict_code.specs.declared.instruction.Node.{Node}
use Rattle.pict_code.proofs.Lines.{on_err}
use Rattle.pict_queue.specs.QueuesState.{CostsAtMost}
use Rattle.pict_desk.specs.Code.{core_in}
use Rattle.pict_meetings.specs.PassedOver.{StepsOrPasses}
use Rattle.pict_turns.specs.Stepping.{GivesTurn, MayAct}
use Rattle.pict_turns.proofs.Given.{may_act}
use Rattle.pict_turns.proofs.Growing.{running_adds}
use Rattle.pict_turns.proofs.Needing.{running_needs}
use Rattle.pict_turns.proofs.Working.{running_works}
use Rattle.pict_acting.specs.Bounds.{half_cost, MakesFew}
use Rattle.pict_acting.specs.Chain.{MakesCall}
use Rattle.pict_acting.specs.Opening.{MakesWait}
use Rattle.std.specs.declared.alloc.AllocError.{AllocError}
use Rattle.pict_turns.specs.declared.event.Shown.{Shown}
use Rattle.pict_machine.specs.Going.{ShowsOrPasses}
use Rattle.pict_machine.specs.Machine.{running_view}
use Rattle.pict_machine.specs.declared.machine.Machine.{Machine}
use Rattle.pict_machine.proofs.Bounding.{spends_one}
use Rattle.pict_machine.proofs.CallRuns.{called_kept, called_steps, waited_kept, waited_steps, one_made, reserved_view, reserved_kept, turned_view, turned_kept, turned_right, steps_from, keeps_from, channels_from, spends_from}
use Rattle.pict_machine.proofs.Unshown.{over_kept, over_made, over_refused, over_queues}
use Rattle.pict_machine.proofs.machine.Machine.make_steps.Goals as goal

pub returns-in_err-channel-clause-kept : goal.returns-in_err-channel-clause-kept
returns-in_err-channel-clause-kept c =
    let old = c.args.self.now in
    let taken = c.ensure_turn.new.store in
    let given = subst (λ (code : List Node). GivesTurn (core_in code) old.store taken) c.deref.ensures.value c.ensure_turn.ensures in
    reserved_kept (record old { store = taken }) c.steps_at_once.new.store (turned_kept old taken given c.requires.kept) c.in_err-channel.ensures.refused

pub returns-in_err-channel-clause-refused : goal.returns-in_err-channel-clause-refused
returns-in_err-channel-clause-refused c =
    let old = c.args.self.now in
    let taken = c.ensure_turn.new.store in
    let given = subst (λ (code : List Node). GivesTurn (core_in code) old.store taken) c.deref.ensures.value c.ensure_turn.ensures in
    on_err c.from_residual.result
    (reserved_view (record old { store = taken }) c.steps_at_once.new.store (turned_kept old taken given c.requires.kept) c.in_err-channel.ensures.refused ∙ turned_view old taken given c.requires.kept)

pub returns-in_err-channel-clause-spends : goal.returns-in_err-channel-clause-spends
returns-in_err-channel-clause-spends c =
    let old = c.args.self.now in
    let taken = c.ensure_turn.new.store in
    let given = subst (λ (code : List Node). GivesTurn (core_in code) old.store taken) c.deref.ensures.value c.ensure_turn.ensures in
    let new = c.steps_at_once.new.store in
    let only = c.in_err-channel.ensures.refused in
    let count = ap length only.queues in
    let spare = only.spare_queues in
    spends_from old taken given c.requires.kept new
    (subst (λ (code : List Node). CostsAtMost (half_cost (core_in code)) taken.queues new.queues) c.deref-2.ensures.value c.steps_at_once.ensures.cost)
    (subst (λ (code : List Node). MakesFew (core_in code) 1 taken.queues new.queues) c.deref-2.ensures.value c.steps_at_once.ensures.blocks)
    (omega (arith, count, spare)) only.room.kept

pub act_or_pass-requires-clause-may : goal.act_or_pass-requires-clause-may
act_or_pass-requires-clause-may c =
    let old = c.args.self.now in
    let taken = c.ensure_turn.new.store in
    let given = subst (λ (code : List Node). GivesTurn (core_in code) old.store taken) c.deref.ensures.value c.ensure_turn.ensures in
    let mid = c.steps_at_once.new.store in
    let same : mid ≡ taken = c.steps_at_once.ensures.none (c.in_ok-channel.was ∙ ap Ok c.in-None.is) in
    let kept : GivesTurn (core_in old.code.nodes.items) old.store mid = subst (GivesTurn (core_in old.code.nodes.items) old.store) (sym same) given in
    subst (λ (code : List Node). MayAct code mid) (sym c.deref-in-None.ensures.value)
    (may_act old.code.nodes.items old.store mid kept c.requires.kept.code c.requires.kept.store.ready c.requires.kept.apart c.requires.few c.requires.right)

pub returns-in_err-event-in-None-clause-kept : goal.returns-in_err-event-in-None-clause-kept
returns-in_err-event-in-None-clause-kept c =
    let old = c.args.self.now in
    let taken = c.ensure_turn.new.store in
    let given = subst (λ (code : List Node). GivesTurn (core_in code) old.store taken) c.deref.ensures.value c.ensure_turn.ensures in
    let mid = c.steps_at_once.new.store in
    let same : mid ≡ taken = c.steps_at_once.ensures.none (c.in_ok-channel.was ∙ ap Ok c.in-None.is) in
    let kept : GivesTurn (core_in old.code.nodes.items) old.store mid = subst (GivesTurn (core_in old.code.nodes.items) old.store) (sym same) given in
    let new = c.act_or_pass.new.store in
    let r = c.act_or_pass.result in
    let by = subst (λ (code : List Node). StepsOrPasses c.args.passes code mid new r) c.deref-in-None.ensures.value c.act_or_pass.ensures.steps in
    over_kept old mid new kept c.requires.kept c.args.passes r c.requires.right by.step

pub returns-in_err-event-in-None-clause-refused : goal.returns-in_err-event-in-None-clause-refused
returns-in_err-event-in-None-clause-refused c =
    let old = c.args.self.now in
    let taken = c.ensure_turn.new.store in
    let given = subst (λ (code : List Node). GivesTurn (core_in code) old.store taken) c.deref.ensures.value c.ensure_turn.ensures in
    let mid = c.steps_at_once.new.store in
    let same : mid ≡ taken = c.steps_at_once.ensures.none (c.in_ok-channel.was ∙ ap Ok c.in-None.is) in
    let kept : GivesTurn (core_in old.code.nodes.items) old.store mid = subst (GivesTurn (core_in old.code.nodes.items) old.store) (sym same) given in
    let new = c.act_or_pass.new.store in
    let r = c.act_or_pass.result in
    let by = subst (λ (code : List Node). StepsOrPasses c.args.passes code mid new r) c.deref-in-None.ensures.value c.act_or_pass.ensures.steps in
    let view = subst (λ (x : Result Shown AllocError). OnErr x (running_view (record old { store = new }) ≡ running_view old)) c.in_err-event-in-None.was (over_refused old mid new kept c.requires.kept c.args.passes r by.step) in
    on_err c.from_residual-in_err-event-in-None.result view

pub returns-in_err-event-in-None-clause-spends : goal.returns-in_err-event-in-None-clause-spends
returns-in_err-event-in-None-clause-spends c =
    let old = c.args.self.now in
    let taken = c.ensure_turn.new.store in
    let given = subst (λ (code : List Node). GivesTurn (core_in code) old.store taken) c.deref.ensures.value c.ensure_turn.ensures in
    let mid = c.steps_at_once.new.store in
    let same : mid ≡ taken = c.steps_at_once.ensures.none (c.in_ok-channel.was ∙ ap Ok c.in-None.is) in
    let kept : GivesTurn (core_in old.code.nodes.items) old.store mid = subst (GivesTurn (core_in old.code.nodes.items) old.store) (sym same) given in
    let new = c.act_or_pass.new.store in
    let r = c.act_or_pass.result in
    let by = subst (λ (code : List Node). StepsOrPasses c.args.passes code mid new r) c.deref-in-None.ensures.value c.act_or_pass.ensures.steps in
    let core = core_in old.code.nodes.items in
    spends_one old (record old { store = new }) c.requires.kept refl (running_works core old.store mid new kept by.work) (running_needs core old.store mid new kept by.blocks)
    (over_queues old mid new kept c.requires.kept c.args.passes r by.step) (running_adds core old.store mid new kept by.adds).kept

pub returns-in_ok-event-in-None-clause-kept : goal.returns-in_ok-event-in-None-clause-kept
returns-in_ok-event-in-None-clause-kept c =
    let old = c.args.self.now in
    let taken = c.ensure_turn.new.store in
    let given = subst (λ (code : List Node). GivesTurn (core_in code) old.store taken) c.deref.ensures.value c.ensure_turn.ensures in
    let mid = c.steps_at_once.new.store in
    let same : mid ≡ taken = c.steps_at_once.ensures.none (c.in_ok-channel.was ∙ ap Ok c.in-None.is) in
    let kept : GivesTurn (core_in old.code.nodes.items) old.store mid = subst (GivesTurn (core_in old.code.nodes.items) old.store) (sym same) given in
    let new = c.act_or_pass.new.store in
    let r = c.act_or_pass.result in
    let by = subst (λ (code : List Node). StepsOrPasses c.args.passes code mid new r) c.deref-in-None.ensures.value c.act_or_pass.ensures.steps in
    over_kept old mid new kept c.requires.kept c.args.passes r c.requires.right by.step

pub returns-in_ok-event-in-None-clause-made : goal.returns-in_ok-event-in-None-clause-made
returns-in_ok-event-in-None-clause-made c =
    let old = c.args.self.now in
    let taken = c.ensure_turn.new.store in
    let given = subst (λ (code : List Node). GivesTurn (core_in code) old.store taken) c.deref.ensures.value c.ensure_turn.ensures in
    let mid = c.steps_at_once.new.store in
    let same : mid ≡ taken = c.steps_at_once.ensures.none (c.in_ok-channel.was ∙ ap Ok c.in-None.is) in
    let kept : GivesTurn (core_in old.code.nodes.items) old.store mid = subst (GivesTurn (core_in old.code.nodes.items) old.store) (sym same) given in
    let new = c.act_or_pass.new.store in
    let r = c.act_or_pass.result in
    let by = subst (λ (code : List Node). StepsOrPasses c.args.passes code mid new r) c.deref-in-None.ensures.value c.act_or_pass.ensures.steps in
    let after : Machine = record old { store = new } in
    let shows = subst (λ (x : Result Shown AllocError). IfOk x (ShowsOrPasses c.args.passes (running_view old) after)) c.in_ok-event-in-None.was (over_made old mid new kept c.requires.kept c.args.passes r by.step) in
    one_made c.args.passes old after c.in_ok-event-in-None.event shows

pub returns-in_ok-event-in-None-clause-spends : goal.returns-in_ok-event-in-None-clause-spends
returns-in_ok-event-in-None-clause-spends c =
    let old = c.args.self.now in
    let taken = c.ensure_turn.new.store in
    let given = subst (λ (code : List Node). GivesTurn (core_in code) old.store taken) c.deref.ensures.value c.ensure_turn.ensures in
    let mid = c.steps_at_once.new.store in
    let same : mid ≡ taken = c.steps_at_once.ensures.none (c.in_ok-channel.was ∙ ap Ok c.in-None.is) in
    let kept : GivesTurn (core_in old.code.nodes.items) old.store mid = subst (GivesTurn (core_in old.code.nodes.items) old.store) (sym same) given in
    let new = c.act_or_pass.new.store in
    let r = c.act_or_pass.result in
    let by = subst (λ (code : List Node). StepsOrPasses c.args.passes code mid new r) c.deref-in-None.ensures.value c.act_or_pass.ensures.steps in
    let core = core_in old.code.nodes.items in
    spends_one old (record old { store = new }) c.requires.kept refl (running_works core old.store mid new kept by.work) (running_needs core old.store mid new kept by.blocks)
    (over_queues old mid new kept c.requires.kept c.args.passes r by.step) (running_adds core old.store mid new kept by.adds).kept

pub returns-in-Some-Wait-clause-kept : goal.returns-in-Some-Wait-clause-kept
returns-in-Some-Wait-clause-kept c =
    let old = c.args.self.now in
    let taken = c.ensure_turn.new.store in
    let given = subst (λ (code : List Node). GivesTurn (core_in code) old.store taken) c.deref.ensures.value c.ensure_turn.ensures in
    let new = c.steps_at_once.new.store in
    let m = subst (λ (code : List Node). MakesWait (core_in code) taken new) c.deref-2.ensures.value (c.steps_at_once.ensures.waits (c.in_ok-channel.was ∙ ap Ok (c.in-Some-Wait.is ∙ ap Some c.in-Some-Wait.field-0-is))).1 in
    waited_kept (record old { store = taken }) new (turned_kept old taken given c.requires.kept) (turned_right old taken given c.requires.kept c.requires.right) m

pub returns-in-Some-Wait-clause-made : goal.returns-in-Some-Wait-clause-made
returns-in-Some-Wait-clause-made c =
    let old = c.args.self.now in
    let taken = c.ensure_turn.new.store in
    let given = subst (λ (code : List Node). GivesTurn (core_in code) old.store taken) c.deref.ensures.value c.ensure_turn.ensures in
    let new = c.steps_at_once.new.store in
    let m = subst (λ (code : List Node). MakesWait (core_in code) taken new) c.deref-2.ensures.value (c.steps_at_once.ensures.waits (c.in_ok-channel.was ∙ ap Ok (c.in-Some-Wait.is ∙ ap Some c.in-Some-Wait.field-0-is))).1 in
    steps_from old taken given c.requires.kept c.args.passes new _ (waited_steps (record old { store = taken }) new (turned_kept old taken given c.requires.kept) (turned_right old taken given c.requires.kept c.requires.right) m c.args.passes)

pub returns-in-Some-Wait-clause-spends : goal.returns-in-Some-Wait-clause-spends
returns-in-Some-Wait-clause-spends c =
    let old = c.args.self.now in
    let taken = c.ensure_turn.new.store in
    let given = subst (λ (code : List Node). GivesTurn (core_in code) old.store taken) c.deref.ensures.value c.ensure_turn.ensures in
    let new = c.steps_at_once.new.store in
    let m = subst (λ (code : List Node). MakesWait (core_in code) taken new) c.deref-2.ensures.value (c.steps_at_once.ensures.waits (c.in_ok-channel.was ∙ ap Ok (c.in-Some-Wait.is ∙ ap Some c.in-Some-Wait.field-0-is))).1 in
    spends_from old taken given c.requires.kept new
    (subst (λ (code : List Node). CostsAtMost (half_cost (core_in code)) taken.queues new.queues) c.deref-2.ensures.value c.steps_at_once.ensures.cost)
    (subst (λ (code : List Node). MakesFew (core_in code) 1 taken.queues new.queues) c.deref-2.ensures.value c.steps_at_once.ensures.blocks)
    m.no_loss m.room

pub returns-in-Some-Call-clause-kept : goal.returns-in-Some-Call-clause-kept
returns-in-Some-Call-clause-kept c =
    let old = c.args.self.now in
    let taken = c.ensure_turn.new.store in
    let given = subst (λ (code : List Node). GivesTurn (core_in code) old.store taken) c.deref.ensures.value c.ensure_turn.ensures in
    let new = c.steps_at_once.new.store in
    let r = c.in-Some-Call.field-0-0 in
    let m = subst (λ (code : List Node). MakesCall (core_in code) taken new r) c.deref-2.ensures.value (c.steps_at_once.ensures.called r (c.in_ok-channel.was ∙ ap Ok (c.in-Some-Call.is ∙ ap Some c.in-Some-Call.field-0-is))).1 in
    called_kept (record old { store = taken }) new r (turned_kept old taken given c.requires.kept) (turned_right old taken given c.requires.kept c.requires.right) m

pub returns-in-Some-Call-clause-made : goal.returns-in-Some-Call-clause-made
returns-in-Some-Call-clause-made c =
    let old = c.args.self.now in
    let taken = c.ensure_turn.new.store in
    let given = subst (λ (code : List Node). GivesTurn (core_in code) old.store taken) c.deref.ensures.value c.ensure_turn.ensures in
    let new = c.steps_at_once.new.store in
    let r = c.in-Some-Call.field-0-0 in
    let m = subst (λ (code : List Node). MakesCall (core_in code) taken new r) c.deref-2.ensures.value (c.steps_at_once.ensures.called r (c.in_ok-channel.was ∙ ap Ok (c.in-Some-Call.is ∙ ap Some c.in-Some-Call.field-0-is))).1 in
    steps_from old taken given c.requires.kept c.args.passes new _ (called_steps (record old { store = taken }) new r (turned_kept old taken given c.requires.kept) (turned_right old taken given c.requires.kept c.requires.right) m c.args.passes)

pub returns-in-Some-Call-clause-within : goal.returns-in-Some-Call-clause-within
returns-in-Some-Call-clause-within c =
    (c.steps_at_once.ensures.called c.in-Some-Call.field-0-0 (c.in_ok-channel.was ∙ ap Ok (c.in-Some-Call.is ∙ ap Some c.in-Some-Call.field-0-is))).0

pub returns-in-Some-Call-clause-keeps : goal.returns-in-Some-Call-clause-keeps
returns-in-Some-Call-clause-keeps c =
    let old = c.args.self.now in
    let taken = c.ensure_turn.new.store in
    let given = subst (λ (code : List Node). GivesTurn (core_in code) old.store taken) c.deref.ensures.value c.ensure_turn.ensures in
    let new = c.steps_at_once.new.store in
    let r = c.in-Some-Call.field-0-0 in
    let m = subst (λ (code : List Node). MakesCall (core_in code) taken new r) c.deref-2.ensures.value (c.steps_at_once.ensures.called r (c.in_ok-channel.was ∙ ap Ok (c.in-Some-Call.is ∙ ap Some c.in-Some-Call.field-0-is))).1 in
    keeps_from old taken given c.requires.kept new.desk.heap m.keeps

pub returns-in-Some-Call-clause-spends : goal.returns-in-Some-Call-clause-spends
returns-in-Some-Call-clause-spends c =
    let old = c.args.self.now in
    let taken = c.ensure_turn.new.store in
    let given = subst (λ (code : List Node). GivesTurn (core_in code) old.store taken) c.deref.ensures.value c.ensure_turn.ensures in
    let new = c.steps_at_once.new.store in
    let r = c.in-Some-Call.field-0-0 in
    let m = subst (λ (code : List Node). MakesCall (core_in code) taken new r) c.deref-2.ensures.value (c.steps_at_once.ensures.called r (c.in_ok-channel.was ∙ ap Ok (c.in-Some-Call.is ∙ ap Some c.in-Some-Call.field-0-is))).1 in
    spends_from old taken given c.requires.kept new
    (subst (λ (code : List Node). CostsAtMost (half_cost (core_in code)) taken.queues new.queues) c.deref-2.ensures.value c.steps_at_once.ensures.cost)
    (subst (λ (code : List Node). MakesFew (core_in code) 1 taken.queues new.queues) c.deref-2.ensures.value c.steps_at_once.ensures.blocks)
    m.no_loss m.room

pub returns-in-Some-Call-clause-channels : goal.returns-in-Some-Call-clause-channels
returns-in-Some-Call-clause-channels c =
    let old = c.args.self.now in
    let taken = c.ensure_turn.new.store in
    let given = subst (λ (code : List Node). GivesTurn (core_in code) old.store taken) c.deref.ensures.value c.ensure_turn.ensures in
    let new = c.steps_at_once.new.store in
    let r = c.in-Some-Call.field-0-0 in
    let m = subst (λ (code : List Node). MakesCall (core_in code) taken new r) c.deref-2.ensures.value (c.steps_at_once.ensures.called r (c.in_ok-channel.was ∙ ap Ok (c.in-Some-Call.is ∙ ap Some c.in-Some-Call.field-0-is))).1 in
    let up = channels_from old taken given c.requires.kept new m.queues in omega (arith, up)
