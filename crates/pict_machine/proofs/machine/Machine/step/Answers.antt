use Rattle.std.proofs.Common.{◌≡◌, sym, ap, ◌∙◌, Ok, refl, subst}
use Rattle.pict_machine.specs.Events.{trap_of}
use Rattle.pict_prim.specs.Acts.{UsesNeed}
use Rattle.pict_prim.specs.declared.act.Need.{Need}
use Rattle.pict_machine.specs.Machine.{core_in, heap_of, view_of}
use Rattle.pict_turns.proofs.Growing.{plain_need}
use Rattle.pict_machine.specs.declared.event.Event.TheVariants as event
use Rattle.pict_machine.proofs.Running.{seen_steps, trapped_packed}
use Rattle.pict_machine.proofs.machine.Machine.step.Goals as goal

pub unpacked-requires : goal.unpacked-requires
unpacked-requires c = (heap_of c.step_shown.new.self, c.in-Ok.ensures.event)

pub returns-in-Ok-clause-ok : goal.returns-in-Ok-clause-ok
returns-in-Ok-clause-ok c C is s =
    let h = heap_of c.step_shown.new.self in
    seen_steps h h c.in-Ok.event c.unpacked.result (view_of c.args.self.now) (view_of c.step_shown.new.self) refl (c.unpacked.ensures.label h c.in-Ok.ensures.event) c.unpacked.ensures.trap
    (λ D at by. c.in-Ok.ensures.ok D at by) C is s

pub returns-in-Ok-clause-event : goal.returns-in-Ok-clause-event
returns-in-Ok-clause-event c = c.unpacked.ensures.event (heap_of c.step_shown.new.self) c.in-Ok.ensures.event

pub returns-in-Ok-clause-trapped : goal.returns-in-Ok-clause-trapped
returns-in-Ok-clause-trapped c at is =
    let same : c.unpacked.result ≡ event.Trapped at = cc is in
    let trap = trapped_packed c.in-Ok.event at (sym (ap trap_of same) ∙ c.unpacked.ensures.trap) in
    c.step_shown.ensures.trapped at (c.in-Ok.is ∙ ap Ok trap)

pub returns-in-Ok-clause-plain_adds : goal.returns-in-Ok-clause-plain_adds
returns-in-Ok-clause-plain_adds c m =
    let old = c.args.self.now in
    subst (λ (n : Need). UsesNeed (heap_of old).room (heap_of c.step_shown.new.self).room n) (plain_need (core_in old) old.store m) c.step_shown.ensures.adds

pub returns-in-Err-clause-plain_adds : goal.returns-in-Err-clause-plain_adds
returns-in-Err-clause-plain_adds c m =
    let old = c.args.self.now in
    subst (λ (n : Need). UsesNeed (heap_of old).room (heap_of c.step_shown.new.self).room n) (plain_need (core_in old) old.store m) c.step_shown.ensures.adds
