use Rattle.std.proofs.Common.{◌≡◌, Err, ap, refl, sym, ◌∙◌, subst, inl, inr}
use Rattle.pict_outside.proofs.Gaining.{keeps_same, appends_nothing}
use Rattle.pict_words.specs.Plain.{plain_command}
use Rattle.pict_front.specs.Answers.{plain_front}
use Rattle.pict_front.proofs.ObjectCores.{accepted_has_object}
use Rattle.pict_gather.specs.Fetching.{MayGive}
use Rattle.pict_gather.specs.Entry.{lent}
use Rattle.pict_gather.specs.Phases.{accepts, refuses}
use Rattle.pict_gather.specs.Gathered.{refused}
use Rattle.pict_top.specs.Origins.{MayGiveText}
use Rattle.pict_top.specs.Answer.{Absent, Refusal}
use Rattle.pict_top.specs.Outcome.{outcome_of, read_fault}
use Rattle.pict_top.specs.Owed.{OwesReplay}
use Rattle.pict_top.proofs.Each.{accepted_each, each_or_missed}
use Rattle.pict_top.proofs.Short.{front_short}
use Rattle.pict_top.proofs.Few.{front_few}
use Rattle.pict_top.proofs.Meeting.{reported, faulted, weaken, weaken_else, rose_earlier}
use Rattle.pict_top.proofs.Files.{name, owes_absent, owes_refusal, owes_made, owes_replay}
use Rattle.pict_top.proofs.top.do_file.Goals as goal

-- ---- there is no such file

pub returns-in-Err-Missing-clause-meets : goal.returns-in-Err-Missing-clause-meets
returns-in-Err-Missing-clause-meets g c =
    let command = plain_command c.args.command in
    let stands = rw (c.in-Err-Missing.field-0-is, c.prelude_of.ensures.is, c.name_of.ensures) at c.in-Err-Missing.ensures.answer in
    let text = rw (c.as_bytes-name.ensures.value, c.name_of-in-Err-Missing.ensures) at c.report_line.ensures.text in
    reported _ _ _ _ _ _ (outcome_of (Absent (name command))) (owes_absent (MayGive _) command stands) tt (appends_nothing _ _ (keeps_same _)) text

pub returns-in-Err-Missing-clause-each : goal.returns-in-Err-Missing-clause-each
returns-in-Err-Missing-clause-each g c = inr (c.in-Err-Missing.ensures.missed (ap Err c.in-Err-Missing.field-0-is))

-- ---- the shelf failed

pub returns-in-Err-Failed-clause-meets : goal.returns-in-Err-Failed-clause-meets
returns-in-Err-Failed-clause-meets g c =
    let command = plain_command c.args.command in
    let stands = rw (c.in-Err-Failed.field-0-is, c.prelude_of.ensures.is, c.name_of.ensures) at c.in-Err-Failed.ensures.answer in
    let text = rw (c.last_name-name.ensures) at c.report_line-in-Err-Failed.ensures.text in
    faulted _ _ _ _ _ _ (read_fault c.front.new.sources.list.items) (c.in-Err-Failed.ensures.failed (ap Err c.in-Err-Failed.field-0-is))
    (inl (record { sources = c.front.new.sources.list.items; front = stands; comes = refl })) (keeps_same _) text

pub returns-in-Err-Failed-clause-each : goal.returns-in-Err-Failed-clause-each
returns-in-Err-Failed-clause-each g c =
    let command = plain_command c.args.command in
    let stands = rw (c.in-Err-Failed.field-0-is, c.prelude_of.ensures.is, c.name_of.ensures) at c.in-Err-Failed.ensures.answer in
    let text = rw (c.last_name-name.ensures) at c.report_line-in-Err-Failed.ensures.text in
    inl (faulted _ _ _ _ _ _ (read_fault c.front.new.sources.list.items) (c.in-Err-Failed.ensures.failed (ap Err c.in-Err-Failed.field-0-is))
    (inl (record { sources = c.front.new.sources.list.items; front = stands; comes = refl })) (keeps_same _) text)

-- ---- a text is refused

pub refuse-requires : goal.refuse-requires
refuse-requires g c =
    let stands = rw (c.in-Err-Named.field-0-is) at c.in-Err-Named.ensures.answer in
    record { short = front_short (MayGive _) c.prelude_of.result _ (refuses (refused _ c.in-Err-Named.code c.in-Err-Named.span)) c.prelude_of.ensures.short stands }

pub returns-in-Err-Named-clause-meets : goal.returns-in-Err-Named-clause-meets
returns-in-Err-Named-clause-meets g c =
    let command = plain_command c.args.command in
    let stands = rw (c.in-Err-Named.field-0-is, c.prelude_of.ensures.is, c.name_of.ensures) at c.in-Err-Named.ensures.answer in
    reported _ _ _ _ _ _ (outcome_of (Refusal _ c.in-Err-Named.code c.in-Err-Named.span)) (owes_refusal (MayGive _) command _ c.in-Err-Named.code c.in-Err-Named.span stands) tt
    (appends_nothing _ _ (keeps_same _)) c.refuse.ensures.text

pub returns-in-Err-Named-clause-each : goal.returns-in-Err-Named-clause-each
returns-in-Err-Named-clause-each g c =
    let command = plain_command c.args.command in
    let stands = rw (c.in-Err-Named.field-0-is, c.prelude_of.ensures.is, c.name_of.ensures) at c.in-Err-Named.ensures.answer in
    let missed = rw (c.in-Err-Named.field-0-is) at c.in-Err-Named.ensures.absent in
    elim (each_or_missed _ _ _ _ _ _ c.in-Err-Named.code c.in-Err-Named.span missed stands) [
      | inl each ↦
          inl (reported _ _ _ _ _ _ (outcome_of (Refusal _ c.in-Err-Named.code c.in-Err-Named.span)) (owes_refusal (MayGiveText _) command _ c.in-Err-Named.code c.in-Err-Named.span each) tt
          (appends_nothing _ _ (keeps_same _)) c.refuse.ensures.text)
      | inr rose ↦ inr rose
    ]

-- ---- the program is accepted

pub work_with-requires-clause-object : goal.work_with-requires-clause-object
work_with-requires-clause-object g c =
    accepted_has_object _ (lent c.prelude_of.result) _ (record { sources = _; front = plain_front c.in-Ok.front }) c.in-Ok.ensures.answer

pub work_with-requires-clause-short : goal.work_with-requires-clause-short
work_with-requires-clause-short g c =
    front_short (MayGive _) c.prelude_of.result _ (accepts (record { sources = _; front = plain_front c.in-Ok.front })) c.prelude_of.ensures.short c.in-Ok.ensures.answer

pub returns-clause-meets : goal.returns-clause-meets
returns-clause-meets g c =
    let command = plain_command c.args.command in
    let stands = rw (c.prelude_of.ensures.is, c.name_of.ensures) at c.in-Ok.ensures.answer in
    let takes = sym c.trace_of.ensures ∙ ap lent c.in-None.is in
    weaken _ _ _ _ _ _ _ _ _ (owes_made (MayGive _) command _ takes stands) (λ no. absurd no) c.work_with.ensures.meets

pub returns-clause-each : goal.returns-clause-each
returns-clause-each g c =
    let command = plain_command c.args.command in
    let stands = rw (c.prelude_of.ensures.is, c.name_of.ensures) at c.in-Ok.ensures.answer in
    let takes = sym c.trace_of.ensures ∙ ap lent c.in-None.is in
    inl (weaken _ _ _ _ _ _ _ _ _ (owes_made (MayGiveText _) command _ takes (accepted_each _ _ _ _ stands)) (λ no. absurd no) c.work_with.ensures.meets)

-- ---- a replay file over it

pub replay_over-requires-clause-few : goal.replay_over-requires-clause-few
replay_over-requires-clause-few g c =
    front_few _ c.prelude_of.result _ (record { sources = _; front = plain_front c.in-Ok.front }) c.prelude_of.ensures.short c.in-Ok.ensures.answer

pub returns-in-Some-clause-meets : goal.returns-in-Some-clause-meets
returns-in-Some-clause-meets g c =
    let command = plain_command c.args.command in
    let stands = rw (c.prelude_of.ensures.is, c.name_of.ensures) at c.in-Ok.ensures.answer in
    let takes = sym c.trace_of.ensures ∙ ap lent c.in-Some.is in
    let held : g.S.Shelf.held c.front.new.shelf ≡ g.S.Shelf.held c.args.shelf.now = c.front.ensures.held in
    weaken _ _ _ _ _ _ _ _ _
    (λ o owes. owes_replay (MayGive _) command _ _ takes stands o (subst (λ h. OwesReplay (MayGive h) c.in-Some.trace.now (plain_front c.in-Ok.front) o) held owes))
    (λ rose. (rose_earlier _ _ _ c.front.ensures.counts.0 rose, λ o fault. inr (record { trace = c.in-Some.trace.now; takes = takes; accepted = record { sources = _; front = plain_front c.in-Ok.front }; front = stands; comes = fault })))
    c.replay_over.ensures.meets

pub returns-in-Some-clause-each : goal.returns-in-Some-clause-each
returns-in-Some-clause-each g c =
    let command = plain_command c.args.command in
    let stands = rw (c.prelude_of.ensures.is, c.name_of.ensures) at c.in-Ok.ensures.answer in
    let takes = sym c.trace_of.ensures ∙ ap lent c.in-Some.is in
    let held : g.S.Shelf.held c.front.new.shelf ≡ g.S.Shelf.held c.args.shelf.now = c.front.ensures.held in
    weaken_else _ _ _ _ _ _ _ _ _ _ _
    (λ o owes. owes_replay (MayGiveText _) command _ _ takes (accepted_each _ _ _ _ stands) o (subst (λ h. OwesReplay (MayGiveText h) c.in-Some.trace.now (plain_front c.in-Ok.front) o) held owes))
    (λ rose. (rose_earlier _ _ _ c.front.ensures.counts.0 rose, λ o fault. inr (record { trace = c.in-Some.trace.now; takes = takes; accepted = record { sources = _; front = plain_front c.in-Ok.front }; front = stands; comes = fault })))
    (rose_earlier _ _ _ c.front.ensures.counts.1) c.replay_over.ensures.each
