use Rattle.std.proofs.Common.{◌≤◌, [], length, Err, ap, refl, sym, subst, inl}
use Rattle.pict_syntax.specs.declared.limits.TheConstants.{OBJECT_LIMIT}
use Rattle.pict_syntax.specs.declared.code.Code.TheVariants.{O2}
use Rattle.pict_outside.specs.Texts as outside
use Rattle.pict_outside.proofs.Gaining.{keeps_same, appends_nothing}
use Rattle.pict_gather.specs.Fetching.{MayGive, text}
use Rattle.pict_gather.proofs.Asking.{too_long_told}
use Rattle.pict_top.specs.Answer.{Absent, Refusal, alone, byte_at, none_there, over_limit}
use Rattle.pict_top.specs.Outcome.{outcome_of, read_fault}
use Rattle.pict_top.proofs.Meeting.{reported, faulted, weaken}
use Rattle.pict_top.proofs.objects.execute_object.Goals as goal

-- ---- the shelf failed

pub returns-in-Err-Failed-clause-meets : goal.returns-in-Err-Failed-clause-meets
returns-in-Err-Failed-clause-meets g c =
    let text = rw (c.as_bytes-name.ensures.value) at c.report_line.ensures.text in
    faulted _ _ _ _ _ _ (read_fault (alone c.args.object.now [])) (c.in-Err-Failed.ensures.failed (ap Err c.in-Err-Failed.field-0-is)) refl (keeps_same _) text

pub returns-in-Err-Failed-clause-each : goal.returns-in-Err-Failed-clause-each
returns-in-Err-Failed-clause-each g c =
    let text = rw (c.as_bytes-name.ensures.value) at c.report_line.ensures.text in
    inl (faulted _ _ _ _ _ _ (read_fault (alone c.args.object.now [])) (c.in-Err-Failed.ensures.failed (ap Err c.in-Err-Failed.field-0-is)) refl (keeps_same _) text)

-- ---- there is no such file

pub returns-in-Ok-Missing-clause-meets : goal.returns-in-Ok-Missing-clause-meets
returns-in-Ok-Missing-clause-meets g c =
    let text = rw (c.as_bytes-name.ensures.value) at c.report_line-in-Ok-Missing.ensures.text in
    let lacks = subst (outside.MayGive (g.S.Shelf.held c.args.shelf.now) c.args.object.now OBJECT_LIMIT) c.in-Ok-Missing.field-0-is c.in-Ok-Missing.ensures.given in
    reported _ _ _ _ _ _ (outcome_of (Absent c.args.object.now)) (_, none_there lacks, refl) tt (appends_nothing _ _ (keeps_same _)) text

-- ---- it is too long

pub returns-in-Ok-TooLong-clause-meets : goal.returns-in-Ok-TooLong-clause-meets
returns-in-Ok-TooLong-clause-meets g c =
    let text = rw (c.as_bytes-name.ensures.value) at c.refuse_alone.ensures.text in
    let long = too_long_told (g.S.Shelf.held c.args.shelf.now) c.args.object.now c.args.object.now OBJECT_LIMIT c.in-Ok-TooLong.field-0 _ c.in-Ok-TooLong.field-0-is refl c.in-Ok-TooLong.ensures.too_long in
    reported _ _ _ _ _ _ (outcome_of (Refusal (alone c.args.object.now []) O2 (byte_at 0))) (_, over_limit long.gives long.long, refl) tt (appends_nothing _ _ (keeps_same _)) text

pub returns-in-Ok-TooLong-clause-each : goal.returns-in-Ok-TooLong-clause-each
returns-in-Ok-TooLong-clause-each g c =
    let text = rw (c.as_bytes-name.ensures.value) at c.refuse_alone.ensures.text in
    let long = too_long_told (g.S.Shelf.held c.args.shelf.now) c.args.object.now c.args.object.now OBJECT_LIMIT c.in-Ok-TooLong.field-0 _ c.in-Ok-TooLong.field-0-is refl c.in-Ok-TooLong.ensures.too_long in
    inl (reported _ _ _ _ _ _ (outcome_of (Refusal (alone c.args.object.now []) O2 (byte_at 0))) (_, over_limit long.gives long.long, refl) tt (appends_nothing _ _ (keeps_same _)) text)

-- ---- it is read

pub run_found-requires-clause-short : goal.run_found-requires-clause-short
run_found-requires-clause-short g c =
    let given = subst (outside.MayGive (g.S.Shelf.held c.args.shelf.now) c.args.object.now OBJECT_LIMIT) c.in-Ok-Text.field-0-is c.in-Ok-Text.ensures.given in
    subst (λ bytes. length bytes ≤ OBJECT_LIMIT) (sym c.deref.ensures.value) given.0

pub returns-in-Ok-Text-clause-meets : goal.returns-in-Ok-Text-clause-meets
returns-in-Ok-Text-clause-meets g c =
    let held = g.S.Shelf.held c.args.shelf.now in
    let given = subst (outside.MayGive held c.args.object.now OBJECT_LIMIT) c.in-Ok-Text.field-0-is c.in-Ok-Text.ensures.given in
    let meets = rw (c.as_bytes-name.ensures.value) at c.run_found.ensures.meets in
    weaken _ _ _ _ _ _ _ _ _ (λ o owes. owes) (λ no. absurd no) (meets held (subst (λ bytes. MayGive held c.args.object.now (text bytes)) (sym c.deref.ensures.value) given.1))

pub returns-in-Ok-Text-clause-each : goal.returns-in-Ok-Text-clause-each
returns-in-Ok-Text-clause-each g c =
    let held = g.S.Shelf.held c.args.shelf.now in
    let given = subst (outside.MayGive held c.args.object.now OBJECT_LIMIT) c.in-Ok-Text.field-0-is c.in-Ok-Text.ensures.given in
    let each = rw (c.as_bytes-name.ensures.value) at c.run_found.ensures.each in
    inl (weaken _ _ _ _ _ _ _ _ _ (λ o owes. owes) (λ no. absurd no) (each held (subst (λ bytes. MayGive held c.args.object.now (text bytes)) (sym c.deref.ensures.value) given.1)))
