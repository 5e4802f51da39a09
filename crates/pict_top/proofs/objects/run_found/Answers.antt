use Rattle.std.proofs.Common.{ℕ, List, [], Err, ap, refl, ◌∙◌, subst, inl, inr}
use Rattle.std.specs.Int.{w8}
use Rattle.std.proofs.Math.Facts.{Fits-lt-pow}
use Rattle.pict_outside.proofs.Gaining.{keeps_same, appends_nothing}
use Rattle.pict_syntax.specs.declared.code.Code.TheVariants.{O1}
use Rattle.pict_core.specs.Plain.{plain_core}
use Rattle.pict_gather.specs.Fetching.{MayGive}
use Rattle.pict_object.specs.Decoded.{IsDecoded}
use Rattle.pict_built.specs.Laws.{AreBytes}
use Rattle.pict_top.specs.Answer.{Refusal, alone, byte_at, no_object}
use Rattle.pict_top.specs.Origins.{MayGiveText}
use Rattle.pict_top.specs.Outcome.{outcome_of}
use Rattle.pict_top.proofs.Meeting.{reported}
use Rattle.pict_top.proofs.Executing.{some_outcome, came_to_end}
use Rattle.pict_top.proofs.objects.run_found.Goals as goal

are_bytes : (bytes : List ℕ) → AreBytes bytes → AreBytes bytes
are_bytes bytes h = h

-- ---- the bytes are no object

pub returns-in-Err-NotObject-clause-meets : goal.returns-in-Err-NotObject-clause-meets
returns-in-Err-NotObject-clause-meets g c held gives =
    let none = c.in-Err-NotObject.ensures.refused (ap Err c.in-Err-NotObject.field-0-is) in
    reported _ _ _ _ _ _ (outcome_of (Refusal (alone c.args.name.now []) O1 (byte_at 0))) (_, no_object gives c.requires.short (λ fits. none), refl) tt
    (appends_nothing _ _ (keeps_same _)) c.refuse_alone.ensures.text

pub returns-in-Err-NotObject-clause-each : goal.returns-in-Err-NotObject-clause-each
returns-in-Err-NotObject-clause-each g c held gives =
    let none = c.in-Err-NotObject.ensures.refused (ap Err c.in-Err-NotObject.field-0-is) in
    reported _ _ _ _ _ _ (outcome_of (Refusal (alone c.args.name.now []) O1 (byte_at 0))) (_, no_object gives c.requires.short (λ fits. none), refl) tt
    (appends_nothing _ _ (keeps_same _)) c.refuse_alone.ensures.text

-- ---- memory ran out, or the output failed

pub returns-in-Err-Memory-run_guarded-clause-meets : goal.returns-in-Err-Memory-run_guarded-clause-meets
returns-in-Err-Memory-run_guarded-clause-meets g c held gives =
    let names = c.decode.new.names in
    let core = plain_core c.in-Ok.core in
    let fits = are_bytes c.args.found.now (λ i. Fits-lt-pow {w = w8} (c.type_inv.found i)) in
    let is = subst (λ old. IsDecoded old names c.args.found.now core) c.new-names.ensures.empty
    c.in-Ok.ensures.object in
    let some = c.run_guarded.ensures.memory (c.in-Err-Memory-run_guarded.is ∙ ap Err c.in-Err-Memory-run_guarded.field-0-is) in
    (keeps_same _, inr (some_outcome (MayGive held) c.args.name.now c.args.found.now c.args.fuel gives c.requires.short fits names core is _ some))

pub returns-in-Err-Memory-run_guarded-clause-each : goal.returns-in-Err-Memory-run_guarded-clause-each
returns-in-Err-Memory-run_guarded-clause-each g c held gives =
    let names = c.decode.new.names in
    let core = plain_core c.in-Ok.core in
    let fits = are_bytes c.args.found.now (λ i. Fits-lt-pow {w = w8} (c.type_inv.found i)) in
    let is = subst (λ old. IsDecoded old names c.args.found.now core) c.new-names.ensures.empty
    c.in-Ok.ensures.object in
    let some = c.run_guarded.ensures.memory (c.in-Err-Memory-run_guarded.is ∙ ap Err c.in-Err-Memory-run_guarded.field-0-is) in
    (keeps_same _, inr (some_outcome (MayGiveText held) c.args.name.now c.args.found.now c.args.fuel gives c.requires.short fits names core is _ some))

pub returns-in-Err-Sink-clause-meets : goal.returns-in-Err-Sink-clause-meets
returns-in-Err-Sink-clause-meets g c held gives =
    let names = c.decode.new.names in
    let core = plain_core c.in-Ok.core in
    let fits = are_bytes c.args.found.now (λ i. Fits-lt-pow {w = w8} (c.type_inv.found i)) in
    let is = subst (λ old. IsDecoded old names c.args.found.now core) c.new-names.ensures.empty
    c.in-Ok.ensures.object in
    let some = c.run_guarded.ensures.sink (c.in-Err-Sink.is ∙ ap Err c.in-Err-Sink.field-0-is) in
    let outcome = some_outcome (MayGive held) c.args.name.now c.args.found.now c.args.fuel gives c.requires.short fits names core is _ some in
    inl (outcome.0, outcome.1, inl (outcome.2, keeps_same _))

pub returns-in-Err-Sink-clause-each : goal.returns-in-Err-Sink-clause-each
returns-in-Err-Sink-clause-each g c held gives =
    let names = c.decode.new.names in
    let core = plain_core c.in-Ok.core in
    let fits = are_bytes c.args.found.now (λ i. Fits-lt-pow {w = w8} (c.type_inv.found i)) in
    let is = subst (λ old. IsDecoded old names c.args.found.now core) c.new-names.ensures.empty
    c.in-Ok.ensures.object in
    let some = c.run_guarded.ensures.sink (c.in-Err-Sink.is ∙ ap Err c.in-Err-Sink.field-0-is) in
    let outcome = some_outcome (MayGiveText held) c.args.name.now c.args.found.now c.args.fuel gives c.requires.short fits names core is _ some in
    inl (outcome.0, outcome.1, inl (outcome.2, keeps_same _))

-- ---- the run came to its end

pub returns-clause-meets : goal.returns-clause-meets
returns-clause-meets g c held gives =
    let names = c.decode.new.names in
    let core = plain_core c.in-Ok.core in
    let fits = are_bytes c.args.found.now (λ i. Fits-lt-pow {w = w8} (c.type_inv.found i)) in
    let is = subst (λ old. IsDecoded old names c.args.found.now core) c.new-names.ensures.empty
    c.in-Ok.ensures.object in
    came_to_end (MayGive held) c.args.name.now c.args.found.now c.args.fuel gives c.requires.short fits names core is _ _ _ _ c.in-Ok-run_guarded.ensures.ran c.report_run.ensures.text

pub returns-clause-each : goal.returns-clause-each
returns-clause-each g c held gives =
    let names = c.decode.new.names in
    let core = plain_core c.in-Ok.core in
    let fits = are_bytes c.args.found.now (λ i. Fits-lt-pow {w = w8} (c.type_inv.found i)) in
    let is = subst (λ old. IsDecoded old names c.args.found.now core) c.new-names.ensures.empty
    c.in-Ok.ensures.object in
    came_to_end (MayGiveText held) c.args.name.now c.args.found.now c.args.fuel gives c.requires.short fits names core is _ _ _ _ c.in-Ok-run_guarded.ensures.ran c.report_run.ensures.text
