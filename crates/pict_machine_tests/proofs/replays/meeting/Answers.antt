use Rattle.std.proofs.Common.{sym, subst, ap}
use Rattle.pict_core.specs.Plain.{plain_core}
use Rattle.pict_machine_tests.specs.Gentle.{IsGentleOver}
use Rattle.pict_machine_tests.proofs.Gently.{gentle_new, gentle_reader, gentle_sender}
use Rattle.pict_machine_tests.proofs.replays.meeting.Goals as goal

pub returns : goal.returns
returns c =
    let body = ap plain_core c.in_ok-new.ensures in
    let pair = c.in_ok-both.ensures 1 (gentle_sender _ _ c.requires) (gentle_reader _ body) in
    gentle_new (plain_core c.in_ok-new-2.field-0.inner.value) (subst (λ p. IsGentleOver 1 (plain_core p)) (sym c.in_ok-new-2.ensures) pair)
