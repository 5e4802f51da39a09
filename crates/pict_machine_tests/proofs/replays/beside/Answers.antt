use Rattle.std.proofs.Common.{sym, subst}
use Rattle.pict_core.specs.Plain.{plain_core}
use Rattle.pict_core.specs.Term.{Par}
use Rattle.pict_machine_tests.specs.Gentle.{IsGentleOver}
use Rattle.pict_machine_tests.proofs.Gently.{gentle_both}
use Rattle.pict_machine_tests.proofs.replays.beside.Goals as goal

pub returns : goal.returns
returns c n left right =
    gentle_both n (plain_core c.in_ok-left.left.inner.value) (plain_core c.in_ok-new.field-0.inner.value)
    (subst (λ p. IsGentleOver n (plain_core p)) (sym c.in_ok-left.ensures) left) (subst (λ p. IsGentleOver n (plain_core p)) (sym c.in_ok-new.ensures) right)
