use Rattle.std.proofs.Common.{sym, ap, ◌∙◌, subst}
use Rattle.pict_core.specs.Step.{Comm}
use Rattle.pict_turns.specs.Shown.{label_shown, IsShownOf}
use Rattle.pict_turns.proofs.Outputs.{word_is, pair_value}
use Rattle.pict_machine.proofs.event.unpacked.Goals as goal

pub word_at-requires : goal.word_at-requires
word_at-requires c = let p = subst (IsShownOf c.requires.0) c.in-Comm.is c.requires.1 in (p.word, p.fits, p.packs)

pub returns-in-Comm-clause-label : goal.returns-in-Comm-clause-label
returns-in-Comm-clause-label c h is =
    let p = subst (IsShownOf h) c.in-Comm.is is in
    ap (Comm c.in-Comm.channel) (sym (pair_value h c.in-Comm.value p c.word_at.result c.word_at.ensures)) ∙ sym (ap (label_shown h) c.in-Comm.is)

pub returns-in-Comm-clause-event : goal.returns-in-Comm-clause-event
returns-in-Comm-clause-event c h is =
    let p = subst (IsShownOf h) c.in-Comm.is is in
    word_is h c.in-Comm.value p c.word_at.result c.word_at.ensures
