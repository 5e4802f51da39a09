use Rattle.std.proofs.Common.{refl, inl, inr}
use Rattle.pict_outside.proofs.Gaining.{keeps_same, appends_nothing}
use Rattle.pict_top.specs.Outcome.{usage_outcome}
use Rattle.pict_words.specs.Plain.{plain_command}
use Rattle.pict_top.proofs.Meeting.{told, weaken, weaken_either}
use Rattle.pict_top.proofs.top.do_words.Goals as goal

pub returns-in-Err-clause-meets : goal.returns-in-Err-clause-meets
returns-in-Err-clause-meets g c =
    told _ _ _ _ _ _ usage_outcome (inr (c.in-Err.ensures.usage, refl)) tt (appends_nothing _ _ (keeps_same _)) c.tell.ensures.text

pub returns-in-Err-clause-each : goal.returns-in-Err-clause-each
returns-in-Err-clause-each g c =
    inl (told _ _ _ _ _ _ usage_outcome (inr (c.in-Err.ensures.usage, refl)) tt (appends_nothing _ _ (keeps_same _)) c.tell.ensures.text)

pub returns-in-Ok-clause-meets : goal.returns-in-Ok-clause-meets
returns-in-Ok-clause-meets g c =
    let command = plain_command c.in-Ok.command in
    weaken _ _ _ _ _ _ _ _ _ (λ o owes. inl (command, c.in-Ok.ensures.shape, owes)) (λ rose. (rose, λ o faults. (command, c.in-Ok.ensures.shape, faults))) c.do_command.ensures.meets

pub returns-in-Ok-clause-each : goal.returns-in-Ok-clause-each
returns-in-Ok-clause-each g c =
    let command = plain_command c.in-Ok.command in
    weaken_either _ _ _ _ _ _ _ _ _ _ (λ o owes. inl (command, c.in-Ok.ensures.shape, owes)) (λ rose. (rose, λ o faults. (command, c.in-Ok.ensures.shape, faults))) c.do_command.ensures.each
