use Rattle.std.proofs.Common.{inl}
use Rattle.pict_words.specs.Plain.{plain_command}
use Rattle.pict_top.specs.Origins.{origin_of}
use Rattle.pict_top.proofs.Meeting.{weaken, weaken_either}
use Rattle.pict_top.proofs.Reading.{owes_asked, owes_each, owes_own, owes_own_each, nothing_own}
use Rattle.pict_top.proofs.top.do_text.Goals as goal

pub returns-in-Ok-Some-clause-meets : goal.returns-in-Ok-Some-clause-meets
returns-in-Ok-Some-clause-meets g c =
    let command = plain_command c.args.command in
    let own = rw (c.in-Ok-Some.field-0-is) at c.in-Ok-Some.ensures in
    weaken _ _ _ _ _ _ _ _ _ (λ o owes. owes_own _ (origin_of command) _ command o own owes) (λ no. absurd no) c.do_own.ensures.meets

pub returns-in-Ok-Some-clause-each : goal.returns-in-Ok-Some-clause-each
returns-in-Ok-Some-clause-each g c =
    let command = plain_command c.args.command in
    let own = rw (c.in-Ok-Some.field-0-is) at c.in-Ok-Some.ensures in
    inl (weaken _ _ _ _ _ _ _ _ _ (λ o owes. owes_own_each _ (origin_of command) _ command o own owes) (λ no. absurd no) c.do_own.ensures.meets)

pub do_file-requires-clause-own : goal.do_file-requires-clause-own
do_file-requires-clause-own g c =
    let asks = rw (c.in-Ok-None.field-0-is) at c.in-Ok-None.ensures in
    nothing_own (origin_of (plain_command c.args.command)) asks

pub returns-in-Ok-None-clause-meets : goal.returns-in-Ok-None-clause-meets
returns-in-Ok-None-clause-meets g c =
    let command = plain_command c.args.command in
    let asks = rw (c.in-Ok-None.field-0-is) at c.in-Ok-None.ensures in
    weaken _ _ _ _ _ _ _ _ _ (λ o owes. owes_asked _ (origin_of command) command o asks owes) (λ rose. (rose, λ o faults. (asks, faults))) c.do_file.ensures.meets

pub returns-in-Ok-None-clause-each : goal.returns-in-Ok-None-clause-each
returns-in-Ok-None-clause-each g c =
    let command = plain_command c.args.command in
    let asks = rw (c.in-Ok-None.field-0-is) at c.in-Ok-None.ensures in
    weaken_either _ _ _ _ _ _ _ _ _ _ (λ o owes. owes_each _ (origin_of command) command o asks owes) (λ rose. (rose, λ o faults. (asks, faults))) c.do_file.ensures.each
