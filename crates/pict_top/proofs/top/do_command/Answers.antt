use Rattle.std.proofs.Common.{◌≤◌, subst}
use Rattle.pict_syntax.specs.declared.limits.TheConstants.{FUEL_LIMIT}
use Rattle.pict_words.specs.Plain.{plain_command}
use Rattle.pict_words.specs.Words.{fuel_of}
use Rattle.pict_top.proofs.Meeting.{weaken, weaken_either}
use Rattle.pict_top.proofs.Files.{owes_run, owes_text}
use Rattle.pict_top.proofs.Reading.{faults_text}
use Rattle.pict_top.proofs.top.do_command.Goals as goal

-- ---- an object

pub execute_object-requires : goal.execute_object-requires
execute_object-requires g c =
    let is = rw (c.in-Some.is) at c.object_of.ensures in
    record { fuel = subst (λ k. fuel_of k ≤ FUEL_LIMIT) is c.requires.fuel }

pub returns-in-Some-clause-meets : goal.returns-in-Some-clause-meets
returns-in-Some-clause-meets g c =
    let is = rw (c.in-Some.is) at c.object_of.ensures in
    rw (is) (weaken _ _ _ _ _ _ _ _ _ (owes_run _ c.in-Some.object.now c.in-Some.fuel) (λ rose. (rose, λ o fault. fault)) c.execute_object.ensures.meets)

pub returns-in-Some-clause-each : goal.returns-in-Some-clause-each
returns-in-Some-clause-each g c =
    let is = rw (c.in-Some.is) at c.object_of.ensures in
    rw (is) (weaken_either _ _ _ _ _ _ _ _ _ _ (owes_run _ c.in-Some.object.now c.in-Some.fuel) (λ rose. (rose, λ o fault. fault)) c.execute_object.ensures.each)

-- ---- a text

pub do_text-requires-clause-takes : goal.do_text-requires-clause-takes
do_text-requires-clause-takes g c = rw (c.in-None.is) at c.object_of.ensures

pub returns-in-None-clause-meets : goal.returns-in-None-clause-meets
returns-in-None-clause-meets g c =
    let command = plain_command c.args.command in
    let takes = rw (c.in-None.is) at c.object_of.ensures in
    weaken _ _ _ _ _ _ _ _ _ (λ o. owes_text _ command o takes) (λ rose. (rose, λ o. faults_text _ command o takes)) c.do_text.ensures.meets

pub returns-in-None-clause-each : goal.returns-in-None-clause-each
returns-in-None-clause-each g c =
    let command = plain_command c.args.command in
    let takes = rw (c.in-None.is) at c.object_of.ensures in
    weaken_either _ _ _ _ _ _ _ _ _ _ (λ o. owes_text _ command o takes) (λ rose. (rose, λ o. faults_text _ command o takes)) c.do_text.ensures.each
