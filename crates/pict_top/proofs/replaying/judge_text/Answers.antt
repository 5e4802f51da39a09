use Rattle.std.proofs.Common.{arith, ap, subst, map, Err}
use Rattle.pict_outside.proofs.Gaining.{keeps_same, appends_nothing}
use Rattle.pict_syntax.specs.declared.code.Code.TheVariants.{V1}
use Rattle.pict_front.specs.Answers.{plain_front}
use Rattle.pict_gather.specs.Fetching.{MayGive}
use Rattle.pict_trace.specs.Plain.{plain_line}
use Rattle.pict_replay.specs.Plain.{place_of}
use Rattle.pict_replay.specs.Files.{IsFile, IsNoFile}
use Rattle.pict_top.specs.Answer.{Refusal, alone, byte_at}
use Rattle.pict_top.specs.Origins.{MayGiveText}
use Rattle.pict_top.specs.Outcome.{outcome_of}
use Rattle.pict_top.proofs.Meeting.{reported}
use Rattle.pict_top.proofs.Right.{accepted_is_freely_right}
use Rattle.pict_top.proofs.Replayed.{no_file_within}
use Rattle.pict_top.proofs.Judging.{owes_no_file, owes_verdict, told_verdict}
use Rattle.pict_top.proofs.replaying.judge_text.Goals as goal

pub overflow_cast-at : goal.overflow_cast-at
overflow_cast-at g c =
    let none = c.in-Err-NoFile.ensures.no_file c.in-Err-NoFile.at (ap Err c.in-Err-NoFile.field-0-is) in
    let within = no_file_within c.args.found.items c.in-Err-NoFile.at (subst (λ t. IsNoFile t c.in-Err-NoFile.at) c.deref.ensures.value none) in
    let short = c.requires.short in omega (arith, within, short)

pub returns-in-Err-NoFile-clause-meets : goal.returns-in-Err-NoFile-clause-meets
returns-in-Err-NoFile-clause-meets g c held gives =
    let none = subst (λ t. IsNoFile t c.in-Err-NoFile.at) c.deref.ensures.value (c.in-Err-NoFile.ensures.no_file c.in-Err-NoFile.at (ap Err c.in-Err-NoFile.field-0-is)) in
    reported _ _ _ _ _ _ (outcome_of (Refusal (alone c.args.name.now c.args.found.items) V1 (byte_at c.in-Err-NoFile.at)))
    (owes_no_file (MayGive held) c.args.name.now c.args.found.items (plain_front c.args.front) gives c.requires.short c.in-Err-NoFile.at none) tt
    (appends_nothing _ _ (keeps_same _)) c.refuse_alone.ensures.text

pub returns-in-Err-NoFile-clause-each : goal.returns-in-Err-NoFile-clause-each
returns-in-Err-NoFile-clause-each g c held gives =
    let none = subst (λ t. IsNoFile t c.in-Err-NoFile.at) c.deref.ensures.value (c.in-Err-NoFile.ensures.no_file c.in-Err-NoFile.at (ap Err c.in-Err-NoFile.field-0-is)) in
    reported _ _ _ _ _ _ (outcome_of (Refusal (alone c.args.name.now c.args.found.items) V1 (byte_at c.in-Err-NoFile.at)))
    (owes_no_file (MayGiveText held) c.args.name.now c.args.found.items (plain_front c.args.front) gives c.requires.short c.in-Err-NoFile.at none) tt
    (appends_nothing _ _ (keeps_same _)) c.refuse_alone.ensures.text

pub judge-requires-clause-right : goal.judge-requires-clause-right
judge-requires-clause-right g c = accepted_is_freely_right (plain_front c.args.front) c.requires.accepted

pub returns-clause-meets : goal.returns-clause-meets
returns-clause-meets g c held gives =
    let places = map place_of c.in-Ok.file.choices.items in
    let lines = map plain_line c.in-Ok.file.expected.items in
    let file = subst (λ t. IsFile c.read_file.new.names t places lines) c.deref.ensures.value c.in-Ok.ensures.file in
    let owes = owes_verdict (MayGive held) c.args.name.now c.args.found.items (plain_front c.args.front) gives c.requires.short c.read_file.new.names places lines
    c.in-Ok-judge.verdict c.judge.result file c.in-Ok.ensures.gained c.in-Ok-judge.is c.judge.ensures.yes c.judge.ensures.no in
    told_verdict _ _ _ _ _ _ c.in-Ok-judge.verdict owes (keeps_same _) c.tell_verdict.ensures.text

pub returns-clause-each : goal.returns-clause-each
returns-clause-each g c held gives =
    let places = map place_of c.in-Ok.file.choices.items in
    let lines = map plain_line c.in-Ok.file.expected.items in
    let file = subst (λ t. IsFile c.read_file.new.names t places lines) c.deref.ensures.value c.in-Ok.ensures.file in
    let owes = owes_verdict (MayGiveText held) c.args.name.now c.args.found.items (plain_front c.args.front) gives c.requires.short c.read_file.new.names places lines
    c.in-Ok-judge.verdict c.judge.result file c.in-Ok.ensures.gained c.in-Ok-judge.is c.judge.ensures.yes c.judge.ensures.no in
    told_verdict _ _ _ _ _ _ c.in-Ok-judge.verdict owes (keeps_same _) c.tell_verdict.ensures.text
