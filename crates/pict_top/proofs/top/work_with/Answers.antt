use Rattle.std.proofs.Common.{sym, ◌∙◌}
use Rattle.pict_front.specs.Answers.{plain_front}
use Rattle.pict_words.specs.Plain.{plain_command}
use Rattle.pict_top.proofs.Files.{made_by_work, made_by_build, works_by}
use Rattle.pict_top.proofs.Meeting.{weaken}
use Rattle.pict_top.proofs.top.work_with.Goals as goal

pub do_ready-requires-clause-works : goal.do_ready-requires-clause-works
do_ready-requires-clause-works g c = works_by (plain_command c.args.command) c.requires.takes (sym c.builds.ensures ∙ c.if-builds.false)

pub returns-then-builds-clause-meets : goal.returns-then-builds-clause-meets
returns-then-builds-clause-meets g c =
    let command = plain_command c.args.command in
    weaken _ _ _ _ _ _ _ _ _ (λ o. made_by_build c.args.sources.now.list.items (plain_front c.args.front) command o (sym c.builds.ensures ∙ c.if-builds.true)) (λ no. absurd no) c.build_object.ensures.meets

pub returns-else-builds-clause-meets : goal.returns-else-builds-clause-meets
returns-else-builds-clause-meets g c =
    let command = plain_command c.args.command in
    weaken _ _ _ _ _ _ _ _ _ (λ o. made_by_work c.args.sources.now.list.items (plain_front c.args.front) command o (sym c.builds.ensures ∙ c.if-builds.false)) (λ no. absurd no) c.do_ready.ensures.meets
