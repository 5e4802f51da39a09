use Rattle.std.proofs.Common.{ap, sym, subst}
use Rattle.pict_outside.specs.Entries.{pairs_of}
use Rattle.pict_outside.specs.Texts.{texts_of}
use Rattle.pict_gather.specs.Phases.{accepts}
use Rattle.pict_front.specs.Answers.{plain_front}
use Rattle.pict_top.proofs.Right.{accepted_runs_right}
use Rattle.pict_top.proofs.Short.{front_short}
use Rattle.pict_web.specs.Reasoned.{IsAbout}
use Rattle.pict_web.proofs.Telling.{refused_says, about_refused, about_accepted}
use Rattle.pict_web.proofs.reasons.reasons_of.Goals as goal

pub told_at_end-requires-clause-right : goal.told_at_end-requires-clause-right
told_at_end-requires-clause-right c = accepted_runs_right (plain_front c.in-Ok.front) c.in-Ok.ensures.accepted 10000

pub told_at_end-requires-clause-short : goal.told_at_end-requires-clause-short
told_at_end-requires-clause-short c =
    front_short _ c.prelude_unless-prelude.result _ (accepts (record { sources = _; front = plain_front c.in-Ok.front }))
    c.prelude_unless-prelude.ensures.short c.in-Ok.ensures.answer

pub returns-in-Ok : goal.returns-in-Ok
returns-in-Ok c =
    about_accepted c.args.bare c.new-shelf.result.pairs (pairs_of c.args.entries.items) _ (record { sources = _; front = plain_front c.in-Ok.front })
    (ap (λ s. s.pairs) c.new-shelf.ensures) c.prelude_unless-prelude.ensures.is c.in-Ok.ensures.answer

pub returns : goal.returns
returns c =
    subst (IsAbout c.args.bare (texts_of (pairs_of c.args.entries.items))) (sym c.status_of.ensures)
    (about_refused c.args.bare (texts_of (pairs_of c.args.entries.items)) c.in-Err.error
    (refused_says c.args.bare c.new-shelf.result.pairs (pairs_of c.args.entries.items) _ c.in-Err.error _
    (ap (λ s. s.pairs) c.new-shelf.ensures) c.prelude_unless-prelude.ensures.is c.in-Err.ensures.answer c.in-Err.ensures.failed))
