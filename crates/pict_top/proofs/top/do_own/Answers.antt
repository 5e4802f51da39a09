use Rattle.std.proofs.Common.{arith, ◌∙◌}
use Rattle.pict_words.specs.Plain.{plain_command}
use Rattle.pict_top.specs.Origins.{origin_of, name_of}
use Rattle.pict_top.proofs.Meeting.{weaken, never_rises}
use Rattle.pict_top.proofs.Reading.{own_bytes, same_text}
use Rattle.pict_top.proofs.top.do_own.Goals as goal

pub do_file-requires-clause-own : goal.do_file-requires-clause-own
do_file-requires-clause-own g c =
    let own = own_bytes (origin_of (plain_command c.args.command)) c.args.text.items c.requires.own in omega (arith, c.len-own.ensures, c.args.text.ok, own)

pub returns-in-Ok-clause-meets : goal.returns-in-Ok-clause-meets
returns-in-Ok-clause-meets g c =
    let command = plain_command c.args.command in
    weaken _ _ _ _ _ _ _ _ _
    (λ o owes. same_text (name_of (origin_of command)) c.in-Ok.shelf.name c.args.text.items c.in-Ok.shelf.text command o (c.in-Ok.ensures.0 ∙ c.name_of.ensures) c.in-Ok.ensures.1 owes)
    (λ rose. absurd (never_rises rose)) c.do_file.ensures.meets
