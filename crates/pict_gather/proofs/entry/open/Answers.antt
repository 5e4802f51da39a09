use Rattle.std.proofs.Common.{refl}
use Rattle.pict_gather.proofs.Opening.{opened_none, opened_some, unopened_some}
use Rattle.pict_gather.proofs.entry.open.Goals as goal

pub returns-in-None-clause-opened : goal.returns-in-None-clause-opened
returns-in-None-clause-opened c =
    opened_none c.args.prelude c.new-gathering.result c.in-None.is c.new-gathering.ensures.names c.new-gathering.ensures.ended c.new-gathering.ensures.decs c.new-gathering.ensures.left

pub returns-in-Ok-clause-opened : goal.returns-in-Ok-clause-opened
returns-in-Ok-clause-opened c =
    opened_some c.args.prelude c.in-Some.text (record { names = c.read.new.names; ended = c.new-gathering.result.ended; decs = c.in-Ok.program.decs; left = c.new-gathering.result.left }) c.in-Ok.program c.new-gathering.result.names c.in-Some.is
    c.new-gathering.ensures.names c.in-Ok.ensures.said (rw c.in-Some.is at c.requires.short) c.read.ensures.bound c.new-gathering.ensures.ended refl c.new-gathering.ensures.left

pub returns-in-Err-clause-unopened : goal.returns-in-Err-clause-unopened
returns-in-Err-clause-unopened c =
    unopened_some c.args.prelude c.in-Some.text c.new-gathering.result.names c.read.new.names c.in-Err.error c.in-Some.is c.new-gathering.ensures.names c.in-Err.ensures.said
