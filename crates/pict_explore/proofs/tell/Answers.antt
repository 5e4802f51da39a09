use Rattle.std.proofs.Common.{sym, subst}
use Rattle.pict_core.specs.Closed.{IsClosed}
use Rattle.pict_explore.proofs.tell.Goals as goal

pub tell_way-requires : goal.tell_way-requires
tell_way-requires c = record { closed = subst IsClosed (sym c.in_ok-process.ensures) c.requires.closed }
