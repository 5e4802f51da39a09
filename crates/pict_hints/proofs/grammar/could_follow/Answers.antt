-- What was asked of the tokens is known of them.
use Rattle.std.proofs.Common.{subst}
use Rattle.pict_follow.specs.Follow.{CanGoOn}
use Rattle.pict_hints.proofs.grammar.could_follow.Goals as goal

pub could_stand-requires : goal.could_stand-requires
could_stand-requires c = record { begins = subst CanGoOn c.deref.ensures.value (c.in_ok-can_go_on.ensures.0 c.if-branch.true) }
