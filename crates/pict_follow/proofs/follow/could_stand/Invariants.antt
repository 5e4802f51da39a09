use Rattle.std.proofs.Common.{◌≡◌, take}
use Rattle.pict_follow.specs.Follow.{AreThose, CanFollow}
use Rattle.pict_follow.proofs.follow.could_stand.Given as goal

abbrev pub invariant-loop-class : goal.invariant-loop-class
invariant-loop-class l = record {
  found : AreThose (CanFollow l.initial.tokens.items) (take l.class-index l.classes) l.found.items;
  same : l.tokens.items ≡ l.initial.tokens.items;
}
