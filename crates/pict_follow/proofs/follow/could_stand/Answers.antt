-- One kind more is tried.
use Rattle.std.proofs.Common.{refl, sym, subst, ◌∙◌, ◌+◌, arith, take, [], Vec}
use Rattle.std.specs.declared.alloc.Global.{Global}
use Rattle.pict_follow.specs.declared.class.Class.{Class}
use Rattle.pict_follow.specs.Follow.{AreThose, at_start, CanFollow, CanGoOn}
use Rattle.pict_follow.proofs.Tried.{step_found, step_not, all_of}
use Rattle.pict_follow.proofs.follow.could_stand.Goals.{then-stands+in_ok-push, else-stands}
use Rattle.pict_follow.proofs.follow.could_stand.Goals as goal

pub loop-class-init : goal.loop-class-init
loop-class-init c = record {
  found = subst (AreThose (CanFollow c.args.tokens.now.items) []) (sym c.new-found.ensures.items) at_start;
  same = refl;
}

pub can_follow-requires : goal.can_follow-requires
can_follow-requires c = record { begins = subst CanGoOn (sym c.loop-class.invariant.same) c.requires.begins }

pub loop-class-preserved : goal.loop-class-preserved
loop-class-preserved c = record {
  found = elim c.if-stands.branch [
    | then-stands+in_ok-push w ↦
        subst (λ (f : Vec Class Global). AreThose (CanFollow c.args.tokens.now.items) (take (c.loop-class.class-index + 1) c.args.classes.now) f.items) (sym w.found-is)
        (step_found c.args.tokens.now.items c.loop-class.tokens.items c.args.classes.now c.loop-class.class-index _ c.loop-class.found.items _
        c.loop-class.invariant.same c.loop-class-test.true c.loop-class.invariant.found c.in_ok-stands.ensures.exact _ w.if-stands.true w.in_ok-push.ensures.items)
    | else-stands w ↦
        subst (λ (f : Vec Class Global). AreThose (CanFollow c.args.tokens.now.items) (take (c.loop-class.class-index + 1) c.args.classes.now) f.items) (sym w.found-is)
        (step_not c.args.tokens.now.items c.loop-class.tokens.items c.args.classes.now c.loop-class.class-index _ c.loop-class.found.items _
        c.loop-class.invariant.same c.loop-class-test.true c.loop-class.invariant.found c.in_ok-stands.ensures.exact _ w.if-stands.false refl)
  ];
  same = c.in_ok-stands.ensures.same ∙ c.loop-class.invariant.same;
}

pub returns-clause-exact : goal.returns-clause-exact
returns-clause-exact c = subst (λ l. AreThose (CanFollow c.args.tokens.now.items) l c.loop-class.found.items)
    (all_of c.args.classes.now c.loop-class.class-index (omega arith)) c.loop-class.invariant.found
