use Rattle.std.proofs.Common.{Err, ap, refl, subst, ◌∙◌, arith}
use Rattle.pict_outside.proofs.Gaining.{keeps_same, appends_nothing}
use Rattle.pict_core.specs.Plain.{plain_core}
use Rattle.pict_syntax.specs.declared.limits.TheConstants.{OBJECT_LIMIT}
use Rattle.pict_syntax.specs.declared.code.Code.TheVariants.{O2}
use Rattle.pict_front.specs.Answers.{plain_front}
use Rattle.pict_front.specs.Front.{first_place}
use Rattle.pict_top.specs.Answer.{Refusal, too_big}
use Rattle.pict_top.specs.Outcome.{outcome_of}
use Rattle.pict_top.proofs.Building.{none_within, told_object}
use Rattle.pict_top.proofs.Meeting.{reported}
use Rattle.pict_top.proofs.objects.build_object.Goals as goal

pub returns-in-Err-TooBig-clause-meets : goal.returns-in-Err-TooBig-clause-meets
returns-in-Err-TooBig-clause-meets g c =
    let big = c.in-Err-TooBig.ensures.too_big _ (ap Err c.in-Err-TooBig.field-0-is) in
    reported _ _ _ _ _ _ (outcome_of (Refusal c.args.sources.now.list.items O2 first_place))
    (_, too_big (none_within c.args.front.names (plain_core c.args.front.core) OBJECT_LIMIT _ big), refl) tt (appends_nothing _ _ (keeps_same _)) c.refuse.ensures.text

pub returns-clause-meets : goal.returns-clause-meets
returns-clause-meets g c =
    let object = c.in-Ok.object.items in
    told_object c.args.sources.now.list.items (plain_front c.args.front) _ _ _ object c.in-Ok.ensures.object c.in-Ok.ensures.within (keeps_same _) (rw (c.deref.ensures.value) at c.tell.ensures.text)
