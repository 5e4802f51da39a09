-- The worked texts, rule by rule.
use Rattle.std.proofs.Common.{◌≡◌, [], None, refl}
use Rattle.pict_types.specs.Types.{Int, Str}
use Rattle.pict_sub.specs.Subtyping.{IsSubtype, same}
use Rattle.pict_sub.proofs.Inversion.{only_itself}
use Rattle.pict_scope.specs.Outlines.{opens, marks}
use Rattle.pict_scope.specs.Scopes.{scope_stop}
use Rattle.pict_rules.specs.Derivations.{give_, refuse_, met, failed, part_ok, part_stuck}
use Rattle.pict_rules.specs.Worked.{two_names, number_sent, WorkedTexts}

number_scoped : scope_stop two_names number_sent ≡ None
unfolding marks opens
number_scoped = refl

text_is_no_number : IsSubtype [] Str Int → ⊥
text_is_no_number d = let e : Str ≡ Int = (only_itself [] Str Int (λ e. cc) (λ e. cc) (λ e. cc) (λ e. cc) (λ e. cc)).0 d in cc

pub worked_texts : WorkedTexts
worked_texts = record {
  typed = (number_scoped, (_, part_ok (part_ok give_ (part_ok give_ give_)) (part_ok (part_ok (part_ok give_ (part_ok (part_ok give_ (met same give_)) give_)) give_) give_)));
  other_type = part_ok (part_ok give_ (part_ok give_ give_)) (part_stuck (part_stuck (part_ok give_ (part_stuck (part_ok give_ (failed text_is_no_number))))));
  no_right = part_ok give_ (part_stuck (part_ok (part_ok give_ (part_ok (part_ok (part_ok (part_ok give_ (part_ok (part_ok give_ (part_ok give_ give_)) (part_ok give_ give_))) give_) give_) give_)) (part_stuck (part_stuck (part_stuck (part_ok give_ refuse_))))));
}
