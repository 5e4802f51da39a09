-- As many type fields after matching as before it.
use Rattle.std.proofs.Common.{◌≡◌, List, length, refl, sym, ◌∙◌, ap, subst, Option}
use Rattle.pict_types.specs.declared.types.Ty.{Ty}
use Rattle.pict_types.specs.declared.types.Bound.{Bound}
use Rattle.pict_types.specs.Types.{PlainType, PlainBounds}
use Rattle.pict_types.specs.Kinds.{IsWellFormed}
use Rattle.pict_types.specs.Plain.{plain_bounds}
use Rattle.pict_types.proofs.Contexts.{entries_context}
use Rattle.pict_rules.specs.Environments.{Environment, context_of}
use Rattle.pict_rules.specs.Found.{Found, matched, none_found}
use Rattle.pict_rules.specs.Regular.{FoundFits, IsRegular, IsTypeIn, kinds_found, kinds_in, kinds_of_fields, kinds_within}
use Rattle.pict_rules.specs.Shapes.{Function}
use Rattle.pict_rules.proofs.RegularArguments.{fields_kinds}
use Rattle.pict_rules.proofs.RegularMatched.{matched_in}
use Rattle.pict_rules.proofs.RegularValues.{none_fits, none_kinds}
use Rattle.pict_match.specs.PlainFound.{slots}
use Rattle.pict_lines.specs.Functions.{FunctionIsFormed}
use Rattle.pict_lines.proofs.Frames.{fields_length, kinds_length}

pub answer_count : (e : Environment) (r : Function) (t : PlainType) (bs : List Bound) (xs : List (Option Ty)) → IsRegular e → FunctionIsFormed e r → IsTypeIn e t → r.binders ≡ plain_bounds bs → slots (plain_bounds bs) xs ≡ matched (context_of e) 0 r.answer t (none_found r.binders) → length xs ≡ length bs
answer_count e r t bs xs g w x at is =
    let k =
    matched_in e (context_of e) r.answer t (none_found r.binders) (entries_context e.names e.context g.entries) refl (subst (λ ks. IsWellFormed e.names ks r.answer) (fields_kinds (kinds_in e) (none_found r.binders) r.binders (none_kinds r.binders)) w.answer_) x
    (none_fits e r.binders) in
    sym (kinds_length (plain_bounds bs) xs) ∙ ap (λ (f : Found). length (kinds_found f)) is ∙ ap length (k.kinds_ ∙ none_kinds r.binders) ∙ ap (λ b. length (kinds_of_fields b)) at ∙ fields_length bs

pub matched_count : (e : Environment) (t g : PlainType) (bs : PlainBounds) (xs ys : List (Option Ty)) → IsRegular e → IsWellFormed e.names (kinds_within (kinds_in e) (slots bs xs)) t → IsTypeIn e g → FoundFits e (slots bs xs) → slots bs ys ≡ matched (context_of e) 0 t g (slots bs xs) → length ys ≡ length xs
matched_count e t g bs xs ys r w x f is =
    let k = matched_in e (context_of e) t g (slots bs xs) (entries_context e.names e.context r.entries) refl w x f in
    sym (kinds_length bs ys) ∙ ap (λ (z : Found). length (kinds_found z)) is ∙ ap length k.kinds_ ∙ kinds_length bs xs
