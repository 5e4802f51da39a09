-- The head of applications to two values: where it is no operator, all of them are refused alike.
use Rattle.std.proofs.Common.{◌≡◌, true, false, nat_eq, refl, List, [], ◌∷◌, length, Some, arith}
use Rattle.pict_syntax.specs.declared.code.Code.TheVariants.{Y5, Y6}
use Rattle.pict_syntax.specs.declared.span.Span.{Span}
use Rattle.pict_syntax.specs.declared.id.Id.{Id}
use Rattle.pict_types.specs.declared.types.Ty.{Ty}
use Rattle.pict_types.specs.Types.{PlainLabels, no_label, labels, no_type, types, count_types}
use Rattle.pict_types.specs.Plain.{plain_types}
use Rattle.pict_sub.specs.Exposing.{exposure}
use Rattle.pict_rules.specs.Shapes.{Function, applicable, nth_type}
use Rattle.pict_rules.specs.Environments.{Environment, context_of, type_of_use}
use Rattle.pict_rules.specs.Clauses.{found_first}
use Rattle.pict_rules.specs.Derivations.{give_, refuse_, part_ok, part_stuck}
use Rattle.pict_infer.specs.declared.error.InferError.{InferError}
use Rattle.pict_infer.specs.declared.error.InferError.TheVariants.{Named, Memory}
use Rattle.pict_infer.specs.declared.error.Told.TheVariants.{Nothing}
use Rattle.pict_lines.specs.Functions.{IsNoFunction}
use Rattle.pict_lines.proofs.HeadForms.{no_function}
use Rattle.pict_lines.specs.Chains.{two, IsUnfit, IsNoOperator}

-- another number of fields, or a label
pub unfit_number : (e : Environment) (r : Function) (s : Span) → nat_eq 2 (count_types r.positional) ≡ false → IsUnfit e r s (Named Y5 s Nothing)
unfit_number e r s h v w g = rw h refuse_

unfit_labels : (e : Environment) (r : Function) (s : Span) (ms : PlainLabels) → nat_eq 2 (count_types r.positional) ≡ true → r.labelled ≡ ms → (ms ≡ no_label → ⊥) → IsUnfit e r s (Named Y6 s Nothing)
unfit_labels e r s no_label h k n v w g = absurd (n refl)
unfit_labels e r s (labels l t ms) h k n v w g = rw (h, k) refuse_

pub unfit_label : (e : Environment) (r : Function) (s : Span) → nat_eq 2 (count_types r.positional) ≡ true → (r.labelled ≡ no_label → ⊥) → IsUnfit e r s (Named Y6 s Nothing)
unfit_label e r s h n = unfit_labels e r s r.labelled h refl n

pub no_operator : (e : Environment) (s : Span) (f : Id) (y : InferError) → IsNoFunction (applicable (exposure (context_of e) (type_of_use e f.name.0))) f.span y → IsNoOperator e s f y
no_operator e s f (Named c i told) h v w t = part_ok give_ (no_function (applicable (exposure (context_of e) (type_of_use e f.name.0))) f.span _ (Named c i told) h)
no_operator e s f Memory h v w t = tt

pub unfit_operator : (e : Environment) (s : Span) (f : Id) (r : Function) (y : InferError) → applicable (exposure (context_of e) (type_of_use e f.name.0)) ≡ Some r → IsUnfit e r s y → IsNoOperator e s f y
unfit_operator e s f r (Named c i told) h k v w t = part_ok give_ (rw h (part_stuck (k v w (found_first e (two v w) r t))))
unfit_operator e s f r Memory h k v w t = tt

pub two_types : (ts : List Ty) → length ts ≡ 2 → plain_types ts ≡ types (nth_type 0 (plain_types ts)) (types (nth_type 1 (plain_types ts)) no_type)
two_types [] h = absurd (omega arith)
two_types (s ∷ []) h = absurd (omega arith)
two_types (s ∷ t ∷ []) h = refl
two_types (s ∷ t ∷ u ∷ ts) h = absurd (omega arith)
