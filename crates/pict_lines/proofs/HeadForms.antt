-- What may be applied, by the last positional field of its record.
use Rattle.std.proofs.Common.{◌≡◌, List, [], ◌∷◌, ◌++◌, refl, ◌∙◌, ap, Option, Some, None}
use Rattle.std.specs.Prelude.{IfNone}
use Rattle.pict_syntax.specs.declared.code.Code.TheVariants.{Y8}
use Rattle.pict_syntax.specs.declared.span.Span.{Span}
use Rattle.pict_types.specs.declared.types.Ty.{Ty}
use Rattle.pict_types.specs.Types.{PlainType, PlainLabels, PlainBounds}
use Rattle.pict_types.specs.Plain.{plain, plain_types}
use Rattle.pict_rules.specs.Shapes.{Function, put_first, respond_or_write, split_last, with_answer, with_last}
use Rattle.pict_rules.specs.Rules.{nothing_, stuck, Sort, Rule}
use Rattle.pict_rules.specs.Clauses.{done, need_function}
use Rattle.pict_rules.specs.Derivations.{Runs, refuse_}
use Rattle.pict_infer.specs.declared.error.InferError.{InferError}
use Rattle.pict_infer.specs.declared.error.InferError.TheVariants.{Named, Memory}
use Rattle.pict_infer.specs.Answering.{IsRefused}

-- the last of types that gained one
split_pushed : (xs : List Ty) (x : Ty) → split_last (plain_types (xs ++ x ∷ [])) ≡ Some (plain_types xs, plain x)
split_pushed [] x = refl
split_pushed (y ∷ xs) x = ap (put_first (plain y)) (split_pushed xs x)

last_answers : (bs : PlainBounds) (ls : PlainLabels) (all xs : List Ty) (x : Ty) (o : Option PlainType) → all ≡ xs ++ x ∷ [] → respond_or_write (plain x) ≡ o → with_last respond_or_write bs ls (split_last (plain_types all)) ≡ with_answer bs ls (plain_types xs) o
last_answers bs ls all xs x o is h =
    ap (λ z. with_last respond_or_write bs ls (split_last (plain_types z))) is ∙ ap (with_last respond_or_write bs ls) (split_pushed xs x) ∙ ap (with_answer bs ls (plain_types xs)) h

pub function_none : (bs : PlainBounds) (ls : PlainLabels) (all xs : List Ty) (x : Ty) → all ≡ xs ++ x ∷ [] → respond_or_write (plain x) ≡ None → with_last respond_or_write bs ls (split_last (plain_types all)) ≡ None
function_none bs ls all xs x is h = last_answers bs ls all xs x None is h

pub function_some : (bs : PlainBounds) (ls : PlainLabels) (all xs : List Ty) (x : Ty) (u : PlainType) → all ≡ xs ++ x ∷ [] → respond_or_write (plain x) ≡ Some u → with_last respond_or_write bs ls (split_last (plain_types all)) ≡ Some (record { binders = bs; positional = plain_types xs; labelled = ls; answer = u })
function_some bs ls all xs x u is h = last_answers bs ls all xs x (Some u) is h

pub no_function_here : (o : Option Function) (at : Span) → o ≡ None → Runs {s = nothing_} (need_function o Y8 at (λ f. done)) (stuck Y8 at)
no_function_here o at h = rw h refuse_

-- a fact about what isn't there holds of any answer
pub if_none : {T P : Type 0} (o : Option T) → P → IfNone o P
if_none None p = p
if_none (Some x) p = tt

pub ruleset function_rules = (function_none, function_some, no_function_here)

-- the head may not be applied
pub no_function : {t : Sort} (o : Option Function) (at : Span) (k : Function → Rule t) (y : InferError) → IsRefused {s = nothing_} (need_function o Y8 at (λ f. done)) y → IsRefused (need_function o Y8 at k) y
no_function None at k (Named c i told) refuse_ = refuse_
no_function None at k Memory h = tt
no_function (Some f) at k (Named c i told) h = elim h [ ]
no_function (Some f) at k Memory h = tt
