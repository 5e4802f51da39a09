-- The type of the answer of a function: where a record has it, and where it is written.
use Rattle.std.proofs.Common.{◌≡◌, ◌<◌, ◌-◌, ℕ, zero, suc, List, [], ◌∷◌, length, get_or, take, refl, sym, ◌∙◌, ap, subst, arith, Option, Some, None}
use Rattle.pict_syntax.specs.declared.code.Code.TheVariants.{Y4}
use Rattle.pict_syntax.specs.declared.span.Span.{Span}
use Rattle.pict_syntax.specs.Grammar.{type_span}
use Rattle.pict_syntax.specs.Trees.{TypeTree}
use Rattle.pict_types.specs.declared.types.Record.{Record}
use Rattle.pict_types.specs.declared.types.Ty.{Ty}
use Rattle.pict_types.specs.Plain.{plain, plain_bounds, plain_labels, plain_types}
use Rattle.pict_types.specs.Types.{PlainType, under}
use Rattle.pict_types.proofs.Past.{not_moved}
use Rattle.pict_sub.specs.Exposing.{exposure}
use Rattle.pict_rules.specs.Environments.{Environment, context_of, shifted_by}
use Rattle.pict_rules.specs.Rules.{is_subtype, give, need, ok}
use Rattle.pict_rules.specs.Derivations.{Runs, give_}
use Rattle.pict_rules.specs.Shapes.{put_first, sendable, split_last, with_answer, with_last}
use Rattle.pict_infer.specs.declared.error.InferError.{InferError}
use Rattle.pict_infer.specs.Answering.{IsRefused}
use Rattle.pict_infer.specs.Steps.{below, expanded}
use Rattle.pict_infer.proofs.Through.{refused_on, refused_past}
use Rattle.pict_lines.specs.Definitions.{body_type, function_with, record_answers}
use Rattle.pict_lines.proofs.Ends.{belows, expands}

-- THE LAST POSITIONAL FIELD OF A RECORD

last_is : (xs : List Ty) (n : ℕ) (x : Ty) → suc n ≡ length xs → x ≡ get_or xs n x → split_last (plain_types xs) ≡ Some (plain_types (take n xs), plain x)
last_is [] n x h is = absurd (omega (arith, h))
last_is (y ∷ []) zero x h is = ap (λ z. put_first (plain z) None) (sym is)
last_is (y ∷ []) (suc n) x h is = absurd (omega (arith, h))
last_is (y ∷ z ∷ xs) zero x h is = absurd (omega (arith, h))
last_is (y ∷ z ∷ xs) (suc n) x h is = ap (put_first (plain y)) (last_is (z ∷ xs) n x (omega (arith, h)) is)

answers_by : (e : Environment) (r : Record) (x : Ty) (o : Option PlainType) → 0 < length r.positional.items → x ≡ get_or r.positional.items (length r.positional.items - 1) x → sendable (exposure (under (context_of e) (plain_bounds r.binders.items)) (plain x)) ≡ o
    → record_answers e r ≡ with_answer (plain_bounds r.binders.items) (plain_labels r.labelled.items) (plain_types (take (length r.positional.items - 1) r.positional.items)) o
answers_by e r x o l is h =
    ap (with_last (λ last. sendable (exposure (under (context_of e) (plain_bounds r.binders.items)) last)) (plain_bounds r.binders.items) (plain_labels r.labelled.items))
    (last_is r.positional.items (length r.positional.items - 1) x (omega (arith, l)) is)
    ∙ ap (with_answer (plain_bounds r.binders.items) (plain_labels r.labelled.items) (plain_types (take (length r.positional.items - 1) r.positional.items))) h

pub answers_some : (e : Environment) (r : Record) (x : Ty) (u : PlainType) → 0 < length r.positional.items → x ≡ get_or r.positional.items (length r.positional.items - 1) x → sendable (exposure (under (context_of e) (plain_bounds r.binders.items)) (plain x)) ≡ Some u → record_answers e r ≡ Some (function_with r u)
answers_some e r x u l is h = answers_by e r x (Some u) l is h

pub answers_none : (e : Environment) (r : Record) (x : Ty) → 0 < length r.positional.items → x ≡ get_or r.positional.items (length r.positional.items - 1) x → sendable (exposure (under (context_of e) (plain_bounds r.binders.items)) (plain x)) ≡ None → record_answers e r ≡ None
answers_none e r x l is h = answers_by e r x None l is h

none_is : (xs : List Ty) → length xs ≡ 0 → split_last (plain_types xs) ≡ None
none_is [] h = refl
none_is (x ∷ xs) h = absurd (omega (arith, h))

pub answers_empty : (e : Environment) (r : Record) → length r.positional.items ≡ 0 → record_answers e r ≡ None
answers_empty e r h =
    ap (with_last (λ last. sendable (exposure (under (context_of e) (plain_bounds r.binders.items)) last)) (plain_bounds r.binders.items) (plain_labels r.labelled.items)) (none_is r.positional.items h)

-- A WRITTEN RESULT TYPE

pub written_refused : (d : Environment) (a : TypeTree) (u : PlainType) (y : InferError) → IsRefused (expanded d a) y → IsRefused (body_type d (Some a) u) y
written_refused d a u y h = refused_on y (expands d a (λ t. need (is_subtype (context_of d) t u) Y4 (type_span a) (give t))) h

pub written_not_below : (d : Environment) (a : TypeTree) (u t : PlainType) (at : Span) (y : InferError) → at ≡ type_span a → Runs (expanded d a) (ok t) → IsRefused (below d t u Y4 at) y → IsRefused (body_type d (Some a) u) y
written_not_below d a u t at y is p h =
    refused_past t y (expands d a (λ t. need (is_subtype (context_of d) t u) Y4 (type_span a) (give t))) p
    (refused_on y (belows d t u Y4 (type_span a) (give t)) (subst (λ z. IsRefused (below d t u Y4 z) y) is h))

pub written_below : (d : Environment) (a : TypeTree) (u t : PlainType) (at : Span) → at ≡ type_span a → Runs (expanded d a) (ok t) → Runs (below d t u Y4 at) (ok tt) → Runs (body_type d (Some a) u) (ok t)
written_below d a u t at is p h =
    (expands d a (λ t. need (is_subtype (context_of d) t u) Y4 (type_span a) (give t))).on_ok t (ok t) p
    ((belows d t u Y4 (type_span a) (give t)).on_ok tt (ok t) (subst (λ z. Runs (below d t u Y4 z) (ok tt)) is h) give_)

-- PAST NO VARIABLE

pub past_none : (n : ℕ) (t : PlainType) → n ≡ 0 → t ≡ shifted_by n t
past_none n t h = sym (ap (λ m. shifted_by m t) h ∙ not_moved 0 t)
