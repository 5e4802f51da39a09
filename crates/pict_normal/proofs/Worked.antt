-- Normal forms and refusals at worked examples, each by computing.
use Rattle.std.proofs.Common.{◌≡◌, [], ◌∷◌, refl}
use Rattle.pict_types.specs.Types.{Top, Int, Var, Fields, no_type, types, no_label, Free, no_bound, bounds, Op}
use Rattle.std.specs.Prelude.{ℕ, Some, None}
use Rattle.pict_types.specs.Types.{labels}
use Rattle.pict_syntax.specs.declared.code.Code.TheVariants.{K1, K2}
use Rattle.pict_syntax.specs.declared.span.Span.{Span}
use Rattle.pict_syntax.specs.declared.id.Id.{Id}
use Rattle.pict_syntax.specs.Trees.{top_type, int_type, use_type, fields_type, apply_type, type_binder, bound, no_types, more_types, no_binders, more_binders, no_labelled_types, more_labelled_types}
use Rattle.pict_types.specs.Entries.{PlainContext, Definition}
use Rattle.pict_normal.specs.Normal.{normal, kind_stop}

abbrev id_at : Span → ℕ → Id
id_at s n = record { name = record { 0 = n }; span = s }

-- the operator (K X) = Int, under the name 7
abbrev constant : PlainContext
constant = record { name = 7; what = Definition (Op 1 Int) } ∷ []

-- a dropped argument is gone
dropped : (s : Span) → normal [] constant (apply_type s (id_at s 7) (more_types no_types (top_type s))) ≡ Int
dropped s = refl

-- bare it is refused, with two arguments too, and with one it isn't
bare : (s : Span) → kind_stop [] constant (use_type s (record { 0 = 7 })) ≡ Some (K2, s)
bare s = refl

too_many : (s : Span) → kind_stop [] constant (apply_type s (id_at s 7) (more_types (more_types no_types (top_type s)) (top_type s))) ≡ Some (K1, s)
too_many s = refl

one : (s : Span) → kind_stop [] constant (apply_type s (id_at s 7) (more_types no_types (top_type s))) ≡ None
one s = refl

-- [b=Int a=Top] has its labels in the order of their bytes; here b has the number 0 and a the number 1
in_byte_order : (s : Span) → normal ((98 ∷ []) ∷ (97 ∷ []) ∷ []) [] (fields_type s no_binders no_types (more_labelled_types (more_labelled_types no_labelled_types (id_at s 0) (int_type s)) (id_at s 1) (top_type s))) ≡ Fields no_bound no_type (labels 1 Top (labels 0 Int no_label))
in_byte_order s = refl

-- #X<Top is #X, and [#X<Top X] is [#X X]
top_is_none : (s : Span) → normal [] [] (fields_type s (more_binders no_binders (type_binder s (id_at s 3) None (bound (top_type s)))) (more_types no_types (use_type s (record { 0 = 3 }))) no_labelled_types) ≡ Fields (bounds Free no_bound) (types (Var 0) no_type) no_label
top_is_none s = refl
