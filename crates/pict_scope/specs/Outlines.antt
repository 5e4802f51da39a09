-- Outlines: of a piece of program, what uses names, what binds them, and how far.
use Rattle.std.specs.Prelude.{ℕ, Bool, true, false, List, [], ◌∷◌, ◌++◌, Option, Some, None}
use Rattle.pict_syntax.specs.declared.code.Code.{Code}
use Rattle.pict_syntax.specs.declared.code.Code.TheVariants.{S3}
use Rattle.pict_syntax.specs.declared.span.Span.{Span}
use Rattle.pict_syntax.specs.declared.id.Id.{Id}
use Rattle.pict_binders.specs.Numbered.{nearest}
use Rattle.pict_scope.specs.Around.{Around, meaning, is_among, with_value, with_values, with_pattern_value, past_type, with_type, with_pattern_type, with_group, behind, before_pattern, behind_pattern, in_pattern}
use Rattle.pict_scope.specs.Marks.{Mark, value_used, type_used, value_bound, stands_twice}

infixr 60 ◌▸◌
pub data Outline : Type 0 where
  empty : Outline
  -- one after the other: the second is in the scope of what the first binds
  ◌▸◌ : Outline → Outline → Outline
  -- what is bound inside ends with it
  closed : Outline → Outline
  value_use type_use : Span → ℕ → Outline
  -- a binder of a value, over what comes after it
  binds_value : Id → Outline
  -- a binder of a type, over what comes after the outline that stands right behind it
  binds_type : Id → Outline → Outline
  -- the names of a `def`, all bound before any of them is read; and one of them, where it is read
  binds_all : List Id → Outline
  defines : Id → Outline
  -- the same two in a pattern, where each name may be bound once. A value is bound over the body alone
  pattern_value : Id → Outline
  pattern_type : Id → Outline → Outline
  -- a pattern, and what stands behind it out of its scope. It binds over what comes after both
  pattern : Outline → Outline → Outline
  -- a group, and a name that may stand once in its group; the code where it stands again
  group : Outline → Outline
  once : Code → Id → Outline

abbrev pub twice_if : Bool → Code → Id → List Mark
twice_if true c x = stands_twice c x.span ∷ []
twice_if false c x = []

abbrev pub twice_if_bound : Option ℕ → Id → List Mark
twice_if_bound (Some number) x = stands_twice S3 x.span ∷ []
twice_if_bound None x = []

abbrev pub bound_as : Option ℕ → List Mark
bound_as (Some number) = value_bound number ∷ []
bound_as None = []

-- what stands around that which comes after an outline
unfoldable pub opens : Outline → Around → Around
opens empty a = a
opens (o ▸ p) a = opens p (opens o a)
opens (closed o) a = behind a (opens o a)
opens (value_use s n) a = a
opens (type_use s n) a = a
opens (binds_value x) a = with_value x a
opens (binds_type x o) a = with_type x a.next_type (opens o (past_type a))
opens (binds_all xs) a = with_values xs a
opens (defines x) a = a
opens (pattern_value x) a = with_pattern_value x a
opens (pattern_type x o) a = with_pattern_type x a.next_type (opens o (past_type a))
opens (pattern o p) a = in_pattern (opens o (before_pattern a)) (opens p (behind_pattern a (opens o (before_pattern a))))
opens (group o) a = with_group a.group (opens o (with_group [] a))
opens (once c x) a = with_group (x.name.0 ∷ a.group) a

-- its marks, where this stands around it
unfoldable pub marks : Outline → Around → List Mark
marks empty a = []
marks (o ▸ p) a = marks o a ++ marks p (opens o a)
marks (closed o) a = marks o a
marks (value_use s n) a = value_used s (meaning a n) ∷ []
marks (type_use s n) a = type_used s (nearest a.types_ n) ∷ []
marks (binds_value x) a = value_bound a.next_value ∷ []
marks (binds_type x o) a = marks o (past_type a)
marks (binds_all xs) a = []
marks (defines x) a = bound_as (nearest a.values x.name.0)
marks (pattern_value x) a = twice_if_bound (nearest a.pattern_values x.name.0) x ++ value_bound a.next_value ∷ []
marks (pattern_type x o) a = twice_if_bound (nearest a.pattern_types x.name.0) x ++ marks o (past_type a)
marks (pattern o p) a = marks o (before_pattern a) ++ marks p (behind_pattern a (opens o (before_pattern a)))
marks (group o) a = marks o (with_group [] a)
marks (once c x) a = twice_if (is_among a.group x.name.0) c x
