-- What stands around a place of a program: the binders in whose scope it is, the nearest first.
use Rattle.std.specs.Prelude.{ℕ, suc, nat_eq, Bool, false, ◌||◌, List, [], ◌∷◌, ◌++◌, Option, Some, None}
use Rattle.std.specs.Option.{option_map}
use Rattle.pict_syntax.specs.declared.id.Id.{Id}
use Rattle.pict_syntax.specs.Names.{text_of}
use Rattle.pict_scope.specs.PrimitiveNames.{primitive_named}
use Rattle.pict_binders.specs.declared.binders.Binder.{Binder}
use Rattle.pict_binders.specs.Numbered.{nearest}
use Rattle.pict_scope.specs.declared.target.Target.{Target}
use Rattle.pict_scope.specs.declared.target.Target.TheVariants.{Prim, Binder as BinderTarget}

pub record Around : Type 0 where
  -- the text of each name
  pub texts : List (List ℕ)
  -- the binders of values and of types
  pub values : List Binder
  pub types_ : List Binder
  -- what the pattern that is being read has bound so far, over the body alone
  pub pattern_values : List Binder
  pub pattern_types : List Binder
  -- the names so far in the group that is being read, in which each may stand once
  pub group : List ℕ
  -- the numbers of the next binders. Values and types are numbered apart, in the order in which they are bound
  pub next_value : ℕ
  pub next_type : ℕ

-- what a value use means: its nearest binder, or else the primitive
abbrev pub or_primitive : Option ℕ → List ℕ → Option Target
or_primitive (Some number) text = Some (BinderTarget number)
or_primitive None text = option_map Prim (primitive_named text)

abbrev pub meaning : Around → ℕ → Option Target
meaning a n = or_primitive (nearest a.values n) (text_of a.texts n)

abbrev pub is_among : List ℕ → ℕ → Bool
is_among [] n = false
is_among (m ∷ ms) n = nat_eq m n || is_among ms n

abbrev pub binder_of : Id → ℕ → Binder
binder_of x number = record { name = x.name.0; number = number }

-- with one binder more
abbrev pub with_value : Id → Around → Around
with_value x a = record a { values = binder_of x a.next_value ∷ a.values; next_value = suc a.next_value }

abbrev pub with_values : List Id → Around → Around
with_values [] a = a
with_values (x ∷ xs) a = with_values xs (with_value x a)

abbrev pub with_pattern_value : Id → Around → Around
with_pattern_value x a = record a { pattern_values = binder_of x a.next_value ∷ a.pattern_values; next_value = suc a.next_value }

-- a type gets its number at its identifier, and is bound later
abbrev pub past_type : Around → Around
past_type a = record a { next_type = suc a.next_type }

abbrev pub with_type : Id → ℕ → Around → Around
with_type x number a = record a { types_ = binder_of x number ∷ a.types_ }

abbrev pub with_pattern_type : Id → ℕ → Around → Around
with_pattern_type x number a = record a { types_ = binder_of x number ∷ a.types_; pattern_types = binder_of x number ∷ a.pattern_types }

-- with these names in the group
abbrev pub with_group : List ℕ → Around → Around
with_group names a = record a { group = names }

-- the place behind a phrase: what it bound ends with it
abbrev pub behind : Around → Around → Around
behind a inside = record inside { values = a.values; types_ = a.types_ }

-- before a pattern, and behind it, with what stands behind not in its scope
abbrev pub before_pattern : Around → Around
before_pattern a = record a { pattern_values = []; pattern_types = [] }

abbrev pub behind_pattern : Around → Around → Around
behind_pattern a inside = record inside { values = a.values; types_ = a.types_; pattern_values = a.pattern_values; pattern_types = a.pattern_types }

-- in the scope of a pattern
abbrev pub in_pattern : Around → Around → Around
in_pattern inside a = record a { values = inside.pattern_values ++ a.values; types_ = inside.pattern_types ++ a.types_ }
