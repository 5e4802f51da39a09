-- What stands in a text as to scopes, in reading order: uses with what they mean, binders, and names that stand twice.
use Rattle.std.specs.Prelude.{ℕ, nat_eq, List, [], ◌∷◌, Option, Some, None}
use Rattle.std.specs.List.{position_or_len}
use Rattle.pict_syntax.specs.declared.code.Code.{Code}
use Rattle.pict_syntax.specs.declared.code.Code.TheVariants.{S1, S2}
use Rattle.pict_syntax.specs.declared.span.Span.{Span}
use Rattle.pict_syntax.specs.Stops.{Stop}
use Rattle.pict_scope.specs.declared.target.Target.{Target}
use Rattle.pict_scope.specs.declared.target.Target.TheVariants.{Prim, Binder}

pub data Mark : Type 0 where
  -- a use of a value, and of a type
  value_used : Span → Option Target → Mark
  type_used : Span → Option ℕ → Mark
  -- the identifier of the binder of a value that has this number
  value_bound : ℕ → Mark
  -- a name that stood already where it may stand once
  stands_twice : Code → Span → Mark

abbrev pub or_later : Mark → Option Stop → Option Stop
or_later (value_used s None) later = Some (S1, s)
or_later (value_used s (Some t)) later = later
or_later (type_used s None) later = Some (S2, s)
or_later (type_used s (Some n)) later = later
or_later (value_bound n) later = later
or_later (stands_twice c s) later = Some (c, s)

-- the first mark that is refused: a value without binder, a type without binder, a name that stands twice
abbrev pub first_stop : List Mark → Option Stop
first_stop [] = None
first_stop (m ∷ ms) = or_later m (first_stop ms)

-- what the uses of values mean, in reading order
abbrev pub and_value_meaning : Mark → List Target → List Target
and_value_meaning (value_used s (Some t)) later = t ∷ later
and_value_meaning _ later = later

abbrev pub value_meanings : List Mark → List Target
value_meanings [] = []
value_meanings (m ∷ ms) = and_value_meaning m (value_meanings ms)

-- and those of types
abbrev pub and_type_meaning : Mark → List ℕ → List ℕ
and_type_meaning (type_used s (Some n)) later = n ∷ later
and_type_meaning _ later = later

abbrev pub type_meanings : List Mark → List ℕ
type_meanings [] = []
type_meanings (m ∷ ms) = and_type_meaning m (type_meanings ms)

-- the binders of values, in reading order
abbrev pub and_binder : Mark → List ℕ → List ℕ
and_binder (value_bound n) later = n ∷ later
and_binder _ later = later

abbrev pub binders_read : List Mark → List ℕ
binders_read [] = []
binders_read (m ∷ ms) = and_binder m (binders_read ms)

-- a binder of a value by its place among these
abbrev pub by_place : List ℕ → Target → Target
by_place order (Prim p) = Prim p
by_place order (Binder n) = Binder (position_or_len (λ m. nat_eq n m) order)
