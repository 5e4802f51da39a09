-- Bounds of variables followed until the type is no variable with a bound.
use Rattle.std.specs.Prelude.{◌≡◌, ◌≢◌, ℕ, zero, suc, [], ◌∷◌}
use Rattle.pict_types.specs.Types.{PlainType, Top, Int, Char, Str, Boolean, Var, Apply, Chan, Fields, Rec, PlainBound, Free, Below, Operator, TypeContext}
use Rattle.pict_types.specs.Renaming.{rename, bound_of}

-- the type is no variable with a bound
abbrev pub HasNoBound : TypeContext → PlainType → Type 0
HasNoBound c t = (i : ℕ) (b : PlainType) → t ≡ Var i → bound_of c i ≢ Below b

pub data ExposesTo : TypeContext → PlainType → PlainType → Type 0 where
  stays : {c : TypeContext} {t : PlainType} → HasNoBound c t → ExposesTo c t t
  follows : {c : TypeContext} {i : ℕ} {b t : PlainType} → bound_of c i ≡ Below b → ExposesTo c b t → ExposesTo c (Var i) t

-- the innermost variable, by its bound: the bound is written outside it, and f exposes what is written there
abbrev pub exposure_by : PlainBound → (PlainType → PlainType) → PlainType
exposure_by Free f = Var 0
exposure_by (Below t) f = rename suc (f t)
exposure_by (Operator ms) f = Var 0

-- a type within one more variable
abbrev pub exposure_within : PlainBound → (PlainType → PlainType) → PlainType → PlainType
exposure_within b f (Var zero) = exposure_by b f
exposure_within b f (Var (suc i)) = rename suc (f (Var i))
exposure_within b f Top = Top
exposure_within b f Int = Int
exposure_within b f Char = Char
exposure_within b f Str = Str
exposure_within b f Boolean = Boolean
exposure_within b f (Apply i ts) = Apply i ts
exposure_within b f (Chan m t) = Chan m t
exposure_within b f (Fields bs ps ls) = Fields bs ps ls
exposure_within b f (Rec t) = Rec t

-- the type that a type exposes to
abbrev pub exposure : TypeContext → PlainType → PlainType
exposure [] t = t
exposure (b ∷ c) t = exposure_within b (exposure c) t
