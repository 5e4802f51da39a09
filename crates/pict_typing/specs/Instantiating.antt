-- Types and operators put for the type variables of a world.
use Rattle.std.specs.Prelude.{ℕ, List, map}
use Rattle.pict_types.specs.Types.{TypeContext}
use Rattle.pict_types.specs.Replacing.{Replacement, replace}
use Rattle.pict_types.specs.Kinds.{kinds}
use Rattle.pict_types.specs.Fitting.{ReplacesKinds}
use Rattle.pict_types.specs.NormalTypes.{ReplacesNormal}
use Rattle.pict_sub.specs.Laws.{IsWithinBounds}
use Rattle.pict_typing.specs.Worlds.{World}

-- r puts for the variables of c well formed types and operators, written in d, of their kinds and within their bounds
pub record Instantiates (names : List (List ℕ)) (r : Replacement) (c d : TypeContext) : Type 0 where
  pub within : IsWithinBounds names r c d
  pub kept : ReplacesKinds names r (kinds c) (kinds d)
  pub normal : ReplacesNormal r

-- the world with the type variables of d, once r is put for its own
abbrev pub instantiated : Replacement → TypeContext → World → World
instantiated r d w = record w { type_variables = d; variables = map (replace r) w.variables }
