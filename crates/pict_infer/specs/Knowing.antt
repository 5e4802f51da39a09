-- Values and type variables that are known: their plain values in the type variables of a place.
use Rattle.std.specs.Prelude.{ℕ, ◌-◌, max, List, [], ◌∷◌, map, reverse}
use Rattle.pict_types.specs.Plain.{plain, plain_bound}
use Rattle.pict_rules.specs.Environments.{KnownType, KnownValue, shifted_by}
use Rattle.pict_infer.specs.declared.known.Known.{Known}
use Rattle.pict_infer.specs.declared.known.Binder.{Binder}

-- the names, the nearest first
abbrev pub names_known : List Known → List ℕ
names_known vs = reverse (map (λ v. v.name.0) vs)

-- a value where n type variables are known: its type goes past those that are inside it
abbrev pub known_value : ℕ → Known → KnownValue
known_value n v = record { name = v.name.0; has = shifted_by (n - v.depth) (plain v.has) }

-- the values, the nearest first
abbrev pub known_values : ℕ → List Known → List KnownValue
known_values n vs = reverse (map (known_value n) vs)

-- in how many type variables the types of these are written at most
abbrev pub deepest : List Known → ℕ
deepest [] = 0
deepest (v ∷ vs) = max v.depth (deepest vs)

abbrev pub known_type : Binder → KnownType
known_type b = record { name = b.name.0; bound = plain_bound b.bound }

-- the type variables, the innermost first
abbrev pub known_types : List Binder → List KnownType
known_types bs = reverse (map known_type bs)
