-- Arguments of operator type fields, which vary as the fields' marks say.
use Rattle.std.specs.Prelude.{◌≡◌, Bool, true, List, [], ◌∷◌}
use Rattle.pict_types.specs.Types.{PlainBound, Free, Below, Operator, PlainBounds, no_bound, bounds, PlainArg, TypeContext}
use Rattle.pict_types.specs.Variance.{varies}

-- an argument varies as its type field's marks say; nothing is asked where the field is no operator
abbrev pub varies_as : TypeContext → PlainArg → PlainBound → Bool
varies_as c a Free = true
varies_as c a (Below t) = true
varies_as c a (Operator ms) = varies c a ms

-- so with each argument that has a type field
abbrev pub VaryAsMarked : TypeContext → List PlainArg → PlainBounds → Type 0
VaryAsMarked c [] bs = Unit {0}
VaryAsMarked c (a ∷ args) no_bound = Unit {0}
VaryAsMarked c (a ∷ args) (bounds b bs) = (varies_as c a b ≡ true) × VaryAsMarked c args bs
