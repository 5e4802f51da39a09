-- The law of equal types.
use Rattle.std.specs.Prelude.{◌≡◌, ℕ, List, []}
use Rattle.pict_syntax.specs.Trees.{TypeTree}
use Rattle.pict_scope.specs.DistinctLabels.{HasDistinctLabels}
use Rattle.pict_types.specs.Entries.{PlainContext}
use Rattle.pict_normal.specs.Normal.{normal}
use Rattle.pict_alike.specs.Alike.{IsAlike}

-- types that are alike, of which no label stands twice, have one normal form, wherever they stand
abbrev pub AlikeIsEqual : Type 0
AlikeIsEqual =
    (ns : List (List ℕ)) (c : PlainContext) (t u : TypeTree) → IsAlike [] t u → HasDistinctLabels t → normal ns c t ≡ normal ns c u
