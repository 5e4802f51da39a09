-- Labelled types in the order of their labels.
use Rattle.std.specs.Prelude.{ℕ, List}
use Rattle.pict_types.specs.Types.{PlainLabels, no_label, labels}
use Rattle.pict_types.specs.Kinds.{StandsBeforeAll}

-- each label stands before all that come after it
abbrev pub AreInOrder : List (List ℕ) → PlainLabels → Type 0
AreInOrder ns no_label = Unit {0}
AreInOrder ns (labels l t ls) = StandsBeforeAll ns l ls × AreInOrder ns ls
