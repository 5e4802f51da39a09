-- What stands around the rest while it is not built yet.
use Rattle.std.specs.Prelude.{true, List, [], ◌∷◌}
use Rattle.pict_core.specs.Term.{Val, Pat, Process, Par, New, In}

pub data Layer : Type 0 where
  NewLayer : Layer
  -- this process | the rest
  BesideLayer : Process → Layer
  -- (x?*p = the rest) | this process
  ReaderLayer : Val → Pat → Process → Layer

abbrev pub around : List Layer → Process → Process
around [] rest = rest
around (NewLayer ∷ layers) rest = New (around layers rest)
around (BesideLayer p ∷ layers) rest = Par p (around layers rest)
around (ReaderLayer x p sent ∷ layers) rest = Par (In x true p (around layers rest)) sent
