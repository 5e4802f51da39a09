-- What a shelf gives under a name.
use Rattle.std.specs.Prelude.{◌≡◌, ℕ, List, Option, Some, None, IfSome}
use Rattle.pict_outside.specs.Texts.{Texts, text_of}

-- a text, none, or a fault of the shelf
pub data Fetch : Type 0 where
  text : List ℕ → Fetch
  missing : Fetch
  fault : Fetch

-- what a shelf that doesn't fail may give, if it holds, where it tells them, these texts
abbrev pub MayGive : Option Texts → List ℕ → Fetch → Type 0
MayGive held name (text t) = IfSome held (λ texts. text_of texts name ≡ Some t)
MayGive held name missing = IfSome held (λ texts. text_of texts name ≡ None)
MayGive held name fault = ⊥

-- what a shelf may give that may fail
abbrev pub MayGiveOrFail : Option Texts → List ℕ → Fetch → Type 0
MayGiveOrFail held name fault = Unit {0}
MayGiveOrFail held name f = MayGive held name f
