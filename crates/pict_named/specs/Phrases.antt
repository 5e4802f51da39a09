-- Pieces of program as to scopes: what uses a name, and which part is the scope of which binders.
use Rattle.std.specs.Prelude.{◌≡◌, ℕ, List, [], ◌∷◌, ◌++◌}
use Rattle.pict_syntax.specs.declared.id.Id.{Id}

infixr 60 ◌⨾◌
pub data Phrase : Type 0 where
  -- nothing that uses a name
  nothing : Phrase
  -- a use of a value, and of a type
  uses_value uses_type : ℕ → Phrase
  -- one read after the other
  ◌⨾◌ : Phrase → Phrase → Phrase
  -- a part that is the scope of these binders of values, or of types
  over_values over_types : List Id → Phrase → Phrase

-- a use of a name, and the binders whose scopes hold it. A scope that lies in another is nearer than that one, so its binders come first
pub record Use : Type 0 where
  pub name : ℕ
  pub around : List Id

-- the uses of values in a phrase that these scopes hold, in reading order
abbrev pub value_uses : List Id → Phrase → List Use
value_uses around nothing = []
value_uses around (uses_value n) = record { name = n; around = around } ∷ []
value_uses around (uses_type n) = []
value_uses around (p ⨾ q) = value_uses around p ++ value_uses around q
value_uses around (over_values xs p) = value_uses (xs ++ around) p
value_uses around (over_types xs p) = value_uses around p

-- and the uses of types
abbrev pub type_uses : List Id → Phrase → List Use
type_uses around nothing = []
type_uses around (uses_value n) = []
type_uses around (uses_type n) = record { name = n; around = around } ∷ []
type_uses around (p ⨾ q) = type_uses around p ++ type_uses around q
type_uses around (over_values xs p) = type_uses around p
type_uses around (over_types xs p) = type_uses (xs ++ around) p

-- none of these binders has the name
abbrev pub AreOthers : ℕ → List Id → Type 0
AreOthers n [] = Unit {0}
AreOthers n (x ∷ xs) = (x.name.0 ≡ n → ⊥) × AreOthers n xs

-- of the binders whose scopes hold a use of the name, this one has the name, and none that is nearer has it
pub record IsNearest (n : ℕ) (around : List Id) (x : Id) : Type 0 where
  pub nearer : List Id
  pub further : List Id
  pub holds : around ≡ nearer ++ x ∷ further
  pub named : x.name.0 ≡ n
  pub none_nearer : AreOthers n nearer
