-- The laws of hints.
use Rattle.std.specs.Prelude.{◌≡◌, ◌↔◌, Bool, List, [], ◌∷◌, Some, IsTrue}
use Rattle.pict_unused.specs.declared.item.Role.{Role}
use Rattle.pict_unused.specs.declared.item.Form.{Form}
use Rattle.pict_unused.specs.declared.item.Form.TheVariants.{New}
use Rattle.pict_unused.specs.declared.certain.Said.{Said}
use Rattle.pict_unused.specs.declared.certain.Said.TheVariants.{NeverUsed, NobodyReceives, NobodySends}
use Rattle.pict_unused.specs.Hints.{sends, receives, said_of}

-- each role is so
abbrev pub AreAll : (Role → Bool) → List Role → Type 0
AreAll f [] = Unit {0}
AreAll f (role ∷ roles) = IsTrue (f role) × AreAll f roles

-- certain of a binder of this form that is used in these roles: it isn't used; or `new` binds it, it is used, and each use sends on
-- it, by an output or a call; or each receives on it
abbrev pub IsCertain : Said → Form → List Role → Type 0
IsCertain NeverUsed form roles = roles ≡ []
IsCertain NobodyReceives form roles = (form ≡ New) × ((roles ≡ [] → ⊥) × AreAll sends roles)
IsCertain NobodySends form roles = (form ≡ New) × ((roles ≡ [] → ⊥) × AreAll receives roles)

-- what is said of a binder is exactly what is certain of it
abbrev pub OnlyCertainIsSaid : Type 0
OnlyCertainIsSaid = (said : Said) (form : Form) (roles : List Role) → (said_of form roles ≡ Some said) ↔ IsCertain said form roles
