-- The law of names in the translation.
use Rattle.std.specs.Prelude.{◌≡◌, ℕ, List, None}
use Rattle.pict_syntax.specs.Trees.{Decs}
use Rattle.pict_scope.specs.Scopes.{scope_stop}
use Rattle.pict_translation.specs.Translation.{program_core}
use Rattle.pict_apart.specs.Apart.{apart}

-- Where no rule of scopes fails, the core process is that of the program renamed apart, in which no two binders of values have
-- one name: so whatever a look-up by name finds is the binder that the scopes tell.
abbrev pub ApartIsSame : Type 0
ApartIsSame = (names : List (List ℕ)) (p : Decs) → scope_stop names p ≡ None → program_core names (apart names p) ≡ program_core names p
