-- What a refusal of a program's scopes says.
use Rattle.std.specs.Prelude.{◌≡◌, ℕ, List, Some}
use Rattle.pict_syntax.specs.Trees.{Decs}
use Rattle.pict_scope.specs.declared.error.ScopeError.{ScopeError}
use Rattle.pict_scope.specs.declared.error.ScopeError.TheVariants.{Named, Memory}
use Rattle.pict_scope.specs.Scopes.{scope_stop}

-- it is the program's scope stop, code and place; want of memory may come at any time
abbrev pub IsScopeStop : List (List ℕ) → Decs → ScopeError → Type 0
IsScopeStop texts p (Named code span) = scope_stop texts p ≡ Some (code, span)
IsScopeStop texts p Memory = Unit {0}
