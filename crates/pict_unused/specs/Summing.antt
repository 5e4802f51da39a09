-- In which roles binders are used, by their numbers, as a table in which who isn't there has no use.
use Rattle.std.specs.Prelude.{◌≡◌, ℕ, nat_eq, false, ◌||◌, List, get_or, if◌then◌else◌}
use Rattle.std.specs.List.{list_any}
use Rattle.pict_scope.specs.declared.target.Target.{Target}
use Rattle.pict_scope.specs.declared.target.Target.TheVariants.{Prim, Binder}
use Rattle.pict_unused.specs.declared.item.Role.{Role}
use Rattle.pict_unused.specs.declared.summing.Uses.{Uses}
use Rattle.pict_unused.specs.Hints.{roles_of, sends, receives, hands_on}

abbrev pub no_uses : Uses
no_uses = record { sends = false; receives = false; hands_on = false }

abbrev pub and_use : Role → Uses → Uses
and_use role u = record { sends = sends role || u.sends; receives = receives role || u.receives; hands_on = hands_on role || u.hands_on }

-- whether some of the roles sends, receives, hands on
abbrev pub summary : List Role → Uses
summary roles = record { sends = list_any sends roles; receives = list_any receives roles; hands_on = list_any hands_on roles }

-- the table has this of each binder
abbrev pub AreSummed : List Role → List Target → List Uses → Type 0
AreSummed roles targets table = (b : ℕ) → get_or table b no_uses ≡ summary (roles_of b roles targets)

-- one use more of the binder with this number, and of every other as before
abbrev pub Notes : ℕ → Role → List Uses → List Uses → Type 0
Notes number role old new = (b : ℕ) → get_or new b no_uses ≡ (if nat_eq b number then and_use role (get_or old b no_uses) else get_or old b no_uses)

abbrev pub SameUses : List Uses → List Uses → Type 0
SameUses old new = (b : ℕ) → get_or new b no_uses ≡ get_or old b no_uses

abbrev pub NotesMeant : Target → Role → List Uses → List Uses → Type 0
NotesMeant (Prim p) role old new = SameUses old new
NotesMeant (Binder number) role old new = Notes number role old new
