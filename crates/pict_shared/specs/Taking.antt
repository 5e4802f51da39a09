-- One process is taken out of those that are left.
use Rattle.std.specs.Prelude.{ℕ, ◌≡◌, List, map, slice_get, Some}
use Rattle.std.specs.List.{remove}
use Rattle.std.specs.declared.alloc.Global.{Global}
use Rattle.pict_core.specs.Term.{Process}
use Rattle.pict_core.specs.Plain.{plain_core}
use Rattle.pict_core.specs.Substitution.{replace}
use Rattle.std.specs.declared.rc.Rc.{Rc}
use Rattle.pict_shared.specs.declared.shaped.Shaped.{Shaped}
use Rattle.pict_shared.specs.Alike.{renaming_by}

-- the process with its channels renamed
abbrev pub renamed_core : List ℕ → Rc Shaped Global → Process
renamed_core names rc = replace (renaming_by names) (plain_core rc.value.core)

-- one that becomes the process is taken out
abbrev pub Takes : List ℕ → List (Rc Shaped Global) → List (Rc Shaped Global) → Process → Type 0
Takes names old new p = (i : ℕ) × (slice_get (map (renamed_core names) old) i ≡ Some p) × (new ≡ remove old i)
