-- Lists of processes that differ in the names of channels and in their order alone.
use Rattle.std.specs.Prelude.{ℕ, ◌≡◌, ◌<◌, Bool, List, [], ◌∷◌, map, length, slice_get, slice_index_or, Some}
use Rattle.std.specs.List.{remove}
use Rattle.pict_syntax.specs.declared.name.Name.{Name}
use Rattle.pict_core.specs.Term.{Val, Pat, Process, Var, Chan, In}
use Rattle.pict_core.specs.Plain.{plain_val}
use Rattle.pict_core.specs.Substitution.{Replacement, replace_value, replace}
use Rattle.pict_core.specs.Configuration.{Entry}
use Rattle.pict_core.specs.declared.value.CoreVal.{CoreVal}

-- the channel's new name, by a list of them; a channel past its end keeps its own
abbrev pub through : List ℕ → ℕ → ℕ
through names c = slice_index_or names c c

abbrev pub renaming_by : List ℕ → Replacement
renaming_by names = record { variable = Var; channel = λ c. Chan (through names c) }

abbrev pub renamed_field : List ℕ → Name × CoreVal → Name × Val
renamed_field names e = (e.0, replace_value (renaming_by names) (plain_val e.1))

-- an input with this subject and this pattern
abbrev pub SameHead : Val → Bool → Pat → Process → Type 0
SameHead chan replicated pattern p = (body : Process) × (p ≡ In chan replicated pattern body)

-- Each channel below the length of the first list is named by it, and the second list names it back.
abbrev pub NamesBack : List ℕ → List ℕ → Type 0
NamesBack names back = (c : ℕ) → c < length names → (through names c < length back) × (through back (through names c) ≡ c)

-- The lists have one length, and each names back what the other names.
pub record AreInverse (names back : List ℕ) : Type 0 where
  pub lengths : length names ≡ length back
  pub there : NamesBack names back
  pub again : NamesBack back names

-- the processes of entries, with their channels renamed
abbrev pub renamed_processes : List ℕ → List Entry → List Process
renamed_processes names es = map (λ (e : Entry). replace (renaming_by names) e.process) es

abbrev pub processes : List Entry → List Process
processes es = map (λ (e : Entry). e.process) es

-- The second list is the first in another order: its elements are taken out of the first one after the other.
abbrev pub Rearranges : {X : Type 0} → List X → List X → Type 0
Rearranges {X} xs [] = xs ≡ []
Rearranges {X} xs (y ∷ ys) = (i : ℕ) × (slice_get xs i ≡ Some y) × Rearranges (remove xs i) ys
