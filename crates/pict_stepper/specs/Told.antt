-- What steps tell: what is shown, and who is there after them.
use Rattle.std.specs.Prelude.{ℕ, suc, Bool, false, ◌||◌, not, nat_eq, nat_lt, if◌then◌else◌, List, [], ◌∷◌, ◌++◌, map, filter, Option, Some, None, option_map}
use Rattle.pict_core.specs.Configuration.{Entry}
use Rattle.pict_core.specs.Step.{Label}
use Rattle.pict_core.specs.Run.{shown}
use Rattle.pict_reference.specs.Plain.{plain_entry, plain_label}
use Rattle.pict_stepper.specs.declared.run.Step.{Step}

abbrev pub stamp_of : Option Entry → Option ℕ
stamp_of o = option_map (λ (e : Entry). e.stamp) o

abbrev pub is_stamp_of : Option ℕ → ℕ → Bool
is_stamp_of None s = false
is_stamp_of (Some r) s = nat_eq r s

-- the stamp is that of who acts or of the partner
abbrev pub is_either : ℕ → Option ℕ → ℕ → Bool
is_either actor partner s = nat_eq actor s || is_stamp_of partner s

-- an entry at its place among others, by its stamp
abbrev pub put : Entry → List Entry → List Entry
put e [] = e ∷ []
put e (d ∷ es) = if nat_lt d.stamp e.stamp then d ∷ put e es else e ∷ d ∷ es

abbrev pub put_all : List Entry → List Entry → List Entry
put_all [] es = es
put_all (e ∷ new) es = put e (put_all new es)

-- in a step who acts and the partner leave, and then those come that are told
abbrev pub after_step : List Entry → Step → List Entry
after_step es t =
    put_all (map plain_entry t.come.items) (filter (λ e. not (is_either t.actor.stamp (stamp_of (option_map plain_entry t.partner)) e.stamp)) es)

-- who is there after the steps, of those who were there before
abbrev pub after_steps : List Entry → List Step → List Entry
after_steps es [] = es
after_steps es (t ∷ ts) = after_steps (after_step es t) ts

-- what the steps show, each label that isn't quiet with its step's number; the first step has this number
abbrev pub shown_by : ℕ → List Step → List (ℕ × Label)
shown_by n [] = []
shown_by n (t ∷ ts) = shown n (plain_label t.label) ++ shown_by (suc n) ts
