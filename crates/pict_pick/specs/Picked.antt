-- The run that a seed picks.
use Rattle.std.specs.Prelude.{ℕ, ◌≡◌, ◌+◌, List, [], ◌∷◌, ◌++◌, length}
use Rattle.rand_pcg.specs.Lcg.{Lcg}
use Rattle.pict_core.specs.Term.{Process}
use Rattle.pict_core.specs.Configuration.{Configuration, opening}
use Rattle.pict_core.specs.Step.{Label, Steps}
use Rattle.pict_core.specs.Run.{End, EndsAfter, shown}
use Rattle.pict_core.specs.Places.{Place, ready_entries, partners_at, outcome_at}
use Rattle.pict_seed.specs.Stream.{generator, chosen}

-- The place that the generator picks, and the generator afterwards: a ready process, and then one of its partners.
abbrev pub picked : Configuration → Lcg → Place × Lcg
picked C g =
    let i = chosen (length (ready_entries C)) g in
    let j = chosen (length (partners_at C i.0)) i.1 in
    (record { ready = i.0; partner = j.0 }, j.1)

-- From C on the generator g picks these places, one step after the other, and the steps show these labels, each with the
-- number of its step. After them stand the last configuration and the generator.
pub data Picks (C : Configuration) (g : Lcg) : List Place → List (ℕ × Label) → Configuration → Lcg → Type 0 where
  at_start : Picks C g [] [] C g
  by_step : {places : List Place} {labels : List (ℕ × Label)} {D E : Configuration} {h : Lcg} {label : Label}
      → Picks C g places labels D h → outcome_at D (picked D h).0 ≡ Steps E label
      → Picks C g (places ++ (picked D h).0 ∷ []) (labels ++ shown (length places + 1) label) E (picked D h).1

-- The run of a process that a seed picks has this end with this fuel, these places and these labels.
pub record PicksRun (p : Process) (seed fuel : ℕ) (end : End) (places : List Place) (labels : List (ℕ × Label)) : Type 0 where
  pub last : Configuration
  pub after : Lcg
  pub picks : Picks (opening p) (generator seed) places labels last after
  pub ends : EndsAfter fuel (length places) (outcome_at last (picked last after).0) end
