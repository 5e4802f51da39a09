-- How words are read: devices of the proof.
use Rattle.std.specs.Prelude.{◌≡◌, ℕ, ◌≤◌, Bool, false, List, [], ◌∷◌, Option, is_some, codes}
use Rattle.std.specs.Fmt.{decimal}
use Rattle.pict_syntax.specs.declared.limits.TheConstants.{FUEL_LIMIT}
use Rattle.pict_words.specs.Words.{Options, Command, Run, Trace, Check, Code, Load, Pick, Picked, Replay, Build, Exec, Sites, default_fuel, most_sites, IsFileWord, AsksFor, AsksWithSeed, AsksForSites}

-- the words ask for some options, with this word for a command
abbrev pub Found : List ℕ → List (List ℕ) → Type 0
Found word words = (written : Option ℕ) × (options : Options) × AsksFor word written options words

-- they ask for these options, and the fuel is written or isn't
abbrev pub IsAsked : List ℕ → Bool → Options → List (List ℕ) → Type 0
IsAsked word fueled options words = (written : Option ℕ) × (is_some written ≡ fueled) × AsksFor word written options words

-- the word writes a fuel
abbrev pub Writes : List ℕ → Type 0
Writes word = (fuel : ℕ) × (fuel ≤ FUEL_LIMIT) × (word ≡ decimal fuel)

-- the command has this word and these options; its fuel may be written
abbrev pub HasWord : List ℕ → Bool → Options → Command → Type 0
HasWord word fueled options (Run o) = (word ≡ codes "run") × (o ≡ options)
HasWord word fueled options (Trace o) = (word ≡ codes "trace") × (o ≡ options)
HasWord word fueled options (Check o) = (word ≡ codes "check") × (o ≡ options) × (fueled ≡ false)
HasWord word fueled options (Code o) = (word ≡ codes "code") × (o ≡ options) × (fueled ≡ false)
HasWord word fueled options (Load n) = ⊥
HasWord word fueled options (Pick n o) = ⊥
HasWord word fueled options (Picked n o) = ⊥
HasWord word fueled options (Replay o trace) = ⊥
HasWord word fueled options (Build o) = (word ≡ codes "build") × (o ≡ options) × (fueled ≡ false)
HasWord word fueled options (Exec fuel object) = (word ≡ codes "exec") × (options.bare ≡ false) × (fuel ≡ options.fuel) × (object ≡ options.file)
HasWord word fueled options (Sites sites n o) = ⊥

-- the command is over a file alone, and takes no seed
abbrev pub TakesNoSeed : Command → Type 0
TakesNoSeed (Load n) = ⊥
TakesNoSeed (Pick n o) = ⊥
TakesNoSeed (Picked n o) = ⊥
TakesNoSeed (Replay o trace) = ⊥
TakesNoSeed (Sites sites n o) = ⊥
TakesNoSeed _ = Unit {0}

-- ---- with a seed

-- words without the last but one
abbrev pub unseeded : List (List ℕ) → List (List ℕ)
unseeded [] = []
unseeded (word ∷ []) = word ∷ []
unseeded (seed ∷ file ∷ []) = file ∷ []
unseeded (word ∷ seed ∷ file ∷ more) = word ∷ unseeded (seed ∷ file ∷ more)

-- the last word but one
abbrev pub seed_in : List (List ℕ) → List ℕ
seed_in [] = []
seed_in (word ∷ []) = []
seed_in (seed ∷ file ∷ []) = seed
seed_in (word ∷ seed ∷ file ∷ more) = seed_in (seed ∷ file ∷ more)

-- the words ask for this seed and these options, with this word for a command
abbrev pub IsSeeded : List ℕ → ℕ → Options → List (List ℕ) → Type 0
IsSeeded word seed options words = (written : Option ℕ) × AsksWithSeed word written seed options words

-- they ask for some seed and options
abbrev pub FoundSeed : List ℕ → List (List ℕ) → Type 0
FoundSeed word words = (seed : ℕ) × (options : Options) × IsSeeded word seed options words

-- the command has this word, this seed and these options
abbrev pub HasSeedWord : List ℕ → ℕ → Options → Command → Type 0
HasSeedWord word seed options (Pick n o) = (word ≡ codes "pick") × (n ≡ seed) × (o ≡ options)
HasSeedWord word seed options (Picked n o) = (word ≡ codes "picked") × (n ≡ seed) × (o ≡ options)
HasSeedWord word seed options _ = ⊥

-- the command takes a seed, and no number of sites
abbrev pub TakesSeed : Command → Type 0
TakesSeed (Pick n o) = Unit {0}
TakesSeed (Picked n o) = Unit {0}
TakesSeed _ = ⊥

-- ---- with a number of sites

-- words without the last but two
abbrev pub unsited : List (List ℕ) → List (List ℕ)
unsited [] = []
unsited (word ∷ []) = word ∷ []
unsited (word ∷ file ∷ []) = word ∷ file ∷ []
unsited (sites ∷ seed ∷ file ∷ []) = seed ∷ file ∷ []
unsited (word ∷ sites ∷ seed ∷ file ∷ more) = word ∷ unsited (sites ∷ seed ∷ file ∷ more)

-- the last word but two
abbrev pub sites_in : List (List ℕ) → List ℕ
sites_in [] = []
sites_in (word ∷ []) = []
sites_in (word ∷ file ∷ []) = []
sites_in (sites ∷ seed ∷ file ∷ []) = sites
sites_in (word ∷ sites ∷ seed ∷ file ∷ more) = sites_in (sites ∷ seed ∷ file ∷ more)

-- words with this one before their last two
abbrev pub with_sites : List ℕ → List (List ℕ) → List (List ℕ)
with_sites sites [] = []
with_sites sites (word ∷ []) = word ∷ []
with_sites sites (seed ∷ file ∷ []) = sites ∷ seed ∷ file ∷ []
with_sites sites (word ∷ seed ∷ file ∷ more) = word ∷ with_sites sites (seed ∷ file ∷ more)

-- the word writes this number of sites
pub record WritesSites (written : List ℕ) (sites : ℕ) : Type 0 where
  pub is : written ≡ decimal sites
  pub some : 1 ≤ sites
  pub few : sites ≤ most_sites

-- the command is `sites` with this seed and these options, on as many sites as this word writes
pub record IsSitesOf (written word : List ℕ) (seed : ℕ) (options : Options) (command : Command) : Type 0 where
  pub sites : ℕ
  pub is : command ≡ Sites sites seed options
  pub named : word ≡ codes "sites"
  pub writes : WritesSites written sites

-- the words don't ask for sites
abbrev pub AsksNoSites : List (List ℕ) → Type 0
AsksNoSites words = (written : Option ℕ) (sites seed : ℕ) (options : Options) → AsksForSites written sites seed options words → ⊥

-- ---- with a second file

-- the command replays the trace of this name over this file
pub record IsReplayOf (bare : Bool) (file trace : List ℕ) (command : Command) : Type 0 where
  pub is : command ≡ Replay (record { bare = bare; fuel = default_fuel; file = file }) trace
  pub first : IsFileWord file
  pub second : IsFileWord trace
