-- The words after the program's name: their shapes, and the command that each shape stands for.
use Rattle.std.specs.Prelude.{◌≡◌, ◌≢◌, ℕ, ◌≤◌, ◌<◌, ◌^◌, Bool, true, false, List, [], ◌∷◌, ◌++◌, Option, Some, None, unwrap_or, slice_index, codes}
use Rattle.std.specs.Fmt.{decimal}
use Rattle.pict_syntax.specs.declared.limits.TheConstants.{FUEL_LIMIT}

-- how a command takes its text: alone or after the prelude, for up to so many steps, and from which file
pub record Options : Type 0 where
  pub bare : Bool
  pub fuel : ℕ
  pub file : List ℕ

-- what a list of words asks for
pub data Command : Type 0 where
  Run : Options → Command
  Trace : Options → Command
  Check : Options → Command
  Code : Options → Command
  Load : ℕ → Command
  Pick : ℕ → Options → Command
  Picked : ℕ → Options → Command
  Replay : Options → List ℕ → Command
  Build : Options → Command
  Exec : ℕ → List ℕ → Command
  Sites : ℕ → ℕ → Options → Command

-- the fuel without `--fuel`
abbrev pub default_fuel : ℕ
default_fuel = 1000000

-- the greatest number of sites
abbrev pub most_sites : ℕ
most_sites = 64

-- there may be so many sites
abbrev pub IsSiteCount : ℕ → Type 0
IsSiteCount sites = (1 ≤ sites) × (sites ≤ most_sites)

-- a word that may name a file: it isn't empty and doesn't begin with `-`
pub record IsFileWord (word : List ℕ) : Type 0 where
  pub not_empty : word ≢ []
  pub no_dash : slice_index word 0 ≢ 45

-- `--bare`, where the text stands alone
abbrev pub bare_words : Bool → List (List ℕ)
bare_words true = codes "--bare" ∷ []
bare_words false = []

-- `--fuel N`, where the fuel is written: in decimal, without a sign and without a leading zero
abbrev pub fuel_words : Option ℕ → List (List ℕ)
fuel_words None = []
fuel_words (Some fuel) = codes "--fuel" ∷ decimal fuel ∷ []

-- `COMMAND [--bare] [--fuel N] FILE`, with this word for the command and this fuel, where it is written
pub record AsksFor (word : List ℕ) (written : Option ℕ) (options : Options) (words : List (List ℕ)) : Type 0 where
  pub shape : words ≡ word ∷ (bare_words options.bare ++ (fuel_words written ++ options.file ∷ []))
  pub fuel : options.fuel ≡ unwrap_or written default_fuel
  pub within : options.fuel ≤ FUEL_LIMIT
  pub file : IsFileWord options.file

-- `COMMAND [--bare] [--fuel N] SEED FILE`, with this seed, in decimal, without a sign and without a leading zero
pub record AsksWithSeed (word : List ℕ) (written : Option ℕ) (seed : ℕ) (options : Options) (words : List (List ℕ)) : Type 0 where
  pub shape : words ≡ word ∷ (bare_words options.bare ++ (fuel_words written ++ decimal seed ∷ options.file ∷ []))
  pub fuel : options.fuel ≡ unwrap_or written default_fuel
  pub within : options.fuel ≤ FUEL_LIMIT
  pub fits : seed < 2 ^ 64
  pub file : IsFileWord options.file

-- `sites [--bare] [--fuel N] K SEED FILE`, on so many sites, at least one, and with this seed: both in decimal, without a sign and
-- without a leading zero
pub record AsksForSites (written : Option ℕ) (sites seed : ℕ) (options : Options) (words : List (List ℕ)) : Type 0 where
  pub shape : words ≡ codes "sites" ∷ (bare_words options.bare ++ (fuel_words written ++ decimal sites ∷ decimal seed ∷ options.file ∷ []))
  pub fuel : options.fuel ≡ unwrap_or written default_fuel
  pub within : options.fuel ≤ FUEL_LIMIT
  pub some : 1 ≤ sites
  pub few : sites ≤ most_sites
  pub fits : seed < 2 ^ 64
  pub file : IsFileWord options.file

-- `load N`, where N is decimal, without a sign and without a leading zero
pub record AsksToLoad (n : ℕ) (words : List (List ℕ)) : Type 0 where
  pub shape : words ≡ codes "load" ∷ decimal n ∷ []
  pub fits : n < 2 ^ 64

-- `replay [--bare] FILE TRACE`. Nothing runs out: the fuel is the default one
pub record AsksToReplay (options : Options) (trace : List ℕ) (words : List (List ℕ)) : Type 0 where
  pub shape : words ≡ codes "replay" ∷ (bare_words options.bare ++ options.file ∷ trace ∷ [])
  pub fuel : options.fuel ≡ default_fuel
  pub file : IsFileWord options.file
  pub second : IsFileWord trace

-- `exec [--fuel N] OBJECT`, with this fuel, where it is written. An object is a file, which nothing stands before
abbrev pub AsksToExec : Option ℕ → ℕ → List ℕ → List (List ℕ) → Type 0
AsksToExec written fuel object = AsksFor (codes "exec") written (record { bare = false; fuel = fuel; file = object })

-- the words have the shape of this command. Its fuel may be written where it runs a file
abbrev pub HasShape : List (List ℕ) → Command → Type 0
HasShape words (Run options) = (written : Option ℕ) × AsksFor (codes "run") written options words
HasShape words (Trace options) = (written : Option ℕ) × AsksFor (codes "trace") written options words
HasShape words (Check options) = AsksFor (codes "check") None options words
HasShape words (Code options) = AsksFor (codes "code") None options words
HasShape words (Load n) = AsksToLoad n words
HasShape words (Pick seed options) = (written : Option ℕ) × AsksWithSeed (codes "pick") written seed options words
HasShape words (Picked seed options) = (written : Option ℕ) × AsksWithSeed (codes "picked") written seed options words
HasShape words (Replay options trace) = AsksToReplay options trace words
HasShape words (Build options) = AsksFor (codes "build") None options words
HasShape words (Exec fuel object) = (written : Option ℕ) × AsksToExec written fuel object words
HasShape words (Sites sites seed options) = (written : Option ℕ) × AsksForSites written sites seed options words

-- the words have no listed shape
abbrev pub HasNoShape : List (List ℕ) → Type 0
HasNoShape words = (command : Command) → HasShape words command → ⊥

-- the greatest number of steps of a command
abbrev pub fuel_of : Command → ℕ
fuel_of (Run options) = options.fuel
fuel_of (Trace options) = options.fuel
fuel_of (Check options) = options.fuel
fuel_of (Code options) = options.fuel
fuel_of (Load n) = default_fuel
fuel_of (Pick seed options) = options.fuel
fuel_of (Picked seed options) = options.fuel
fuel_of (Replay options trace) = options.fuel
fuel_of (Build options) = options.fuel
fuel_of (Exec fuel object) = fuel
fuel_of (Sites sites seed options) = options.fuel

-- on how many sites a command runs a program
abbrev pub sites_of : Command → ℕ
sites_of (Sites sites seed options) = sites
sites_of command = 1
