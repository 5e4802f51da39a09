-- What a command is given: from the shelf, or its own text.
use Rattle.std.proofs.Common.{◌≡◌, ℕ, List, length, Option, Some, refl, sym, ◌∙◌, ap, subst}
use Rattle.pict_outside.specs.Texts.{Texts}
use Rattle.pict_words.specs.Words.{Command, Run, Trace, Check, Code, Load, Pick, Picked, Replay, Build, Exec, Sites}
use Rattle.pict_gather.specs.Fetching.{MayGive, missing}
use Rattle.pict_top.specs.Origins.{Origin, File, Own, Object, TakesText, origin_of, trace_of, name_of, only, reads_from, AsksShelf, IsOwn, own_length, MayGiveText, given, given_each}
use Rattle.pict_top.specs.Outcome.{Outcome}
use Rattle.pict_top.specs.Owed.{OwesText, FaultsText, FaultsCommand}
use Rattle.pict_top.proofs.Only.{is_there}

-- ---- from the shelf

pub owes_asked : (held : Option Texts) (origin : Origin) (command : Command) (o : Outcome) → AsksShelf origin → OwesText (MayGive held) command o → OwesText (given held origin) command o
owes_asked held (File bare name) command o asks owes = owes
owes_asked held (Object name) command o asks owes = owes
owes_asked held (Own name own) command o asks owes = absurd asks

pub owes_each : (held : Option Texts) (origin : Origin) (command : Command) (o : Outcome) → AsksShelf origin → OwesText (MayGiveText held) command o → OwesText (given_each held origin) command o
owes_each held (File bare name) command o asks owes = owes
owes_each held (Object name) command o asks owes = owes
owes_each held (Own name own) command o asks owes = absurd asks

pub nothing_own : (origin : Origin) → AsksShelf origin → 0 ≡ own_length origin
nothing_own (File bare name) asks = refl
nothing_own (Object name) asks = refl
nothing_own (Own name own) asks = absurd asks

pub faults_text : (held : Option Texts) (command : Command) (o : Outcome) → TakesText command → FaultsText held command o → FaultsCommand held command o
faults_text held (Exec fuel object) o takes faults = absurd takes
faults_text held command o takes faults = faults

-- ---- the command's own text

pub owes_own : (held : Option Texts) (origin : Origin) (t : List ℕ) (command : Command) (o : Outcome) → IsOwn origin t → OwesText (MayGive (Some (only (name_of origin) t))) command o → OwesText (given held origin) command o
owes_own held (File bare name) t command o own owes = absurd own
owes_own held (Object name) t command o own owes = absurd own
owes_own held (Own name text) t command o own owes = subst (λ x. OwesText (MayGive (Some (only name x))) command o) own owes

pub owes_own_each : (held : Option Texts) (origin : Origin) (t : List ℕ) (command : Command) (o : Outcome) → IsOwn origin t → OwesText (MayGive (Some (only (name_of origin) t))) command o → OwesText (given_each held origin) command o
owes_own_each held (File bare name) t command o own owes = absurd own
owes_own_each held (Object name) t command o own owes = absurd own
owes_own_each held (Own name text) t command o own owes = subst (λ x. OwesText (MayGive (Some (only name x))) command o) own owes

pub same_text : (name held_name own held_own : List ℕ) (command : Command) (o : Outcome) → held_name ≡ name → held_own ≡ own
    → OwesText (MayGive (Some (only held_name held_own))) command o → OwesText (MayGive (Some (only name own))) command o
same_text name held_name own held_own command o is text owes =
    subst (λ x. OwesText (MayGive (Some (only name x))) command o) text (subst (λ x. OwesText (MayGive (Some (only x held_own))) command o) is owes)

pub own_bytes : (origin : Origin) (t : List ℕ) → IsOwn origin t → length t ≡ own_length origin
own_bytes (File bare name) t own = absurd own
own_bytes (Object name) t own = absurd own
own_bytes (Own name text) t own = ap length own

-- ---- texts that are told

-- these are the texts that are told
abbrev pub IsTold : Option Texts → Origin → Type 0
IsTold held origin = (texts : Texts) × (reads_from held origin ≡ Some texts)

pub told_shelf : (texts : Texts) (origin : Origin) → IsTold (Some texts) origin
told_shelf texts (File bare name) = (texts, refl)
told_shelf texts (Object name) = (texts, refl)
told_shelf texts (Own name own) = (only name own, refl)

-- ---- the file is there

pub own_there : (held : Option Texts) (name own : List ℕ) → given held (Own name own) name missing → ⊥
own_there held name own lacks = let is = sym (is_there name own) ∙ lacks in absurd cc

-- where each text is there
pub each_there : (held : Option Texts) (origin : Origin) → given_each held origin (name_of origin) missing → ⊥
each_there held (File bare name) lacks = lacks
each_there held (Object name) lacks = lacks
each_there held (Own name own) lacks = own_there held name own lacks

pub second_there : (held : Option Texts) (command : Command) (trace : List ℕ) → trace_of command ≡ Some trace → given_each held (origin_of command) trace missing → ⊥
second_there held (Replay options name) trace takes lacks = lacks
second_there held (Build options) trace takes lacks = cc
second_there held (Exec fuel object) trace takes lacks = cc
second_there held (Run options) trace takes lacks = cc
second_there held (Trace options) trace takes lacks = cc
second_there held (Check options) trace takes lacks = cc
second_there held (Code options) trace takes lacks = cc
second_there held (Load n) trace takes lacks = cc
second_there held (Pick seed options) trace takes lacks = cc
second_there held (Picked seed options) trace takes lacks = cc
second_there held (Sites sites seed options) trace takes lacks = cc
