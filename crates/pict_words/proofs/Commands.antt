-- Words of the shape of a command have the shape of no other.
use Rattle.std.proofs.Common.{◌≡◌, ℕ, ◌+◌, ◌==◌, ◌≤◌, Bool, true, false, List, [], ◌∷◌, length, get_or, Option, Some, None, refl, sym, ◌∙◌, ap, subst, arith, codes, if◌then◌else◌, Result, Ok, Err, OnErr}
use Rattle.std.specs.Prelude.{is_some}
use Rattle.std.proofs.lemmas.Fmt.{decimal_injective}
use Rattle.pict_syntax.specs.declared.limits.TheConstants.{FUEL_LIMIT}
use Rattle.pict_words.specs.Words.{Options, Command, Run, Trace, Check, Code, Load, Pick, Picked, Replay, Build, Exec, Sites, AsksFor, AsksForSites, AsksToLoad, AsksToReplay, HasShape, HasNoShape, fuel_words}
use Rattle.pict_words.specs.Asked.{Found, IsAsked, HasWord, TakesNoSeed, FoundSeed, IsSeeded, HasSeedWord, TakesSeed, unseeded, unsited, sites_in, AsksNoSites, WritesSites}
use Rattle.pict_words.proofs.Shapes.{words_for, two_are, three_are, four_are, five_are, at}
use Rattle.pict_words.proofs.Seeds.{without_seed, seed_written}
use Rattle.pict_words.proofs.Sites.{without_sites, sites_written}
use Rattle.pict_words.proofs.Replays.{same_options, same_replay, same_trace}

-- ---- what is asked for

-- the parts of words that are the same
pub record SameParts (a b : List ℕ) (x y : Bool) (w v : Option ℕ) (f g : List ℕ) : Type 0 where
  pub word : a ≡ b
  pub bare : x ≡ y
  pub fuel : fuel_words w ≡ fuel_words v
  pub file : f ≡ g

same_parts : (a b : List ℕ) (x y : Bool) (w v : Option ℕ) (f g : List ℕ) → words_for a x w f ≡ words_for b y v g → SameParts a b x y w v f g
same_parts a b false y None v f g e = let s = two_are a f b y v g e in record { word = s.2; bare = sym s.0; fuel = ap fuel_words (sym s.1); file = s.3 }
same_parts a b true y None v f g e = let s = three_are a _ f b y v g e in record { word = s.2; bare = sym s.0; fuel = ap fuel_words (sym s.1); file = s.3 }
same_parts a b false y (Some m) v f g e =
    let s = four_are a _ _ f b y v g e in record { word = s.2; bare = sym s.0; fuel = ap (λ n. codes "--fuel" ∷ n ∷ []) s.1.2 ∙ ap fuel_words (sym s.1.1); file = s.3 }
same_parts a b true y (Some m) v f g e =
    let s = five_are a _ _ _ f b y v g e in record { word = s.2; bare = sym s.0; fuel = ap (λ n. codes "--fuel" ∷ n ∷ []) s.1.2 ∙ ap fuel_words (sym s.1.1); file = s.3 }

-- a fuel is known by its words
same_fuel : (w v : Option ℕ) (o p : Options) (a b : List ℕ) (us vs : List (List ℕ)) → AsksFor a w o us → AsksFor b v p vs → fuel_words w ≡ fuel_words v → (is_some w ≡ is_some v) × (o.fuel ≡ p.fuel)
same_fuel None None o p a b us vs s t e = (refl, s.fuel ∙ sym t.fuel)
same_fuel None (Some n) o p a b us vs s t e = absurd (let x : 0 ≡ 2 = ap length e in omega (arith, x))
same_fuel (Some m) None o p a b us vs s t e = absurd (let x : 2 ≡ 0 = ap length e in omega (arith, x))
same_fuel (Some m) (Some n) o p a b us vs s t e =
    let x : o.fuel ≡ m = s.fuel in
    let y : p.fuel ≡ n = t.fuel in
    let few : o.fuel ≤ FUEL_LIMIT = s.within in
    let few' : p.fuel ≤ FUEL_LIMIT = t.within in
    let same : m ≡ n = decimal_injective m n (omega arith) (omega arith) (ap (at 1) e) in
    (refl, x ∙ same ∙ sym y)

-- what words ask for, but for how the fuel is written
pub record SameAsked (a b : List ℕ) (f g : Bool) (o p : Options) : Type 0 where
  pub word : a ≡ b
  pub fueled : f ≡ g
  pub options : o ≡ p

pub one_asked : (words : List (List ℕ)) (a b : List ℕ) (f g : Bool) (o p : Options) → IsAsked a f o words → IsAsked b g p words → SameAsked a b f g o p
one_asked words a b f g o p (w, x, s) (v, y, t) =
    let parts = same_parts a b o.bare p.bare w v o.file p.file (sym s.shape ∙ t.shape) in
    let fuel = same_fuel w v o p a b words words s t parts.fuel in
    record { word = parts.word; fueled = sym x ∙ fuel.0 ∙ y; options = same_options o p parts.bare fuel.1 parts.file }

-- ---- commands by their words

-- words of different sums of three of their letters are different
abbrev sum_of : List ℕ → ℕ
sum_of word = get_or word 0 0 + get_or word 1 0 + get_or word 4 0

abbrev rank_by : ℕ → ℕ
rank_by sum =
    if sum == 231 then 0 else if sum == 331 then 1 else if sum == 310 then 2 else if sum == 210 then 3 else if sum == 219 then 4 else if sum == 217 then 5 else if sum == 318 then 6 else if sum == 312 then 7 else if sum == 315 then 8 else if sum == 221 then 9 else if sum == 335 then 10 else 11

abbrev rank_of : Command → ℕ
rank_of (Run o) = 0
rank_of (Trace o) = 1
rank_of (Check o) = 2
rank_of (Code o) = 3
rank_of (Load n) = 4
rank_of (Pick n o) = 5
rank_of (Picked n o) = 6
rank_of (Replay o trace) = 7
rank_of (Build o) = 8
rank_of (Exec fuel object) = 9
rank_of (Sites k n o) = 10

abbrev rank_in : List (List ℕ) → ℕ
rank_in words = rank_by (sum_of (at 0 words))

ranked : (words : List (List ℕ)) (command : Command) → HasShape words command → rank_of command ≡ rank_in words
ranked words (Run o) (w, s) = sym (ap rank_in s.shape)
ranked words (Trace o) (w, s) = sym (ap rank_in s.shape)
ranked words (Check o) s = sym (ap rank_in s.shape)
ranked words (Code o) s = sym (ap rank_in s.shape)
ranked words (Load n) s = sym (ap rank_in s.shape)
ranked words (Pick n o) (w, s) = sym (ap rank_in s.shape)
ranked words (Picked n o) (w, s) = sym (ap rank_in s.shape)
ranked words (Replay o trace) s = sym (ap rank_in s.shape)
ranked words (Build o) s = sym (ap rank_in s.shape)
ranked words (Exec fuel object) (w, s) = sym (ap rank_in s.shape)
ranked words (Sites k n o) (w, s) = sym (ap rank_in s.shape)

same_command : (word : List ℕ) (f : Bool) (o : Options) (c d : Command) → HasWord word f o c → HasWord word f o d → rank_of c ≡ rank_of d → c ≡ d
same_command word f o (Run p) (Run q) h k e = ap Run (h.1 ∙ sym k.1)
same_command word f o (Trace p) (Trace q) h k e = ap Trace (h.1 ∙ sym k.1)
same_command word f o (Check p) (Check q) h k e = ap Check (h.1 ∙ sym k.1)
same_command word f o (Code p) (Code q) h k e = ap Code (h.1 ∙ sym k.1)
same_command word f o (Build p) (Build q) h k e = ap Build (h.1 ∙ sym k.1)
same_command word f o (Exec m a) (Exec n b) h k e = λ i. Exec ((h.2 ∙ sym k.2) i) ((h.3 ∙ sym k.3) i)
same_command word f o (Load m) d h k e = absurd h
same_command word f o (Pick m p) d h k e = absurd h
same_command word f o (Picked m p) d h k e = absurd h
same_command word f o (Replay p trace) d h k e = absurd h
same_command word f o (Sites j m p) d h k e = absurd h
same_command word f o c (Load n) h k e = absurd k
same_command word f o c (Pick m p) h k e = absurd k
same_command word f o c (Picked m p) h k e = absurd k
same_command word f o c (Replay p trace) h k e = absurd k
same_command word f o c (Sites j m p) h k e = absurd k
same_command word f o c d h k e = absurd (omega (arith, e))

-- ---- shapes

-- what words of the shape of a command over a file ask for
pub record AskedBy (words : List (List ℕ)) (command : Command) : Type 0 where
  pub word : List ℕ
  pub fueled : Bool
  pub options : Options
  pub asked : IsAsked word fueled options words
  pub has : HasWord word fueled options command

asked_as : (words : List (List ℕ)) (command : Command) → TakesNoSeed command → HasShape words command → AskedBy words command
asked_as words (Run o) file (w, s) = record { word = codes "run"; fueled = is_some w; options = o; asked = (w, refl, s); has = (refl, refl) }
asked_as words (Trace o) file (w, s) = record { word = codes "trace"; fueled = is_some w; options = o; asked = (w, refl, s); has = (refl, refl) }
asked_as words (Check o) file s = record { word = codes "check"; fueled = false; options = o; asked = (None, refl, s); has = (refl, refl, refl) }
asked_as words (Code o) file s = record { word = codes "code"; fueled = false; options = o; asked = (None, refl, s); has = (refl, refl, refl) }
asked_as words (Build o) file s = record { word = codes "build"; fueled = false; options = o; asked = (None, refl, s); has = (refl, refl, refl) }
asked_as words (Exec fuel object) file (w, s) =
    record { word = codes "exec"; fueled = is_some w; options = record { bare = false; fuel = fuel; file = object }; asked = (w, refl, s); has = (refl, refl, refl, refl) }
asked_as words (Load n) file s = absurd file
asked_as words (Pick n o) file s = absurd file
asked_as words (Picked n o) file s = absurd file
asked_as words (Replay o trace) file s = absurd file
asked_as words (Sites k n o) file s = absurd file

-- no fuel is written
none_of : (w : Option ℕ) → is_some w ≡ false → w ≡ None
none_of None e = refl
none_of (Some m) e = cc

pub shape_of : (words : List (List ℕ)) (word : List ℕ) (f : Bool) (o : Options) (command : Command) → IsAsked word f o words → HasWord word f o command → HasShape words command
shape_of words word f o (Run p) (w, x, s) h = (w, subst (λ q. AsksFor (codes "run") w q words) (sym h.1) (subst (λ a. AsksFor a w o words) h.0 s))
shape_of words word f o (Trace p) (w, x, s) h = (w, subst (λ q. AsksFor (codes "trace") w q words) (sym h.1) (subst (λ a. AsksFor a w o words) h.0 s))
shape_of words word f o (Check p) (w, x, s) h =
    subst (λ q. AsksFor (codes "check") None q words) (sym h.1) (subst (λ a. AsksFor a None o words) h.0 (subst (λ v. AsksFor word v o words) (none_of w (x ∙ h.2)) s))
shape_of words word f o (Code p) (w, x, s) h =
    subst (λ q. AsksFor (codes "code") None q words) (sym h.1) (subst (λ a. AsksFor a None o words) h.0 (subst (λ v. AsksFor word v o words) (none_of w (x ∙ h.2)) s))
shape_of words word f o (Build p) (w, x, s) h =
    subst (λ q. AsksFor (codes "build") None q words) (sym h.1) (subst (λ a. AsksFor a None o words) h.0 (subst (λ v. AsksFor word v o words) (none_of w (x ∙ h.2)) s))
shape_of words word f o (Exec fuel object) (w, x, s) h =
    let same : o ≡ record { bare = false; fuel = fuel; file = object } = same_options o (record { bare = false; fuel = fuel; file = object }) h.1 (sym h.2) (sym h.3) in
    (w, subst (λ q. AsksFor (codes "exec") w q words) same (subst (λ a. AsksFor a w o words) h.0 s))
shape_of words word f o (Load n) a h = absurd h
shape_of words word f o (Pick n p) a h = absurd h
shape_of words word f o (Picked n p) a h = absurd h
shape_of words word f o (Replay p trace) a h = absurd h
shape_of words word f o (Sites k n p) a h = absurd h

-- what else words have the shape of has the same word and options
same_has : (words : List (List ℕ)) (word : List ℕ) (f : Bool) (o : Options) (command : Command) → IsAsked word f o words → TakesNoSeed command → HasShape words command → HasWord word f o command
same_has words word f o command a file shape =
    let b = asked_as words command file shape in
    let same = one_asked words b.word word b.fueled f b.options o b.asked a in
    subst (λ q. HasWord word f q command) same.options (subst (λ g. HasWord word g b.options command) same.fueled (subst (λ v. HasWord v b.fueled b.options command) same.word b.has))

pub no_other : (words : List (List ℕ)) (word : List ℕ) (f : Bool) (o : Options) → IsAsked word f o words → ((command : Command) → HasWord word f o command → ⊥) → (command : Command) → TakesNoSeed command → HasShape words command → ⊥
no_other words word f o a none command file shape = none command (same_has words word f o command a file shape)

pub found_by : (words : List (List ℕ)) (command : Command) → TakesNoSeed command → HasShape words command → (word : List ℕ) × Found word words
found_by words command file shape = let b = asked_as words command file shape in (b.word, (b.asked.0, b.options, b.asked.2))

file_commands : (words : List (List ℕ)) (c d : Command) → TakesNoSeed c → TakesNoSeed d → rank_of c ≡ rank_of d → HasShape words c → HasShape words d → c ≡ d
file_commands words c d file other e s t =
    let a = asked_as words c file s in same_command a.word a.fueled a.options c d a.has (same_has words a.word a.fueled a.options d a.asked other t) e

-- ---- with a seed

-- the seed and what else words ask for
pub record SameSeeded (a b : List ℕ) (m n : ℕ) (o p : Options) : Type 0 where
  pub word : a ≡ b
  pub seed : m ≡ n
  pub options : o ≡ p

one_seeded : (words : List (List ℕ)) (a b : List ℕ) (m n : ℕ) (o p : Options) → IsSeeded a m o words → IsSeeded b n p words → SameSeeded a b m n o p
one_seeded words a b m n o p (w, s) (v, t) =
    let same = one_asked (unseeded words) a b (is_some w) (is_some v) o p (w, refl, without_seed words a w m o s) (v, refl, without_seed words b v n p t) in
    record { word = same.word; seed = decimal_injective m n s.fits t.fits (sym (seed_written words a w m o s) ∙ seed_written words b v n p t); options = same.options }

-- what words of the shape of a command with a seed ask for
pub record SeededBy (words : List (List ℕ)) (command : Command) : Type 0 where
  pub word : List ℕ
  pub seed : ℕ
  pub options : Options
  pub asked : IsSeeded word seed options words
  pub has : HasSeedWord word seed options command

seeded_as : (words : List (List ℕ)) (command : Command) → TakesSeed command → HasShape words command → SeededBy words command
seeded_as words (Pick n o) takes s = record { word = codes "pick"; seed = n; options = o; asked = s; has = (refl, refl, refl) }
seeded_as words (Picked n o) takes s = record { word = codes "picked"; seed = n; options = o; asked = s; has = (refl, refl, refl) }
seeded_as words c takes s = absurd takes

as_seeded : (words : List (List ℕ)) (a b : List ℕ) (m n : ℕ) (o p : Options) → a ≡ b → n ≡ m → p ≡ o → IsSeeded a m o words → IsSeeded b n p words
as_seeded words a b m n o p word seed options s =
    subst (λ v. IsSeeded v n p words) word (subst (λ k. IsSeeded a k p words) (sym seed) (subst (λ q. IsSeeded a m q words) (sym options) s))

pub seeded_shape : (words : List (List ℕ)) (word : List ℕ) (seed : ℕ) (o : Options) (command : Command) → IsSeeded word seed o words → HasSeedWord word seed o command → HasShape words command
seeded_shape words word seed o (Pick n p) a h = as_seeded words word (codes "pick") seed n o p h.0 h.1 h.2 a
seeded_shape words word seed o (Picked n p) a h = as_seeded words word (codes "picked") seed n o p h.0 h.1 h.2 a
seeded_shape words word seed o c a h = absurd h

has_seeded : (a b : List ℕ) (m n : ℕ) (o p : Options) (command : Command) → SameSeeded a b m n o p → HasSeedWord a m o command → HasSeedWord b n p command
has_seeded a b m n o p command same h =
    subst (λ v. HasSeedWord v n p command) same.word (subst (λ k. HasSeedWord a k p command) same.seed (subst (λ q. HasSeedWord a m q command) same.options h))

pub no_other_seeded : (words : List (List ℕ)) (word : List ℕ) (seed : ℕ) (o : Options) → IsSeeded word seed o words → ((command : Command) → HasSeedWord word seed o command → ⊥) → (command : Command) → TakesSeed command → HasShape words command → ⊥
no_other_seeded words word seed o a none command takes shape =
    let b = seeded_as words command takes shape in
    none command (has_seeded b.word word b.seed seed b.options o command (one_seeded words b.word word b.seed seed b.options o b.asked a) b.has)

pub found_seeded : (words : List (List ℕ)) (command : Command) → TakesSeed command → HasShape words command → (word : List ℕ) × FoundSeed word words
found_seeded words command takes shape = let b = seeded_as words command takes shape in (b.word, (b.seed, b.options, b.asked))

-- ---- with a number of sites

-- where the words without the sites ask for something, and this isn't `sites` on as many sites as the word says
pub no_sites : (words : List (List ℕ)) (word : List ℕ) (seed : ℕ) (o : Options) → IsSeeded word seed o (unsited words)
    → (word ≡ codes "sites" → (n : ℕ) → WritesSites (sites_in words) n → ⊥) → AsksNoSites words
no_sites words word seed o a none w sites m p s =
    none (one_seeded (unsited words) word (codes "sites") seed m o p a (w, without_sites words w sites m p s)).word sites (sites_written words w sites m p s)

-- the sites, the seed and the options are known by the words
pub record SameSites (j k m n : ℕ) (o p : Options) : Type 0 where
  pub sites : j ≡ k
  pub seed : m ≡ n
  pub options : o ≡ p

one_sited : (words : List (List ℕ)) (w v : Option ℕ) (j k m n : ℕ) (o p : Options) → AsksForSites w j m o words → AsksForSites v k n p words → SameSites j k m n o p
one_sited words w v j k m n o p s t =
    let same = one_seeded (unsited words) (codes "sites") (codes "sites") m n o p (w, without_sites words w j m o s) (v, without_sites words v k n p t) in
    let few : j ≤ 64 = s.few in
    let few' : k ≤ 64 = t.few in
    let first = sites_written words w j m o s in
    let second = sites_written words v k n p t in
    record { sites = decimal_injective j k (omega arith) (omega arith) (sym first.is ∙ second.is); seed = same.seed; options = same.options }

-- ---- all commands

same_load : (words : List (List ℕ)) (m n : ℕ) → AsksToLoad m words → AsksToLoad n words → m ≡ n
same_load words m n a b = decimal_injective m n (a.fits) (b.fits) (ap (at 1) (sym a.shape ∙ b.shape))

same_shape : (words : List (List ℕ)) (c d : Command) → rank_of c ≡ rank_of d → HasShape words c → HasShape words d → c ≡ d
same_shape words (Run o) (Run p) e s t = file_commands words (Run o) (Run p) tt tt e s t
same_shape words (Trace o) (Trace p) e s t = file_commands words (Trace o) (Trace p) tt tt e s t
same_shape words (Check o) (Check p) e s t = file_commands words (Check o) (Check p) tt tt e s t
same_shape words (Code o) (Code p) e s t = file_commands words (Code o) (Code p) tt tt e s t
same_shape words (Build o) (Build p) e s t = file_commands words (Build o) (Build p) tt tt e s t
same_shape words (Exec m a) (Exec n b) e s t = file_commands words (Exec m a) (Exec n b) tt tt e s t
same_shape words (Load m) (Load n) e s t = ap Load (same_load words m n s t)
same_shape words (Pick m o) (Pick n p) e s t = let x = one_seeded words _ _ m n o p s t in λ i. Pick (x.seed i) (x.options i)
same_shape words (Picked m o) (Picked n p) e s t = let x = one_seeded words _ _ m n o p s t in λ i. Picked (x.seed i) (x.options i)
same_shape words (Replay o a) (Replay p b) e s t = let x = same_replay words o p a b s t in λ i. Replay (x i) (same_trace words o p a b s t i)
same_shape words (Sites j m o) (Sites k n p) e (w, s) (v, t) = let x = one_sited words w v j k m n o p s t in λ i. Sites (x.sites i) (x.seed i) (x.options i)
same_shape words c d e s t = absurd (omega (arith, e))

pub one_command : (words : List (List ℕ)) (c d : Command) → HasShape words c → HasShape words d → c ≡ d
one_command words c d s t = same_shape words c d (ranked words c s ∙ sym (ranked words d t)) s t

-- no command with a seed, no `sites`, no `load` and no `replay`
pub no_others : (words : List (List ℕ)) → ((command : Command) → TakesSeed command → HasShape words command → ⊥) → AsksNoSites words → ((n : ℕ) → AsksToLoad n words → ⊥)
    → ((o : Options) (trace : List ℕ) → AsksToReplay o trace words → ⊥) → (command : Command) → (TakesNoSeed command → ⊥) → HasShape words command → ⊥
no_others words no_seeded no_sited no_load no_replay (Load n) never s = no_load n s
no_others words no_seeded no_sited no_load no_replay (Pick n o) never s = no_seeded (Pick n o) tt s
no_others words no_seeded no_sited no_load no_replay (Picked n o) never s = no_seeded (Picked n o) tt s
no_others words no_seeded no_sited no_load no_replay (Replay o trace) never s = no_replay o trace s
no_others words no_seeded no_sited no_load no_replay (Sites k n o) never (w, s) = no_sited w k n o s
no_others words no_seeded no_sited no_load no_replay c never s = never tt

-- no command over a file without a seed either
pub no_shape : (words : List (List ℕ)) → ((command : Command) → TakesNoSeed command → HasShape words command → ⊥) → ((command : Command) → (TakesNoSeed command → ⊥) → HasShape words command → ⊥) → HasNoShape words
no_shape words no_file no_other (Load n) s = no_other (Load n) (λ x. x) s
no_shape words no_file no_other (Pick n o) s = no_other (Pick n o) (λ x. x) s
no_shape words no_file no_other (Picked n o) s = no_other (Picked n o) (λ x. x) s
no_shape words no_file no_other (Replay o trace) s = no_other (Replay o trace) (λ x. x) s
no_shape words no_file no_other (Sites k n o) s = no_other (Sites k n o) (λ x. x) s
no_shape words no_file no_other c s = no_file c tt s

-- the same, where that is said of an error
pub no_shape_on_error : {T E : Type 0} (r : Result T E) (words : List (List ℕ)) → ((command : Command) → TakesNoSeed command → HasShape words command → ⊥)
    → OnErr r ((command : Command) → (TakesNoSeed command → ⊥) → HasShape words command → ⊥) → OnErr r (HasNoShape words)
no_shape_on_error (Ok x) words no_file no_other = tt
no_shape_on_error (Err e) words no_file no_other = no_shape words no_file no_other

pub no_others_on_error : {T E : Type 0} (r : Result T E) (words : List (List ℕ)) → ((command : Command) → TakesSeed command → HasShape words command → ⊥) → OnErr r (AsksNoSites words) → OnErr r ((n : ℕ) → AsksToLoad n words → ⊥)
    → OnErr r ((o : Options) (trace : List ℕ) → AsksToReplay o trace words → ⊥) → OnErr r ((command : Command) → (TakesNoSeed command → ⊥) → HasShape words command → ⊥)
no_others_on_error (Ok x) words no_seeded no_sited no_load no_replay = tt
no_others_on_error (Err e) words no_seeded no_sited no_load no_replay = no_others words no_seeded no_sited no_load no_replay

pub no_sites_on_error : {T E : Type 0} (r : Result T E) (words : List (List ℕ)) → AsksNoSites words → OnErr r (AsksNoSites words)
no_sites_on_error (Ok x) words no_sited = tt
no_sites_on_error (Err e) words no_sited = no_sited
