-- Words have the shape of a command, or none.
use Rattle.std.proofs.Common.{◌≡◌, ◌≢◌, ℕ, zero, suc, ◌≤◌, ◌<◌, ◌^◌, ◌⊎◌, Bool, true, false, inl, inr, List, [], ◌∷◌, length, refl, sym, ◌∙◌, ap, subst, arith, codes}
use Rattle.std.specs.Fmt.{decimal}
use Rattle.std.specs.Str.Parse.{digits_value}
use Rattle.std.proofs.lemmas.Bool.{cases_lt}
use Rattle.std.proofs.lemmas.Fmt.{decimal_injective, decimal_is_IsNumeral}
use Rattle.pict_syntax.specs.declared.limits.TheConstants.{FUEL_LIMIT}
use Rattle.pict_total.proofs.Choices.{same_or_not, same_text_or_not}
use Rattle.pict_words.specs.Words.{Options, Command, Run, Trace, Check, Code, Load, Pick, Picked, Replay, Build, Exec, Sites, AsksToLoad, HasShape, HasNoShape, IsFileWord, default_fuel}
use Rattle.pict_words.specs.Asked.{Found, IsAsked, HasWord, TakesNoSeed, FoundSeed, IsSeeded, HasSeedWord, TakesSeed, unseeded, seed_in, unsited, sites_in, with_sites, AsksNoSites, WritesSites}
use Rattle.pict_words.specs.Laws.{OneCommand}
use Rattle.pict_words.proofs.Shapes.{at, two_asked, two_not_found, three_asked, three_not_found, four_asked, four_not_found, five_asked, five_not_found, not_found}
use Rattle.pict_words.proofs.Seeds.{with_word, seeded_asked, no_plain, no_seed, not_seeded}
use Rattle.pict_words.proofs.Sites.{sited_asked, no_seeded, not_sited}
use Rattle.pict_words.proofs.Replays.{ByReplay, three_not, four_not, other_number}
use Rattle.pict_words.proofs.Commands.{shape_of, no_other, found_by, seeded_shape, no_other_seeded, found_seeded, one_command, no_others, no_shape, no_sites}

-- ---- numbers

-- the word writes a number up to this one
abbrev WritesUpTo : ℕ → List ℕ → Type 0
WritesUpTo most word = (n : ℕ) × (n ≤ most) × (word ≡ decimal n)

value_written : (most : ℕ) → most < 2 ^ 64 → (word : List ℕ) (w : WritesUpTo most word) → digits_value 10 word ≡ w.0
value_written most fits word w = let few : w.0 ≤ most = w.1 in ap (digits_value 10) w.2 ∙ (decimal_is_IsNumeral w.0 (omega arith)).1

number_or_not : (most : ℕ) → most < 2 ^ 64 → (word : List ℕ) → WritesUpTo most word ⊎ ¬ WritesUpTo most word
number_or_not most fits word = elim (same_text_or_not word (decimal (digits_value 10 word))) [
  | inl e ↦ elim (cases_lt most (digits_value 10 word)) [
    | inl big ↦ inr (λ w. let few : w.0 ≤ most = w.1 in let same = value_written most fits word w in omega arith)
    | inr few ↦ inl (digits_value 10 word, few, e)
  ]
  | inr other ↦ inr (λ w. other (w.2 ∙ ap decimal (sym (value_written most fits word w))))
]

-- ---- files

file_word_or_not : (word : List ℕ) → IsFileWord word ⊎ ¬ IsFileWord word
file_word_or_not [] = inr (λ h. h.not_empty refl)
file_word_or_not (x ∷ xs) = elim (same_or_not x 45) [
  | inl e ↦ inr (λ h. h.no_dash e)
  | inr d ↦ inl (record { not_empty = λ e. cc; no_dash = d })
]

-- ---- what is asked for

-- words ask for something over a file, or don't
abbrev Asks : List (List ℕ) → Type 0
Asks words = ((word : List ℕ) × (fueled : Bool) × (options : Options) × IsAsked word fueled options words) ⊎ ((word : List ℕ) → Found word words → ⊥)

two : (a f : List ℕ) → Asks (a ∷ f ∷ [])
two a f = elim (file_word_or_not f) [
  | inl is ↦ inl (a, false, _, two_asked a f is)
  | inr never ↦ inr (two_not_found a f never)
]

three : (a b f : List ℕ) → Asks (a ∷ b ∷ f ∷ [])
three a b f = elim (same_text_or_not b (codes "--bare")) [
  | inl bare ↦ elim (file_word_or_not f) [
    | inl is ↦ inl (a, false, _, three_asked a b f bare is)
    | inr never ↦ inr (three_not_found a b f (λ same. never))
  ]
  | inr other ↦ inr (three_not_found a b f (λ same is. other same))
]

four : (a c n f : List ℕ) → Asks (a ∷ c ∷ n ∷ f ∷ [])
four a c n f = elim (same_text_or_not c (codes "--fuel")) [
  | inl option ↦ elim (file_word_or_not f) [
    | inl is ↦ elim (number_or_not FUEL_LIMIT (omega arith) n) [
      | inl w ↦ inl (a, true, _, four_asked a c n f w.0 option w.2 w.1 is)
      | inr none ↦ inr (four_not_found a c n f (λ same w is. none w))
    ]
    | inr never ↦ inr (four_not_found a c n f (λ same w. never))
  ]
  | inr other ↦ inr (four_not_found a c n f (λ same w is. other same))
]

five : (a b c n f : List ℕ) → Asks (a ∷ b ∷ c ∷ n ∷ f ∷ [])
five a b c n f = elim (same_text_or_not b (codes "--bare")) [
  | inl bare ↦ elim (same_text_or_not c (codes "--fuel")) [
    | inl option ↦ elim (file_word_or_not f) [
      | inl is ↦ elim (number_or_not FUEL_LIMIT (omega arith) n) [
        | inl w ↦ inl (a, true, _, five_asked a b c n f w.0 bare option w.2 w.1 is)
        | inr none ↦ inr (five_not_found a b c n f (λ same option w is. none w))
      ]
      | inr never ↦ inr (five_not_found a b c n f (λ same option w. never))
    ]
    | inr other ↦ inr (five_not_found a b c n f (λ same option w is. other option))
  ]
  | inr other ↦ inr (five_not_found a b c n f (λ same option w is. other same))
]

asked_or_not : (words : List (List ℕ)) → Asks words
asked_or_not [] = inr (not_found [] (λ x y. omega (arith, x)))
asked_or_not (a ∷ []) = inr (not_found (a ∷ []) (λ x y. omega (arith, x)))
asked_or_not (a ∷ b ∷ []) = two a b
asked_or_not (a ∷ b ∷ c ∷ []) = three a b c
asked_or_not (a ∷ b ∷ c ∷ d ∷ []) = four a b c d
asked_or_not (a ∷ b ∷ c ∷ d ∷ e ∷ []) = five a b c d e
asked_or_not (a ∷ b ∷ c ∷ d ∷ e ∷ f ∷ more) = inr (not_found (a ∷ b ∷ c ∷ d ∷ e ∷ f ∷ more) (λ x y. omega (arith, y)))

-- ---- commands

abbrev ByWord : List ℕ → Bool → Options → Type 0
ByWord word f o = ((command : Command) × HasWord word f o command) ⊎ ((command : Command) → HasWord word f o command → ⊥)

-- the word is that of no command
record IsOther (word : List ℕ) (f : Bool) (o : Options) : Type 0 where
  pub run : word ≢ codes "run"
  pub trace : word ≢ codes "trace"
  pub exec : o.bare ≡ false → word ≢ codes "exec"
  pub check : f ≡ false → word ≢ codes "check"
  pub code : f ≡ false → word ≢ codes "code"
  pub build : f ≡ false → word ≢ codes "build"

no_word : (word : List ℕ) (f : Bool) (o : Options) → IsOther word f o → (command : Command) → HasWord word f o command → ⊥
no_word word f o other (Run p) h = other.run h.0
no_word word f o other (Trace p) h = other.trace h.0
no_word word f o other (Check p) h = other.check h.2 h.0
no_word word f o other (Code p) h = other.code h.2 h.0
no_word word f o other (Load n) h = h
no_word word f o other (Pick n p) h = h
no_word word f o other (Picked n p) h = h
no_word word f o other (Replay p trace) h = h
no_word word f o other (Sites k n p) h = h
no_word word f o other (Build p) h = other.build h.2 h.0
no_word word f o other (Exec fuel object) h = other.exec h.1 h.0

-- the fuel is written only where the command runs something
unrun : (word : List ℕ) (f : Bool) (o : Options) → word ≢ codes "run" → word ≢ codes "trace" → (o.bare ≡ false → word ≢ codes "exec") → ByWord word f o
unrun word true o no_run no_trace no_exec =
    inr (no_word word true o (record { run = no_run; trace = no_trace; exec = no_exec; check = λ e. cc; code = λ e. cc; build = λ e. cc }))
unrun word false o no_run no_trace no_exec = elim (same_text_or_not word (codes "check")) [
  | inl e ↦ inl (Check o, (e, refl, refl))
  | inr no_check ↦ elim (same_text_or_not word (codes "code")) [
    | inl e ↦ inl (Code o, (e, refl, refl))
    | inr no_code ↦ elim (same_text_or_not word (codes "build")) [
      | inl e ↦ inl (Build o, (e, refl, refl))
      | inr no_build ↦
          inr (no_word word false o (record { run = no_run; trace = no_trace; exec = no_exec; check = λ e. no_check; code = λ e. no_code; build = λ e. no_build }))
    ]
  ]
]

-- an object stands alone, and `--bare` isn't written
executes : (word : List ℕ) (f bare : Bool) (o : Options) → o.bare ≡ bare → word ≢ codes "run" → word ≢ codes "trace" → ByWord word f o
executes word f true o alone no_run no_trace = unrun word f o no_run no_trace (λ e. let x = sym alone ∙ e in cc)
executes word f false o alone no_run no_trace = elim (same_text_or_not word (codes "exec")) [
  | inl e ↦ inl (Exec o.fuel o.file, (e, alone, refl, refl))
  | inr no_exec ↦ unrun word f o no_run no_trace (λ e. no_exec)
]

by_word : (word : List ℕ) (f : Bool) (o : Options) → ByWord word f o
by_word word f o = elim (same_text_or_not word (codes "run")) [
  | inl e ↦ inl (Run o, (e, refl))
  | inr no_run ↦ elim (same_text_or_not word (codes "trace")) [ inl e ↦ inl (Trace o, (e, refl)) | inr no_trace ↦ executes word f o.bare o refl no_run no_trace ]
]

abbrev ByFile : List (List ℕ) → Type 0
ByFile words = ((command : Command) × HasShape words command) ⊎ ((command : Command) → TakesNoSeed command → HasShape words command → ⊥)

file_command : (words : List (List ℕ)) → ByFile words
file_command words = elim (asked_or_not words) [
  | inl a ↦ elim (by_word a.0 a.1 a.2) [
    | inl c ↦ inl (c.0, shape_of words a.0 a.1 a.2 c.0 a.3 c.1)
    | inr none ↦ inr (no_other words a.0 a.1 a.2 a.3 none)
  ]
  | inr none ↦ inr (λ command file shape. let b = found_by words command file shape in none b.0 b.1)
]

-- ---- with a seed

-- words ask for something with a seed, or don't
abbrev AsksSeed : List (List ℕ) → Type 0
AsksSeed words = ((word : List ℕ) × (seed : ℕ) × (options : Options) × IsSeeded word seed options words) ⊎ ((word : List ℕ) → FoundSeed word words → ⊥)

-- by the words without it
seeded_or_not : (words plain : List (List ℕ)) (s : List ℕ) → with_word s plain ≡ words → plain ≡ unseeded words → s ≡ seed_in words → AsksSeed words
seeded_or_not words plain s put without same = elim (asked_or_not plain) [
  | inl a ↦ elim (number_or_not 18446744073709551615 (omega arith) s) [
    | inl w ↦
        let few : w.0 ≤ 18446744073709551615 = w.1 in
        inl (a.0, w.0, a.2, subst (IsSeeded a.0 w.0 a.2) put (seeded_asked plain a.0 s a.1 a.2 w.0 a.3 w.2 (omega arith)))
    | inr none ↦ inr (no_seed words (λ n fits e. none (n, omega (arith, fits), same ∙ e)))
  ]
  | inr none ↦ inr (no_plain words (λ name found. none name (subst (Found name) (sym without) found)))
]

asks_seed_or_not : (words : List (List ℕ)) → AsksSeed words
asks_seed_or_not [] = inr (not_seeded [] (λ x y. omega (arith, x)))
asks_seed_or_not (a ∷ []) = inr (not_seeded (a ∷ []) (λ x y. omega (arith, x)))
asks_seed_or_not (a ∷ b ∷ []) = inr (not_seeded (a ∷ b ∷ []) (λ x y. omega (arith, x)))
asks_seed_or_not (a ∷ s ∷ f ∷ []) = seeded_or_not (a ∷ s ∷ f ∷ []) (a ∷ f ∷ []) s refl refl refl
asks_seed_or_not (a ∷ b ∷ s ∷ f ∷ []) = seeded_or_not (a ∷ b ∷ s ∷ f ∷ []) (a ∷ b ∷ f ∷ []) s refl refl refl
asks_seed_or_not (a ∷ c ∷ n ∷ s ∷ f ∷ []) = seeded_or_not (a ∷ c ∷ n ∷ s ∷ f ∷ []) (a ∷ c ∷ n ∷ f ∷ []) s refl refl refl
asks_seed_or_not (a ∷ b ∷ c ∷ n ∷ s ∷ f ∷ []) = seeded_or_not (a ∷ b ∷ c ∷ n ∷ s ∷ f ∷ []) (a ∷ b ∷ c ∷ n ∷ f ∷ []) s refl refl refl
asks_seed_or_not (a ∷ b ∷ c ∷ n ∷ s ∷ f ∷ g ∷ more) = inr (not_seeded (a ∷ b ∷ c ∷ n ∷ s ∷ f ∷ g ∷ more) (λ x y. omega (arith, y)))

abbrev BySeedWord : List ℕ → ℕ → Options → Type 0
BySeedWord word seed o = ((command : Command) × HasSeedWord word seed o command) ⊎ ((command : Command) → HasSeedWord word seed o command → ⊥)

no_seed_word : (word : List ℕ) (seed : ℕ) (o : Options) → word ≢ codes "pick" → word ≢ codes "picked" → (command : Command) → HasSeedWord word seed o command → ⊥
no_seed_word word seed o no_pick no_picked (Pick n p) h = no_pick h.0
no_seed_word word seed o no_pick no_picked (Picked n p) h = no_picked h.0
no_seed_word word seed o no_pick no_picked c h = h

by_seed_word : (word : List ℕ) (seed : ℕ) (o : Options) → BySeedWord word seed o
by_seed_word word seed o = elim (same_text_or_not word (codes "pick")) [
  | inl e ↦ inl (Pick seed o, (e, refl, refl))
  | inr no_pick ↦ elim (same_text_or_not word (codes "picked")) [
    | inl e ↦ inl (Picked seed o, (e, refl, refl))
    | inr no_picked ↦ inr (no_seed_word word seed o no_pick no_picked)
  ]
]

abbrev BySeed : List (List ℕ) → Type 0
BySeed words = ((command : Command) × HasShape words command) ⊎ ((command : Command) → TakesSeed command → HasShape words command → ⊥)

seed_command : (words : List (List ℕ)) → BySeed words
seed_command words = elim (asks_seed_or_not words) [
  | inl a ↦ elim (by_seed_word a.0 a.1 a.2) [
    | inl c ↦ inl (c.0, seeded_shape words a.0 a.1 a.2 c.0 a.3 c.1)
    | inr none ↦ inr (no_other_seeded words a.0 a.1 a.2 a.3 none)
  ]
  | inr none ↦ inr (λ command takes shape. let b = found_seeded words command takes shape in none b.0 b.1)
]

-- ---- with a number of sites

-- a word writes a number of sites, or none
sites_or_not : (k : List ℕ) → ((n : ℕ) × WritesSites k n) ⊎ ((n : ℕ) → WritesSites k n → ⊥)
sites_or_not k = elim (number_or_not 64 (omega arith) k) [
  | inl w ↦ by w.0 w.1 w.2
  | inr none ↦ inr (λ n x. let few : n ≤ 64 = x.few in none (n, few, x.is))
]
  where
    by : (n : ℕ) → n ≤ 64 → k ≡ decimal n → ((n : ℕ) × WritesSites k n) ⊎ ((n : ℕ) → WritesSites k n → ⊥)
    by zero few is = inr (λ n x. let some : 1 ≤ n = x.some in let most : n ≤ 64 = x.few in let same : 0 ≡ n = decimal_injective 0 n (omega arith) (omega arith) (sym is ∙ x.is) in omega (arith, some, same))
    by (suc n) few is = inl (suc n, record { is = is; some = omega arith; few = few })

abbrev BySites : List (List ℕ) → Type 0
BySites words = ((command : Command) × HasShape words command) ⊎ AsksNoSites words

-- by the words without it
sited_or_not : (words plain : List (List ℕ)) (k : List ℕ) → with_sites k plain ≡ words → plain ≡ unsited words → k ≡ sites_in words → BySites words
sited_or_not words plain k put without same = elim (asks_seed_or_not plain) [
  | inl a ↦ elim (same_text_or_not a.0 (codes "sites")) [
    | inl is ↦ elim (sites_or_not k) [
      | inl n ↦ inl (Sites n.0 a.1 a.2, subst (λ w. HasShape w (Sites n.0 a.1 a.2)) put (sited_asked plain a.0 k n.0 a.1 a.2 a.3 is n.1))
      | inr none ↦ inr (no_sites words a.0 a.1 a.2 (subst (IsSeeded a.0 a.1 a.2) without a.3) (λ e n x. none n (subst (λ w. WritesSites w n) (sym same) x)))
    ]
    | inr other ↦ inr (no_sites words a.0 a.1 a.2 (subst (IsSeeded a.0 a.1 a.2) without a.3) (λ e n x. other e))
  ]
  | inr none ↦ inr (no_seeded words (λ name found. none name (subst (FoundSeed name) (sym without) found)))
]

sites_command : (words : List (List ℕ)) → BySites words
sites_command [] = inr (not_sited [] (λ x y. omega (arith, x)))
sites_command (a ∷ []) = inr (not_sited (a ∷ []) (λ x y. omega (arith, x)))
sites_command (a ∷ b ∷ []) = inr (not_sited (a ∷ b ∷ []) (λ x y. omega (arith, x)))
sites_command (a ∷ b ∷ c ∷ []) = inr (not_sited (a ∷ b ∷ c ∷ []) (λ x y. omega (arith, x)))
sites_command (a ∷ k ∷ s ∷ f ∷ []) = sited_or_not (a ∷ k ∷ s ∷ f ∷ []) (a ∷ s ∷ f ∷ []) k refl refl refl
sites_command (a ∷ b ∷ k ∷ s ∷ f ∷ []) = sited_or_not (a ∷ b ∷ k ∷ s ∷ f ∷ []) (a ∷ b ∷ s ∷ f ∷ []) k refl refl refl
sites_command (a ∷ c ∷ n ∷ k ∷ s ∷ f ∷ []) = sited_or_not (a ∷ c ∷ n ∷ k ∷ s ∷ f ∷ []) (a ∷ c ∷ n ∷ s ∷ f ∷ []) k refl refl refl
sites_command (a ∷ b ∷ c ∷ n ∷ k ∷ s ∷ f ∷ []) = sited_or_not (a ∷ b ∷ c ∷ n ∷ k ∷ s ∷ f ∷ []) (a ∷ b ∷ c ∷ n ∷ s ∷ f ∷ []) k refl refl refl
sites_command (a ∷ b ∷ c ∷ n ∷ k ∷ s ∷ f ∷ g ∷ more) = inr (not_sited (a ∷ b ∷ c ∷ n ∷ k ∷ s ∷ f ∷ g ∷ more) (λ x y. omega (arith, y)))

-- ---- all commands

abbrev ByLoad : List (List ℕ) → Type 0
ByLoad words = ((n : ℕ) × AsksToLoad n words) ⊎ ((n : ℕ) → AsksToLoad n words → ⊥)

length_of_load : (words : List (List ℕ)) → length words ≢ 2 → (n : ℕ) → AsksToLoad n words → ⊥
length_of_load words other n s = other (ap length s.shape)

load_of_two : (a b : List ℕ) → ByLoad (a ∷ b ∷ [])
load_of_two a b = elim (same_text_or_not a (codes "load")) [
  | inl e ↦ elim (number_or_not 18446744073709551615 (omega arith) b) [
    | inl w ↦ let few = w.1 in inl (w.0, record { shape = λ i. e i ∷ w.2 i ∷ []; fits = omega arith })
    | inr none ↦ inr (λ n s. let fits = s.fits in none (n, omega arith, ap (at 1) s.shape))
  ]
  | inr other ↦ inr (λ n s. other (ap (at 0) s.shape))
]

load_command : (words : List (List ℕ)) → ByLoad words
load_command [] = inr (length_of_load [] (λ e. omega (arith, e)))
load_command (a ∷ []) = inr (length_of_load (a ∷ []) (λ e. omega (arith, e)))
load_command (a ∷ b ∷ []) = load_of_two a b
load_command (a ∷ b ∷ c ∷ more) = inr (length_of_load (a ∷ b ∷ c ∷ more) (λ e. omega (arith, e)))

replay_of_three : (a f t : List ℕ) → ByReplay (a ∷ f ∷ t ∷ [])
replay_of_three a f t = elim (same_text_or_not a (codes "replay")) [
  | inl word ↦ elim (file_word_or_not f) [
    | inl first ↦ elim (file_word_or_not t) [
      | inl second ↦ inl (record { bare = false; fuel = default_fuel; file = f }, t, record { shape = ap (λ w. w ∷ f ∷ t ∷ []) word; fuel = refl; file = first; second = second })
      | inr never ↦ inr (three_not a f t (λ same is. never))
    ]
    | inr never ↦ inr (three_not a f t (λ same is other. never is))
  ]
  | inr other ↦ inr (three_not a f t (λ same is also. other same))
]

replay_of_four : (a b f t : List ℕ) → ByReplay (a ∷ b ∷ f ∷ t ∷ [])
replay_of_four a b f t = elim (same_text_or_not a (codes "replay")) [
  | inl word ↦ elim (same_text_or_not b (codes "--bare")) [
    | inl bare ↦ elim (file_word_or_not f) [
      | inl first ↦ elim (file_word_or_not t) [
        | inl second ↦ inl (record { bare = true; fuel = default_fuel; file = f }, t, record { shape = λ i. word i ∷ bare i ∷ f ∷ t ∷ []; fuel = refl; file = first; second = second })
        | inr never ↦ inr (four_not a b f t (λ same alone is. never))
      ]
      | inr never ↦ inr (four_not a b f t (λ same alone is other. never is))
    ]
    | inr other ↦ inr (four_not a b f t (λ same alone is also. other alone))
  ]
  | inr other ↦ inr (four_not a b f t (λ same alone is also. other same))
]

replay_command : (words : List (List ℕ)) → ByReplay words
replay_command [] = inr (other_number [] (λ e. omega (arith, e)) (λ e. omega (arith, e)))
replay_command (a ∷ []) = inr (other_number (a ∷ []) (λ e. omega (arith, e)) (λ e. omega (arith, e)))
replay_command (a ∷ b ∷ []) = inr (other_number (a ∷ b ∷ []) (λ e. omega (arith, e)) (λ e. omega (arith, e)))
replay_command (a ∷ f ∷ t ∷ []) = replay_of_three a f t
replay_command (a ∷ b ∷ f ∷ t ∷ []) = replay_of_four a b f t
replay_command (a ∷ b ∷ c ∷ d ∷ e ∷ more) = inr (other_number (a ∷ b ∷ c ∷ d ∷ e ∷ more) (λ x. omega (arith, x)) (λ x. omega (arith, x)))

pub shape_or_not : (words : List (List ℕ)) → ((command : Command) × HasShape words command) ⊎ HasNoShape words
shape_or_not words = elim (file_command words) [
  | inl c ↦ inl c
  | inr no_file ↦ elim (seed_command words) [
    | inl c ↦ inl c
    | inr none_seeded ↦ elim (sites_command words) [
      | inl c ↦ inl c
      | inr no_sited ↦ elim (load_command words) [
        | inl l ↦ inl (Load l.0, l.1)
        | inr no_load ↦ elim (replay_command words) [
          | inl r ↦ inl (Replay r.0 r.1, r.2)
          | inr no_replay ↦ inr (no_shape words no_file (no_others words none_seeded no_sited no_load no_replay))
        ]
      ]
    ]
  ]
]

pub law : OneCommand
law words = elim (shape_or_not words) [
  | inl c ↦ inl (c.0, c.1, λ other shape. one_command words other c.0 shape c.1)
  | inr none ↦ inr none
]
