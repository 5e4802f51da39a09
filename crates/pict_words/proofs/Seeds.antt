-- Words of the shape of a command with a seed, and the same words without it.
use Rattle.std.proofs.Common.{◌≡◌, ◌≢◌, ℕ, ◌≤◌, ◌<◌, ◌^◌, Bool, true, false, List, [], ◌∷◌, ◌++◌, length, Option, Some, None, IfSome, refl, sym, ◌∙◌, ap, subst, arith}
use Rattle.std.specs.Fmt.{decimal}
use Rattle.pict_words.specs.Words.{Options, AsksFor, AsksWithSeed, bare_words, fuel_words}
use Rattle.pict_words.specs.Asked.{Found, IsAsked, IsSeeded, FoundSeed, unseeded, seed_in}
use Rattle.pict_words.specs.Plain.{plain_options}
use Rattle.pict_words.specs.declared.words.Options as declared
use Rattle.pict_words.specs.declared.words.Seeded.{Seeded}
use Rattle.pict_words.proofs.Shapes.{words_for}

abbrev pub seeded_for : List ℕ → Bool → Option ℕ → List ℕ → List ℕ → List (List ℕ)
seeded_for word bare written seed file = word ∷ (bare_words bare ++ (fuel_words written ++ seed ∷ file ∷ []))

unseeded_for : (word : List ℕ) (bare : Bool) (w : Option ℕ) (seed file : List ℕ) → unseeded (seeded_for word bare w seed file) ≡ words_for word bare w file
unseeded_for word true (Some n) seed file = refl
unseeded_for word true None seed file = refl
unseeded_for word false (Some n) seed file = refl
unseeded_for word false None seed file = refl

seed_for : (word : List ℕ) (bare : Bool) (w : Option ℕ) (seed file : List ℕ) → seed_in (seeded_for word bare w seed file) ≡ seed
seed_for word true (Some n) seed file = refl
seed_for word true None seed file = refl
seed_for word false (Some n) seed file = refl
seed_for word false None seed file = refl

-- ---- without the seed

pub without_seed : (words : List (List ℕ)) (word : List ℕ) (w : Option ℕ) (seed : ℕ) (o : Options) → AsksWithSeed word w seed o words → AsksFor word w o (unseeded words)
without_seed words word w seed o s = record { shape = ap unseeded s.shape ∙ unseeded_for word o.bare w (decimal seed) o.file; fuel = s.fuel; within = s.within; file = s.file }

pub seed_written : (words : List (List ℕ)) (word : List ℕ) (w : Option ℕ) (seed : ℕ) (o : Options) → AsksWithSeed word w seed o words → seed_in words ≡ decimal seed
seed_written words word w seed o s = ap seed_in s.shape ∙ seed_for word o.bare w (decimal seed) o.file

-- where nothing is asked for without the seed, nothing is with it
pub no_plain : (words : List (List ℕ)) → ((name : List ℕ) → Found name (unseeded words) → ⊥) → (name : List ℕ) → FoundSeed name words → ⊥
no_plain words none name (n, o, (w, s)) = none name (w, o, without_seed words name w n o s)

-- where the last word but one writes no seed
pub no_seed : (words : List (List ℕ)) → ((n : ℕ) → n < 2 ^ 64 → seed_in words ≢ decimal n) → (name : List ℕ) → FoundSeed name words → ⊥
no_seed words none name (n, o, (w, s)) = none n s.fits (seed_written words name w n o s)

seeded_length : (name : List ℕ) (bare : Bool) (w : Option ℕ) (seed file : List ℕ) → (3 ≤ length (seeded_for name bare w seed file)) × (length (seeded_for name bare w seed file) ≤ 6)
seeded_length name true None seed file = (omega arith, omega arith)
seeded_length name false None seed file = (omega arith, omega arith)
seeded_length name true (Some m) seed file = (omega arith, omega arith)
seeded_length name false (Some m) seed file = (omega arith, omega arith)

pub not_seeded : (words : List (List ℕ)) → (3 ≤ length words → length words ≤ 6 → ⊥) → (name : List ℕ) → FoundSeed name words → ⊥
not_seeded words never name (n, o, (w, s)) = let x = seeded_length name o.bare w (decimal n) o.file in let e = ap length s.shape in never (omega arith) (omega arith)

-- ---- with a seed

-- words with this one before their last
abbrev pub with_word : List ℕ → List (List ℕ) → List (List ℕ)
with_word seed [] = []
with_word seed (file ∷ []) = seed ∷ file ∷ []
with_word seed (word ∷ file ∷ more) = word ∷ with_word seed (file ∷ more)

with_for : (word : List ℕ) (bare : Bool) (w : Option ℕ) (seed file : List ℕ) → with_word seed (words_for word bare w file) ≡ seeded_for word bare w seed file
with_for word true (Some n) seed file = refl
with_for word true None seed file = refl
with_for word false (Some n) seed file = refl
with_for word false None seed file = refl

pub seeded_asked : (plain : List (List ℕ)) (word s : List ℕ) (f : Bool) (o : Options) (seed : ℕ) → IsAsked word f o plain → s ≡ decimal seed → seed < 2 ^ 64 → IsSeeded word seed o (with_word s plain)
seeded_asked plain word s f o seed (w, x, a) e fits =
    (w, record { shape = ap (with_word s) a.shape ∙ with_for word o.bare w s o.file ∙ ap (λ d. seeded_for word o.bare w d o.file) e; fuel = a.fuel; within = a.within; fits = fits; file = a.file })

-- what is asked for with the seed that a word writes
pub seeded_some : (r : Option Seeded) (plain : List (List ℕ)) (word s : List ℕ) (f : Bool) (o : declared.Options) → IsAsked word f (plain_options o) plain
    → IfSome r (λ x. (x.word.now ≡ word) × (x.options ≡ o) × (s ≡ decimal x.seed) × (x.seed < 2 ^ 64)) → IfSome r (λ x. IsSeeded x.word.now x.seed (plain_options x.options) (with_word s plain))
seeded_some None plain word s f o asked has = tt
seeded_some (Some x) plain word s f o asked has =
    subst (λ v. IsSeeded v x.seed (plain_options x.options) (with_word s plain)) (sym has.0)
    (subst (λ p. IsSeeded word x.seed (plain_options p) (with_word s plain)) (sym has.1) (seeded_asked plain word s f (plain_options o) x.seed asked has.2 has.3))
