-- Words of the shape of a command over a file, by how many they are.
use Rattle.std.proofs.Common.{◌≡◌, ◌≢◌, ℕ, ◌≤◌, Bool, true, false, List, [], ◌∷◌, ◌++◌, length, get_or, Option, Some, None, refl, sym, ◌∙◌, ap, subst, arith, codes}
use Rattle.std.specs.Fmt.{decimal}
use Rattle.pict_syntax.specs.declared.limits.TheConstants.{FUEL_LIMIT}
use Rattle.pict_words.specs.Words.{Options, AsksFor, IsFileWord, bare_words, fuel_words, default_fuel}
use Rattle.pict_words.specs.Asked.{Found, IsAsked, Writes}

abbrev pub words_for : List ℕ → Bool → Option ℕ → List ℕ → List (List ℕ)
words_for word bare written file = word ∷ (bare_words bare ++ (fuel_words written ++ file ∷ []))

abbrev pub at : ℕ → List (List ℕ) → List ℕ
at n words = get_or words n []

unlike : (xs ys : List (List ℕ)) → xs ≡ ys → length xs ≢ length ys → ⊥
unlike xs ys e other = other (ap length e)

-- ---- two

pub two_are : (a f word : List ℕ) (bare : Bool) (w : Option ℕ) (file : List ℕ) → a ∷ f ∷ [] ≡ words_for word bare w file → (bare ≡ false) × (w ≡ None) × (a ≡ word) × (f ≡ file)
two_are a f word false None file e = (refl, refl, ap (at 0) e, ap (at 1) e)
two_are a f word true None file e = absurd (unlike _ _ e (λ (x : 2 ≡ 3). omega (arith, x)))
two_are a f word false (Some m) file e = absurd (unlike _ _ e (λ (x : 2 ≡ 4). omega (arith, x)))
two_are a f word true (Some m) file e = absurd (unlike _ _ e (λ (x : 2 ≡ 5). omega (arith, x)))

pub two_asked : (a f : List ℕ) → IsFileWord f → IsAsked a false (record { bare = false; fuel = default_fuel; file = f }) (a ∷ f ∷ [])
two_asked a f is = (None, refl, record { shape = refl; fuel = refl; within = omega arith; file = is })

pub two_not_found : (a f : List ℕ) → (IsFileWord f → ⊥) → (name : List ℕ) → Found name (a ∷ f ∷ []) → ⊥
two_not_found a f never name (w, o, s) = let x = two_are a f name o.bare w o.file s.shape in never (subst IsFileWord (sym x.3) s.file)

-- ---- three

pub three_are : (a b f word : List ℕ) (bare : Bool) (w : Option ℕ) (file : List ℕ) → a ∷ b ∷ f ∷ [] ≡ words_for word bare w file → (bare ≡ true) × (w ≡ None) × (a ≡ word) × (f ≡ file) × (b ≡ codes "--bare")
three_are a b f word true None file e = (refl, refl, ap (at 0) e, ap (at 2) e, ap (at 1) e)
three_are a b f word false None file e = absurd (unlike _ _ e (λ (x : 3 ≡ 2). omega (arith, x)))
three_are a b f word false (Some m) file e = absurd (unlike _ _ e (λ (x : 3 ≡ 4). omega (arith, x)))
three_are a b f word true (Some m) file e = absurd (unlike _ _ e (λ (x : 3 ≡ 5). omega (arith, x)))

pub three_asked : (a b f : List ℕ) → b ≡ codes "--bare" → IsFileWord f → IsAsked a false (record { bare = true; fuel = default_fuel; file = f }) (a ∷ b ∷ f ∷ [])
three_asked a b f bare is = (None, refl, record { shape = ap (λ x. a ∷ x ∷ f ∷ []) bare; fuel = refl; within = omega arith; file = is })

pub three_not_found : (a b f : List ℕ) → (b ≡ codes "--bare" → IsFileWord f → ⊥) → (name : List ℕ) → Found name (a ∷ b ∷ f ∷ []) → ⊥
three_not_found a b f never name (w, o, s) = let x = three_are a b f name o.bare w o.file s.shape in never x.4 (subst IsFileWord (sym x.3) s.file)

-- ---- four

-- a written fuel, by its word
abbrev pub IsWritten : List ℕ → Option ℕ → Type 0
IsWritten word w = (m : ℕ) × (w ≡ Some m) × (word ≡ decimal m)

pub four_are : (a c n f word : List ℕ) (bare : Bool) (w : Option ℕ) (file : List ℕ) → a ∷ c ∷ n ∷ f ∷ [] ≡ words_for word bare w file → (bare ≡ false) × IsWritten n w × (a ≡ word) × (f ≡ file) × (c ≡ codes "--fuel")
four_are a c n f word false (Some m) file e = (refl, (m, refl, ap (at 2) e), ap (at 0) e, ap (at 3) e, ap (at 1) e)
four_are a c n f word true None file e = absurd (unlike _ _ e (λ (x : 4 ≡ 3). omega (arith, x)))
four_are a c n f word false None file e = absurd (unlike _ _ e (λ (x : 4 ≡ 2). omega (arith, x)))
four_are a c n f word true (Some m) file e = absurd (unlike _ _ e (λ (x : 4 ≡ 5). omega (arith, x)))

pub four_asked : (a c n f : List ℕ) (fuel : ℕ) → c ≡ codes "--fuel" → n ≡ decimal fuel → fuel ≤ FUEL_LIMIT → IsFileWord f → IsAsked a true (record { bare = false; fuel = fuel; file = f }) (a ∷ c ∷ n ∷ f ∷ [])
four_asked a c n f fuel option writes within is = (Some fuel, refl, record { shape = λ i. a ∷ option i ∷ writes i ∷ f ∷ []; fuel = refl; within = within; file = is })

-- the fuel that is written fits
writes : (n : List ℕ) (w : Option ℕ) (o : Options) (name : List ℕ) (words : List (List ℕ)) → IsWritten n w → AsksFor name w o words → Writes n
writes n (Some m) o name words (k, same, is) s = let few : o.fuel ≤ FUEL_LIMIT = s.within in let e : o.fuel ≡ m = s.fuel in let same' : m ≡ k = cc in (m, omega (arith, few, e), is ∙ ap decimal (sym same'))
writes n None o name words (k, same, is) s = absurd cc

pub four_not_found : (a c n f : List ℕ) → (c ≡ codes "--fuel" → Writes n → IsFileWord f → ⊥) → (name : List ℕ) → Found name (a ∷ c ∷ n ∷ f ∷ []) → ⊥
four_not_found a c n f never name (w, o, s) =
    let x = four_are a c n f name o.bare w o.file s.shape in never x.4 (writes n w o name _ x.1 s) (subst IsFileWord (sym x.3) s.file)

-- ---- five

pub five_are : (a b c n f word : List ℕ) (bare : Bool) (w : Option ℕ) (file : List ℕ) → a ∷ b ∷ c ∷ n ∷ f ∷ [] ≡ words_for word bare w file
    → (bare ≡ true) × IsWritten n w × (a ≡ word) × (f ≡ file) × (b ≡ codes "--bare") × (c ≡ codes "--fuel")
five_are a b c n f word true (Some m) file e = (refl, (m, refl, ap (at 3) e), ap (at 0) e, ap (at 4) e, ap (at 1) e, ap (at 2) e)
five_are a b c n f word true None file e = absurd (unlike _ _ e (λ (x : 5 ≡ 3). omega (arith, x)))
five_are a b c n f word false None file e = absurd (unlike _ _ e (λ (x : 5 ≡ 2). omega (arith, x)))
five_are a b c n f word false (Some m) file e = absurd (unlike _ _ e (λ (x : 5 ≡ 4). omega (arith, x)))

pub five_asked : (a b c n f : List ℕ) (fuel : ℕ) → b ≡ codes "--bare" → c ≡ codes "--fuel" → n ≡ decimal fuel → fuel ≤ FUEL_LIMIT → IsFileWord f → IsAsked a true (record { bare = true; fuel = fuel; file = f }) (a ∷ b ∷ c ∷ n ∷ f ∷ [])
five_asked a b c n f fuel bare option writes within is = (Some fuel, refl, record { shape = λ i. a ∷ bare i ∷ option i ∷ writes i ∷ f ∷ []; fuel = refl; within = within; file = is })

pub five_not_found : (a b c n f : List ℕ) → (b ≡ codes "--bare" → c ≡ codes "--fuel" → Writes n → IsFileWord f → ⊥) → (name : List ℕ) → Found name (a ∷ b ∷ c ∷ n ∷ f ∷ []) → ⊥
five_not_found a b c n f never name (w, o, s) =
    let x = five_are a b c n f name o.bare w o.file s.shape in never x.4 x.5 (writes n w o name _ x.1 s) (subst IsFileWord (sym x.3) s.file)

-- ---- others

found_length : (name : List ℕ) (bare : Bool) (w : Option ℕ) (file : List ℕ) → (2 ≤ length (words_for name bare w file)) × (length (words_for name bare w file) ≤ 5)
found_length name true None file = (omega arith, omega arith)
found_length name false None file = (omega arith, omega arith)
found_length name true (Some m) file = (omega arith, omega arith)
found_length name false (Some m) file = (omega arith, omega arith)

pub not_found : (words : List (List ℕ)) → (2 ≤ length words → length words ≤ 5 → ⊥) → (name : List ℕ) → Found name words → ⊥
not_found words never name (w, o, s) = let x = found_length name o.bare w o.file in let e = ap length s.shape in never (omega arith) (omega arith)
