-- Words of the shape of `sites`, and the same words without their number of sites.
use Rattle.std.proofs.Common.{◌≡◌, ℕ, ◌≤◌, Bool, true, false, List, [], ◌∷◌, ◌++◌, length, Option, Some, None, IfSome, refl, sym, ◌∙◌, ap, subst, arith, codes}
use Rattle.std.specs.Fmt.{decimal}
use Rattle.pict_words.specs.Words.{Options, AsksWithSeed, AsksForSites, Sites, HasShape, bare_words, fuel_words}
use Rattle.pict_words.specs.Asked.{FoundSeed, IsSeeded, IsSitesOf, AsksNoSites, WritesSites, unsited, sites_in, with_sites}
use Rattle.pict_words.specs.Plain.{plain_command}
use Rattle.pict_words.specs.declared.words.Command as declared
use Rattle.pict_words.proofs.Seeds.{seeded_for}

abbrev sited_for : List ℕ → Bool → Option ℕ → List ℕ → List ℕ → List ℕ → List (List ℕ)
sited_for word bare written sites seed file = word ∷ (bare_words bare ++ (fuel_words written ++ sites ∷ seed ∷ file ∷ []))

unsited_for : (word : List ℕ) (bare : Bool) (w : Option ℕ) (sites seed file : List ℕ) → unsited (sited_for word bare w sites seed file) ≡ seeded_for word bare w seed file
unsited_for word true (Some n) sites seed file = refl
unsited_for word true None sites seed file = refl
unsited_for word false (Some n) sites seed file = refl
unsited_for word false None sites seed file = refl

sites_for : (word : List ℕ) (bare : Bool) (w : Option ℕ) (sites seed file : List ℕ) → sites_in (sited_for word bare w sites seed file) ≡ sites
sites_for word true (Some n) sites seed file = refl
sites_for word true None sites seed file = refl
sites_for word false (Some n) sites seed file = refl
sites_for word false None sites seed file = refl

with_for : (word : List ℕ) (bare : Bool) (w : Option ℕ) (sites seed file : List ℕ) → with_sites sites (seeded_for word bare w seed file) ≡ sited_for word bare w sites seed file
with_for word true (Some n) sites seed file = refl
with_for word true None sites seed file = refl
with_for word false (Some n) sites seed file = refl
with_for word false None sites seed file = refl

-- ---- without the sites

pub without_sites : (words : List (List ℕ)) (w : Option ℕ) (sites seed : ℕ) (o : Options) → AsksForSites w sites seed o words → AsksWithSeed (codes "sites") w seed o (unsited words)
without_sites words w sites seed o s =
    record { shape = ap unsited s.shape ∙ unsited_for (codes "sites") o.bare w (decimal sites) (decimal seed) o.file; fuel = s.fuel; within = s.within; fits = s.fits; file = s.file }

pub sites_written : (words : List (List ℕ)) (w : Option ℕ) (sites seed : ℕ) (o : Options) → AsksForSites w sites seed o words → WritesSites (sites_in words) sites
sites_written words w sites seed o s = record { is = ap sites_in s.shape ∙ sites_for (codes "sites") o.bare w (decimal sites) (decimal seed) o.file; some = s.some; few = s.few }

-- where nothing is asked for without the sites, nothing is with them
pub no_seeded : (words : List (List ℕ)) → ((name : List ℕ) → FoundSeed name (unsited words) → ⊥) → AsksNoSites words
no_seeded words none w sites seed o s = none (codes "sites") (seed, o, (w, without_sites words w sites seed o s))

sited_length : (bare : Bool) (w : Option ℕ) (sites seed file : List ℕ) → (4 ≤ length (sited_for (codes "sites") bare w sites seed file)) × (length (sited_for (codes "sites") bare w sites seed file) ≤ 7)
sited_length true None sites seed file = (omega arith, omega arith)
sited_length false None sites seed file = (omega arith, omega arith)
sited_length true (Some m) sites seed file = (omega arith, omega arith)
sited_length false (Some m) sites seed file = (omega arith, omega arith)

pub not_sited : (words : List (List ℕ)) → (4 ≤ length words → length words ≤ 7 → ⊥) → AsksNoSites words
not_sited words never w sites seed o s =
    let x = sited_length o.bare w (decimal sites) (decimal seed) o.file in let e = ap length s.shape in never (omega arith) (omega arith)

-- what isn't asked for in these words isn't in the same ones
pub none_sited_in : (r : Type 0) (words lent : List (List ℕ)) → words ≡ lent → (r → AsksNoSites lent) → r → AsksNoSites words
none_sited_in r words lent same none e = subst AsksNoSites (sym same) (none e)

-- ---- with the sites

pub sited_asked : (plain : List (List ℕ)) (word k : List ℕ) (sites seed : ℕ) (o : Options) → IsSeeded word seed o plain → word ≡ codes "sites" → WritesSites k sites → HasShape (with_sites k plain) (Sites sites seed o)
sited_asked plain word k sites seed o (w, a) is writes = (
  w,
  record {
    shape = ap (with_sites k) a.shape ∙ with_for word o.bare w k (decimal seed) o.file ∙ (λ i. sited_for (is i) o.bare w (writes.is i) (decimal seed) o.file);
    fuel = a.fuel;
    within = a.within;
    some = writes.some;
    few = writes.few;
    fits = a.fits;
    file = a.file;
  },
)

-- what is asked for on as many sites as a word writes
pub sited_some : (r : Option declared.Command) (plain : List (List ℕ)) (word k : List ℕ) (seed : ℕ) (o : Options) → IsSeeded word seed o plain
    → IfSome r (λ c. IsSitesOf k word seed o (plain_command c)) → IfSome r (λ c. HasShape (with_sites k plain) (plain_command c))
sited_some None plain word k seed o asked is = tt
sited_some (Some c) plain word k seed o asked is = subst (HasShape (with_sites k plain)) (sym is.is) (sited_asked plain word k is.sites seed o asked is.named is.writes)
