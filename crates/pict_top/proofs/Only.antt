-- The texts of a shelf that holds one.
use Rattle.std.proofs.Common.{◌≡◌, ℕ, ◌<◌, ◌≤◌, Bool, true, false, List, [], ◌∷◌, length, Some, None, cond, refl, sym, ap, subst, ◌∙◌, arith, nat_eq}
use Rattle.std.specs.Prelude.{◌↔◌, IsSomeAnd}
use Rattle.std.proofs.lemmas.Slice.Eq.{bytes_eq-Decides}
use Rattle.std.specs.Cmp.Lexicographic.{pointwise, texts_ties, nat_list_cmp_total}
use Rattle.std.specs.FinMap.{get-from_entries}
use Rattle.pict_outside.specs.Texts.{Texts, text_of, MayGive, IsTooLong, IsLongerThan}
use Rattle.pict_outside.specs.declared.shelf.Fetched.{Fetched}
use Rattle.pict_outside.specs.declared.shelf.Fetched.TheVariants.{Text, Missing, TooLong}
use Rattle.pict_top.specs.Origins.{only}

-- the one text stands under its name, and nothing under any other
by_test : (name own other : List ℕ) (same : Bool) → pointwise nat_eq other name ≡ same → text_of (only name own) other ≡ cond same (Some own) None
unfolding only
by_test name own other same is =
    get-from_entries nat_list_cmp_total ((name, own) ∷ []) other ∙ ap (λ t. cond t (Some own) None) (sym (texts_ties other name) ∙ is)

pub found : (name own other : List ℕ) → pointwise nat_eq other name ≡ true → text_of (only name own) other ≡ Some own
found name own other same = by_test name own other true same

pub passed : (name own other : List ℕ) → pointwise nat_eq other name ≡ false → text_of (only name own) other ≡ None
passed name own other apart = by_test name own other false apart

pub is_there : (name own : List ℕ) → text_of (only name own) name ≡ Some own
is_there name own = found name own name ((bytes_eq-Decides name name).1 refl)

-- ---- what a shelf of these texts answers

-- the answer is right for what stands under the name, and says exactly there that it is missing or too long
pub record IsRight (texts : Texts) (name : List ℕ) (limit : ℕ) (f : Fetched) : Type 0 where
  pub given : MayGive (Some texts) name limit f
  pub missing : (f ≡ Missing) ↔ (text_of texts name ≡ None)
  pub too_long : IsTooLong f ↔ IsLongerThan limit (text_of texts name)

-- the text, or its length where it is too long
abbrev pub IsWhole : List ℕ → ℕ → Fetched → Type 0
IsWhole own limit (Text copy) = (length copy.items ≤ limit) × (copy.items ≡ own)
IsWhole own limit (TooLong n) = (limit < n) × (n ≡ length own)
IsWhole own limit Missing = ⊥

module _ (texts : Texts) (name : List ℕ) (limit : ℕ) where
  pub none_there : text_of texts name ≡ None → IsRight texts name limit Missing
  none_there lacks = record { given = lacks; missing = (λ e. lacks, λ e. refl); too_long = (λ no. absurd no, λ long. subst (IsLongerThan limit) lacks long) }

  module _ (own : List ℕ) (there : text_of texts name ≡ Some own) where
    not_none : text_of texts name ≡ None → ⊥
    not_none lacks = let is = sym there ∙ lacks in absurd cc

    pub whole_there : (f : Fetched) → IsWhole own limit f → IsRight texts name limit f
    whole_there (Text copy) is = record {
      given = (is.0, there ∙ ap Some (sym is.1));
      missing = (λ e. absurd cc, λ lacks. absurd (not_none lacks));
      too_long = (λ no. absurd no, λ long. let more : limit < length own = subst (IsLongerThan limit) there long in absurd (omega (arith, is.0, ap length is.1)));
    }
    whole_there (TooLong n) is = record {
      given = (is.0, subst (λ t. IsSomeAnd t (λ text. n ≤ length text)) (sym there) (omega (arith, is.1)));
      missing = (λ e. absurd cc, λ lacks. absurd (not_none lacks));
      too_long = (λ yes. subst (IsLongerThan limit) (sym there) (omega (arith, is.0, is.1)), λ long. tt);
    }
    whole_there Missing is = absurd is
