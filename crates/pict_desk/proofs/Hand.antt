-- Words that are numbers, and how many fields a primitive takes.
use Rattle.std.proofs.Common.{◌≡◌, ◌≤◌, ℤ, pos, negsuc, List, [], ◌∷◌, length, map, Option, Some, None, FitsSigned, w64, refl, sym, ap, ◌∙◌, subst, arith}
use Rattle.std.proofs.lemmas.Fmt.{length_signed_le}
use Rattle.std.specs.Fmt.{signed_decimal}
use Rattle.pict_core.specs.declared.value.CoreVal.{CoreVal}
use Rattle.pict_core.specs.Plain.{vals_of}
use Rattle.pict_core.specs.Primitives.{Effect, Trap, at_int, at_two, at_three}
use Rattle.pict_core.specs.Term.{Val, Labelled, Int, Record}
use Rattle.pict_heap.specs.HeapState.{HeapState, value_of}
use Rattle.pict_heap.specs.Packed.{FitsWord}
use Rattle.pict_heap.specs.declared.word.Word.{Word}
use Rattle.pict_heap.specs.declared.word.Word.TheVariants as word
use Rattle.pict_prim.proofs.Bases.{no_int}

-- a word that isn't a number stands for none
pub no_number : (h : HeapState) (w : Word) → ((m : ℤ) → w ≡ word.Int m → ⊥) → (n : ℤ) → value_of h w ≡ Int n → ⊥
no_number h w other n is =
    let a = no_int h w other (λ (m : ℤ). Some (record { printed = None; leaves = Trap })) in
    let b = ap (λ v. at_int v (λ (m : ℤ). Some (record { printed = None; leaves = Trap }))) is in
    cc

pub short_decimal : (n : ℤ) → FitsSigned w64 n → length (signed_decimal n) ≤ 20
short_decimal (pos n) h = let fits = h.sfits in length_signed_le 19 (pos n) (omega (arith, fits)) fits
short_decimal (negsuc n) h = let fits = h.sfits in length_signed_le 19 (negsuc n) (omega (arith, fits)) fits

-- the decimal text of a word that is a number
pub word_decimal : (h : HeapState) (w : Word) (m n : ℤ) → w ≡ word.Int m → FitsWord w → value_of h w ≡ Int n → length (signed_decimal n) ≤ 20
word_decimal h w m n is fits value =
    let same : Int m ≡ Int n = sym (ap (value_of h) is) ∙ value in
    let number : m ≡ n = cc in
    short_decimal n (subst (FitsSigned w64) number (subst FitsWord is fits))

-- ---- a primitive takes a record with so many fields

module _ (f : CoreVal → Val) (ls : Labelled) (e : Effect) where
  pub two_taken : (xs : List CoreVal) (g : Val → Val → Option Effect) → at_two (Record (vals_of (map f xs)) ls) g ≡ Some e → length xs ≡ 2
  two_taken [] g h = cc
  two_taken (x ∷ []) g h = cc
  two_taken (x ∷ y ∷ []) g h = refl
  two_taken (x ∷ y ∷ z ∷ xs) g h = cc

  pub three_taken : (xs : List CoreVal) (g : Val → Val → Val → Option Effect) → at_three (Record (vals_of (map f xs)) ls) g ≡ Some e → length xs ≡ 3
  three_taken [] g h = cc
  three_taken (x ∷ []) g h = cc
  three_taken (x ∷ y ∷ []) g h = cc
  three_taken (x ∷ y ∷ z ∷ []) g h = refl
  three_taken (x ∷ y ∷ z ∷ w ∷ xs) g h = cc
