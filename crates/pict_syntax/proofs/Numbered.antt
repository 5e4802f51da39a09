-- Each primitive stands at its number in the list of all of them, and nothing stands behind the last.
use Rattle.std.proofs.Common.{◌≡◌, ℕ, zero, suc, ◌+◌, List, [], ◌∷◌, Option, Some, None, refl, sym, ◌∙◌, ap, arith}
use Rattle.std.specs.List.{slice_get}
use Rattle.pict_syntax.specs.declared.primitive.Primitive.{Primitive}
use Rattle.pict_syntax.specs.declared.primitive.Primitive.TheVariants as primitive
use Rattle.pict_syntax.specs.Primitives.{primitive_number, primitives}

-- primitives with numbers that count up from this one
AreCounted : List Primitive → ℕ → Type 0
AreCounted [] k = Unit {0}
AreCounted (p ∷ ps) k = (primitive_number p ≡ k) × AreCounted ps (k + 1)

counted : (ps : List Primitive) (k n : ℕ) (p : Primitive) → AreCounted ps k → slice_get ps n ≡ Some p → primitive_number p ≡ k + n
unfolding AreCounted
counted [] k n p all found = absurd cc
counted (q ∷ ps) k zero p all found =
    let same : q ≡ p = cc in
    sym (ap primitive_number same) ∙ all.0 ∙ (let place : k ≡ k + 0 = omega arith in place)
counted (q ∷ ps) k (suc n) p all found = counted ps (k + 1) n p all.1 found ∙ (let place : k + 1 + n ≡ k + suc n = omega arith in place)

all_counted : AreCounted primitives 0
unfolding AreCounted
all_counted = search

-- a primitive that stands at a number has it
pub number_found : (n : ℕ) (p : Primitive) → slice_get primitives n ≡ Some p → primitive_number p ≡ n
number_found n p found = counted primitives 0 n p all_counted found ∙ (let plain : 0 + n ≡ n = omega arith in plain)

-- a primitive stands at its number
pub found_at : (p : Primitive) → slice_get primitives (primitive_number p) ≡ Some p
found_at primitive.Print = refl
found_at _ = refl

-- two primitives with one number are one
pub one_number : (p q : Primitive) → primitive_number p ≡ primitive_number q → p ≡ q
one_number p q e = let same : Some p ≡ Some q = sym (found_at p) ∙ ap (λ n. slice_get primitives n) e ∙ found_at q in cc
