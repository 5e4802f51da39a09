-- A primitive is found by its name, and by no other text.
use Rattle.std.proofs.Common.{◌≡◌, ◌≢◌, ℕ, Bool, true, false, List, [], ◌∷◌, Option, Some, None, IfSome, IfNone, if◌then◌else◌, refl, sym, ◌∙◌, ap}
use Rattle.std.specs.Str.{bytes_eq}
use Rattle.std.proofs.lemmas.Slice.Eq.{bytes_eq-Decides}
use Rattle.pict_syntax.specs.declared.primitive.Primitive.{Primitive}
use Rattle.pict_syntax.specs.declared.primitive.Primitive.TheVariants as primitive
use Rattle.pict_syntax.specs.Primitives.{primitive_text, primitives}
use Rattle.pict_scope.specs.PrimitiveNames.{first_named, primitive_named}
use Rattle.pict_scope.proofs.primitives.primitive_named.Goals as goal

by_its_name : (p : Primitive) → primitive_named (primitive_text p) ≡ Some p
by_its_name p = elim p as (λ p. primitive_named (primitive_text p) ≡ Some p) [ primitive.Print ↦ refl | _ ↦ refl ]

by_no_other : (ps : List Primitive) (text : List ℕ) → ((p : Primitive) → text ≢ primitive_text p) → first_named ps text ≡ None
by_no_other [] text other = refl
by_no_other (p ∷ ps) text other = go (bytes_eq text (primitive_text p)) (bytes_eq-Decides text (primitive_text p)).0 (by_no_other ps text other)
  where
    go : (b : Bool) → (b ≡ true → text ≡ primitive_text p) → first_named ps text ≡ None → if b then Some p else first_named ps text ≡ None
    go true is none = absurd (other p (is refl))
    go false is none = none

found : (text : List ℕ) (o : Option Primitive) → IfSome o (λ p. text ≡ primitive_text p) → IfNone o ((p : Primitive) → text ≢ primitive_text p) → o ≡ primitive_named text
found text (Some p) is _ = sym (ap primitive_named is ∙ by_its_name p)
found text None _ other = sym (by_no_other primitives text other)

pub returns : goal.returns
returns c = found c.args.text.now c.named.result c.named.ensures.some c.named.ensures.none
