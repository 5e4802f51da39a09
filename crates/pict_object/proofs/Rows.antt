-- Worked objects.
use Rattle.std.proofs.Common.{◌≡◌, [], ◌∷◌, refl}
use Rattle.std.specs.Prelude.{codes}
use Rattle.pict_syntax.specs.declared.primitive.Primitive.TheVariants.{Print}
use Rattle.pict_core.specs.Term.{PrimitiveVal, Text, Par, Out, Zero}
use Rattle.pict_object.specs.Objects.{object_bytes, nowhere}

-- run print!"hello"
hello : object_bytes [] [] (Par (Out (PrimitiveVal Print) (Text (codes "hello")) nowhere) Zero)
    ≡ 0x50 ∷ 0x49 ∷ 0x43 ∷ 0x54 ∷ 1 ∷ 0 ∷ 0 ∷ 0 ∷ 0 ∷ 1 ∷ 3 ∷ 0x16 ∷ 0 ∷ 0x15 ∷ 0 ∷ 0 ∷ 0 ∷ 5 ∷ 0x68 ∷ 0x65 ∷ 0x6c ∷ 0x6c ∷ 0x6f ∷ 0 ∷ []
hello = refl

-- the empty text
empty : object_bytes [] [] Zero ≡ 0x50 ∷ 0x49 ∷ 0x43 ∷ 0x54 ∷ 1 ∷ 0 ∷ 0 ∷ 0 ∷ 0 ∷ 0 ∷ []
empty = refl
