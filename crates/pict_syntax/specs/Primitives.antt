-- The primitives: their names in programs and where values are shown, their numbers, and what they take.
use Rattle.std.specs.Prelude.{ℕ, List, [], ◌∷◌, codes}
use Rattle.pict_syntax.specs.declared.primitive.Primitive.{Primitive}
use Rattle.pict_syntax.specs.declared.primitive.Primitive.TheVariants as primitive
use Rattle.pict_syntax.specs.declared.primitive.ValueKind.TheVariants.{Int, Char, Bool, Text, Empty}
use Rattle.pict_syntax.specs.declared.primitive.Operands.{Operands}
use Rattle.pict_syntax.specs.declared.primitive.Operands.TheVariants.{Alone, One, Two}

pub record Row : Type 0 where
  pub name : List ℕ
  pub number : ℕ
  pub operands : Operands

abbrev entry : List ℕ → ℕ → Operands → Row
entry name number operands = record { name = name; number = number; operands = operands }

-- the one table of the primitives; what they do stands in that of the core language
abbrev pub row : Primitive → Row
row primitive.Print = entry (codes "print") 0 (Alone Text)
row primitive.Printi = entry (codes "printi") 1 (Alone Int)
row primitive.Pr = entry (codes "pr") 2 (One Text Empty)
row primitive.Add = entry (codes "+") 3 (Two Int Int Int)
row primitive.Subtract = entry (codes "-") 4 (Two Int Int Int)
row primitive.Multiply = entry (codes "*") 5 (Two Int Int Int)
row primitive.Divide = entry (codes "div") 6 (Two Int Int Int)
row primitive.Remainder = entry (codes "mod") 7 (Two Int Int Int)
row primitive.Equal = entry (codes "==") 8 (Two Int Int Bool)
row primitive.Less = entry (codes "<<") 9 (Two Int Int Bool)
row primitive.AtMost = entry (codes "<=") 10 (Two Int Int Bool)
row primitive.Greater = entry (codes ">>") 11 (Two Int Int Bool)
row primitive.AtLeast = entry (codes ">=") 12 (Two Int Int Bool)
row primitive.Chr = entry (codes "chr") 13 (One Int Char)
row primitive.Ord = entry (codes "ord") 14 (One Char Int)
row primitive.Join = entry (codes "+$") 15 (Two Text Text Text)
row primitive.Intstr = entry (codes "intstr") 16 (One Int Text)
row primitive.Size = entry (codes "size") 17 (One Text Int)
row primitive.Nth = entry (codes "nth") 18 (Two Text Int Int)
row primitive.Not = entry (codes "not") 19 (One Bool Bool)

abbrev pub primitive_text : Primitive → List ℕ
primitive_text p = (row p).name

abbrev pub primitive_number : Primitive → ℕ
primitive_number p = (row p).number

abbrev pub operands_of : Primitive → Operands
operands_of p = (row p).operands

-- the primitives, in the order of their numbers
abbrev pub primitives : List Primitive
primitives =
    primitive.Print ∷ primitive.Printi ∷ primitive.Pr ∷ primitive.Add ∷ primitive.Subtract ∷ primitive.Multiply ∷ primitive.Divide ∷ primitive.Remainder
    ∷ primitive.Equal ∷ primitive.Less ∷ primitive.AtMost ∷ primitive.Greater ∷ primitive.AtLeast ∷ primitive.Chr ∷ primitive.Ord ∷ primitive.Join
    ∷ primitive.Intstr ∷ primitive.Size ∷ primitive.Nth ∷ primitive.Not ∷ []
