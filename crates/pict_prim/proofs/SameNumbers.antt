-- The effect on two numbers, where they are the same.
use Rattle.std.proofs.Common.{◌≡◌, ◌∙◌, ap, ℤ}
use Rattle.pict_syntax.specs.declared.primitive.Primitive.{Primitive}
use Rattle.pict_core.specs.Term.{Val}
use Rattle.pict_prim.specs.Families.{int_effect}

pub same_numbers : (p : Primitive) (a b c d : ℤ) (k : Val) → c ≡ a → d ≡ b → int_effect p c d k ≡ int_effect p a b k
same_numbers p a b c d k e f = ap (λ z. int_effect p z d k) e ∙ ap (λ z. int_effect p a z k) f
