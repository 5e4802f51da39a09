-- What acts need of a heap, by the primitive and its argument.
use Rattle.std.proofs.Common.{◌≡◌, suc, Option, Some, None, IfSome, option_map, refl, ◌∙◌, ap, subst, arith}
use Rattle.pict_syntax.specs.declared.primitive.Primitive.{Primitive}
use Rattle.pict_syntax.specs.declared.primitive.Primitive.TheVariants as primitive
use Rattle.pict_core.specs.Term.{Val, Labelled, Var, Chan, Int, Char, Boolean, Text, PrimitiveVal, Record, no_vals, more_vals}
use Rattle.pict_core.specs.Primitives.{Effect, at_int}
use Rattle.pict_heap.specs.Fields.{count, positional_field, positional_count}
use Rattle.pict_heap.specs.HeapState.{HeapState}
use Rattle.pict_prim.specs.declared.act.Act.{Act}
use Rattle.pict_prim.specs.declared.act.Act.TheVariants as act
use Rattle.pict_prim.specs.declared.act.Need.{Need}
use Rattle.pict_prim.specs.Acts.{effect_act, need_of, AddsNothing}
use Rattle.pict_prim.specs.Families.{int_effect}
use Rattle.pict_prim.specs.Needed.{needed, of_three}
use Rattle.pict_prim.proofs.Shapes.{no_numbers}

-- an act that adds nothing, where it is that of a primitive on two numbers
plain_need : (h : HeapState) (v : Val) (a : Act) → AddsNothing a → need_of h a ≡ needed primitive.Add v
plain_need h v (act.Print w) i = refl
plain_need h v (act.Answer k w) i = refl
plain_need h v (act.PrintAnswer w k) i = absurd i
plain_need h v (act.Join k a b) i = absurd i
plain_need h v (act.Spell k n) i = absurd i
plain_need h v act.ZeroDivisor i = refl

numbers_need : (p : Primitive) → (p ≡ primitive.Join → ⊥) → (x y k v : Val) (e : Effect) (n : Need) → Some e ≡ at_int x (λ a. at_int y (λ b. int_effect p a b k)) → n ≡ needed primitive.Add v → n ≡ needed p v
numbers_need primitive.Pr m x y k v e n h i = absurd (let z : Some e ≡ None = h ∙ no_numbers x y in cc)
numbers_need primitive.Intstr m x y k v e n h i = absurd (let z : Some e ≡ None = h ∙ no_numbers x y in cc)
numbers_need primitive.Join m x y k v e n h i = absurd (m refl)
numbers_need _ m x y k v e n h i = i

pub operands_need : (p : Primitive) → (p ≡ primitive.Join → ⊥) → (h : HeapState) (x y k v : Val) (o : Option Act) → option_map (effect_act h) o ≡ at_int x (λ a. at_int y (λ b. int_effect p a b k))
    → IfSome o AddsNothing → IfSome o (λ a. need_of h a ≡ needed p v)
operands_need p m h x y k v None e i = tt
operands_need p m h x y k v (Some a) e i = numbers_need p m x y k v (effect_act h a) (need_of h a) e (plain_need h v a i)

pub if_needs : (h : HeapState) (o : Option Act) (n m : Need) → n ≡ m → IfSome o (λ a. need_of h a ≡ n) → IfSome o (λ a. need_of h a ≡ m)
if_needs h o n m e i = subst (λ z. IfSome o (λ a. need_of h a ≡ z)) e i

-- a record with three positional fields is these, with its labels
pub three_needed : (p : Primitive) (v x y k : Val) → positional_count v ≡ Some 3 → positional_field v 0 ≡ Some x → positional_field v 1 ≡ Some y → positional_field v 2 ≡ Some k
    → (ls : Labelled) × (needed p (of_three x y k ls) ≡ needed p v)
three_needed p (Var n) x y k e f g h = absurd cc
three_needed p (Chan n) x y k e f g h = absurd cc
three_needed p (Int n) x y k e f g h = absurd cc
three_needed p (Char n) x y k e f g h = absurd cc
three_needed p (Boolean n) x y k e f g h = absurd cc
three_needed p (Text n) x y k e f g h = absurd cc
three_needed p (PrimitiveVal n) x y k e f g h = absurd cc
three_needed p (Record no_vals ls) x y k e f g h = absurd cc
three_needed p (Record (more_vals a no_vals) ls) x y k e f g h = absurd cc
three_needed p (Record (more_vals a (more_vals b no_vals)) ls) x y k e f g h = absurd cc
three_needed p (Record (more_vals a (more_vals b (more_vals c no_vals))) ls) x y k e f g h =
    let i : x ≡ a = cc in
    let j : y ≡ b = cc in
    let l : k ≡ c = cc in
    (ls, ap (λ z. needed p (of_three z y k ls)) i ∙ ap (λ z. needed p (of_three a z k ls)) j ∙ ap (λ z. needed p (of_three a b z ls)) l)
three_needed p (Record (more_vals a (more_vals b (more_vals c (more_vals d vs)))) ls) x y k e f g h =
    let n : suc (suc (suc (suc (count vs)))) ≡ 3 = cc in absurd (omega arith)
