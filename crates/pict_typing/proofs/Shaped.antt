-- A primitive has an effect on exactly the values of the shape that it takes.
use Rattle.std.specs.Prelude.{IsSome}
use Rattle.std.proofs.Common.{ℕ, zero, suc, ℤ, pos, negsuc, Bool, Option, Some, List, ◌↔◌, refl}
use Rattle.pict_syntax.specs.declared.primitive.Primitive.TheVariants as primitive
use Rattle.pict_types.specs.Types.{PlainType, Int, Char, Str, Boolean}
use Rattle.pict_types.specs.PrimitiveTypes.{one_operand, two_operands, empty_record}
use Rattle.pict_core.specs.Term as core
use Rattle.pict_core.specs.Term.{Val, Record, no_vals, more_vals}
use Rattle.pict_core.specs.Primitives.{Effect, at_int, at_char, at_bool, at_text, at_two, at_three, divided_by}
use Rattle.pict_typing.specs.PrimitiveShapes.{HasShape, EffectsAreByShape}

-- both hold
both_hold : {A B : Type 0} → A → B → (A ↔ B)
both_hold a b = (λ x. b, λ y. a)

-- neither holds
neither_holds : {A B : Type 0} → (A → ⊥) → (B → ⊥) → (A ↔ B)
neither_holds f g = (λ x. absurd (f x), λ y. absurd (g y))

-- ---- one value of a base type, and what is said of it

int_shape : {Q : Type 0} (v : Val) (f : ℤ → Option Effect) → ((n : ℤ) → IsSome (f n) ↔ Q) → IsSome (at_int v f) ↔ (HasShape Int v × Q)
int_shape (core.Int n) f h = (λ x. (tt, (h n).0 x), λ y. (h n).1 y.1)
int_shape (core.Var l) f h = neither_holds (λ x. absurd (cc)) (λ y. y.0)
int_shape (core.Chan c) f h = neither_holds (λ x. absurd (cc)) (λ y. y.0)
int_shape (core.Char b) f h = neither_holds (λ x. absurd (cc)) (λ y. y.0)
int_shape (core.Boolean b) f h = neither_holds (λ x. absurd (cc)) (λ y. y.0)
int_shape (core.Text bs) f h = neither_holds (λ x. absurd (cc)) (λ y. y.0)
int_shape (core.PrimitiveVal p) f h = neither_holds (λ x. absurd (cc)) (λ y. y.0)
int_shape (core.Record vs ls) f h = neither_holds (λ x. absurd (cc)) (λ y. y.0)

text_shape : {Q : Type 0} (v : Val) (f : List ℕ → Option Effect) → ((bytes : List ℕ) → IsSome (f bytes) ↔ Q) → IsSome (at_text v f) ↔ (HasShape Str v × Q)
text_shape (core.Text bs) f h = (λ x. (tt, (h bs).0 x), λ y. (h bs).1 y.1)
text_shape (core.Var l) f h = neither_holds (λ x. absurd (cc)) (λ y. y.0)
text_shape (core.Chan c) f h = neither_holds (λ x. absurd (cc)) (λ y. y.0)
text_shape (core.Int n) f h = neither_holds (λ x. absurd (cc)) (λ y. y.0)
text_shape (core.Char b) f h = neither_holds (λ x. absurd (cc)) (λ y. y.0)
text_shape (core.Boolean b) f h = neither_holds (λ x. absurd (cc)) (λ y. y.0)
text_shape (core.PrimitiveVal p) f h = neither_holds (λ x. absurd (cc)) (λ y. y.0)
text_shape (core.Record vs ls) f h = neither_holds (λ x. absurd (cc)) (λ y. y.0)

char_shape : {Q : Type 0} (v : Val) (f : ℕ → Option Effect) → ((byte : ℕ) → IsSome (f byte) ↔ Q) → IsSome (at_char v f) ↔ (HasShape Char v × Q)
char_shape (core.Char b) f h = (λ x. (tt, (h b).0 x), λ y. (h b).1 y.1)
char_shape (core.Var l) f h = neither_holds (λ x. absurd (cc)) (λ y. y.0)
char_shape (core.Chan c) f h = neither_holds (λ x. absurd (cc)) (λ y. y.0)
char_shape (core.Int n) f h = neither_holds (λ x. absurd (cc)) (λ y. y.0)
char_shape (core.Boolean b) f h = neither_holds (λ x. absurd (cc)) (λ y. y.0)
char_shape (core.Text bs) f h = neither_holds (λ x. absurd (cc)) (λ y. y.0)
char_shape (core.PrimitiveVal p) f h = neither_holds (λ x. absurd (cc)) (λ y. y.0)
char_shape (core.Record vs ls) f h = neither_holds (λ x. absurd (cc)) (λ y. y.0)

truth_shape : {Q : Type 0} (v : Val) (f : Bool → Option Effect) → ((b : Bool) → IsSome (f b) ↔ Q) → IsSome (at_bool v f) ↔ (HasShape Boolean v × Q)
truth_shape (core.Boolean b) f h = (λ x. (tt, (h b).0 x), λ y. (h b).1 y.1)
truth_shape (core.Var l) f h = neither_holds (λ x. absurd (cc)) (λ y. y.0)
truth_shape (core.Chan c) f h = neither_holds (λ x. absurd (cc)) (λ y. y.0)
truth_shape (core.Int n) f h = neither_holds (λ x. absurd (cc)) (λ y. y.0)
truth_shape (core.Char b) f h = neither_holds (λ x. absurd (cc)) (λ y. y.0)
truth_shape (core.Text bs) f h = neither_holds (λ x. absurd (cc)) (λ y. y.0)
truth_shape (core.PrimitiveVal p) f h = neither_holds (λ x. absurd (cc)) (λ y. y.0)
truth_shape (core.Record vs ls) f h = neither_holds (λ x. absurd (cc)) (λ y. y.0)

-- ---- records of one or two operands, and a channel

one_shape : (s r : PlainType) (v : Val) (f : Val → Val → Option Effect) → ((u k : Val) → IsSome (f u k) ↔ (HasShape s u × Unit {0})) → IsSome (at_two v f) ↔ HasShape (one_operand s r) v
one_shape s r (Record (more_vals u (more_vals k no_vals)) ls) f h = (λ x. (((h u k).0 x).0, (tt, tt)), λ y. (h u k).1 (y.0, tt))
one_shape s r (Record no_vals ls) f h = neither_holds (λ x. absurd (cc)) (λ y. y)
one_shape s r (Record (more_vals u no_vals) ls) f h = neither_holds (λ x. absurd (cc)) (λ y. y.1)
one_shape s r (Record (more_vals u (more_vals k (more_vals w vs))) ls) f h = neither_holds (λ x. absurd (cc)) (λ y. y.1.1)
one_shape s r (core.Var l) f h = neither_holds (λ x. absurd (cc)) (λ y. y)
one_shape s r (core.Chan c) f h = neither_holds (λ x. absurd (cc)) (λ y. y)
one_shape s r (core.Int n) f h = neither_holds (λ x. absurd (cc)) (λ y. y)
one_shape s r (core.Char b) f h = neither_holds (λ x. absurd (cc)) (λ y. y)
one_shape s r (core.Boolean b) f h = neither_holds (λ x. absurd (cc)) (λ y. y)
one_shape s r (core.Text bs) f h = neither_holds (λ x. absurd (cc)) (λ y. y)
one_shape s r (core.PrimitiveVal p) f h = neither_holds (λ x. absurd (cc)) (λ y. y)

two_shape : (s t r : PlainType) (v : Val) (f : Val → Val → Val → Option Effect) → ((u w k : Val) → IsSome (f u w k) ↔ (HasShape s u × (HasShape t w × Unit {0}))) → IsSome (at_three v f) ↔ HasShape (two_operands s t r) v
two_shape s t r (Record (more_vals u (more_vals w (more_vals k no_vals))) ls) f h =
    (λ x. let y = (h u w k).0 x in (y.0, (y.1.0, (tt, tt))), λ y. (h u w k).1 (y.0, (y.1.0, tt)))
two_shape s t r (Record no_vals ls) f h = neither_holds (λ x. absurd (cc)) (λ y. y)
two_shape s t r (Record (more_vals u no_vals) ls) f h = neither_holds (λ x. absurd (cc)) (λ y. y.1)
two_shape s t r (Record (more_vals u (more_vals w no_vals)) ls) f h = neither_holds (λ x. absurd (cc)) (λ y. y.1.1)
two_shape s t r (Record (more_vals u (more_vals w (more_vals k (more_vals z vs)))) ls) f h = neither_holds (λ x. absurd (cc)) (λ y. y.1.1.1)
two_shape s t r (core.Var l) f h = neither_holds (λ x. absurd (cc)) (λ y. y)
two_shape s t r (core.Chan c) f h = neither_holds (λ x. absurd (cc)) (λ y. y)
two_shape s t r (core.Int n) f h = neither_holds (λ x. absurd (cc)) (λ y. y)
two_shape s t r (core.Char b) f h = neither_holds (λ x. absurd (cc)) (λ y. y)
two_shape s t r (core.Boolean b) f h = neither_holds (λ x. absurd (cc)) (λ y. y)
two_shape s t r (core.Text bs) f h = neither_holds (λ x. absurd (cc)) (λ y. y)
two_shape s t r (core.PrimitiveVal p) f h = neither_holds (λ x. absurd (cc)) (λ y. y)

-- a zero divisor is an effect too
divided_some : (n : ℤ) (e : Option Effect) → IsSome e → IsSome (divided_by n e)
divided_some (pos zero) e x = refl
divided_some (pos (suc n)) e x = x
divided_some (negsuc n) e x = x

-- without what is said of the one value
alone : {A B : Type 0} → (A ↔ (B × Unit {0})) → (A ↔ B)
alone h = (λ x. (h.0 x).0, λ y. h.1 (y, tt))

some_holds : (e : Effect) → IsSome (Some e) ↔ Unit {0}
some_holds e = both_hold refl tt

divided_holds : (n : ℤ) (e : Effect) → IsSome (divided_by n (Some e)) ↔ Unit {0}
divided_holds n e = both_hold (divided_some n (Some e) refl) tt

ruleset operands_shape = (one_shape, two_shape, int_shape, char_shape, truth_shape, text_shape, some_holds, divided_holds)

pub effects_by_shape : EffectsAreByShape
effects_by_shape primitive.Print v = alone (text_shape v _ (λ bytes. both_hold refl tt))
effects_by_shape primitive.Printi v = alone (int_shape v _ (λ n. both_hold refl tt))
effects_by_shape _ v = search operands_shape depth 8
