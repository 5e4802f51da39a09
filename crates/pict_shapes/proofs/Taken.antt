-- A primitive takes exactly the values with its operands.
use Rattle.std.proofs.Common.{ℕ, ◌≡◌, ℤ, pos, negsuc, zero, suc, Bool, true, false, List, refl, ◌∙◌, Option}
use Rattle.std.specs.Prelude.{◌&&◌}
use Rattle.pict_syntax.specs.declared.primitive.Primitive.TheVariants as primitive
use Rattle.pict_core.specs.Term.{Val, Var, Chan, Int, Char, Boolean, Text, PrimitiveVal, Record, no_vals, more_vals}
use Rattle.pict_core.specs.Primitives.{Effect, at_int, at_char, at_bool, at_text, at_two, at_three, divided_by}
use Rattle.pict_syntax.specs.declared.primitive.ValueKind.{ValueKind}
use Rattle.pict_syntax.specs.declared.primitive.ValueKind.TheVariants as kind
use Rattle.pict_syntax.specs.declared.primitive.Operands.TheVariants.{One, Two}
use Rattle.pict_shapes.specs.Shapes.{is_kind, has_operands, is_effect, PrimitivesTakeShapes}

of_int : (v : Val) (f : ℤ → Option Effect) (b : Bool) → ((i : ℤ) → is_effect (f i) ≡ b) → is_effect (at_int v f) ≡ is_kind kind.Int v && b
of_int (Var x) f b h = refl
of_int (Chan x) f b h = refl
of_int (Int x) f b h = h x
of_int (Char x) f b h = refl
of_int (Boolean x) f b h = refl
of_int (Text x) f b h = refl
of_int (PrimitiveVal x) f b h = refl
of_int (Record x y) f b h = refl

of_char : (v : Val) (f : ℕ → Option Effect) (b : Bool) → ((i : ℕ) → is_effect (f i) ≡ b) → is_effect (at_char v f) ≡ is_kind kind.Char v && b
of_char (Var x) f b h = refl
of_char (Chan x) f b h = refl
of_char (Int x) f b h = refl
of_char (Char x) f b h = h x
of_char (Boolean x) f b h = refl
of_char (Text x) f b h = refl
of_char (PrimitiveVal x) f b h = refl
of_char (Record x y) f b h = refl

of_bool : (v : Val) (f : Bool → Option Effect) (b : Bool) → ((i : Bool) → is_effect (f i) ≡ b) → is_effect (at_bool v f) ≡ is_kind kind.Bool v && b
of_bool (Var x) f b h = refl
of_bool (Chan x) f b h = refl
of_bool (Int x) f b h = refl
of_bool (Char x) f b h = refl
of_bool (Boolean x) f b h = h x
of_bool (Text x) f b h = refl
of_bool (PrimitiveVal x) f b h = refl
of_bool (Record x y) f b h = refl

of_text : (v : Val) (f : List ℕ → Option Effect) (b : Bool) → ((i : List ℕ) → is_effect (f i) ≡ b) → is_effect (at_text v f) ≡ is_kind kind.Text v && b
of_text (Var x) f b h = refl
of_text (Chan x) f b h = refl
of_text (Int x) f b h = refl
of_text (Char x) f b h = refl
of_text (Boolean x) f b h = refl
of_text (Text x) f b h = h x
of_text (PrimitiveVal x) f b h = refl
of_text (Record x y) f b h = refl

and_true : (b : Bool) → (b && true) ≡ b
and_true true = refl
and_true false = refl

-- where nothing more is asked
int_alone : (v : Val) (f : ℤ → Option Effect) → ((i : ℤ) → is_effect (f i) ≡ true) → is_effect (at_int v f) ≡ is_kind kind.Int v
int_alone v f h = of_int v f true h ∙ and_true (is_kind kind.Int v)

char_alone : (v : Val) (f : ℕ → Option Effect) → ((i : ℕ) → is_effect (f i) ≡ true) → is_effect (at_char v f) ≡ is_kind kind.Char v
char_alone v f h = of_char v f true h ∙ and_true (is_kind kind.Char v)

bool_alone : (v : Val) (f : Bool → Option Effect) → ((i : Bool) → is_effect (f i) ≡ true) → is_effect (at_bool v f) ≡ is_kind kind.Bool v
bool_alone v f h = of_bool v f true h ∙ and_true (is_kind kind.Bool v)

text_alone : (v : Val) (f : List ℕ → Option Effect) → ((i : List ℕ) → is_effect (f i) ≡ true) → is_effect (at_text v f) ≡ is_kind kind.Text v
text_alone v f h = of_text v f true h ∙ and_true (is_kind kind.Text v)

one_of : (a r : ValueKind) (v : Val) (f : Val → Val → Option Effect) → ((u k : Val) → is_effect (f u k) ≡ is_kind a u) → is_effect (at_two v f) ≡ has_operands (One a r) v
one_of a r (Var x) f h = refl
one_of a r (Chan x) f h = refl
one_of a r (Int x) f h = refl
one_of a r (Char x) f h = refl
one_of a r (Boolean x) f h = refl
one_of a r (Text x) f h = refl
one_of a r (PrimitiveVal x) f h = refl
one_of a r (Record no_vals ls) f h = refl
one_of a r (Record (more_vals u no_vals) ls) f h = refl
one_of a r (Record (more_vals u (more_vals k no_vals)) ls) f h = h u k
one_of a r (Record (more_vals u (more_vals k (more_vals x xs))) ls) f h = refl

two_of : (a b r : ValueKind) (v : Val) (f : Val → Val → Val → Option Effect) → ((u w k : Val) → is_effect (f u w k) ≡ is_kind a u && is_kind b w) → is_effect (at_three v f) ≡ has_operands (Two a b r) v
two_of a b r (Var x) f h = refl
two_of a b r (Chan x) f h = refl
two_of a b r (Int x) f h = refl
two_of a b r (Char x) f h = refl
two_of a b r (Boolean x) f h = refl
two_of a b r (Text x) f h = refl
two_of a b r (PrimitiveVal x) f h = refl
two_of a b r (Record no_vals ls) f h = refl
two_of a b r (Record (more_vals u no_vals) ls) f h = refl
two_of a b r (Record (more_vals u (more_vals w no_vals)) ls) f h = refl
two_of a b r (Record (more_vals u (more_vals w (more_vals k no_vals))) ls) f h = h u w k
two_of a b r (Record (more_vals u (more_vals w (more_vals k (more_vals x xs)))) ls) f h = refl

divides : (b : ℤ) (e : Option Effect) → is_effect e ≡ true → is_effect (divided_by b e) ≡ true
divides (pos zero) e h = refl
divides (pos (suc n)) e h = h
divides (negsuc n) e h = h

ruleset operands_taken = (one_of, two_of, of_int, of_char, of_bool, of_text, int_alone, char_alone, bool_alone, text_alone, divides)

pub primitives_take_shapes : PrimitivesTakeShapes
primitives_take_shapes primitive.Print v = text_alone v _ (λ b. refl)
primitives_take_shapes _ v = search operands_taken depth 8
