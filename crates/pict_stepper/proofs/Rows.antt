-- The row by which a process steps is known by its form and its partner's.
use Rattle.std.proofs.Common.{ℕ, ℤ, zero, suc, pos, negsuc, Bool, ◌≡◌, refl, ap, subst, ◌⊎◌, inl, inr, List, Option, Some, None}
use Rattle.pict_syntax.specs.declared.primitive.Primitive.{Primitive}
use Rattle.pict_syntax.specs.declared.primitive.Primitive.TheVariants as primitive
use Rattle.pict_core.specs.Term.{Val, Process, Var, Chan, Int, Char, Boolean, Text, PrimitiveVal, Record, no_vals, more_vals, Out}
use Rattle.pict_core.specs.Primitives.{Effect, Leaves, Nothing, Answer, Trap, effect_of, at_int, at_char, at_bool, at_text, at_two, at_three, divided_by}
use Rattle.pict_core.specs.Configuration.{Entry, Configuration}
use Rattle.pict_core.specs.Step.{Label}
use Rattle.pict_core.specs.Table.{Row, ends, forks, makes_channel, takes_first, takes_second, primitive_ends, primitive_answers, output_parks, output_meets_reader, output_meets_server, input_parks, reader_meets_message, server_meets_message}
use Rattle.pict_stepper.specs.declared.rule.Rule.TheVariants as rule
use Rattle.pict_stepper.specs.Rules.{rule_of_row, rule_for, performing_rule, reader_rule}

-- ---- what a primitive leaves

-- it leaves something, if it acts
abbrev LeavesSomething : Leaves → Type 0
LeavesSomething Nothing = ⊥
LeavesSomething (Answer k a) = Unit {0}
LeavesSomething Trap = Unit {0}

abbrev Leaving : Option Effect → Type 0
Leaving None = Unit {0}
Leaving (Some e) = LeavesSomething e.leaves

int_leaving : (v : Val) (f : ℤ → Option Effect) → ((n : ℤ) → Leaving (f n)) → Leaving (at_int v f)
int_leaving (Int n) f each = each n
int_leaving _ f each = tt

char_leaving : (v : Val) (f : ℕ → Option Effect) → ((byte : ℕ) → Leaving (f byte)) → Leaving (at_char v f)
char_leaving (Char byte) f each = each byte
char_leaving _ f each = tt

bool_leaving : (v : Val) (f : Bool → Option Effect) → ((b : Bool) → Leaving (f b)) → Leaving (at_bool v f)
bool_leaving (Boolean b) f each = each b
bool_leaving _ f each = tt

text_leaving : (v : Val) (f : List ℕ → Option Effect) → ((bytes : List ℕ) → Leaving (f bytes)) → Leaving (at_text v f)
text_leaving (Text bytes) f each = each bytes
text_leaving _ f each = tt

two_leaving : (v : Val) (f : Val → Val → Option Effect) → ((a k : Val) → Leaving (f a k)) → Leaving (at_two v f)
two_leaving (Record (more_vals a (more_vals k no_vals)) ls) f each = each a k
two_leaving _ f each = tt

three_leaving : (v : Val) (f : Val → Val → Val → Option Effect) → ((a b k : Val) → Leaving (f a b k)) → Leaving (at_three v f)
three_leaving (Record (more_vals a (more_vals b (more_vals k no_vals))) ls) f each = each a b k
three_leaving _ f each = tt

divided_leaving : (b : ℤ) (o : Option Effect) → Leaving o → Leaving (divided_by b o)
divided_leaving (pos zero) o h = tt
divided_leaving (pos (suc n)) o h = h
divided_leaving (negsuc n) o h = h

ruleset operands_leaving = (two_leaving, three_leaving, int_leaving, char_leaving, bool_leaving, text_leaving, divided_leaving)

answering : (f : Primitive) (v : Val) → performing_rule f ≡ rule.PrimitiveAnswers → Leaving (effect_of f v)
answering primitive.Print v q = absurd (cc)
answering primitive.Printi v q = absurd (cc)
answering _ v q = search operands_leaving depth 8

-- it leaves no answer, if it acts
abbrev LeavesNoAnswer : Leaves → Type 0
LeavesNoAnswer Nothing = Unit {0}
LeavesNoAnswer (Answer k a) = ⊥
LeavesNoAnswer Trap = Unit {0}

abbrev Silent : Option Effect → Type 0
Silent None = Unit {0}
Silent (Some e) = LeavesNoAnswer e.leaves

int_silent : (v : Val) (f : ℤ → Option Effect) → ((n : ℤ) → Silent (f n)) → Silent (at_int v f)
int_silent (Int n) f each = each n
int_silent _ f each = tt

text_silent : (v : Val) (f : List ℕ → Option Effect) → ((bytes : List ℕ) → Silent (f bytes)) → Silent (at_text v f)
text_silent (Text bytes) f each = each bytes
text_silent _ f each = tt

printing : (f : Primitive) (v : Val) → performing_rule f ≡ rule.PrimitiveEnds → Silent (effect_of f v)
printing primitive.Print v q = text_silent v _ (λ bytes. tt)
printing primitive.Printi v q = int_silent v _ (λ n. tt)
printing _ v q = absurd (cc)

-- a primitive prints and leaves nothing, or answers
two_rules : (f : Primitive) → (performing_rule f ≡ rule.PrimitiveEnds) ⊎ (performing_rule f ≡ rule.PrimitiveAnswers)
two_rules primitive.Print = inl refl
two_rules primitive.Printi = inl refl
two_rules _ = inr refl

ends_by : (f : Primitive) (v : Val) (e : Effect) → effect_of f v ≡ Some e → e.leaves ≡ Nothing → (performing_rule f ≡ rule.PrimitiveEnds) ⊎ (performing_rule f ≡ rule.PrimitiveAnswers) → performing_rule f ≡ rule.PrimitiveEnds
ends_by f v e h n (inl x) = x
ends_by f v e h n (inr x) = absurd (subst LeavesSomething n (subst Leaving h (answering f v x)))

answers_by : (f : Primitive) (v k a : Val) (e : Effect) → effect_of f v ≡ Some e → e.leaves ≡ Answer k a → (performing_rule f ≡ rule.PrimitiveEnds) ⊎ (performing_rule f ≡ rule.PrimitiveAnswers) → performing_rule f ≡ rule.PrimitiveAnswers
answers_by f v k a e h n (inl x) = absurd (subst LeavesNoAnswer n (subst Silent h (printing f v x)))
answers_by f v k a e h n (inr x) = x

-- ---- rows

pub rule_is : (C : Configuration) (s : ℕ) (o : Option Entry) (p : Process) (D : Configuration) (label : Label) (row : Row C s o p D label) → rule_for p o ≡ rule_of_row row
rule_is C s o p D label ends = refl
rule_is C s o p D label forks = refl
rule_is C s o p D label makes_channel = refl
rule_is C s o p D label takes_first = refl
rule_is C s o p D label takes_second = refl
rule_is C s o (Out (PrimitiveVal f) v at) D label (primitive_ends {e = e} h n) = ends_by f v e h n (two_rules f)
rule_is C s o (Out (PrimitiveVal f) v at) D label (primitive_answers {k = k} {a = a} {e = e} h n) = answers_by f v k a e h n (two_rules f)
rule_is C s o p D label output_parks = refl
rule_is C s o (Out (Chan c) v at) D label (output_meets_reader h m) = ap reader_rule h
rule_is C s o (Out (Chan c) v at) D label (output_meets_server h m) = ap reader_rule h
rule_is C s o p D label input_parks = refl
rule_is C s o p D label (reader_meets_message h m) = refl
rule_is C s o p D label (server_meets_message h m) = refl
