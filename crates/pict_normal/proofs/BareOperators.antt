-- Operators by their bare names: what they mean, and that their bodies are well formed.
use Rattle.std.proofs.Common.{◌≡◌, ℕ, zero, suc, ◌+◌, ◌-◌, ◌≤◌, ◌<◌, List, [], ◌∷◌, ◌++◌, length, Option, Some, None, refl, sym, ◌∙◌, ap, ap₂, subst, arith}
use Rattle.pict_syntax.specs.Stops.{Stop}
use Rattle.pict_types.specs.declared.types.Ty.{Ty}
use Rattle.pict_types.specs.declared.types.Ty.TheVariants.{Var as Var_}
use Rattle.pict_types.specs.Types.{PlainType, Var, PlainTypes, no_type, types, count_types, Free, Below, Operator, Plain, Op}
use Rattle.pict_types.specs.Entries.{PlainWhat, Variable, Definition, PlainContext, variables}
use Rattle.pict_types.specs.Fitting.{StandsForOperator, ReplacesKinds}
use Rattle.pict_types.specs.Kinds.{Kind, proper, operator_of, kind_at, kinds, with_parameters, IsWellFormed, AreWellFormed}
use Rattle.pict_binders.specs.Names.{place_of}
use Rattle.pict_types.specs.Places.{arity, arity_at, entry_names}
use Rattle.pict_types.specs.Plain.{plain, plain_types}
use Rattle.pict_types.specs.Replacing.{Head, variable, operator, nothing}
use Rattle.pict_normal.specs.Meanings.{entry_kinds, kind_of_what, meanings}
use Rattle.pict_normal.specs.Normal.{Meaning, a_type, an_operator, meaning, meant_head}
use Rattle.pict_normal.specs.WrittenArguments.{parameters, body_of, arg_meant, stop_meant}
use Rattle.pict_normal.proofs.BinderPlaces.{kind_meant}
use Rattle.pict_normal.proofs.RawNormal.{MayBeApplied, head_put, means}

-- what is no operator
pub arg_of_none : (o : Option Meaning) (t : PlainType) → kind_meant o ≡ None → arg_meant o t ≡ Plain t
arg_of_none None t h = refl
arg_of_none (Some (a_type u)) t h = refl
arg_of_none (Some (an_operator n x)) t h = absurd (cc)

pub arg_of_type : (o : Option Meaning) (t : PlainType) → kind_meant o ≡ Some None → arg_meant o t ≡ Plain t
arg_of_type None t h = refl
arg_of_type (Some (a_type u)) t h = refl
arg_of_type (Some (an_operator n x)) t h = absurd (cc)

pub stop_of_none : (o : Option Meaning) (q : Option Stop) → kind_meant o ≡ None → stop_meant o q ≡ q
stop_of_none None q h = refl
stop_of_none (Some (a_type u)) q h = refl
stop_of_none (Some (an_operator n x)) q h = absurd (cc)

pub stop_of_type : (o : Option Meaning) (q : Option Stop) → kind_meant o ≡ Some None → stop_meant o q ≡ q
stop_of_type None q h = refl
stop_of_type (Some (a_type u)) q h = refl
stop_of_type (Some (an_operator n x)) q h = absurd (cc)

-- an operator is what stands for its entry
may_be_applied : (o : Option Meaning) (k : ℕ) → kind_meant o ≡ Some (Some k) → MayBeApplied o
may_be_applied None k h = absurd (cc)
may_be_applied (Some (a_type t)) k h = absurd (cc)
may_be_applied (Some (an_operator n x)) k h = tt

operator_is : (o : Option Meaning) (k : ℕ) (x : Head) → kind_meant o ≡ Some (Some k) → x ≡ meant_head o → o ≡ Some (an_operator k x)
operator_is None k x h e = absurd (cc)
operator_is (Some (a_type t)) k x h e = absurd (cc)
operator_is (Some (an_operator n y)) k x h e =
    let m : n ≡ k = cc in
    ap₂ (λ a b. Some (an_operator a b)) m (sym e)

pub operator_meant : (c : PlainContext) (n i k : ℕ) → place_of (entry_names c) n ≡ Some i → kind_meant (meaning c n) ≡ Some (Some k) → meaning c n ≡ Some (an_operator k ((meanings c).head_of i))
operator_meant c n i k h e =
    operator_is (meaning c n) k ((meanings c).head_of i) e
    (sym (ap (head_put (meanings c)) h) ∙ (means c).heads_ n (may_be_applied (meaning c n) k e))

-- the kind of an entry that is an operator
entry_kind : (c : PlainContext) (i n : ℕ) → arity_at c i ≡ Some n → kind_at (entry_kinds c) i ≡ Some (operator_of n)
entry_kind [] i n h = absurd (cc)
entry_kind (e ∷ c) zero n h = go e.what h
  where
    go : (w : PlainWhat) → arity w ≡ Some n → Some (kind_of_what w) ≡ Some (operator_of n)
    go (Variable Free) k = absurd (cc)
    go (Variable (Below t)) k = absurd (cc)
    go (Variable (Operator ms)) k = let e : length ms ≡ n = cc in ap (λ x. Some (operator_of x)) e
    go (Definition (Plain t)) k = absurd (cc)
    go (Definition (Op m t)) k = let e : m ≡ n = cc in ap (λ x. Some (operator_of x)) e
entry_kind (e ∷ c) (suc i) n h = entry_kind c i n h

-- what stands for it
pub head_is : (ns : List (List ℕ)) (c : PlainContext) (i n : ℕ) → ReplacesKinds ns (meanings c) (entry_kinds c) (kinds (variables c)) → arity_at c i ≡ Some n → StandsForOperator ns (kinds (variables c)) n ((meanings c).head_of i)
head_is ns c i n h e = h.heads_ i n (entry_kind c i n e)

-- its body is well formed
kind_past : (n i : ℕ) (ks : List Kind) → kind_at (with_parameters n ks) (i + n) ≡ kind_at ks i
kind_past zero i ks = let e : i + 0 ≡ i = omega arith in ap (kind_at ks) e
kind_past (suc n) i ks = let e : i + suc n ≡ suc (i + n) = omega arith in ap (kind_at (with_parameters (suc n) ks)) e ∙ kind_past n i ks

kind_low : (n j : ℕ) (ks : List Kind) → j < n → kind_at (with_parameters n ks) j ≡ Some proper
kind_low zero j ks h = absurd (omega arith)
kind_low (suc n) zero ks h = refl
kind_low (suc n) (suc j) ks h = kind_low n j ks (omega arith)

count_parameters : (n : ℕ) → count_types (parameters n) ≡ n
count_parameters zero = refl
count_parameters (suc n) = ap suc (count_parameters n)

parameters_formed : (ns : List (List ℕ)) (ks : List Kind) (m n : ℕ) → m ≤ n → AreWellFormed ns (with_parameters n ks) (parameters m)
parameters_formed ns ks zero n h = tt
parameters_formed ns ks (suc m) n h = (kind_low n m ks (omega arith), parameters_formed ns ks m n (omega arith))

pub body_formed : (ns : List (List ℕ)) (ks : List Kind) (n : ℕ) (h : Head) → StandsForOperator ns ks n h → IsWellFormed ns (with_parameters n ks) (body_of n h)
body_formed ns ks n (variable j) w =
    (kind_past n j ks ∙ w ∙ ap (λ x. Some (operator_of x)) (sym (count_parameters n)), parameters_formed ns ks n n (omega arith))
body_formed ns ks n (operator m t) w = subst (λ x. IsWellFormed ns (with_parameters x ks) t) w.0 w.1
body_formed ns ks n nothing w = absurd w

-- a row before others
abbrev pub types_before : List Ty → PlainTypes → PlainTypes
types_before [] us = us
types_before (t ∷ ts) us = types (plain t) (types_before ts us)

pub before_none : (ts : List Ty) → types_before ts no_type ≡ plain_types ts
before_none [] = refl
before_none (t ∷ ts) = ap (types (plain t)) (before_none ts)

before_more : (ts : List Ty) (t : Ty) (us : PlainTypes) → types_before (ts ++ t ∷ []) us ≡ types_before ts (types (plain t) us)
before_more [] t us = refl
before_more (x ∷ ts) t us = ap (types (plain x)) (before_more ts t us)

-- one more parameter
pub parameters_more : (ts : List Ty) (n k : ℕ) → k < n → types_before (ts ++ Var_ (n - 1 - k) ∷ []) (parameters (n - (k + 1))) ≡ types_before ts (parameters (n - k))
parameters_more ts n k h =
    let j = n - 1 - k in
    let rest : n - (k + 1) ≡ j = omega arith in
    let all : suc j ≡ n - k = omega arith in
    before_more ts (Var_ j) (parameters (n - (k + 1))) ∙ ap (λ m. types_before ts (types (Var j) (parameters m))) rest ∙ ap (λ m. types_before ts (parameters m)) all
