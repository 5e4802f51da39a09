-- What is known of the variables of a context: the bound of each, in the whole context too, and contexts under type fields.
use Rattle.std.proofs.Common.{◌≡◌, ℕ, zero, suc, ◌+◌, ◌-◌, ◌≤◌, ◌<◌, List, [], ◌∷◌, length, get_or, Some, ◌⊎◌, inl, inr, refl, sym, ◌∙◌, ap, subst, arith, add-zero, add-suc, add-one}
use Rattle.std.specs.Prelude.{slice_get}
use Rattle.std.proofs.lemmas.Bool.{cases_lt}
use Rattle.pict_types.specs.declared.types.Bound.{Bound}
use Rattle.pict_types.specs.Types.{PlainType, Var, Fields, PlainTypes, PlainLabels, PlainBound, Free, Below, PlainBounds, no_bound, bounds, TypeContext, under}
use Rattle.pict_types.specs.Plain.{plain_bound, plain_bounds}
use Rattle.pict_types.specs.Renaming.{rename, rename_bound, moved, bound_at, bound_of}
use Rattle.pict_types.specs.Kinds.{Kind, kinds, kinds_under, kind_at, IsWellFormed, BoundsAreWellFormed, BoundIsWellFormed, ContextIsWellFormed}
use Rattle.pict_types.specs.Measures.{measure_at, weigh_bounds, weigh_types, weigh_labels, weigh_variable, weights_under, weights, weight_of}
use Rattle.pict_types.specs.Entries.{PlainWhat, Variable, Definition, PlainContext, variables, with_variable, EntryIsWellFormed, EntriesAreWellFormed}
use Rattle.pict_types.proofs.Renumbered.{Reads, weigh_variable_renamed}
use Rattle.pict_types.proofs.Formed.{KeepsKinds, formed_renamed}

-- what is left of the context behind variable i
abbrev pub behind : TypeContext → ℕ → TypeContext
behind [] i = []
behind (b ∷ c) zero = c
behind (b ∷ c) (suc i) = behind c i

reads_behind : (c : TypeContext) (i : ℕ) → Reads (moved (suc i) 0) (weights c) (weights (behind c i))
reads_behind c i = record { each = go c i }
  where
    go : (c : TypeContext) (i : ℕ) (j : ℕ) → measure_at (weights c) (j + suc i) ≡ measure_at (weights (behind c i)) j
    go [] i j = refl
    go (b ∷ c) zero j = rw (add-suc, add-zero) refl
    go (b ∷ c) (suc i) j = rw add-suc (go c i j)

pub measure_bound : (c : TypeContext) (i : ℕ) → measure_at (weights c) i ≡ weigh_variable (weights (behind c i)) (bound_at c i)
measure_bound [] i = refl
measure_bound (b ∷ c) zero = refl
measure_bound (b ∷ c) (suc i) = measure_bound c i

pub weigh_bound : (c : TypeContext) (i : ℕ) (b : PlainType) → bound_of c i ≡ Below b → weight_of c (Var i) ≡ suc (weight_of c b)
weigh_bound c i b h =
    measure_bound c i ∙ sym (weigh_variable_renamed (reads_behind c i) (bound_at c i)) ∙ ap (weigh_variable (weights c)) h

-- a variable weighs one more than its bound, with the code's sum
pub weigh_bound_1 : (c : TypeContext) (i : ℕ) (b : PlainType) → bound_at c i ≡ Below b → weight_of c (Var i) ≡ weight_of c (rename (moved (i + 1) 0) b) + 1
weigh_bound_1 c i b h =
    let e : bound_of c i ≡ Below (rename (moved (i + 1) 0) b) = rw add-one (ap (rename_bound (moved (suc i) 0)) h) in
    omega (arith, weigh_bound c i (rename (moved (i + 1) 0) b) e)

-- a bound is well formed in what is left of the context
formed_behind : (ns : List (List ℕ)) (c : TypeContext) (i : ℕ) (b : PlainType) → ContextIsWellFormed ns c → bound_at c i ≡ Below b → IsWellFormed ns (kinds (behind c i)) b
formed_behind ns [] i b w h = absurd (cc)
formed_behind ns (x ∷ c) zero b w h = (subst (BoundIsWellFormed ns (kinds c)) h w.0).1
formed_behind ns (x ∷ c) (suc i) b w h = formed_behind ns c i b w.1 h

keeps_behind : (c : TypeContext) (i : ℕ) → KeepsKinds (moved (suc i) 0) (kinds (behind c i)) (kinds c)
keeps_behind c i = record { each = go c i }
  where
    go : (c : TypeContext) (i : ℕ) (j : ℕ) (k : Kind) → kind_at (kinds (behind c i)) j ≡ Some k → kind_at (kinds c) (j + suc i) ≡ Some k
    go [] i j k h = absurd (cc)
    go (b ∷ c) zero j k h = rw (add-suc, add-zero) h
    go (b ∷ c) (suc i) j k h = rw add-suc (go c i j k h)

-- with the code's sum: the bound is well formed in the whole context, and can be moved there
pub bound_is_formed : (ns : List (List ℕ)) (c : TypeContext) (i : ℕ) (b : PlainType) → ContextIsWellFormed ns c → bound_at c i ≡ Below b → IsWellFormed ns (kinds c) (rename (moved (i + 1) 0) b)
bound_is_formed ns c i b w h = rw add-one (formed_renamed ns b (keeps_behind c i) (formed_behind ns c i b w h))

pub weights_under_is : (c : TypeContext) (bs : PlainBounds) → weights (under c bs) ≡ weights_under (weights c) bs
weights_under_is c no_bound = refl
weights_under_is c (bounds b bs) = weights_under_is (b ∷ c) bs

-- a record's weight, part by part under its type fields
pub weigh_record : (c : TypeContext) (bs : PlainBounds) (ps : PlainTypes) (ls : PlainLabels) → weight_of c (Fields bs ps ls) ≡ suc (weigh_bounds (weights c) bs + (weigh_types (weights (under c bs)) ps + weigh_labels (weights (under c bs)) ls))
weigh_record c bs ps ls = rw (weights_under_is c bs) (omega arith)

pub kinds_under_is : (c : TypeContext) (bs : PlainBounds) → kinds (under c bs) ≡ kinds_under (kinds c) bs
kinds_under_is c no_bound = refl
kinds_under_is c (bounds b bs) = kinds_under_is (b ∷ c) bs

pub formed_under : (ns : List (List ℕ)) (c : TypeContext) (bs : PlainBounds) → ContextIsWellFormed ns c → BoundsAreWellFormed ns (kinds c) bs → ContextIsWellFormed ns (under c bs)
formed_under ns c no_bound w f = w
formed_under ns c (bounds b bs) w f = formed_under ns (b ∷ c) bs (f.0, w) f.1

-- a context's bounds are well formed where its entries are
pub entries_context : (ns : List (List ℕ)) (c : PlainContext) → EntriesAreWellFormed ns c → ContextIsWellFormed ns (variables c)
entries_context ns [] w = tt
entries_context ns (e ∷ c) w = go e.what w.0 (entries_context ns c w.1)
  where
    go : (x : PlainWhat) → EntryIsWellFormed ns (variables c) x → ContextIsWellFormed ns (variables c) → ContextIsWellFormed ns (with_variable x (variables c))
    go (Variable b) f k = (f, k)
    go (Definition a) f k = k

pub bound_got : (c : TypeContext) (i : ℕ) (b : PlainBound) → slice_get c i ≡ Some b → bound_at c i ≡ b
bound_got [] i b h = absurd (cc)
bound_got (x ∷ c) zero b h = cc
bound_got (x ∷ c) (suc i) b h = bound_got c i b h

pub no_variable : (c : TypeContext) (i : ℕ) → length c ≤ i → bound_at c i ≡ Free
no_variable [] i h = refl
no_variable (x ∷ c) zero h = absurd (omega arith)
no_variable (x ∷ c) (suc i) h = no_variable c i (omega arith)

-- the variables of type fields come first, the last one at 0
bound_past : (c : TypeContext) (bs : List Bound) (i : ℕ) → bound_at (under c (plain_bounds bs)) (length bs + i) ≡ bound_at c i
bound_past c [] i = ap (bound_at c) (omega arith)
bound_past c (b ∷ bs) i =
    let e : length (b ∷ bs) + i ≡ length bs + suc i = omega arith in
    ap (bound_at (under (plain_bound b ∷ c) (plain_bounds bs))) e ∙ bound_past (plain_bound b ∷ c) bs (suc i)

pub bound_outside : (c : TypeContext) (bs : List Bound) (i : ℕ) → length bs ≤ i → bound_at (under c (plain_bounds bs)) i ≡ bound_at c (i - length bs)
bound_outside c bs i h =
    let e : i ≡ length bs + (i - length bs) = omega arith in
    ap (bound_at (under c (plain_bounds bs))) e ∙ bound_past c bs (i - length bs)

pub bound_inside : (c : TypeContext) (bs : List Bound) (i : ℕ) (d : Bound) → i < length bs → bound_at (under c (plain_bounds bs)) i ≡ plain_bound (get_or bs (length bs - 1 - i) d)
bound_inside c [] i d h = absurd (omega arith)
bound_inside c (b ∷ bs) i d h = go (cases_lt i (length bs)) (λ k. bound_inside (plain_bound b ∷ c) bs i d k)
  where
    go : (i < length bs) ⊎ (length bs ≤ i) → (i < length bs → bound_at (under (plain_bound b ∷ c) (plain_bounds bs)) i ≡ plain_bound (get_or bs (length bs - 1 - i) d)) → bound_at (under c (plain_bounds (b ∷ bs))) i ≡ plain_bound (get_or (b ∷ bs) (length (b ∷ bs) - 1 - i) d)
    go (inl k) r =
        let e : length (b ∷ bs) - 1 - i ≡ suc (length bs - 1 - i) = omega arith in
        r k ∙ sym (ap (λ n. plain_bound (get_or (b ∷ bs) n d)) e)
    go (inr k) r =
        let e : i ≡ length bs + 0 = omega arith in
        let z : length (b ∷ bs) - 1 - i ≡ 0 = omega arith in
        ap (bound_at (under (plain_bound b ∷ c) (plain_bounds bs))) e ∙ bound_past (plain_bound b ∷ c) bs 0 ∙ sym (ap (λ n. plain_bound (get_or (b ∷ bs) n d)) z)

pub ruleset bound_rules = (bound_got, no_variable, bound_outside, bound_inside)

-- the bound that the code follows
pub ruleset followed_rules = (weigh_bound_1, bound_is_formed)
