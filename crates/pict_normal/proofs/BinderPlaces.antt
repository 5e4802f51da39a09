-- Type binders, and the entries behind them, by their places.
use Rattle.std.proofs.Common.{◌≡◌, ℕ, zero, suc, ◌+◌, ◌-◌, ◌≤◌, ◌<◌, Bool, true, false, nat_eq, List, [], ◌∷◌, ◌++◌, length, drop, get_or, map, Option, Some, None, refl, sym, ◌∙◌, ap, subst, arith}
use Rattle.std.specs.Prelude.{if◌then◌else◌}
use Rattle.std.proofs.lemmas.List.{get_or-reverse, get_or-map, length-map, length-reverse}
use Rattle.pict_syntax.specs.declared.span.Span.{Span}
use Rattle.pict_normal.specs.declared.binders.Binder.{Binder}
use Rattle.pict_types.specs.Types.{Free, Below, Operator, PlainBound, Plain, Op}
use Rattle.pict_types.specs.Replacing.{next_variable}
use Rattle.pict_types.specs.Entries.{PlainWhat, Variable, Definition, PlainEntry, PlainContext}
use Rattle.pict_syntax.specs.declared.type_tree.TypeBinder.{TypeBinder as RTypeBinder}
use Rattle.pict_syntax.specs.Trees.{TypeBinders, no_binders, more_binders}
use Rattle.std.specs.Option.{option_map}
use Rattle.pict_syntax.specs.PlainTrees.{kind_of, binder_of, binders_on}
use Rattle.pict_normal.specs.BinderEntries.{bound_entry, entries_of, entries_under}
use Rattle.pict_normal.specs.Normal.{Meaning, a_type, an_operator, of_entry, behind_entry, meaning, kind_bound, use_stops}
use Rattle.pict_binders.specs.Names.{place_of}
use Rattle.pict_types.specs.Places.{entry_names, arity, arity_at, IsWhatAt}
use Rattle.pict_normal.specs.Raw.{IsNoDefinition}
use Rattle.pict_types.proofs.Places.{is_what_at, arity_is}

pub binders_length : (bs : List Binder) → length (entries_of bs) ≡ length bs
binders_length bs =
    let m : length (map (λ b. bound_entry b.name.0 (option_map kind_of b.kind)) bs) ≡ length bs = simp length-map refl in
    length-reverse (map (λ b. bound_entry b.name.0 (option_map kind_of b.kind)) bs) ∙ m

binder_at : (bs : List Binder) (i : ℕ) (d : Binder) → i < length bs → get_or (entries_of bs) i (bound_entry d.name.0 (option_map kind_of d.kind)) ≡ bound_entry (get_or bs (length bs - 1 - i) d).name.0 (option_map kind_of (get_or bs (length bs - 1 - i) d).kind)
binder_at bs i d h =
    let f = λ (b : Binder). bound_entry b.name.0 (option_map kind_of b.kind) in
    let m : length (map f bs) ≡ length bs = simp length-map refl in
    let k : i < length (map f bs) = omega arith in
    get_or-reverse (map f bs) i (f d) k
    ∙ ap (λ n. get_or (map f bs) (n - 1 - i) (f d)) m
    ∙ get_or-map f bs (length bs - 1 - i) d (f d) (omega arith)

pub binder_arity : (bs : List Binder) (i : ℕ) (d : Binder) → i < length bs → arity_at (entries_of bs) i ≡ arity (Variable (kind_bound (option_map kind_of (get_or bs (length bs - 1 - i) d).kind) Free))
binder_arity bs i d h =
    let is = is_what_at (entries_of bs) i (bound_entry d.name.0 (option_map kind_of d.kind)) (omega (arith, binders_length bs)) in
    arity_is (entries_of bs) i _ is ∙ ap (λ e. arity e.what) (binder_at bs i d h)

no_definition_in : (bs : List Binder) (i : ℕ) → i < length bs → IsNoDefinition (entries_of bs) i
no_definition_in bs i h a k =
    let d : Binder = record { name = record { 0 = 0 }; kind = None } in
    let is = is_what_at (entries_of bs) i (bound_entry d.name.0 (option_map kind_of d.kind)) (omega (arith, binders_length bs)) in
    let e : arity_at (entries_of bs) i ≡ arity (Definition a) = arity_is (entries_of bs) i (Definition a) k in
    let v = ap (λ e. e.what) (binder_at bs i d h) in
    let w : Variable (kind_bound (option_map kind_of (get_or bs (length bs - 1 - i) d).kind) Free) ≡ Definition a = sym v ∙ same_what (entries_of bs) i _ _ is k in
    absurd (cc)
  where
    same_what : (c : PlainContext) (i : ℕ) (v w : PlainWhat) → IsWhatAt c i v → IsWhatAt c i w → v ≡ w
    same_what [] i v w h k = absurd h
    same_what (e ∷ c) zero v w h k = sym h ∙ k
    same_what (e ∷ c) (suc i) v w h k = same_what c i v w h k

-- one scope behind another
what_first : (c d : PlainContext) (i : ℕ) (w : PlainWhat) → i < length c → IsWhatAt (c ++ d) i w → IsWhatAt c i w
what_first [] d i w h k = absurd (omega arith)
what_first (e ∷ c) d zero w h k = k
what_first (e ∷ c) d (suc i) w h k = what_first c d i w (omega arith) k

pub what_rest : (c d : PlainContext) (i j : ℕ) (w : PlainWhat) → i ≡ length c + j → IsWhatAt d j w → IsWhatAt (c ++ d) i w
what_rest [] d i j w h k = subst (λ n. IsWhatAt d n w) (omega arith) k
what_rest (e ∷ c) d zero j w h k = absurd (omega arith)
what_rest (e ∷ c) d (suc i) j w h k = what_rest c d i j w (omega arith) k

what_behind : (c d : PlainContext) (i j : ℕ) (w : PlainWhat) → i ≡ length c + j → IsWhatAt (c ++ d) i w → IsWhatAt d j w
what_behind [] d i j w h k = subst (λ n. IsWhatAt d n w) (omega arith) k
what_behind (e ∷ c) d zero j w h k = absurd (omega arith)
what_behind (e ∷ c) d (suc i) j w h k = what_behind c d i j w (omega arith) k

pub no_definition_first : (bs : List Binder) (d : PlainContext) (i : ℕ) → i < length (entries_of bs) → IsNoDefinition (entries_of bs ++ d) i
no_definition_first bs d i h a k = no_definition_in bs i (omega (arith, binders_length bs)) a (what_first (entries_of bs) d i (Definition a) h k)

pub no_definition_rest : (c d : PlainContext) (i j : ℕ) → i ≡ length c + j → IsNoDefinition d j → IsNoDefinition (c ++ d) i
no_definition_rest c d i j h n a k = n a (what_behind c d i j (Definition a) h k)

pub none_past : (c : PlainContext) (i : ℕ) → length c ≤ i → IsNoDefinition c i
none_past [] i h a k = k
none_past (e ∷ c) zero h a k = absurd (omega arith)
none_past (e ∷ c) (suc i) h a k = none_past c i (omega arith) a k

pub variable_there : (c : PlainContext) (i : ℕ) (b : PlainBound) → IsWhatAt c i (Variable b) → IsNoDefinition c i
variable_there [] i b h a k = k
variable_there (e ∷ c) zero b h a k = let x : Variable b ≡ Definition a = sym h ∙ k in absurd (cc)
variable_there (e ∷ c) (suc i) b h a k = variable_there c i b h a k

pub arity_first : (c d : PlainContext) (i : ℕ) → i < length c → arity_at (c ++ d) i ≡ arity_at c i
arity_first [] d i h = absurd (omega arith)
arity_first (e ∷ c) d zero h = refl
arity_first (e ∷ c) d (suc i) h = arity_first c d i (omega arith)

pub arity_rest : (c d : PlainContext) (i : ℕ) → length c ≤ i → arity_at (c ++ d) i ≡ arity_at d (i - length c)
arity_rest [] d i h = ap (arity_at d) (omega arith)
arity_rest (e ∷ c) d zero h = absurd (omega arith)
arity_rest (e ∷ c) d (suc i) h = arity_rest c d i (omega arith) ∙ ap (arity_at d) (omega arith)

-- the place of a name among two scopes
pub place_below : (ms : List ℕ) (n i : ℕ) → place_of ms n ≡ Some i → i < length ms
place_below [] n i h = absurd (cc)
place_below (m ∷ ms) n i h = go (λ j k. place_below ms n j k) (nat_eq m n) (place_of ms n) refl i h
  where
    go : ((j : ℕ) → place_of ms n ≡ Some j → j < length ms) → (x : Bool) (o : Option ℕ) → place_of ms n ≡ o → (i : ℕ) → (if x then Some 0 else next_variable o) ≡ Some i → i < suc (length ms)
    go r true o e i k = let z : 0 ≡ i = cc in omega arith
    go r false None e i k = absurd (cc)
    go r false (Some j) e i k = let z : suc j ≡ i = cc in omega (arith, r j e)

pub place_first : (c d : PlainContext) (n i : ℕ) → place_of (entry_names c) n ≡ Some i → place_of (entry_names (c ++ d)) n ≡ Some i
place_first [] d n i h = absurd (cc)
place_first (e ∷ c) d n i h = go (λ j k. place_first c d n j k) (nat_eq e.name n) (place_of (entry_names c) n) refl h
  where
    go : ((j : ℕ) → place_of (entry_names c) n ≡ Some j → place_of (entry_names (c ++ d)) n ≡ Some j) → (x : Bool) (o : Option ℕ) → place_of (entry_names c) n ≡ o → (if x then Some 0 else next_variable o) ≡ Some i → (if x then Some 0 else next_variable (place_of (entry_names (c ++ d)) n)) ≡ Some i
    go r true o q k = k
    go r false None q k = absurd (cc)
    go r false (Some j) q k = ap next_variable (r j q) ∙ k

pub place_rest : (c d : PlainContext) (n i : ℕ) → place_of (entry_names c) n ≡ None → place_of (entry_names d) n ≡ Some i → place_of (entry_names (c ++ d)) n ≡ Some (length c + i)
place_rest [] d n i h k = k ∙ ap Some (omega arith)
place_rest (e ∷ c) d n i h k = go (λ q. place_rest c d n i q k) (nat_eq e.name n) (place_of (entry_names c) n) refl h
  where
    go : (place_of (entry_names c) n ≡ None → place_of (entry_names (c ++ d)) n ≡ Some (length c + i)) → (x : Bool) (o : Option ℕ) → place_of (entry_names c) n ≡ o → (if x then Some 0 else next_variable o) ≡ None → (if x then Some 0 else next_variable (place_of (entry_names (c ++ d)) n)) ≡ Some (length (e ∷ c) + i)
    go r true o q z = absurd (cc)
    go r false None q z =
        let more : suc (length c + i) ≡ length (e ∷ c) + i = omega arith in
        ap next_variable (r q) ∙ ap Some more
    go r false (Some j) q z = absurd (cc)

pub place_neither : (c d : PlainContext) (n : ℕ) → place_of (entry_names c) n ≡ None → place_of (entry_names d) n ≡ None → place_of (entry_names (c ++ d)) n ≡ None
place_neither [] d n h k = k
place_neither (e ∷ c) d n h k = go (λ q. place_neither c d n q k) (nat_eq e.name n) (place_of (entry_names c) n) refl h
  where
    go : (place_of (entry_names c) n ≡ None → place_of (entry_names (c ++ d)) n ≡ None) → (x : Bool) (o : Option ℕ) → place_of (entry_names c) n ≡ o → (if x then Some 0 else next_variable o) ≡ None → (if x then Some 0 else next_variable (place_of (entry_names (c ++ d)) n)) ≡ None
    go r true o q z = absurd (cc)
    go r false None q z = ap next_variable (r q)
    go r false (Some j) q z = absurd (cc)

-- what a name may stand for: nothing, a type, or an operator
abbrev pub kind_meant : Option Meaning → Option (Option ℕ)
kind_meant None = None
kind_meant (Some (a_type t)) = Some None
kind_meant (Some (an_operator n h)) = Some (Some n)

abbrev pub kind_there : PlainContext → Option ℕ → Option (Option ℕ)
kind_there c None = None
kind_there c (Some i) = Some (arity_at c i)

kind_first : (w : PlainWhat) → kind_meant (Some (of_entry w)) ≡ Some (arity w)
kind_first (Variable Free) = refl
kind_first (Variable (Below t)) = refl
kind_first (Variable (Operator marks)) = refl
kind_first (Definition (Plain t)) = refl
kind_first (Definition (Op n t)) = refl

kind_behind : (w : PlainWhat) (o : Option Meaning) → kind_meant (behind_entry w o) ≡ kind_meant o
kind_behind w None = refl
kind_behind (Variable b) (Some (a_type t)) = refl
kind_behind (Variable b) (Some (an_operator n h)) = refl
kind_behind (Definition a) (Some m) = refl

kind_further : (e : PlainEntry) (c : PlainContext) (o : Option ℕ) → kind_there c o ≡ kind_there (e ∷ c) (next_variable o)
kind_further e c None = refl
kind_further e c (Some i) = refl

pub kind_named : (c : PlainContext) (n : ℕ) → kind_meant (meaning c n) ≡ kind_there c (place_of (entry_names c) n)
kind_named [] n = refl
kind_named (e ∷ c) n = go (kind_named c n) (nat_eq e.name n)
  where
    go : kind_meant (meaning c n) ≡ kind_there c (place_of (entry_names c) n) → (x : Bool) → kind_meant (if x then Some (of_entry e.what) else behind_entry e.what (meaning c n)) ≡ kind_there (e ∷ c) (if x then Some 0 else next_variable (place_of (entry_names c) n))
    go r true = kind_first e.what
    go r false = kind_behind e.what (meaning c n) ∙ r ∙ kind_further e c (place_of (entry_names c) n)

use_none : (s : Span) (o : Option Meaning) → kind_meant o ≡ None → use_stops s o ≡ []
use_none s None h = refl
use_none s (Some (a_type t)) h = refl
use_none s (Some (an_operator n x)) h = absurd (cc)

pub use_missing : (s : Span) (c : PlainContext) (n : ℕ) → place_of (entry_names c) n ≡ None → use_stops s (meaning c n) ≡ []
use_missing s c n h = use_none s (meaning c n) (kind_named c n ∙ ap (kind_there c) h)

-- the binders of a record, forgotten again
pub drop_more : {A : Type 0} (n : ℕ) (xs : List A) → drop 1 (drop n xs) ≡ drop (suc n) xs
drop_more zero [] = refl
drop_more zero (x ∷ xs) = refl
drop_more (suc n) [] = refl
drop_more (suc n) (x ∷ xs) = drop_more n xs

abbrev count_binders : TypeBinders → ℕ
count_binders no_binders = 0
count_binders (more_binders bs b) = suc (count_binders bs)

drop_under : (e : PlainContext) (bs : TypeBinders) → drop (count_binders bs) (entries_under e bs) ≡ e
drop_under e no_binders = refl
drop_under e (more_binders bs b) = drop_under e bs

count_on : (bs : TypeBinders) (xs : List RTypeBinder) → count_binders (binders_on bs xs) ≡ count_binders bs + length xs
unfolding binders_on
count_on bs [] = omega arith
count_on bs (x ∷ xs) = omega (arith, count_on (more_binders bs (binder_of x)) xs)

pub forgotten : (e : PlainContext) (xs : List RTypeBinder) (n : ℕ) → n ≡ length xs → drop n (entries_under e (binders_on no_binders xs)) ≡ e
forgotten e xs n h =
    let k : n ≡ count_binders (binders_on no_binders xs) = omega (arith, count_on no_binders xs) in
    ap (λ m. drop m (entries_under e (binders_on no_binders xs))) k ∙ drop_under e (binders_on no_binders xs)
