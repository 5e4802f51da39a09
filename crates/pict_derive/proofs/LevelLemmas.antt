-- Names with levels: look-up, binding several, and going back.
use Rattle.std.proofs.Common.{◌≡◌, ℕ, zero, suc, ◌+◌, ◌-◌, Bool, true, false, nat_eq, List, [], ◌∷◌, ◌++◌, length, map, take, drop, get_or, Some, refl, sym, ◌∙◌, ap, arith, append_assoc, option_map, ◌<◌, ◌≤◌, ◌⊎◌, inl, inr}
use Rattle.std.specs.Prelude.{if◌then◌else◌, ◌≢◌}
use Rattle.std.proofs.lemmas.Bool.Decides.{eqb_tells}
use Rattle.std.proofs.lemmas.List.{length-append, length-map, map-append, append-nil}
use Rattle.std.proofs.Math.Seq.{drop-append_seam, get_or-append_seam}
use Rattle.pict_syntax.specs.declared.tree.Definition.{Definition as RDefinition}
use Rattle.pict_syntax.specs.PlainTrees.{abs_of, definitions_on}
use Rattle.pict_translation.specs.Translation.{definition_names}
use Rattle.pict_core.specs.Term.{Val, Var}
use Rattle.pict_core.specs.Closed.{binds}
use Rattle.pict_binders.specs.declared.binders.Binder.{Binder}
use Rattle.pict_binders.specs.Numbered.{nearest}
use Rattle.pict_syntax.specs.Trees.{Pat, FieldPats, Definitions, no_definitions, more_definitions}
use Rattle.pict_translation.specs.Placed.{variables}
use Rattle.pict_translation.specs.Patterns.{pat_core, pat_names, function_pat, names_before, names_after}
use Rattle.pict_translation.specs.Simple.{Around, value_at, binding, bound, pat_bound, function_bound, answer_channel, nothing}
use Rattle.pict_translation.proofs.PatternLemmas.{pattern_agrees, function_agrees}
use Rattle.pict_derive.specs.Built.{binder_values, place, with_levels, Extends}
use Rattle.pict_scope.proofs.Reading.{taken}

eq_other : (n m : ℕ) → nat_eq n m ≡ nat_eq m n
eq_other n m = go (eqb_tells n m) (eqb_tells m n)
  where
    go : ((nat_eq n m ≡ true) × (n ≡ m)) ⊎ ((nat_eq n m ≡ false) × (n ≢ m)) → ((nat_eq m n ≡ true) × (m ≡ n)) ⊎ ((nat_eq m n ≡ false) × (m ≢ n)) → nat_eq n m ≡ nat_eq m n
    go (inl a) (inl b) = a.0 ∙ sym b.0
    go (inl a) (inr b) = absurd (b.1 (sym a.1))
    go (inr a) (inl b) = absurd (a.1 (sym b.1))
    go (inr a) (inr b) = a.0 ∙ sym b.0

pub value_nearest : (bs : List Binder) (n : ℕ) → value_at (binder_values bs) n ≡ option_map Var (nearest bs n)
value_nearest [] n = refl
value_nearest (b ∷ bs) n = ap (λ t. if t then Some (Var b.number) else value_at (binder_values bs) n) (eq_other n b.name) ∙ either (value_nearest bs n) (nat_eq b.name n)
  where
    either : value_at (binder_values bs) n ≡ option_map Var (nearest bs n) → (t : Bool) → (if t then Some (Var b.number) else value_at (binder_values bs) n) ≡ option_map Var (if t then Some b.number else nearest bs n)
    either rest true = refl
    either rest false = rest

-- ---- several names bound

pub levels_bound : (ns : List ℕ) (level : ℕ) (bs : List Binder) → binder_values (with_levels ns level bs) ≡ binding ns (variables level (length ns)) (binder_values bs)
levels_bound [] level bs = refl
levels_bound (n ∷ ns) level bs = levels_bound ns (level + 1) (record { name = n; number = level } ∷ bs)

pub place_bound : (names : List (List ℕ)) (ns : List ℕ) (level : ℕ) (bs : List Binder) → place names (with_levels ns level bs) ≡ bound ns (variables level (length ns)) (place names bs)
place_bound names ns level bs = ap (λ vs. let e : Around = record { names = names; values = vs } in e) (levels_bound ns level bs)

pub levels_more : (ns : List ℕ) (n level : ℕ) (bs : List Binder) → with_levels (ns ++ n ∷ []) level bs ≡ record { name = n; number = level + length ns } ∷ with_levels ns level bs
levels_more [] n level bs = let h : level ≡ level + 0 = omega arith in ap (λ l. record { name = n; number = l } ∷ bs) h
levels_more (m ∷ ns) n level bs =
    let h : level + 1 + length ns ≡ level + suc (length ns) = omega arith in
    levels_more ns n (level + 1) (record { name = m; number = level } ∷ bs) ∙ ap (λ l. record { name = n; number = l } ∷ with_levels ns (level + 1) (record { name = m; number = level } ∷ bs)) h

variables_next : (level n : ℕ) → variables level (suc n) ≡ variables level n ++ Var (level + n) ∷ []
variables_next level zero = let h : level ≡ level + 0 = omega arith in ap (λ l. Var l ∷ []) h
variables_next level (suc n) =
    let h : level + 1 + n ≡ level + suc n = omega arith in
    ap (λ vs. Var level ∷ vs) (variables_next (level + 1) n ∙ ap (λ l. variables (level + 1) n ++ Var l ∷ []) h)

pub variables_more : (level n : ℕ) → variables level (n + 1) ≡ variables level n ++ Var (level + n) ∷ []
variables_more level n = let one : n + 1 ≡ suc n = omega arith in ap (variables level) one ∙ variables_next level n

pub variables_apart : (level n m : ℕ) → variables level (n + m) ≡ variables level n ++ variables (level + n) m
variables_apart level zero m =
    let none : 0 + m ≡ m = omega arith in
    let h : level ≡ level + 0 = omega arith in
    ap (variables level) none ∙ ap (λ l. variables l m) h
variables_apart level (suc n) m =
    let one : suc n + m ≡ suc (n + m) = omega arith in
    let h : level + 1 + n ≡ level + suc n = omega arith in
    ap (variables level) one ∙ ap (λ vs. Var level ∷ vs) (variables_apart (level + 1) n m ∙ ap (λ l. variables (level + 1) n ++ variables l m) h)

pub variables_length : (level n : ℕ) → length (variables level n) ≡ n
variables_length level zero = refl
variables_length level (suc n) = ap suc (variables_length (level + 1) n)

-- as many values as names are taken
binding_stops : (ns : List ℕ) (level m : ℕ) (around : List (ℕ × Val)) (more : List Val) → binding ns (variables level (length ns) ++ more) around ≡ binding ns (variables level (length ns)) around
binding_stops [] level m around more = refl
binding_stops (n ∷ ns) level m around more = binding_stops ns (level + 1) m ((n, Var level) ∷ around) more

-- ---- lists of names, one after the other

pub empty : {A : Type 0} (xs : List A) → length xs ≡ 0 → xs ≡ []
empty [] is = refl
empty (x ∷ xs) is = cc

pub length_taken : {A : Type 0} (f : A → ℕ) (xs : List A) (i : ℕ) → i ≤ length xs → length (map f (take i xs)) ≡ i
length_taken f xs zero le = refl
length_taken f [] (suc i) le = absurd (omega (arith, le))
length_taken f (x ∷ xs) (suc i) le = ap suc (length_taken f xs i (omega (arith, le)))

pub levels_taken : {A : Type 0} (f : A → ℕ) (xs : List A) (i first level : ℕ) (x : A) (old now new : List Binder) → i < length xs → x ≡ get_or xs i x → level ≡ first + i → now ≡ with_levels (map f (take i xs)) first old → new ≡ record { name = f x; number = level } ∷ now → new ≡ with_levels (map f (take (i + 1) xs)) first old
levels_taken f xs i first level x old now new within is at so_far one =
    let b : Binder = record { name = f x; number = level } in
    one
    ∙ ap (λ bs. b ∷ bs) so_far
    ∙ ap (λ l. record { name = f x; number = l } ∷ with_levels (map f (take i xs)) first old) (at ∙ ap (λ n. first + n) (sym (length_taken f xs i (omega (arith, within)))))
    ∙ sym (levels_more (map f (take i xs)) (f x) first old)
    ∙ ap (λ ns. with_levels ns first old) (sym (map-append f (take i xs) (x ∷ [])) ∙ ap (map f) (sym (taken xs i x within is)))

or_other : {A : Type 0} (xs : List A) (i : ℕ) (a b : A) → i < length xs → get_or xs i a ≡ get_or xs i b
or_other [] i a b within = absurd (omega (arith, within))
or_other (x ∷ xs) zero a b within = refl
or_other (x ∷ xs) (suc i) a b within = or_other xs i a b (omega (arith, within))

-- the same for an item that is read by its place
pub levels_read : {A : Type 0} (f : A → ℕ) (xs : List A) (i first level : ℕ) (d : A) (old now new : List Binder) → i < length xs → level ≡ first + i → now ≡ with_levels (map f (take i xs)) first old → new ≡ record { name = f (get_or xs i d); number = level } ∷ now → new ≡ with_levels (map f (take (i + 1) xs)) first old
levels_read f xs i first level d old now new within at so_far one = levels_taken f xs i first level (get_or xs i d) old now new within (or_other xs i d (get_or xs i d) within) at so_far one

pub variables_grown : (first n number depth : ℕ) → number ≡ depth → depth ≡ first + n → variables first n ++ Var number ∷ [] ≡ variables first (n + 1)
variables_grown first n number depth is at = ap (λ l. variables first n ++ Var l ∷ []) (is ∙ at) ∙ sym (variables_more first n)

names_on : (ds : Definitions) (xs : List RDefinition) → definition_names (definitions_on ds xs) ≡ definition_names ds ++ map (λ d. d.id.name.0) xs
unfolding definitions_on
names_on ds [] = sym (append-nil (definition_names ds))
names_on ds (x ∷ xs) = names_on (more_definitions ds x.id (abs_of x.abs)) xs ∙ append_assoc (definition_names ds) (x.id.name.0 ∷ []) _

pub definition_names_are : (xs : List RDefinition) → definition_names (definitions_on no_definitions xs) ≡ map (λ d. d.id.name.0) xs
definition_names_are xs = names_on no_definitions xs

pub names_count : (xs : List RDefinition) → length (definition_names (definitions_on no_definitions xs)) ≡ length xs
names_count xs = ap length (definition_names_are xs) ∙ length-map xs (λ d. d.id.name.0)

-- ---- the names of patterns

pub pattern_place : (names : List (List ℕ)) (p : Pat) (level : ℕ) (bs : List Binder) (ns : List ℕ) → ns ≡ pat_names names p → place names (with_levels ns level bs) ≡ pat_bound p (variables level (binds (pat_core names p))) (place names bs)
pattern_place names p level bs ns is =
    place_bound names ns level bs
    ∙ ap (λ ns. bound ns (variables level (length ns)) (place names bs)) is
    ∙ ap (λ n. bound (pat_names names p) (variables level n) (place names bs)) (pattern_agrees names p)

pub pattern_size : (names : List (List ℕ)) (p : Pat) (level inside : ℕ) (ns : List ℕ) → ns ≡ pat_names names p → inside ≡ level + length ns → inside ≡ level + binds (pat_core names p)
pattern_size names p level inside ns is at = at ∙ ap (λ ns. level + length ns) is ∙ ap (λ n. level + n) (pattern_agrees names p)

abbrev all_variables : List (List ℕ) → FieldPats → ℕ → List Val
all_variables names f level = variables level (binds (function_pat names f))

function_variables : (names : List (List ℕ)) (f : FieldPats) (level : ℕ) → all_variables names f level ≡ variables level (length (names_before names f)) ++ Var (level + length (names_before names f)) ∷ variables (level + length (names_before names f) + 1) (length (names_after names f))
function_variables names f level = ap (variables level) (function_agrees names f) ∙ variables_apart level (length (names_before names f)) (suc (length (names_after names f)))

drop_past : (xs : List Val) (x : Val) (ys : List Val) → drop (suc (length xs)) (xs ++ x ∷ ys) ≡ ys
drop_past [] x ys = refl
drop_past (y ∷ xs) x ys = drop_past xs x ys

drop_seam : (xs : List Val) (x : Val) (ys : List Val) → drop (length xs + 1) (xs ++ x ∷ ys) ≡ ys
drop_seam xs x ys = let one : length xs + 1 ≡ suc (length xs) = omega arith in ap (λ n. drop n (xs ++ x ∷ ys)) one ∙ drop_past xs x ys

pub function_place : (names : List (List ℕ)) (f : FieldPats) (level : ℕ) (bs : List Binder) → place names (with_levels (names_after names f) (level + length (names_before names f) + 1) (with_levels (names_before names f) level bs)) ≡ function_bound f (all_variables names f level) (place names bs)
function_place names f level bs =
    let b = names_before names f in
    let a = names_after names f in
    let after = variables (level + length b + 1) (length a) in
    let e : Around = place names bs in
    let split : bound b (variables level (length b) ++ Var (level + length b) ∷ after) e ≡ bound b (variables level (length b)) e = ap (λ vs. let e : Around = record { names = names; values = vs } in e) (binding_stops b level 0 (binder_values bs) (Var (level + length b) ∷ after)) in
    let dropped : drop (length b + 1) (variables level (length b) ++ Var (level + length b) ∷ after) ≡ after = ap (λ n. drop (n + 1) (variables level (length b) ++ Var (level + length b) ∷ after)) (sym (variables_length level (length b))) ∙ drop_seam (variables level (length b)) (Var (level + length b)) after in
    place_bound names a (level + length b + 1) (with_levels b level bs)
    ∙ ap (bound a after) (place_bound names b level bs ∙ sym split)
    ∙ ap (λ vs. bound a vs (bound b (variables level (length b) ++ Var (level + length b) ∷ after) e)) (sym dropped)
    ∙ ap (λ vs. function_bound f vs e) (sym (function_variables names f level))

pub function_answer : (names : List (List ℕ)) (f : FieldPats) (level : ℕ) → answer_channel names f (all_variables names f level) ≡ Var (level + length (names_before names f))
function_answer names f level =
    let b = length (names_before names f) in
    ap (λ vs. get_or vs b nothing) (function_variables names f level)
    ∙ ap (λ n. get_or (variables level b ++ Var (level + b) ∷ variables (level + b + 1) (length (names_after names f))) n nothing) (sym (variables_length level b))
    ∙ get_or-append_seam (variables level b) (Var (level + b)) (variables (level + b + 1) (length (names_after names f))) nothing

-- the names before and after the channel for the answer, bound in turn
pub both_bound : (names : List (List ℕ)) (f : FieldPats) (d : ℕ) (old new : List Binder) (before after : List ℕ) (next : ℕ) → before ≡ names_before names f → after ≡ names_after names f → next ≡ d + length (names_before names f) + 1 → new ≡ with_levels after next (with_levels before d old) → place names new ≡ function_bound f (all_variables names f d) (place names old)
both_bound names f d old new before after next b a at is =
    ap (place names) is
    ∙ ap (λ ns. place names (with_levels after next (with_levels ns d old))) b
    ∙ ap (λ ns. place names (with_levels ns next (with_levels (names_before names f) d old))) a
    ∙ ap (λ n. place names (with_levels (names_after names f) n (with_levels (names_before names f) d old))) at
    ∙ function_place names f d old

pub function_size : (names : List (List ℕ)) (f : FieldPats) (d : ℕ) (after : List ℕ) (next inside : ℕ) → after ≡ names_after names f → next ≡ d + length (names_before names f) + 1 → inside ≡ next + length after → inside ≡ d + binds (function_pat names f)
function_size names f d after next inside a at is =
    let b = length (names_before names f) in
    let n = length (names_after names f) in
    let sum : d + b + 1 + n ≡ d + (b + suc n) = omega arith in
    is ∙ ap (λ ns. next + length ns) a ∙ ap (λ m. m + n) at ∙ sum ∙ ap (λ m. d + m) (sym (function_agrees names f))

-- ---- going back

pub extends_none : (bs : List Binder) → Extends bs bs
extends_none bs = record { more = []; is = refl }

pub extends_one : (b : Binder) (bs : List Binder) → Extends bs (b ∷ bs)
extends_one b bs = record { more = b ∷ []; is = refl }

pub extends_then : (a b c : List Binder) → Extends a b → Extends b c → Extends a c
extends_then a b c x y = record { more = y.more ++ x.more; is = y.is ∙ ap (λ l. y.more ++ l) x.is ∙ sym (append_assoc y.more x.more a) }

pub extends_levels : (ns : List ℕ) (level : ℕ) (bs : List Binder) → Extends bs (with_levels ns level bs)
extends_levels [] level bs = extends_none bs
extends_levels (n ∷ ns) level bs = extends_then bs (record { name = n; number = level } ∷ bs) _ (extends_one _ bs) (extends_levels ns (level + 1) (record { name = n; number = level } ∷ bs))

pub extends_with : (ns : List ℕ) (level : ℕ) (old new : List Binder) → new ≡ with_levels ns level old → Extends old new
extends_with ns level old new is = let x = extends_levels ns level old in record { more = x.more; is = is ∙ x.is }

length_off : (n m k : ℕ) → k ≡ n + m → k - m ≡ n
length_off n m k is = omega arith

pub cut_back : (old new : List Binder) → Extends old new → drop (length new - length old) new ≡ old
cut_back old new x =
    ap (λ n. drop n new) (length_off (length x.more) (length old) (length new) (ap length x.is ∙ length-append x.more old))
    ∙ ap (drop (length x.more)) x.is
    ∙ drop-append_seam x.more old
