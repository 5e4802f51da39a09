-- Which types become Top.
use Rattle.std.proofs.Common.{◌≡◌, ℕ, zero, suc, ◌+◌, ◌-◌, ◌≤◌, ◌<◌, Bool, true, false, List, [], ◌∷◌, length, get_or, None, refl, sym, ◌∙◌, ap, arith, ◌⊎◌, inl, inr}
use Rattle.pict_types.specs.declared.types.Ty.{Ty}
use Rattle.pict_types.specs.Plain.{plain, plain_types}
use Rattle.pict_types.specs.Types.{PlainType, Top, Int, Char, Str, Boolean, Var, Apply, Chan, Fields, Rec, PlainTypes, no_type, types, PlainArg, Plain, Op}
use Rattle.pict_types.specs.Renaming.{beyond_times, rename, rename_types}
use Rattle.pict_types.specs.Replacing.{Filling, apply_variable, fill_types, with_type, with_types, no_filling, applied, Head, variable, operator, nothing, apply_head, rename_head, Replacement, replace, replace_types, type_in, head_in}
use Rattle.pict_types.specs.Entries.{PlainWhat, Variable, Definition, PlainContext}
use Rattle.pict_normal.specs.Meanings.{meanings, with_what}
use Rattle.pict_types.specs.Types.{is_top}
use Rattle.pict_types.specs.Places.{IsWhatAt}
use Rattle.pict_normal.specs.Raw.{IsNoDefinition}
use Rattle.pict_types.proofs.Renamed.{top_renamed}
use Rattle.pict_types.proofs.Moving.{times_low, times_high}
use Rattle.std.proofs.lemmas.Bool.{cases_lt}

-- the parameters of an operator have its arguments, and the other variables lose them
pub argument_past : (n : ℕ) (us : PlainTypes) (s : Filling) (i : ℕ) → (with_types n us s).type_for (i + n) ≡ s.type_for i
argument_past zero us s i = ap s.type_for (omega arith)
argument_past (suc n) no_type s i =
    let e : i + suc n ≡ suc i + n = omega arith in
    ap (with_types n no_type (with_type Top s)).type_for e ∙ argument_past n no_type (with_type Top s) (suc i)
argument_past (suc n) (types t us) s i =
    let e : i + suc n ≡ suc i + n = omega arith in
    ap (with_types n us (with_type t s)).type_for e ∙ argument_past n us (with_type t s) (suc i)

pub head_past : (n : ℕ) (us : PlainTypes) (s : Filling) (i : ℕ) → (with_types n us s).head_for (i + n) ≡ s.head_for i
head_past zero us s i = ap s.head_for (omega arith)
head_past (suc n) no_type s i =
    let e : i + suc n ≡ suc i + n = omega arith in
    ap (with_types n no_type (with_type Top s)).head_for e ∙ head_past n no_type (with_type Top s) (suc i)
head_past (suc n) (types t us) s i =
    let e : i + suc n ≡ suc i + n = omega arith in
    ap (with_types n us (with_type t s)).head_for e ∙ head_past n us (with_type t s) (suc i)

-- the type at this place; Top is in the place of a type that lacks
abbrev pub type_item : PlainTypes → ℕ → PlainType
type_item no_type j = Top
type_item (types t us) zero = t
type_item (types t us) (suc j) = type_item us j

pub argument_at : (n : ℕ) (us : PlainTypes) (s : Filling) (i j : ℕ) → i + suc j ≡ n → (with_types n us s).type_for i ≡ type_item us j
argument_at zero us s i j e = absurd (omega arith)
argument_at (suc n) no_type s i zero e =
    let k : i ≡ 0 + n = omega arith in
    ap (with_types n no_type (with_type Top s)).type_for k ∙ argument_past n no_type (with_type Top s) 0
argument_at (suc n) no_type s i (suc j) e = argument_at n no_type (with_type Top s) i j (omega arith)
argument_at (suc n) (types t us) s i zero e =
    let k : i ≡ 0 + n = omega arith in
    ap (with_types n us (with_type t s)).type_for k ∙ argument_past n us (with_type t s) 0
argument_at (suc n) (types t us) s i (suc j) e = argument_at n us (with_type t s) i j (omega arith)

pub no_head : (n : ℕ) (us : PlainTypes) (s : Filling) (i j : ℕ) → i + suc j ≡ n → (with_types n us s).head_for i ≡ None
no_head zero us s i j e = absurd (omega arith)
no_head (suc n) no_type s i zero e =
    let k : i ≡ 0 + n = omega arith in
    ap (with_types n no_type (with_type Top s)).head_for k ∙ head_past n no_type (with_type Top s) 0
no_head (suc n) no_type s i (suc j) e = no_head n no_type (with_type Top s) i j (omega arith)
no_head (suc n) (types t us) s i zero e =
    let k : i ≡ 0 + n = omega arith in
    ap (with_types n us (with_type t s)).head_for k ∙ head_past n us (with_type t s) 0
no_head (suc n) (types t us) s i (suc j) e = no_head n us (with_type t s) i j (omega arith)

-- the body of an operator with arguments
pub top_argument : (n i : ℕ) (us : PlainTypes) → i < n → is_top (applied n (Var i) us) ≡ is_top (type_item us (n - 1 - i))
top_argument n i us h = ap is_top (argument_at n us no_filling i (n - 1 - i) (omega arith))

pub top_other : (n i : ℕ) (us : PlainTypes) → n ≤ i → is_top (applied n (Var i) us) ≡ false
top_other n i us h =
    let e : i ≡ i - n + n = omega arith in
    ap (λ k. is_top ((with_types n us no_filling).type_for k)) e ∙ ap is_top (argument_past n us no_filling (i - n))

pub top_no_head : (n i : ℕ) (ts us : PlainTypes) → i < n → is_top (applied n (Apply i ts) us) ≡ true
top_no_head n i ts us h = ap (λ x. is_top (apply_variable x (fill_types (with_types n us no_filling) ts))) (no_head n us no_filling i (n - 1 - i) (omega arith))

pub top_other_head : (n i : ℕ) (ts us : PlainTypes) → n ≤ i → is_top (applied n (Apply i ts) us) ≡ false
top_other_head n i ts us h =
    let e : i ≡ i - n + n = omega arith in
    ap (λ k. is_top (apply_variable ((with_types n us no_filling).head_for k) (fill_types (with_types n us no_filling) ts))) e
    ∙ ap (λ x. is_top (apply_variable x (fill_types (with_types n us no_filling) ts))) (head_past n us no_filling (i - n))

-- the body of an operator behind one more variable
past_suc : (n i : ℕ) → n ≤ i → beyond_times n suc i ≡ suc i
past_suc n i h = times_high suc n i h ∙ omega arith

top_moved_variable : (n i : ℕ) (us : PlainTypes) → (i < n) ⊎ (n ≤ i) → is_top (applied n (Var (beyond_times n suc i)) us) ≡ is_top (applied n (Var i) us)
top_moved_variable n i us (inl h) = ap (λ k. is_top (applied n (Var k) us)) (times_low suc n i h)
top_moved_variable n i us (inr h) = ap (λ k. is_top (applied n (Var k) us)) (past_suc n i h) ∙ top_other n (suc i) us (omega arith) ∙ sym (top_other n i us h)

top_moved_head : (n i : ℕ) (ts xs us : PlainTypes) → (i < n) ⊎ (n ≤ i) → is_top (applied n (Apply (beyond_times n suc i) xs) us) ≡ is_top (applied n (Apply i ts) us)
top_moved_head n i ts xs us (inl h) =
    let e : beyond_times n suc i < n = omega (arith, times_low suc n i h) in
    top_no_head n (beyond_times n suc i) xs us e ∙ sym (top_no_head n i ts us h)
top_moved_head n i ts xs us (inr h) =
    let e : n ≤ beyond_times n suc i = omega (arith, past_suc n i h) in
    top_other_head n (beyond_times n suc i) xs us e ∙ sym (top_other_head n i ts us h)

top_moved : (n : ℕ) (t : PlainType) (us : PlainTypes) → is_top (applied n (rename (beyond_times n suc) t) us) ≡ is_top (applied n t us)
top_moved n Top us = refl
top_moved n Int us = refl
top_moved n Char us = refl
top_moved n Str us = refl
top_moved n Boolean us = refl
top_moved n (Var i) us = top_moved_variable n i us (cases_lt i n)
top_moved n (Apply i ts) us = top_moved_head n i ts (rename_types (beyond_times n suc) ts) us (cases_lt i n)
top_moved n (Chan m t) us = refl
top_moved n (Fields bs ps ls) us = refl
top_moved n (Rec t) us = refl

top_head_moved : (h : Head) (us : PlainTypes) → is_top (apply_head (rename_head suc h) us) ≡ is_top (apply_head h us)
top_head_moved (variable i) us = refl
top_head_moved (operator n t) us = top_moved n t us
top_head_moved nothing us = refl

-- an entry that stands alone, and one with arguments
abbrev what_top : PlainWhat → Bool
what_top (Variable b) = false
what_top (Definition (Plain t)) = is_top t
what_top (Definition (Op n t)) = true

abbrev applied_top : PlainWhat → PlainTypes → Bool
applied_top (Variable b) us = false
applied_top (Definition (Plain t)) us = true
applied_top (Definition (Op n t)) us = is_top (applied n t us)

first_top : (w : PlainWhat) (s : Replacement) → is_top ((with_what w s).type_of 0) ≡ what_top w
first_top (Variable b) s = refl
first_top (Definition (Plain t)) s = refl
first_top (Definition (Op n t)) s = refl

further_top : (w : PlainWhat) (s : Replacement) (i : ℕ) → is_top ((with_what w s).type_of (suc i)) ≡ is_top (s.type_of i)
further_top (Variable b) s i = top_renamed suc (s.type_of i)
further_top (Definition a) s i = refl

first_applied : (w : PlainWhat) (s : Replacement) (us : PlainTypes) → is_top (apply_head ((with_what w s).head_of 0) us) ≡ applied_top w us
first_applied (Variable b) s us = refl
first_applied (Definition (Plain t)) s us = refl
first_applied (Definition (Op n t)) s us = refl

further_applied : (w : PlainWhat) (s : Replacement) (i : ℕ) (us : PlainTypes) → is_top (apply_head ((with_what w s).head_of (suc i)) us) ≡ is_top (apply_head (s.head_of i) us)
further_applied (Variable b) s i us = top_head_moved (s.head_of i) us
further_applied (Definition a) s i us = refl

entry_top : (c : PlainContext) (i : ℕ) (w : PlainWhat) → IsWhatAt c i w → is_top ((meanings c).type_of i) ≡ what_top w
entry_top [] i w h = absurd h
entry_top (e ∷ c) zero w h = first_top e.what (meanings c) ∙ ap what_top h
entry_top (e ∷ c) (suc i) w h = further_top e.what (meanings c) i ∙ entry_top c i w h

entry_applied : (c : PlainContext) (i : ℕ) (w : PlainWhat) (us : PlainTypes) → IsWhatAt c i w → is_top (apply_head ((meanings c).head_of i) us) ≡ applied_top w us
entry_applied [] i w us h = absurd h
entry_applied (e ∷ c) zero w us h = first_applied e.what (meanings c) us ∙ ap (λ x. applied_top x us) h
entry_applied (e ∷ c) (suc i) w us h = further_applied e.what (meanings c) i us ∙ entry_applied c i w us h

no_definition_top : (w : PlainWhat) → ((a : PlainArg) → w ≡ Definition a → ⊥) → what_top w ≡ false
no_definition_top (Variable b) h = refl
no_definition_top (Definition a) h = absurd (h a refl)

no_definition_applied : (w : PlainWhat) (us : PlainTypes) → ((a : PlainArg) → w ≡ Definition a → ⊥) → applied_top w us ≡ false
no_definition_applied (Variable b) us h = refl
no_definition_applied (Definition a) us h = absurd (h a refl)

pub variable_top : (c : PlainContext) (i : ℕ) → IsNoDefinition c i → is_top ((meanings c).type_of i) ≡ false
variable_top [] i h = refl
variable_top (e ∷ c) zero h = first_top e.what (meanings c) ∙ no_definition_top e.what h
variable_top (e ∷ c) (suc i) h = further_top e.what (meanings c) i ∙ variable_top c i h

pub variable_applied : (c : PlainContext) (i : ℕ) (us : PlainTypes) → IsNoDefinition c i → is_top (apply_head ((meanings c).head_of i) us) ≡ false
variable_applied [] i us h = refl
variable_applied (e ∷ c) zero us h = first_applied e.what (meanings c) us ∙ no_definition_applied e.what us h
variable_applied (e ∷ c) (suc i) us h = further_applied e.what (meanings c) i us ∙ variable_applied c i us h

-- a definition stands there
definition_top : (a : PlainArg) → what_top (Definition a) ≡ is_top (type_in a)
definition_top (Plain t) = refl
definition_top (Op n t) = refl

definition_applied : (a : PlainArg) (us : PlainTypes) → applied_top (Definition a) us ≡ is_top (apply_head (head_in a) us)
definition_applied (Plain t) us = refl
definition_applied (Op n t) us = refl

pub defined_top : (c : PlainContext) (i : ℕ) (a : PlainArg) → IsWhatAt c i (Definition a) → is_top ((meanings c).type_of i) ≡ is_top (type_in a)
defined_top c i a h = entry_top c i (Definition a) h ∙ definition_top a

pub defined_applied : (c : PlainContext) (i : ℕ) (a : PlainArg) (us : PlainTypes) → IsWhatAt c i (Definition a) → is_top (apply_head ((meanings c).head_of i) us) ≡ is_top (apply_head (head_in a) us)
defined_applied c i a us h = entry_applied c i (Definition a) us h ∙ definition_applied a us

-- an argument that is written
pub item_replaced : (s : Replacement) (xs : List Ty) (j : ℕ) (d : Ty) → j < length xs → type_item (replace_types s (plain_types xs)) j ≡ replace s (plain (get_or xs j d))
item_replaced s [] j d h = absurd (omega arith)
item_replaced s (x ∷ xs) zero d h = refl
item_replaced s (x ∷ xs) (suc j) d h = item_replaced s xs j d (omega arith)

pub item_missing : (s : Replacement) (xs : List Ty) (j : ℕ) → length xs ≤ j → type_item (replace_types s (plain_types xs)) j ≡ Top
item_missing s [] j h = refl
item_missing s (x ∷ xs) zero h = absurd (omega arith)
item_missing s (x ∷ xs) (suc j) h = item_missing s xs j (omega arith)

pub ruleset top_rules = (variable_top, variable_applied, defined_top, defined_applied)

pub ruleset body_rules = (top_argument, top_other, top_no_head, top_other_head, item_replaced, item_missing)
