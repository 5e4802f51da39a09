-- A record pattern under the type fields of its record.
use Rattle.std.proofs.Common.{◌≡◌, ℕ, zero, suc, ◌+◌, List, [], ◌∷◌, ◌++◌, length, refl, sym, ◌∙◌, ap, subst, Some, arith, length-append}
use Rattle.pict_types.specs.Types.{PlainType, Fields, PlainTypes, PlainLabels, PlainBound, PlainBounds, no_bound, bounds, TypeContext, under, count_bounds}
use Rattle.pict_types.specs.Renaming.{beyond, beyond_all, rename_types, rename_labels, rename_bound, rename_bounds}
use Rattle.pict_types.specs.Kinds.{Kind, kinds, kind_at}
use Rattle.pict_types.proofs.Formed.{same_kind}
use Rattle.pict_core.specs.Term.{Pat}
use Rattle.pict_typing.specs.Erasing.{erased_types, erased_labels, erased_bounds}
use Rattle.pict_typing.specs.Opening.{Opens, opens_field}
use Rattle.pict_bridge.specs.Embedding.{erased_context, Embeds}
use Rattle.pict_bridge.proofs.Erased.{under_erased, same_beyond_all}
use Rattle.pict_normal.specs.Normal.{and_bound}
use Rattle.pict_types.specs.Entries.{variables}
use Rattle.pict_rules.specs.Environments.{Environment, Extension, KnownType, context_of, extended, within, bounds_of, opened}
use Rattle.pict_rules.specs.Clauses.{with_own}
use Rattle.pict_rules.proofs.OwnBinders.{own_context}
use Rattle.pict_rules.proofs.RegularPatterns.{both_entries}
use Rattle.pict_bridge.specs.Opening.{meaning}
use Rattle.pict_sub.proofs.Renamed.{keeps_beyond}

-- ---- contexts under one more variable, and under type fields

embeds_beyond : {f : ℕ → ℕ} {c d : TypeContext} (b : PlainBound) → Embeds f c d → Embeds (beyond f) (b ∷ c) (rename_bound f b ∷ d)
embeds_beyond {f = f} {c = c} {d = d} b x = record { keeps = keeps_beyond x.keeps b; kept = kinds_ }
  where
    kinds_ : (i : ℕ) (k : Kind) → kind_at (kinds (b ∷ c)) i ≡ Some k → kind_at (kinds (rename_bound f b ∷ d)) (beyond f i) ≡ Some k
    kinds_ zero k h = ap Some (sym (same_kind f b)) ∙ h
    kinds_ (suc i) k h = x.kept i k h

embeds_under : {f : ℕ → ℕ} {c d : TypeContext} (bs : PlainBounds) → Embeds f c d → Embeds (beyond_all bs f) (under c bs) (under d (rename_bounds f bs))
embeds_under no_bound x = x
embeds_under (bounds b bs) x = embeds_under bs (embeds_beyond b x)

beyond_past : (bs : PlainBounds) (f : ℕ → ℕ) (i : ℕ) → beyond_all bs f (i + count_bounds bs) ≡ f i + count_bounds bs
beyond_past no_bound f i = let e : i + 0 ≡ i = omega arith in let g : f i ≡ f i + 0 = omega arith in ap f e ∙ g
beyond_past (bounds b bs) f i =
    let e : i + suc (count_bounds bs) ≡ suc i + count_bounds bs = omega arith in
    let g : suc (f i) + count_bounds bs ≡ f i + suc (count_bounds bs) = omega arith in
    ap (beyond_all bs (beyond f)) e ∙ beyond_past bs (beyond f) (suc i) ∙ g

same_count : (f : ℕ → ℕ) (bs : PlainBounds) → count_bounds (rename_bounds f (erased_bounds bs)) ≡ count_bounds bs
same_count f no_bound = refl
same_count f (bounds b bs) = ap suc (same_count (beyond f) bs)

count_and : (bs : PlainBounds) (b : PlainBound) → count_bounds (and_bound bs b) ≡ suc (count_bounds bs)
count_and no_bound b = refl
count_and (bounds d bs) b = ap suc (count_and bs b)

pub count_own : (own : List KnownType) → count_bounds (bounds_of own) ≡ length own
count_own [] = refl
count_own (b ∷ own) = count_and (bounds_of own) b.bound ∙ ap suc (count_own own)

-- the core context under the type fields
abbrev pub under_fields : TypeContext → (ℕ → ℕ) → PlainBounds → TypeContext
under_fields c f bs = under c (rename_bounds f (erased_bounds bs))

pub own_embeds : (e : Environment) (own : List KnownType) (c : TypeContext) (f : ℕ → ℕ) → Embeds f (erased_context (context_of e)) c → Embeds (beyond_all (bounds_of own) f) (erased_context (context_of (with_own e own))) (under_fields c f (bounds_of own))
own_embeds e own c f x =
    subst (λ k. Embeds (beyond_all (bounds_of own) f) k (under_fields c f (bounds_of own))) (sym (ap erased_context (own_context e own) ∙ under_erased (context_of e) (bounds_of own)))
    (subst (λ k. Embeds k (under (erased_context (context_of e)) (erased_bounds (bounds_of own))) (under_fields c f (bounds_of own))) (same_beyond_all (bounds_of own) f) (embeds_under (erased_bounds (bounds_of own)) x))

-- ---- patterns under type fields

opens_bounds : {names : List (List ℕ)} {d : TypeContext} {p : Pat} {n : ℕ} {ts : List PlainType} (c : TypeContext) (bs : PlainBounds) (ps : PlainTypes) (ls : PlainLabels) → Opens names (under c bs) p (Fields no_bound ps ls) d n ts → Opens names c p (Fields bs ps ls) d (n + count_bounds bs) ts
opens_bounds {names = names} {d = d} {p = p} {n = n} {ts = ts} c no_bound ps ls o = subst (λ k. Opens names c p (Fields no_bound ps ls) d k ts) (omega arith) o
opens_bounds {names = names} {d = d} {p = p} {n = n} {ts = ts} c (bounds b bs) ps ls o =
    let e : n + count_bounds bs + 1 ≡ n + suc (count_bounds bs) = omega arith in
    subst (λ k. Opens names c p (Fields (bounds b bs) ps ls) d k ts) e (opens_field (opens_bounds (b ∷ c) bs ps ls o))

-- the fields' type, as it is meant under the type fields
pub package_opens : {names : List (List ℕ)} {d : TypeContext} {p : Pat} {n : ℕ} {ts : List PlainType} (c : TypeContext) (f : ℕ → ℕ) (bs : PlainBounds) (ps : PlainTypes) (ls : PlainLabels) → Opens names (under_fields c f bs) p (meaning (beyond_all bs f) (Fields no_bound ps ls)) d n ts → Opens names c p (meaning f (Fields bs ps ls)) d (n + count_bounds bs) ts
package_opens {names = names} {d = d} {p = p} {n = n} {ts = ts} c f bs ps ls o =
    let same = sym (same_beyond_all bs f) in
    let q = opens_bounds c (rename_bounds f (erased_bounds bs)) (rename_types (beyond_all bs f) (erased_types ps)) (rename_labels (beyond_all bs f) (erased_labels ls)) o in
    let r = subst (λ k. Opens names c p (Fields (rename_bounds f (erased_bounds bs)) (rename_types (beyond_all bs f) (erased_types ps)) (rename_labels (beyond_all bs f) (erased_labels ls))) d (n + k) ts) (same_count f bs) q in
    subst (λ g. Opens names c p (Fields (rename_bounds f (erased_bounds bs)) (rename_types g (erased_types ps)) (rename_labels g (erased_labels ls))) d (n + count_bounds bs) ts) same r

pub within_embeds : (e : Environment) (own : List KnownType) (x : Extension) (later : ℕ → ℕ) (d : TypeContext) → Embeds later (erased_context (context_of (extended (with_own e own) x))) d → Embeds later (erased_context (context_of (extended e (within own x)))) d
within_embeds e own x later d h = subst (λ k. Embeds later (erased_context (variables k)) d) (both_entries x.binders own e.context) h

pub within_extends : (own : List KnownType) (x : Extension) (f later : ℕ → ℕ) (n : ℕ) → ((i : ℕ) → later (i + opened x) ≡ beyond_all (bounds_of own) f i + n) → (i : ℕ) → later (i + opened (within own x)) ≡ f i + (n + count_bounds (bounds_of own))
within_extends own x f later n h i =
    let l : length (x.binders ++ own) ≡ opened x + count_bounds (bounds_of own) = length-append x.binders own ∙ ap (λ k. opened x + k) (sym (count_own own)) in
    let a : i + length (x.binders ++ own) ≡ i + count_bounds (bounds_of own) + opened x = omega (arith, l) in
    let b : f i + count_bounds (bounds_of own) + n ≡ f i + (n + count_bounds (bounds_of own)) = omega arith in
    ap later a ∙ h (i + count_bounds (bounds_of own)) ∙ ap (λ k. k + n) (beyond_past (bounds_of own) f i) ∙ b
