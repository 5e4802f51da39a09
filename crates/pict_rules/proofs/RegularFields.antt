-- Steps of regularity: the fields of patterns, and declarations.
use Rattle.std.proofs.Common.{◌≡◌, ◌≤◌, ℕ, zero, suc, Bool, true, false, List, [], ◌∷◌, ◌++◌, Some, None, refl, sym, ◌∙◌, ap, subst, arith, nat_eq, eqb-true}
use Rattle.pict_syntax.specs.declared.code.Code.{Code}
use Rattle.pict_syntax.specs.declared.span.Span.{Span}
use Rattle.pict_syntax.specs.Trees.{plain_kind, operator_kind, TypeBinder, type_binder, unbounded, bound, TypeBinders, no_binders, more_binders, FieldPats, field_pats, LabelledPats, no_labelled_pats, more_labelled_pats}
use Rattle.pict_types.specs.Types.{PlainTypes, PlainLabels, PlainBound, PlainBounds, no_bound, bounds, type_at, count_bounds}
use Rattle.pict_types.specs.Kinds.{Kind, kinds, kind_by, kinds_under, AreWellFormed, LabelsAreWellFormed, BoundIsWellFormed, BoundsAreWellFormed}
use Rattle.pict_normal.specs.Normal.{normal, normal_binder, and_bound}
use Rattle.pict_types.specs.Entries.{EntriesAreWellFormed}
use Rattle.pict_rules.specs.Counts.{count_binders}
use Rattle.pict_rules.specs.Shapes.{nth_bound, written_bound, binder_stop}
use Rattle.pict_rules.specs.Environments.{Environment, KnownType, context_of, entries_of, bounds_of}
use Rattle.pict_rules.specs.Rules.{Sort, extension_, fields_, binders_, opened_, Rule, Result, fields_give, binders_give, fields_against, binders_against, labelled_patterns_against, ensure}
use Rattle.pict_rules.specs.Clauses.{with_own, own_bound}
use Rattle.pict_rules.specs.Regular.{IsRegular, kinds_in, AreFieldsIn, first_bounds}
use Rattle.pict_rules.proofs.Results.{Property, ResultProperty, Each, gives_, refuses, parts, ensures, unless, same_bounds}
use Rattle.pict_rules.proofs.Regularity.{Step, label_formed, labels_formed_at}
use Rattle.pict_rules.proofs.OwnBinders.{own_context}
use Rattle.pict_types.proofs.Formed.{formed_bound_by}
use Rattle.pict_scope.specs.DistinctLabels.{BinderHasDistinctLabels, BindersHaveDistinctLabels}
use Rattle.pict_rules.proofs.RegularExpanded.{expands_well}
use Rattle.pict_rules.proofs.RegularJoined.{joined_adds, keeps_past, values_renamed}
use Rattle.pict_rules.proofs.RegularValues.{unless_clear}
use Rattle.pict_rules.proofs.RegularPatterns.{none_adds}
use Rattle.pict_types.proofs.Contexts.{kinds_under_is}
use Rattle.pict_normal.proofs.RawFormed.{and_bound_formed}

and_bound_parts : (ns : List (List ℕ)) (ks : List Kind) (bs : PlainBounds) (b : PlainBound) → BoundsAreWellFormed ns ks (and_bound bs b) → BoundsAreWellFormed ns ks bs × BoundIsWellFormed ns (kinds_under ks bs) b
and_bound_parts ns ks no_bound b h = (tt, h.0)
and_bound_parts ns ks (bounds d bs) b h = let x = and_bound_parts ns (kind_by d ∷ ks) bs b h.1 in ((h.0, x.0), x.1)

-- under the type variables of a pattern or a function
pub own_kinds : (e : Environment) (own : List KnownType) → kinds_in (with_own e own) ≡ kinds_under (kinds_in e) (bounds_of own)
own_kinds e own = ap kinds (own_context e own) ∙ kinds_under_is (context_of e) (bounds_of own)

own_entries : (e : Environment) (own : List KnownType) → IsRegular e → BoundsAreWellFormed e.names (kinds_in e) (bounds_of own) → EntriesAreWellFormed e.names (entries_of own ++ e.context)
own_entries e [] r w = r.entries
own_entries e (b ∷ own) r w =
    let x = and_bound_parts e.names (kinds_in e) (bounds_of own) b.bound w in
    (subst (λ ks. BoundIsWellFormed e.names ks b.bound) (sym (own_kinds e own)) x.1, own_entries e own r x.0)

pub own_regular : (e : Environment) (own : List KnownType) → IsRegular e → BoundsAreWellFormed e.names (kinds_in e) (bounds_of own) → IsRegular (with_own e own)
own_regular e own r w = record { entries = own_entries e own r w; known = values_renamed e.names e.values (keeps_past own e.context) r.known }

pub fields_regular : (e : Environment) (f : FieldPats) → IsRegular e → Step fields_ e (fields_give f)
fields_regular e (field_pats bs ps ls) r =
    parts (r, tt) (λ own g.
    let q = own_regular e own r g.1 in
    parts (q, tt) (λ h i. parts (q, tt) (λ k l.
    gives_ ((g.1, (subst (λ ks. AreWellFormed e.names ks h.have) (own_kinds e own) i.1.0, subst (λ ks. LabelsAreWellFormed e.names ks k.have) (own_kinds e own) l.1.0)), joined_adds (with_own e own) h.adds k.adds q i.1.1 l.1.1.1))))

binder_formed : (e : Environment) (b : TypeBinder) → IsRegular e → BinderHasDistinctLabels b → binder_stop e.names e.context b ≡ None → BoundIsWellFormed e.names (kinds_in e) (normal_binder e.names e.context b)
binder_formed e (type_binder s x None unbounded) r m k = tt
binder_formed e (type_binder s x (Some plain_kind) unbounded) r m k = tt
binder_formed e (type_binder s x (Some (operator_kind ms)) unbounded) r m k = tt
binder_formed e (type_binder s x (Some (operator_kind ms)) (bound t)) r m k = tt
binder_formed e (type_binder s x None (bound t)) r m k = formed_bound_by e.names (kinds_in e) (normal e.names e.context t) (expands_well e.names e.context t r.entries m k)
binder_formed e (type_binder s x (Some plain_kind) (bound t)) r m k = formed_bound_by e.names (kinds_in e) (normal e.names e.context t) (expands_well e.names e.context t r.entries m k)

pub binders_regular : (e : Environment) (bs : TypeBinders) → BindersHaveDistinctLabels bs → IsRegular e → Step binders_ e (binders_give bs)
binders_regular e no_binders i r = gives_ tt
binders_regular e (more_binders bs b) i r =
    parts (r, tt) (λ own g.
    unless_clear (binder_stop e.names (with_own e own).context b) (λ k.
    let w = binder_formed (with_own e own) b (own_regular e own r g.1) i.1 k in
    gives_ (and_bound_formed e.names (kinds_in e) (bounds_of own) (own_bound (with_own e own) b) g.1 (subst (λ ks. BoundIsWellFormed e.names ks (own_bound (with_own e own) b)) (own_kinds e own) w))))

one_more_bound : (n : ℕ) (rs : PlainBounds) → suc n ≤ count_bounds rs → first_bounds (suc n) rs ≡ and_bound (first_bounds n rs) (nth_bound n rs)
one_more_bound n no_bound h = absurd (omega (arith, h))
one_more_bound zero (bounds b bs) h = refl
one_more_bound (suc n) (bounds b bs) h = ap (λ z. bounds b z) (one_more_bound n bs (omega (arith, h)))

all_bounds : (n : ℕ) (rs : PlainBounds) → n ≡ count_bounds rs → first_bounds n rs ≡ rs
all_bounds zero no_bound h = refl
all_bounds (suc n) no_bound h = refl
all_bounds zero (bounds b bs) h = absurd (omega (arith, h))
all_bounds (suc n) (bounds b bs) h = ap (λ z. bounds b z) (all_bounds n bs (omega (arith, h)))

pub binders_against_regular : (e : Environment) (bs : TypeBinders) (rs : PlainBounds) → IsRegular e → (count_binders bs ≤ count_bounds rs) × BoundsAreWellFormed e.names (kinds_in e) rs → Step binders_ e (binders_against bs rs)
binders_against_regular e no_binders rs r w = gives_ refl
binders_against_regular e (more_binders bs b) rs r w =
    parts (r, (omega (arith, w.0), w.1)) (λ own g. unless _ (ensures _ _ _ (same_bounds (with_own e own) (written_bound b) _ _ _ (
    gives_ (ap (λ z. and_bound z (nth_bound (count_binders bs) rs)) g.1 ∙ sym (one_more_bound (count_binders bs) rs w.0))))))

pub ensures_known : {A : Property} {G : ResultProperty} {s : Sort} {P : Result s → Type 0} (b : Bool) (c : Code) (i : Span) {r : Rule s} → (b ≡ true → Each A G s P r) → Each A G s P (ensure b c i r)
ensures_known true c i h = h refl
ensures_known false c i h = refuses

pub fields_against_regular : (e : Environment) (s : Span) (f : FieldPats) (rs : PlainBounds) (ts : PlainTypes) (ms : PlainLabels) → IsRegular e → AreFieldsIn e rs ts ms → Step opened_ e (fields_against s f rs ts ms)
fields_against_regular e s (field_pats bs ps ls) rs ts ms r w =
    ensures_known (nat_eq (count_binders bs) (count_bounds rs)) _ _ (λ q.
    let n : count_binders bs ≡ count_bounds rs = eqb-true (count_binders bs) (count_bounds rs) q in
    ensures _ _ _ (
    parts (r, (omega (arith, n), w.0)) (λ own g.
    let o : bounds_of own ≡ rs = g.1 ∙ all_bounds (count_binders bs) rs n in
    let p = own_regular e own r (subst (λ z. BoundsAreWellFormed e.names (kinds_in e) z) (sym o) w.0) in
    let k : kinds_in (with_own e own) ≡ kinds_under (kinds_in e) rs = own_kinds e own ∙ ap (λ z. kinds_under (kinds_in e) z) o in
    parts (p, subst (λ z. AreWellFormed e.names z ts) (sym k) w.1.0) (λ x h.
    parts (p, subst (λ z. LabelsAreWellFormed e.names z ms) (sym k) w.1.1) (λ y i.
    gives_ (o, joined_adds (with_own e own) x y p h.1 i.1))))))

pub labels_against_regular : (e : Environment) (ls : LabelledPats) (ms : PlainLabels) → IsRegular e → LabelsAreWellFormed e.names (kinds_in e) ms → Step extension_ e (labelled_patterns_against ls ms)
labels_against_regular e no_labelled_pats ms r w = gives_ (none_adds e r)
labels_against_regular e (more_labelled_pats ls l p) ms r w =
    parts (r, w) (λ x g. labels_formed_at e.names (kinds_in e) (type_at l.name.0 ms) (label_formed e.names (kinds_in e) l.name.0 ms w) (λ t k. parts (r, k) (λ y h. gives_ (joined_adds e x y r g.1 h.1))) refuses)
