-- Records and applications: the record of the values has the type of a package, once the arguments are put in.
use Rattle.std.proofs.Common.{◌≡◌, ℕ, List, [], ◌∷◌, ◌++◌, length, Option, Some, None, refl, sym, ◌∙◌, ap, ap₂, subst}
use Rattle.pict_syntax.specs.declared.span.Span.{Span}
use Rattle.pict_syntax.specs.Labels.{in_label_order}
use Rattle.pict_syntax.specs.Trees.{TypeTrees, Val, Vals, FieldVals, field_vals, LabelledVals, apply_chan, fields_val}
use Rattle.pict_types.specs.Types.{Capability, Both, Read, Write, Respond, PlainType, Top, Int, Char, Str, Boolean, Var, Apply, Chan, Fields, Rec, PlainTypes, no_type, types, PlainLabels, PlainBounds, no_bound, bounds, PlainArg, type_at}
use Rattle.pict_types.specs.Renaming.{beyond, beyond_all, beyond_times, rename, rename_types, rename_labels, rename_bounds}
use Rattle.pict_types.specs.Replacing.{arguments, replace, replace_types, replace_labels, instance_of, FitTheirFields}
use Rattle.pict_types.specs.Kinds.{kinds, AreWellFormed}
use Rattle.pict_types.specs.Instances.{ArgsAreWellFormed}
use Rattle.pict_types.proofs.Formed.{instance_formed}
use Rattle.pict_sub.specs.Subtyping.{CarriesDown, write_write, both_write, IsSubtype, same, downward}
use Rattle.pict_core.specs.Term as core
use Rattle.pict_normal.specs.Normal.{and_type}
use Rattle.pict_rules.specs.Shapes.{Function, applicable, function_by, respond_or_write, split_last, put_first, with_last, with_answer}
use Rattle.pict_rules.specs.Environments.{Environment}
use Rattle.pict_rules.specs.Regular.{IsTypeIn, kinds_in}
use Rattle.pict_scope.specs.DistinctLabels.{LabelledValsAreDistinct, FieldValsHaveDistinctLabels}
use Rattle.pict_translation.specs.Simple.{Around, record_of_fields, simple}
use Rattle.pict_translation.specs.Translation.{sending, sending_chan}
use Rattle.pict_typing.specs.Erasing.{erased, erased_types, erased_labels, erased_bounds, erased_capability}
use Rattle.pict_typing.specs.Worlds.{World, IsType}
use Rattle.pict_typing.specs.Values.{HasType, raised}
use Rattle.pict_typing.specs.Processes as typed
use Rattle.pict_bridge.proofs.Erased.{erased_args, replace_erased, arguments_erased}
use Rattle.pict_bridge.proofs.Packing.{packed_at_once}
use Rattle.pict_bridge.specs.Opening.{meaning}
use Rattle.pict_bridge.proofs.FieldsOpen.{meanings, label_meanings}
use Rattle.pict_bridge.specs.Standing.{Sends}
use Rattle.pict_bridge.specs.Realising.{around, Realises}
use Rattle.pict_bridge.proofs.Standing.{longer_more, has_longer, closed_longer, way_up, with_stands}
use Rattle.pict_bridge.proofs.Realised.{type_means, realises_longer}
use Rattle.pict_bridge.proofs.SentLists.{HaveAll, HaveAtLabels, LabelsAreSent, all_sent_longer, labels_sent_longer, one_more_has, types_list, labels_list}
use Rattle.pict_bridge.proofs.Records.{fewer_labels, record_sent, record_type, fields_stand, fields_sent}
use Rattle.pict_bridge.proofs.Meant.{all_meant, instances_mean, label_instances_mean, may_stand, AreWithinBounds}
use Rattle.pict_bridge.proofs.Judged.{Values, SentBy, AllFieldsFit, AllSentBy, LabelsGiven, Wherever, ApplicationSent, meant_types}
use Rattle.pict_normal.proofs.RawNormal.{and_type_replaced}
use Rattle.pict_types.proofs.Replaced.{beyond_after}

-- no label stands twice among the values of fields
abbrev pub LabelsStandOnce : FieldVals → Type 0
LabelsStandOnce (field_vals tys us ls) = LabelledValsAreDistinct ls

pub stand_once : (f : FieldVals) → FieldValsHaveDistinctLabels f → LabelsStandOnce f
stand_once (field_vals ts vs ls) h = h.1.1

pub meant_list : (f : ℕ → ℕ) (ts : PlainTypes) → types_list (meant_types f ts) ≡ meanings f ts
meant_list f no_type = refl
meant_list f (types t ts) = ap (types (meaning f t)) (meant_list f ts)

-- ---- packages

under_arguments : (args : List PlainArg) (bs : PlainBounds) (f : ℕ → ℕ) → FitTheirFields args bs → beyond_times (length args) f ≡ beyond_all (erased_bounds bs) f
under_arguments [] no_bound f h = refl
under_arguments [] (bounds b bs) f h = absurd h
under_arguments (a ∷ args) no_bound f h = absurd h
under_arguments (a ∷ args) (bounds b bs) f h = sym (beyond_after (length args) f) ∙ under_arguments args bs (beyond f) h.1

abbrev package_type : (ℕ → ℕ) → (ℕ → ℕ) → PlainBounds → PlainTypes → PlainLabels → PlainType
package_type f g bs ps ms = Fields (rename_bounds f (erased_bounds bs)) (rename_types g (erased_types ps)) (rename_labels g (erased_labels ms))

-- a value of the fields with the arguments put in has the package's type
package_has : (e : Environment) (vs : Values) (f : ℕ → ℕ) (v : World) (u : core.Val) (args : List PlainArg) (bs : PlainBounds) (ps : PlainTypes) (ms : PlainLabels) → Realises e vs f v → IsTypeIn e (Fields bs ps ms) → ArgsAreWellFormed e.names (kinds_in e) args → FitTheirFields args bs → AreWithinBounds e bs [] args → HasType v u (meaning f (instance_of args ps ms)) → HasType v u (meaning f (Fields bs ps ms))
package_has e vs f v u args bs ps ms r q h k d x =
    subst (λ g. HasType v u (package_type f g bs ps ms)) same_
    (packed_at_once v u (all_meant f args) (rename_bounds f (erased_bounds bs)) (rename_types inner (erased_types ps)) (rename_labels inner (erased_labels ms)) (may_stand bs [] args r h k d)
    (subst (λ g. IsType v (package_type f g bs ps ms)) (sym same_) (type_means (Fields bs ps ms) r q))
    (subst (HasType v u) (ap₂ (Fields no_bound) (sym (instances_mean f args ps)) (sym (label_instances_mean f args ms))) x))
  where
    inner : ℕ → ℕ
    inner = beyond_times (length args) f

    same_ : inner ≡ beyond_all (erased_bounds bs) f
    same_ = under_arguments args bs f k

-- a record of values has the package's type
pub record_package : (e : Environment) (vs : Values) (f : ℕ → ℕ) (v : World) (args : List PlainArg) (bs : PlainBounds) (ps : PlainTypes) (ms : PlainLabels) (vals : Vals) (ls : LabelledVals) (us : List core.Val) (ws : List (ℕ × core.Val)) (ts : List PlainType) (lts : List (ℕ × PlainType))
    → Realises e vs f v → IsTypeIn e (Fields bs ps ms) → ArgsAreWellFormed e.names (kinds_in e) args → FitTheirFields args bs → AreWithinBounds e bs [] args
    → LabelledValsAreDistinct ls → LabelsAreSent v (around e vs) ls lts → HaveAll v us ts → HaveAtLabels v ws lts → types_list ts ≡ meanings f (replace_types (arguments args) ps)
    → ((l : ℕ) (t : PlainType) → type_at l (label_meanings f (replace_labels (arguments args) ms)) ≡ Some t → type_at l (labels_list (in_label_order e.names lts)) ≡ Some t)
    → HasType v (record_of_fields (around e vs) us ws) (meaning f (Fields bs ps ms))
record_package e vs f v args bs ps ms vals ls us ws ts lts r q h k d distinct sent y z same_ at_ = package_has e vs f v (record_of_fields (around e vs) us ws) args bs ps ms r q h k d whole
  where
    instance_ : IsType v (meaning f (instance_of args ps ms))
    instance_ = type_means (instance_of args ps ms) r (instance_formed e.names (kinds_in e) args bs ps ms k h q)

    formed : AreWellFormed v.names (kinds v.type_variables) (types_list ts)
    formed = subst (AreWellFormed v.names (kinds v.type_variables)) (sym same_) instance_.1.0

    all : PlainLabels
    all = labels_list (in_label_order e.names lts)

    raw : HasType v (record_of_fields (around e vs) us ws) (Fields no_bound (meanings f (replace_types (arguments args) ps)) all)
    raw = subst (λ z. HasType v (record_of_fields (around e vs) us ws) (Fields no_bound z all)) same_ (record_sent v (around e vs) vals ls us ws ts lts r.world_names distinct sent y z formed)

    raw_type : IsType v (Fields no_bound (meanings f (replace_types (arguments args) ps)) all)
    raw_type = subst (λ z. IsType v (Fields no_bound z all)) same_ (record_type v e.names ts lts r.world_names distinct sent formed)

    whole : HasType v (record_of_fields (around e vs) us ws) (meaning f (instance_of args ps ms))
    whole = raised (Fields no_bound (meanings f (replace_types (arguments args) ps)) all) raw_type instance_ raw
        (fewer_labels v.names (kinds v.type_variables) v.type_variables (meanings f (replace_types (arguments args) ps)) all (label_meanings f (replace_labels (arguments args) ms)) instance_.1.1 at_)

-- ---- a record that has a record type

pub fields_had : (e : Environment) (s : Span) (us : FieldVals) (bs : PlainBounds) (ps : PlainTypes) (ms : PlainLabels) (args : List PlainArg) → IsTypeIn e (Fields bs ps ms) → ArgsAreWellFormed e.names (kinds_in e) args → FitTheirFields args bs → LabelsStandOnce us → AllFieldsFit e us bs ps ms args → SentBy e (fields_val s us) (Fields bs ps ms)
fields_had e s (field_vals tys us ls) bs ps ms args q h k distinct x vs f w r =
    let y = x.sent vs f w r in
    let qs = meant_types f (replace_types (arguments args) ps) in
    fields_sent w (around e vs) s tys us ls (meaning f (Fields bs ps ms)) qs y.types_ r.closed y.sent y.labelled (type_means (Fields bs ps ms) r q) (λ v xs ws l m n.
    record_package e vs f v args bs ps ms us ls xs ws qs y.types_ (realises_longer l r) q h k x.within_ distinct (labels_sent_longer r.closed l y.labelled) m n (meant_list f (replace_types (arguments args) ps)) y.at_)

-- ---- a record that gives its type

pub fields_given : (e : Environment) (s : Span) (tys : TypeTrees) (us : Vals) (ls : LabelledVals) (ps : PlainTypes) (ms : PlainLabels) → IsTypeIn e (Fields no_bound ps ms) → LabelledValsAreDistinct ls → AllSentBy e us ps → Wherever e (LabelsGiven e ls ms) → SentBy e (fields_val s (field_vals tys us ls)) (Fields no_bound ps ms)
fields_given e s tys us ls ps ms q distinct h k vs f w r =
    let x = h vs f w r in
    let y = k vs f w r in
    fields_sent w (around e vs) s tys us ls (meaning f (Fields no_bound ps ms)) (meant_types f ps) y.types_ r.closed x y.sent (type_means (Fields no_bound ps ms) r q) (λ v xs ws l m n.
    let r2 = realises_longer l r in
    let formed = subst (AreWellFormed v.names (kinds v.type_variables)) (sym (meant_list f ps)) (type_means (Fields no_bound ps ms) r2 q).1.0 in
    subst (HasType v (record_of_fields (around e vs) xs ws)) (ap₂ (Fields no_bound) (meant_list f ps) y.same_)
    (record_sent v (around e vs) us ls xs ws (meant_types f ps) y.types_ r2.world_names distinct (labels_sent_longer r.closed l y.sent) m n formed))

-- ---- applications

-- what is applied may be sent on, and takes the fields and a channel for the answer
pub record IsApplied (t : PlainType) (r : Function) : Type 0 where
  pub capability : Capability
  pub carries_down : CarriesDown (erased_capability capability) Write
  pub last : PlainType
  pub is : t ≡ Chan capability (Fields r.binders (and_type r.positional last) r.labelled)
  pub answers : erased last ≡ Chan Write (erased r.answer)

some_last : (u : PlainType) (us : PlainTypes) → (y : PlainTypes × PlainType) × (split_last (types u us) ≡ Some y)
some_last u us = go (split_last us)
  where
    go : (o : Option (PlainTypes × PlainType)) → (y : PlainTypes × PlainType) × (put_first u o ≡ Some y)
    go None = ((no_type, u), refl)
    go (Some y) = ((types u y.0, y.1), refl)

-- all types but the last, and the last
pub last_and : (ps : PlainTypes) (x : PlainTypes × PlainType) → split_last ps ≡ Some x → and_type x.0 x.1 ≡ ps
last_and no_type x h = absurd cc
last_and (types t no_type) x h = let q : (no_type, t) ≡ x = cc in ap (λ (z : PlainTypes × PlainType). and_type z.0 z.1) (sym q)
last_and (types t (types u us)) x h =
    let y = some_last u us in
    let k : Some (types t y.0.0, y.0.1) ≡ Some x = ap (put_first t) (sym y.1) ∙ h in
    let q : (types t y.0.0, y.0.1) ≡ x = cc in
    ap (λ (z : PlainTypes × PlainType). and_type z.0 z.1) (sym q) ∙ ap (types t) (last_and (types u us) y.0 y.1)

answer_taken : (t u : PlainType) → respond_or_write t ≡ Some u → erased t ≡ Chan Write (erased u)
answer_taken Top u h = absurd cc
answer_taken Int u h = absurd cc
answer_taken Char u h = absurd cc
answer_taken Str u h = absurd cc
answer_taken Boolean u h = absurd cc
answer_taken (Var i) u h = absurd cc
answer_taken (Apply i ts) u h = absurd cc
answer_taken (Chan Respond t) u h = let q : t ≡ u = cc in ap (λ z. Chan Write (erased z)) q
answer_taken (Chan Write t) u h = let q : t ≡ u = cc in ap (λ z. Chan Write (erased z)) q
answer_taken (Chan Both t) u h = absurd cc
answer_taken (Chan Read t) u h = absurd cc
answer_taken (Fields bs ps ls) u h = absurd cc
answer_taken (Rec t) u h = absurd cc

applied_record : (m : Capability) (bs : PlainBounds) (ps : PlainTypes) (ls : PlainLabels) (r : Function) → CarriesDown (erased_capability m) Write → with_last respond_or_write bs ls (split_last ps) ≡ Some r → IsApplied (Chan m (Fields bs ps ls)) r
applied_record m bs ps ls r f h = go (split_last ps) refl h
  where
    taken : (x : PlainTypes × PlainType) → split_last ps ≡ Some x → (o : Option PlainType) → respond_or_write x.1 ≡ o → with_answer bs ls x.0 o ≡ Some r → IsApplied (Chan m (Fields bs ps ls)) r
    taken x e None k h = absurd cc
    taken x e (Some u) k h =
        let q : record { binders = bs; positional = x.0; labelled = ls; answer = u } ≡ r = cc in
        subst (IsApplied (Chan m (Fields bs ps ls))) q (record { capability = m; carries_down = f; last = x.1; is = ap (λ z. Chan m (Fields bs z ls)) (sym (last_and ps x e)); answers = answer_taken x.1 u k })

    go : (o : Option (PlainTypes × PlainType)) → split_last ps ≡ o → with_last respond_or_write bs ls o ≡ Some r → IsApplied (Chan m (Fields bs ps ls)) r
    go None e k = absurd cc
    go (Some x) e k = taken x e (respond_or_write x.1) refl k

applied_function : (m : Capability) (t : PlainType) (r : Function) → CarriesDown (erased_capability m) Write → function_by (λ bs. respond_or_write) t ≡ Some r → IsApplied (Chan m t) r
applied_function m Top r f h = absurd cc
applied_function m Int r f h = absurd cc
applied_function m Char r f h = absurd cc
applied_function m Str r f h = absurd cc
applied_function m Boolean r f h = absurd cc
applied_function m (Var i) r f h = absurd cc
applied_function m (Apply i ts) r f h = absurd cc
applied_function m (Chan n t) r f h = absurd cc
applied_function m (Fields bs ps ls) r f h = applied_record m bs ps ls r f h
applied_function m (Rec t) r f h = absurd cc

pub is_applied : (t : PlainType) (r : Function) → applicable t ≡ Some r → IsApplied t r
is_applied Top r h = absurd cc
is_applied Int r h = absurd cc
is_applied Char r h = absurd cc
is_applied Str r h = absurd cc
is_applied Boolean r h = absurd cc
is_applied (Var i) r h = absurd cc
is_applied (Apply i ts) r h = absurd cc
is_applied (Chan Both t) r h = applied_function Both t r both_write h
is_applied (Chan Write t) r h = applied_function Write t r write_write h
is_applied (Chan Respond t) r h = applied_function Respond t r write_write h
is_applied (Chan Read t) r h = absurd cc
is_applied (Fields bs ps ls) r h = absurd cc
is_applied (Rec t) r h = absurd cc

-- the types of the fields and of the channel for the answer
types_last : (ts : List PlainType) (t : PlainType) → types_list (ts ++ t ∷ []) ≡ and_type (types_list ts) t
types_last [] t = refl
types_last (s ∷ ts) t = ap (types s) (types_last ts t)

and_meant : (f : ℕ → ℕ) (ps : PlainTypes) (t : PlainType) → meanings f (and_type ps t) ≡ and_type (meanings f ps) (meaning f t)
and_meant f no_type t = refl
and_meant f (types p ps) t = ap (types (meaning f p)) (and_meant f ps t)

pub application_sent : (e : Environment) (s : Span) (v : Val) (us : FieldVals) (t : PlainType) (r : Function) (args : List PlainArg) → IsTypeIn e t → IsApplied t r → ArgsAreWellFormed e.names (kinds_in e) args → FitTheirFields args r.binders → LabelsStandOnce us → SentBy e v t → AllFieldsFit e us r.binders r.positional r.labelled args → ApplicationSent e s v us (replace (arguments args) r.answer)
unfolding sending
application_sent e s v (field_vals tys us ls) t r args q app h fit distinct head x vs f w real = go
  where
    a : Around
    a = around e vs

    u : PlainType
    u = replace (arguments args) r.answer

    whole : PlainType
    whole = Fields r.binders (and_type r.positional app.last) r.labelled

    whole_in : IsTypeIn e whole
    whole_in = subst (IsTypeIn e) app.is q

    qs : PlainTypes
    qs = replace_types (arguments args) r.positional

    -- the last field's type, with the arguments put in, is that of the channel for the answer
    answer_type : meaning f (replace (arguments args) app.last) ≡ Chan Write (meaning f u)
    answer_type = ap (rename f) (sym (replace_erased app.last (arguments_erased args)) ∙ ap (replace (arguments (erased_args args))) app.answers ∙ ap (Chan Write) (replace_erased r.answer (arguments_erased args)))

    types_same : types_list (meant_types f qs ++ Chan Write (meaning f u) ∷ []) ≡ meanings f (replace_types (arguments args) (and_type r.positional app.last))
    types_same =
        types_last (meant_types f qs) (Chan Write (meaning f u)) ∙ ap₂ and_type (meant_list f qs) (sym answer_type)
        ∙ sym (ap (meanings f) (and_type_replaced (arguments args) r.positional app.last) ∙ and_meant f qs (replace (arguments args) app.last))

    go : Sends w (meaning f u) (sending_chan a (apply_chan s v (field_vals tys us ls)))
    go v1 k l m =
        let r1 = realises_longer l real in
        let y = x.sent vs f v1 r1 in
        let above : IsSubtype v1.type_variables (meaning f t) (Chan Write (meaning f whole)) = subst (λ z. IsSubtype v1.type_variables (meaning f z) (Chan Write (meaning f whole))) (sym app.is) (downward app.carries_down same) in
        with_stands v1 (Chan Write (meaning f whole)) (simple a v) (sending a v) _ (type_means whole r1 whole_in) (way_up v1 (meaning f t) (Chan Write (meaning f whole)) (simple a v) (sending a v) (type_means t r1 q) (type_means whole r1 whole_in) above (head vs f v1 r1).on_its_way) (λ v2 g l2 n.
        fields_stand v2 a tys us ls (meant_types f qs) y.types_ _ (closed_longer l2 r1.closed) (all_sent_longer r1.closed l2 y.sent) (labels_sent_longer r1.closed l2 y.labelled) (λ v3 xs ws l3 b c.
        let l23 = longer_more l2 l3 in
        let r3 = realises_longer l23 r1 in
        typed.output (meaning f whole) (type_means whole r3 whole_in) (has_longer (closed_longer l2 r1.closed) l3 n)
        (record_package e vs f v3 args r.binders (and_type r.positional app.last) r.labelled us ls (xs ++ k ∷ []) ws (meant_types f qs ++ Chan Write (meaning f u) ∷ []) y.types_ r3 whole_in h fit x.within_ distinct (labels_sent_longer r1.closed l23 y.labelled)
        (one_more_has v3 xs (meant_types f qs) k (Chan Write (meaning f u)) b (has_longer r1.closed l23 m)) c types_same y.at_)))
