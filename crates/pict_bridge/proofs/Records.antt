-- Records of values on their way: of the types that their values have, and of record types with fewer labels.
use Rattle.std.proofs.Common.{◌≡◌, ℕ, true, false, nat_eq, List, Option, Some, None, refl, subst}
use Rattle.std.specs.Prelude.{option_and_then, option_map}
use Rattle.std.proofs.lemmas.Bool.{eq-eqb, ne_eqb}
use Rattle.pict_syntax.specs.declared.span.Span.{Span}
use Rattle.pict_syntax.specs.Labels.{in_label_order}
use Rattle.pict_syntax.proofs.LabelLemmas.{other_label}
use Rattle.pict_syntax.specs.Trees.{TypeTrees, Vals, LabelledVals, field_vals, fields_val}
use Rattle.pict_types.specs.Types.{PlainType, Fields, PlainTypes, no_type, types, PlainLabels, no_label, labels, no_bound, type_at, TypeContext}
use Rattle.pict_types.specs.Kinds.{Kind, kinds, AreWellFormed, LabelsAreWellFormed, StandsBeforeAll}
use Rattle.pict_sub.specs.Subtyping.{IsSubtype, same, by_fields, AreSubtypes, none, more, HasLabels, has_none, has_label}
use Rattle.pict_core.specs.Term as core
use Rattle.pict_core.specs.Closed as closed
use Rattle.pict_scope.specs.DistinctLabels.{LabelledValsAreDistinct}
use Rattle.pict_translation.specs.Placed.{Placed, output}
use Rattle.pict_core.specs.Plain.{vals_of}
use Rattle.pict_translation.specs.Arguments.{labelled_of}
use Rattle.pict_translation.specs.Simple.{Around, record_of_fields, simple, simple_vals, simple_labelled}
use Rattle.pict_translation.specs.Translation.{sending, with_fields, with_labelled}
use Rattle.pict_typing.specs.Worlds.{World, IsType}
use Rattle.pict_typing.specs.Values.{HasType, record_has}
use Rattle.pict_typing.specs.Processes as typed
use Rattle.pict_typing.specs.Processes.{AreClosedTypes}
use Rattle.pict_bridge.specs.Standing.{Stands, Longer, Sends, OnItsWay}
use Rattle.pict_bridge.specs.Realising.{IsSent}
use Rattle.pict_bridge.proofs.Standing.{not_longer, longer_more, has_longer, type_longer, closed_longer}
use Rattle.pict_bridge.proofs.SentLists.{HaveAll, HaveAtLabels, HaveWhereSome, LabelsWhereSome, all_longer, AreSent, LabelsAreSent, values_stand, labels_stand, all_sent_longer, labels_sent_longer, simple_have, simple_labels_have, types_list, labels_list, have_types, have_labels, have_in_order, labels_once, distinct_record, sent_labels}

-- ---- record types

types_below : (c : TypeContext) (ts : PlainTypes) → AreSubtypes c ts ts
types_below c no_type = none
types_below c (types t ts) = more same (types_below c ts)

-- each label's type is found at it
abbrev AllAt : PlainLabels → PlainLabels → Type 0
AllAt all no_label = Unit {0}
AllAt all (labels l t ls) = (type_at l all ≡ Some t) × AllAt all ls

further_at : (names : List (List ℕ)) (m : ℕ) (u : PlainType) (all ls : PlainLabels) → StandsBeforeAll names m ls → AllAt all ls → AllAt (labels m u all) ls
further_at names m u all no_label h k = tt
further_at names m u all (labels l t ls) h k =
    let e : nat_eq l m ≡ false = ne_eqb l m (λ q. other_label names m l h.0 q) in
    (rw e k.0, further_at names m u all ls h.1 k.1)

all_at : (names : List (List ℕ)) (ks : List Kind) (ls : PlainLabels) → LabelsAreWellFormed names ks ls → AllAt ls ls
all_at names ks no_label w = tt
all_at names ks (labels l t ls) w =
    let e : nat_eq l l ≡ true = eq-eqb l l refl in
    (rw e refl, further_at names l t ls ls w.0 (all_at names ks ls w.1.1))

has_all : (c : TypeContext) (ls all ms : PlainLabels) → ((l : ℕ) (t : PlainType) → type_at l all ≡ Some t → type_at l ls ≡ Some t) → AllAt all ms → HasLabels c ls ms
has_all c ls all no_label f k = has_none
has_all c ls all (labels l t ms) f k = has_label (f l t k.0) same (has_all c ls all ms f k.1)

-- a record type with fewer labels
pub fewer_labels : (names : List (List ℕ)) (ks : List Kind) (c : TypeContext) (ps : PlainTypes) (ls ms : PlainLabels) → LabelsAreWellFormed names ks ms → ((l : ℕ) (t : PlainType) → type_at l ms ≡ Some t → type_at l ls ≡ Some t) → IsSubtype c (Fields no_bound ps ls) (Fields no_bound ps ms)
fewer_labels names ks c ps ls ms w f = by_fields (types_below c ps) (has_all c ls ms ms f (all_at names ks ms w))

-- ---- records

-- the record has the type of its fields
pub record_typed : (v : World) (names : List (List ℕ)) (us : List core.Val) (ws : List (ℕ × core.Val)) (ts : List PlainType) (lts : List (ℕ × PlainType)) → v.names ≡ names → HaveAll v us ts → HaveAtLabels v ws lts → AreWellFormed v.names (kinds v.type_variables) (types_list ts) → LabelsAreWellFormed v.names (kinds v.type_variables) (labels_list (in_label_order v.names lts)) → closed.IsDistinct (labelled_of (in_label_order v.names ws)) → HasType v (core.Record (vals_of us) (labelled_of (in_label_order names ws))) (Fields no_bound (types_list ts) (labels_list (in_label_order names lts)))
record_typed v names us ws ts lts q h k f g d = subst (λ ns. HasType v (core.Record (vals_of us) (labelled_of (in_label_order ns ws))) (Fields no_bound (types_list ts) (labels_list (in_label_order ns lts)))) q
    (record_has d (have_types v us ts h) (have_labels v (in_label_order v.names ws) (in_label_order v.names lts) (have_in_order v.names v ws lts k)) (tt, (f, g)))

-- the record of values that are sent has the type of their types
pub record_sent : (v : World) (a : Around) (vs : Vals) (ls : LabelledVals) (us : List core.Val) (ws : List (ℕ × core.Val)) (ts : List PlainType) (lts : List (ℕ × PlainType)) → v.names ≡ a.names → LabelledValsAreDistinct ls → LabelsAreSent v a ls lts → HaveAll v us ts → HaveAtLabels v ws lts → AreWellFormed v.names (kinds v.type_variables) (types_list ts) → HasType v (record_of_fields a us ws) (Fields no_bound (types_list ts) (labels_list (in_label_order a.names lts)))
record_sent v a vs ls us ws ts lts q d m h k f =
    record_typed v a.names us ws ts lts q h k f (sent_labels d m) (distinct_record v (in_label_order v.names ws) (in_label_order v.names lts) (have_in_order v.names v ws lts k) (labels_once v.names d m))

-- and its type is one
pub record_type : (v : World) (names : List (List ℕ)) {a : Around} {ls : LabelledVals} (ts : List PlainType) (lts : List (ℕ × PlainType)) → v.names ≡ names → LabelledValsAreDistinct ls → LabelsAreSent v a ls lts → AreWellFormed v.names (kinds v.type_variables) (types_list ts) → IsType v (Fields no_bound (types_list ts) (labels_list (in_label_order names lts)))
record_type v names ts lts q d m f = subst (λ ns. IsType v (Fields no_bound (types_list ts) (labels_list (in_label_order ns lts)))) q (tt, (f, sent_labels d m))

-- ---- values of fields on their way

abbrev TakesFields : World → List PlainType → List (ℕ × PlainType) → (List core.Val → List (ℕ × core.Val) → Placed) → Type 0
TakesFields w ts lts E = (v : World) (us : List core.Val) (ws : List (ℕ × core.Val)) → Longer w v → HaveAll v us ts → HaveAtLabels v ws lts → Stands v (E us ws)

pub fields_stand : (w : World) (a : Around) (tys : TypeTrees) (vs : Vals) (ls : LabelledVals) (ts : List PlainType) (lts : List (ℕ × PlainType)) (E : List core.Val → List (ℕ × core.Val) → Placed) → AreClosedTypes w.names w.messages → AreSent w a vs ts → LabelsAreSent w a ls lts → TakesFields w ts lts E → Stands w (with_fields a (field_vals tys vs ls) E)
unfolding sending
fields_stand w a tys vs ls ts lts E k h m e =
    values_stand w a vs ts (λ us. with_labelled a ls (λ ws. E us ws)) k h (λ v1 us l1 y.
    labels_stand v1 a ls lts (λ ws. E us ws) (closed_longer l1 k) (labels_sent_longer k l1 m) (λ v2 ws l2 z.
    e v2 us ws (longer_more l1 l2) (all_longer us ts (closed_longer l1 k) l2 y) z))

-- a record value is sent at a type that the record of its fields has
pub fields_sent : (w : World) (a : Around) (s : Span) (tys : TypeTrees) (vs : Vals) (ls : LabelledVals) (t : PlainType) (ts : List PlainType) (lts : List (ℕ × PlainType)) → AreClosedTypes w.names w.messages → AreSent w a vs ts → LabelsAreSent w a ls lts → IsType w t
    → ((v : World) (us : List core.Val) (ws : List (ℕ × core.Val)) → Longer w v → HaveAll v us ts → HaveAtLabels v ws lts → HasType v (record_of_fields a us ws) t) → IsSent w t a (fields_val s (field_vals tys vs ls))
unfolding sending simple
fields_sent w a s tys vs ls t ts lts k h m f e = record { on_its_way = on_way (simple_vals a vs) (simple_labelled a ls) (simple_have w a vs ts h) (simple_labels_have w a ls lts m); sends = sends_ }
  where
    sends_ : Sends w t (λ c. with_fields a (field_vals tys vs ls) (λ us ws. output c (record_of_fields a us ws) s))
    sends_ v c l x =
        fields_stand v a tys vs ls ts lts (λ us ws. output c (record_of_fields a us ws) s) (closed_longer l k) (all_sent_longer k l h) (labels_sent_longer k l m) (λ v2 us ws l2 y z.
        typed.output t (type_longer t (longer_more l l2) f) (has_longer (closed_longer l k) l2 x) (e v2 us ws (longer_more l l2) y z))

    on_way : (o : Option (List core.Val)) (p : Option (List (ℕ × core.Val))) → HaveWhereSome w o ts → LabelsWhereSome w p lts → OnItsWay w t (option_and_then (λ us. option_map (record_of_fields a us) p) o) (λ c. with_fields a (field_vals tys vs ls) (λ us ws. output c (record_of_fields a us ws) s))
    on_way None p y z = sends_
    on_way (Some us) None y z = sends_
    on_way (Some us) (Some ws) y z = e w us ws (not_longer w) y z
