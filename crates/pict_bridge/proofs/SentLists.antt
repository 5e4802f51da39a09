-- Several values on their way: positional ones and labelled ones, into a record.
use Rattle.std.proofs.Common.{◌≡◌, ◌≢◌, ℕ, Bool, true, false, List, [], ◌∷◌, ◌++◌, Option, Some, None, refl, sym, ◌∙◌, ap, subst}
use Rattle.std.specs.Prelude.{if◌then◌else◌, option_map}
use Rattle.std.specs.Ordering.{is_lt}
use Rattle.pict_syntax.specs.declared.id.Id.{Id}
use Rattle.pict_syntax.specs.Labels.{label_cmp, with_label, with_labels, in_label_order}
use Rattle.pict_syntax.specs.Trees.{Val, Vals, no_vals, more_vals, LabelledVals, no_labelled_vals, more_labelled_vals}
use Rattle.pict_types.specs.Types.{PlainType, PlainTypes, no_type, types, PlainLabels, no_label, labels}
use Rattle.pict_types.specs.Kinds.{Kind, kinds, AreWellFormed, LabelsAreWellFormed}
use Rattle.pict_core.specs.Term as core
use Rattle.pict_core.specs.Closed as closed
use Rattle.pict_normal.specs.Normal.{with_labelled_type}
use Rattle.pict_normal.proofs.RawFormed.{IsNew, with_labelled_type_formed}
use Rattle.pict_scope.specs.DistinctLabels.{IsNewValue, LabelledValsAreDistinct}
use Rattle.pict_rules.specs.Regular.{Lacks}
use Rattle.pict_translation.specs.Placed.{Placed}
use Rattle.pict_core.specs.Plain.{vals_of}
use Rattle.pict_translation.specs.Arguments.{labelled_of}
use Rattle.pict_translation.specs.Simple.{Around, one_more, simple, simple_vals, simple_labelled}
use Rattle.pict_translation.specs.Translation.{sending, with_vals, with_labelled}
use Rattle.pict_typing.specs.Worlds.{World, IsType}
use Rattle.pict_typing.specs.Values.{HasType, HaveTypes, none_have, more_have, HaveLabels, none_labelled, more_labels}
use Rattle.pict_typing.specs.Processes.{AreClosedTypes}
use Rattle.pict_bridge.proofs.FieldsOpen.{Each}
use Rattle.pict_bridge.proofs.Ordered.{ordered_last, each_put, LabelsOnce, once_put}
use Rattle.pict_bridge.specs.Standing.{Stands, Longer, OnItsWay}
use Rattle.pict_bridge.specs.Realising.{IsSent}
use Rattle.pict_bridge.proofs.Standing.{not_longer, longer_more, has_longer, type_longer, closed_longer, way_longer, with_stands}

-- values and their types, in order
abbrev pub HaveAll : World → List core.Val → List PlainType → Type 0
HaveAll w [] [] = Unit {0}
HaveAll w [] (t ∷ ts) = ⊥
HaveAll w (u ∷ us) [] = ⊥
HaveAll w (u ∷ us) (t ∷ ts) = HasType w u t × HaveAll w us ts

-- labelled values and their types, with the same labels
abbrev pub HaveAtLabels : World → List (ℕ × core.Val) → List (ℕ × PlainType) → Type 0
HaveAtLabels w [] [] = Unit {0}
HaveAtLabels w [] (t ∷ ts) = ⊥
HaveAtLabels w (u ∷ us) [] = ⊥
HaveAtLabels w (u ∷ us) (t ∷ ts) = (u.0 ≡ t.0) × HasType w u.1 t.1 × HaveAtLabels w us ts

-- each value is sent at its type
pub data AreSent (w : World) (a : Around) : Vals → List PlainType → Type 0 where
  none_sent : AreSent w a no_vals []
  more_sent : {vs : Vals} {v : Val} {ts : List PlainType} (t : PlainType) → AreSent w a vs ts → IsType w t → IsSent w t a v → AreSent w a (more_vals vs v) (ts ++ t ∷ [])

pub data LabelsAreSent (w : World) (a : Around) : LabelledVals → List (ℕ × PlainType) → Type 0 where
  no_label_sent : LabelsAreSent w a no_labelled_vals []
  label_sent : {ls : LabelledVals} {l : Id} {v : Val} {ts : List (ℕ × PlainType)} (t : PlainType) → LabelsAreSent w a ls ts → IsType w t → IsSent w t a v → LabelsAreSent w a (more_labelled_vals ls l v) (ts ++ (l.name.0, t) ∷ [])

-- ---- longer worlds

pub all_longer : {w v : World} (us : List core.Val) (ts : List PlainType) → AreClosedTypes w.names w.messages → Longer w v → HaveAll w us ts → HaveAll v us ts
all_longer [] [] k l h = tt
all_longer [] (t ∷ ts) k l h = absurd h
all_longer (u ∷ us) [] k l h = absurd h
all_longer (u ∷ us) (t ∷ ts) k l h = (has_longer k l h.0, all_longer us ts k l h.1)

pub labels_longer : {w v : World} (us : List (ℕ × core.Val)) (ts : List (ℕ × PlainType)) → AreClosedTypes w.names w.messages → Longer w v → HaveAtLabels w us ts → HaveAtLabels v us ts
labels_longer [] [] k l h = tt
labels_longer [] (t ∷ ts) k l h = absurd h
labels_longer (u ∷ us) [] k l h = absurd h
labels_longer (u ∷ us) (t ∷ ts) k l h = (h.0, has_longer k l h.1, labels_longer us ts k l h.2)

pub one_more_has : (w : World) (us : List core.Val) (ts : List PlainType) (u : core.Val) (t : PlainType) → HaveAll w us ts → HasType w u t → HaveAll w (us ++ u ∷ []) (ts ++ t ∷ [])
one_more_has w [] [] u t h k = (k, tt)
one_more_has w [] (s ∷ ts) u t h k = absurd h
one_more_has w (x ∷ us) [] u t h k = absurd h
one_more_has w (x ∷ us) (s ∷ ts) u t h k = (h.0, one_more_has w us ts u t h.1 k)

one_more_label : (w : World) (us : List (ℕ × core.Val)) (ts : List (ℕ × PlainType)) (l : ℕ) (u : core.Val) (t : PlainType) → HaveAtLabels w us ts → HasType w u t → HaveAtLabels w (us ++ (l, u) ∷ []) (ts ++ (l, t) ∷ [])
one_more_label w [] [] l u t h k = (refl, k, tt)
one_more_label w [] (s ∷ ts) l u t h k = absurd h
one_more_label w (x ∷ us) [] l u t h k = absurd h
one_more_label w (x ∷ us) (s ∷ ts) l u t h k = (h.0, h.1, one_more_label w us ts l u t h.2 k)

-- ---- with several values, E

abbrev TakesAll : World → List PlainType → (List core.Val → Placed) → Type 0
TakesAll w ts E = (v : World) (us : List core.Val) → Longer w v → HaveAll v us ts → Stands v (E us)

pub values_stand : (w : World) (a : Around) (vs : Vals) (ts : List PlainType) (E : List core.Val → Placed) → AreClosedTypes w.names w.messages → AreSent w a vs ts → TakesAll w ts E → Stands w (with_vals a vs E)
unfolding sending
values_stand w a no_vals ts E k none_sent e = e w [] (not_longer w) tt
values_stand w a (more_vals vs v) ts' E k (more_sent {ts = ts} t h f s) e =
    values_stand w a vs ts (λ us x. _) k h (λ v1 us l m.
    with_stands v1 t (simple a v) (sending a v) (λ u. E (us ++ u ∷ [])) (type_longer t l f) (way_longer t (simple a v) (sending a v) k l s.on_its_way) (λ v2 u l2 n.
    e v2 (us ++ u ∷ []) (longer_more l l2) (one_more_has v2 us ts u t (all_longer us ts (closed_longer l k) l2 m) n)))

abbrev TakesLabelled : World → List (ℕ × PlainType) → (List (ℕ × core.Val) → Placed) → Type 0
TakesLabelled w ts E = (v : World) (us : List (ℕ × core.Val)) → Longer w v → HaveAtLabels v us ts → Stands v (E us)

pub labels_stand : (w : World) (a : Around) (ls : LabelledVals) (ts : List (ℕ × PlainType)) (E : List (ℕ × core.Val) → Placed) → AreClosedTypes w.names w.messages → LabelsAreSent w a ls ts → TakesLabelled w ts E → Stands w (with_labelled a ls E)
unfolding sending
labels_stand w a no_labelled_vals ts E k no_label_sent e = e w [] (not_longer w) tt
labels_stand w a (more_labelled_vals ls i v) ts' E k (label_sent {ts = ts} t h f s) e =
    labels_stand w a ls ts (λ us x. _) k h (λ v1 us l m.
    with_stands v1 t (simple a v) (sending a v) (λ u. E (us ++ (i.name.0, u) ∷ [])) (type_longer t l f) (way_longer t (simple a v) (sending a v) k l s.on_its_way) (λ v2 u l2 n.
    e v2 (us ++ (i.name.0, u) ∷ []) (longer_more l l2) (one_more_label v2 us ts i.name.0 u t (labels_longer us ts (closed_longer l k) l2 m) n)))

-- in longer worlds
pub sent_longer : {w v : World} {t : PlainType} (a : Around) (x : Val) → AreClosedTypes w.names w.messages → Longer w v → IsSent w t a x → IsSent v t a x
sent_longer {t = t} a x k l s = record { on_its_way = way_longer t (simple a x) (sending a x) k l s.on_its_way; sends = λ u c m h. s.sends u c (longer_more l m) h }

pub all_sent_longer : {w v : World} {a : Around} {vs : Vals} {ts : List PlainType} → AreClosedTypes w.names w.messages → Longer w v → AreSent w a vs ts → AreSent v a vs ts
all_sent_longer k l none_sent = none_sent
all_sent_longer {a = a} k l (more_sent {v = v} t h f s) = more_sent t (all_sent_longer k l h) (type_longer t l f) (sent_longer a v k l s)

pub labels_sent_longer : {w v : World} {a : Around} {ls : LabelledVals} {ts : List (ℕ × PlainType)} → AreClosedTypes w.names w.messages → Longer w v → LabelsAreSent w a ls ts → LabelsAreSent v a ls ts
labels_sent_longer k l no_label_sent = no_label_sent
labels_sent_longer {a = a} k l (label_sent {v = v} t h f s) = label_sent t (labels_sent_longer k l h) (type_longer t l f) (sent_longer a v k l s)

-- ---- simple values

abbrev pub HaveWhereSome : World → Option (List core.Val) → List PlainType → Type 0
HaveWhereSome w None ts = Unit {0}
HaveWhereSome w (Some us) ts = HaveAll w us ts

one_more_some : (w : World) (o : Option (List core.Val)) (v : Option core.Val) (sent : core.Val → Placed) (ts : List PlainType) (t : PlainType) → HaveWhereSome w o ts → OnItsWay w t v sent → HaveWhereSome w (one_more o v) (ts ++ t ∷ [])
one_more_some w None v sent ts t h k = tt
one_more_some w (Some us) None sent ts t h k = tt
one_more_some w (Some us) (Some u) sent ts t h k = one_more_has w us ts u t h k

pub simple_have : (w : World) (a : Around) (vs : Vals) (ts : List PlainType) → AreSent w a vs ts → HaveWhereSome w (simple_vals a vs) ts
unfolding simple
simple_have w a no_vals ts none_sent = tt
simple_have w a (more_vals vs v) ts' (more_sent {ts = ts} t h f s) = one_more_some w (simple_vals a vs) (simple a v) (sending a v) ts t (simple_have w a vs ts h) s.on_its_way

abbrev pub LabelsWhereSome : World → Option (List (ℕ × core.Val)) → List (ℕ × PlainType) → Type 0
LabelsWhereSome w None ts = Unit {0}
LabelsWhereSome w (Some us) ts = HaveAtLabels w us ts

label_some : (w : World) (o : Option (List (ℕ × core.Val))) (l : ℕ) (v : Option core.Val) (sent : core.Val → Placed) (ts : List (ℕ × PlainType)) (t : PlainType) → LabelsWhereSome w o ts → OnItsWay w t v sent → LabelsWhereSome w (one_more o (option_map (λ u. (l, u)) v)) (ts ++ (l, t) ∷ [])
label_some w None l v sent ts t h k = tt
label_some w (Some us) l None sent ts t h k = tt
label_some w (Some us) l (Some u) sent ts t h k = one_more_label w us ts l u t h k

pub simple_labels_have : (w : World) (a : Around) (ls : LabelledVals) (ts : List (ℕ × PlainType)) → LabelsAreSent w a ls ts → LabelsWhereSome w (simple_labelled a ls) ts
unfolding simple
simple_labels_have w a no_labelled_vals ts no_label_sent = tt
simple_labels_have w a (more_labelled_vals ls l v) ts' (label_sent {ts = ts} t h f s) = label_some w (simple_labelled a ls) l.name.0 (simple a v) (sending a v) ts t (simple_labels_have w a ls ts h) s.on_its_way

-- ---- records

abbrev pub types_list : List PlainType → PlainTypes
types_list [] = no_type
types_list (t ∷ ts) = types t (types_list ts)

abbrev pub labels_list : List (ℕ × PlainType) → PlainLabels
labels_list [] = no_label
labels_list (t ∷ ts) = labels t.0 t.1 (labels_list ts)

pub have_types : (w : World) (us : List core.Val) (ts : List PlainType) → HaveAll w us ts → HaveTypes w (vals_of us) (types_list ts)
have_types w [] [] h = none_have
have_types w [] (t ∷ ts) h = absurd h
have_types w (u ∷ us) [] h = absurd h
have_types w (u ∷ us) (t ∷ ts) h = more_have h.0 (have_types w us ts h.1)

pub have_labels : (w : World) (us : List (ℕ × core.Val)) (ts : List (ℕ × PlainType)) → HaveAtLabels w us ts → HaveLabels w (labelled_of us) (labels_list ts)
have_labels w [] [] h = none_labelled
have_labels w [] (t ∷ ts) h = absurd h
have_labels w (u ∷ us) [] h = absurd h
have_labels w (u ∷ us) (t ∷ ts) h = subst (λ l. HaveLabels w (labelled_of (u ∷ us)) (labels l t.1 (labels_list ts))) h.0 (more_labels h.1 (have_labels w us ts h.2))

-- labels in their order
have_put : (names : List (List ℕ)) (w : World) (l : ℕ) (u : core.Val) (t : PlainType) (us : List (ℕ × core.Val)) (ts : List (ℕ × PlainType)) → HasType w u t → HaveAtLabels w us ts → HaveAtLabels w (with_label names l u us) (with_label names l t ts)
have_put names w l u t [] [] k h = (refl, k, tt)
have_put names w l u t [] (s ∷ ts) k h = absurd h
have_put names w l u t (x ∷ us) [] k h = absurd h
have_put names w l u t (x ∷ us) (s ∷ ts) k h = go (is_lt (label_cmp names l x.0)) (is_lt (label_cmp names l s.0)) (ap (λ m. is_lt (label_cmp names l m)) h.0) (have_put names w l u t us ts k h.2)
  where
    go : (b c : Bool) → b ≡ c → HaveAtLabels w (with_label names l u us) (with_label names l t ts) → HaveAtLabels w (if b then (l, u) ∷ x ∷ us else x ∷ with_label names l u us) (if c then (l, t) ∷ s ∷ ts else s ∷ with_label names l t ts)
    go true true e r = (refl, k, h)
    go false false e r = (h.0, h.1, r)
    go true false e r = absurd cc
    go false true e r = absurd cc

have_put_all : (names : List (List ℕ)) (w : World) (sorted us : List (ℕ × core.Val)) (to ts : List (ℕ × PlainType)) → HaveAtLabels w sorted to → HaveAtLabels w us ts → HaveAtLabels w (with_labels names sorted us) (with_labels names to ts)
have_put_all names w sorted [] to [] k h = k
have_put_all names w sorted [] to (t ∷ ts) k h = absurd h
have_put_all names w sorted (u ∷ us) to [] k h = absurd h
have_put_all names w sorted (u ∷ us) to (t ∷ ts) k h =
    have_put_all names w (with_label names u.0 u.1 sorted) us (with_label names t.0 t.1 to) ts
    (subst (λ l. HaveAtLabels w (with_label names u.0 u.1 sorted) (with_label names l t.1 to)) h.0 (have_put names w u.0 u.1 t.1 sorted to h.1 k)) h.2

pub have_in_order : (names : List (List ℕ)) (w : World) (us : List (ℕ × core.Val)) (ts : List (ℕ × PlainType)) → HaveAtLabels w us ts → HaveAtLabels w (in_label_order names us) (in_label_order names ts)
have_in_order names w us ts h = have_put_all names w [] us [] ts tt h

-- distinct labels
pub labels_new : (names : List (List ℕ)) {w : World} {a : Around} {ls : LabelledVals} {ts : List (ℕ × PlainType)} (l : ℕ) → LabelsAreSent w a ls ts → IsNewValue l ls → Each (λ (y : ℕ × PlainType). l ≢ y.0) (in_label_order names ts)
labels_new names l no_label_sent n = tt
labels_new names l (label_sent {l = x} {ts = ts} t h f s) n =
    subst (Each (λ (y : ℕ × PlainType). l ≢ y.0)) (sym (ordered_last names ts x.name.0 t)) (each_put (λ (y : ℕ × PlainType). l ≢ y.0) names x.name.0 t (in_label_order names ts) n.1 (labels_new names l h n.0))

pub labels_once : (names : List (List ℕ)) {w : World} {a : Around} {ls : LabelledVals} {ts : List (ℕ × PlainType)} → LabelledValsAreDistinct ls → LabelsAreSent w a ls ts → LabelsOnce (in_label_order names ts)
labels_once names d no_label_sent = tt
labels_once names d (label_sent {l = x} {ts = ts} t h f s) =
    subst LabelsOnce (sym (ordered_last names ts x.name.0 t)) (once_put names x.name.0 t (in_label_order names ts) (labels_new names x.name.0 h d.1.0) (labels_once names d.0 h))

missing : (l : ℕ) (w : World) (us : List (ℕ × core.Val)) (ts : List (ℕ × PlainType)) → HaveAtLabels w us ts → Each (λ (y : ℕ × PlainType). l ≢ y.0) ts → closed.Lacks l (labelled_of us)
missing l w [] [] h k = tt
missing l w [] (t ∷ ts) h k = absurd h
missing l w (u ∷ us) [] h k = absurd h
missing l w (u ∷ us) (t ∷ ts) h k = (λ e. k.0 (e ∙ h.0), missing l w us ts h.2 k.1)

pub distinct_record : (w : World) (us : List (ℕ × core.Val)) (ts : List (ℕ × PlainType)) → HaveAtLabels w us ts → LabelsOnce ts → closed.IsDistinct (labelled_of us)
distinct_record w [] [] h k = tt
distinct_record w [] (t ∷ ts) h k = absurd h
distinct_record w (u ∷ us) [] h k = absurd h
distinct_record w (u ∷ us) (t ∷ ts) h k = (subst (λ l. closed.Lacks l (labelled_of us)) (sym h.0) (missing t.0 w us ts h.2 k.0), distinct_record w us ts h.2 k.1)

-- the types of all labels, in their order, are well formed
pub put_labels_list : (names : List (List ℕ)) (l : ℕ) (t : PlainType) (ts : List (ℕ × PlainType)) → labels_list (with_label names l t ts) ≡ with_labelled_type names l t (labels_list ts)
put_labels_list names l t [] = refl
put_labels_list names l t (s ∷ ts) = go (is_lt (label_cmp names l s.0)) (put_labels_list names l t ts)
  where
    go : (b : Bool) → labels_list (with_label names l t ts) ≡ with_labelled_type names l t (labels_list ts) → labels_list (if b then (l, t) ∷ s ∷ ts else s ∷ with_label names l t ts) ≡ (if b then labels l t (labels s.0 s.1 (labels_list ts)) else labels s.0 s.1 (with_labelled_type names l t (labels_list ts)))
    go true h = refl
    go false h = ap (labels s.0 s.1) h

pub list_lacks : (l : ℕ) (ts : List (ℕ × PlainType)) → Each (λ (y : ℕ × PlainType). l ≢ y.0) ts → Lacks (labels_list ts) l
list_lacks l [] h = tt
list_lacks l (t ∷ ts) h = (h.0, list_lacks l ts h.1)

list_new : (l : ℕ) (ts : List (ℕ × PlainType)) → Each (λ (y : ℕ × PlainType). l ≢ y.0) ts → IsNew l (labels_list ts)
list_new l [] h = tt
list_new l (t ∷ ts) h = (h.0, list_new l ts h.1)

types_formed_last : (names : List (List ℕ)) (ks : List Kind) (ts : List PlainType) (t : PlainType) → AreWellFormed names ks (types_list ts) → AreWellFormed names ks (types_list (t ∷ [])) → AreWellFormed names ks (types_list (ts ++ t ∷ []))
types_formed_last names ks [] t h k = k
types_formed_last names ks (s ∷ ts) t h k = (h.0, types_formed_last names ks ts t h.1 k)

pub sent_types : {w : World} {a : Around} {vs : Vals} {ts : List PlainType} → AreSent w a vs ts → AreWellFormed w.names (kinds w.type_variables) (types_list ts)
sent_types none_sent = tt
sent_types {w = w} (more_sent {ts = ts} t h f s) = types_formed_last w.names (kinds w.type_variables) ts t (sent_types h) (f, tt)

pub sent_labels : {w : World} {a : Around} {ls : LabelledVals} {ts : List (ℕ × PlainType)} → LabelledValsAreDistinct ls → LabelsAreSent w a ls ts → LabelsAreWellFormed w.names (kinds w.type_variables) (labels_list (in_label_order w.names ts))
sent_labels d no_label_sent = tt
sent_labels {w = w} d (label_sent {l = x} {ts = ts} t h f s) =
    subst (LabelsAreWellFormed w.names (kinds w.type_variables)) (sym (ap labels_list (ordered_last w.names ts x.name.0 t) ∙ put_labels_list w.names x.name.0 t (in_label_order w.names ts)))
    (with_labelled_type_formed w.names (kinds w.type_variables) x.name.0 t (labels_list (in_label_order w.names ts)) (list_new x.name.0 (in_label_order w.names ts) (labels_new w.names x.name.0 h d.1.0)) f (sent_labels d.0 h))
