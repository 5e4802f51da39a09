-- Subtyping without transitivity, decided by the form of the two types, and that it is subtyping.
use Rattle.std.proofs.Common.{◌≡◌, ℕ, List, [], ◌∷◌, Some, refl, sym, ◌∙◌, subst, Bool, true, false}
use Rattle.std.proofs.lemmas.Bool.{eqb-true}
use Rattle.std.specs.Prelude.{nat_eq}
use Rattle.pict_types.specs.Types.{Capability, PlainType, Top, Int, Char, Str, Boolean, Var, Apply, Chan, Fields, Rec, PlainTypes, no_type, types, PlainLabels, no_label, labels, PlainBounds, Below, Operator, TypeContext, under, type_at}
use Rattle.pict_syntax.specs.declared.type_tree.Mark.{Mark}
use Rattle.pict_syntax.specs.declared.type_tree.Mark.TheVariants.{Plus, Minus, Plain as Unmarked}
use Rattle.pict_types.specs.Renaming.{bound_of}
use Rattle.pict_sub.specs.Subtyping.{CarriesUp, both_read, read_read, CarriesDown, both_write, write_write, respond_respond, respond_write, IsSubtype, same, through, below_top, below_bound, upward, downward, by_fields, by_arguments, AreByMarks, no_more, plus, minus, unmarked, AreSubtypes, none, more, HasLabels, has_none, has_label}

mutual
  pub data Decides : TypeContext → PlainType → PlainType → Type 0 where
    d_same : {c : TypeContext} {s : PlainType} → Decides c s s
    d_top : {c : TypeContext} {s : PlainType} → Decides c s Top
    d_bound : {c : TypeContext} {i : ℕ} {b t : PlainType} → bound_of c i ≡ Below b → Decides c b t → Decides c (Var i) t
    d_up : {c : TypeContext} {m n : Capability} {s t : PlainType} → CarriesUp m n → Decides c s t → Decides c (Chan m s) (Chan n t)
    d_down : {c : TypeContext} {m n : Capability} {s t : PlainType} → CarriesDown m n → Decides c t s → Decides c (Chan m s) (Chan n t)
    d_fields : {c : TypeContext} {bs : PlainBounds} {ps qs : PlainTypes} {ls ms : PlainLabels} → DecidesTypes (under c bs) ps qs → DecidesLabels (under c bs) ls ms → Decides c (Fields bs ps ls) (Fields bs qs ms)
    d_arguments : {c : TypeContext} {i : ℕ} {ms : List Mark} {ss ts : PlainTypes} → bound_of c i ≡ Operator ms → DecidesByMarks c ms ss ts → Decides c (Apply i ss) (Apply i ts)

  pub data DecidesByMarks : TypeContext → List Mark → PlainTypes → PlainTypes → Type 0 where
    d_no_more : {c : TypeContext} → DecidesByMarks c [] no_type no_type
    d_plus : {c : TypeContext} {s t : PlainType} {ms : List Mark} {ss ts : PlainTypes} → Decides c s t → DecidesByMarks c ms ss ts → DecidesByMarks c (Plus ∷ ms) (types s ss) (types t ts)
    d_minus : {c : TypeContext} {s t : PlainType} {ms : List Mark} {ss ts : PlainTypes} → Decides c t s → DecidesByMarks c ms ss ts → DecidesByMarks c (Minus ∷ ms) (types s ss) (types t ts)
    d_unmarked : {c : TypeContext} {t : PlainType} {ms : List Mark} {ss ts : PlainTypes} → DecidesByMarks c ms ss ts → DecidesByMarks c (Unmarked ∷ ms) (types t ss) (types t ts)

  pub data DecidesTypes : TypeContext → PlainTypes → PlainTypes → Type 0 where
    d_none : {c : TypeContext} → DecidesTypes c no_type no_type
    d_more : {c : TypeContext} {s t : PlainType} {ss ts : PlainTypes} → Decides c s t → DecidesTypes c ss ts → DecidesTypes c (types s ss) (types t ts)

  pub data DecidesLabels : TypeContext → PlainLabels → PlainLabels → Type 0 where
    d_has_none : {c : TypeContext} {ls : PlainLabels} → DecidesLabels c ls no_label
    d_has_label : {c : TypeContext} {l : ℕ} {s t : PlainType} {ls ms : PlainLabels} → type_at l ls ≡ Some s → Decides c s t → DecidesLabels c ls ms → DecidesLabels c ls (labels l t ms)

-- what transitivity middle t says
Through : PlainType → Type 0
Through t = (c : TypeContext) (s u : PlainType) → Decides c s t → Decides c t u → Decides c s u

up_then_up : {m n o : Capability} → CarriesUp m n → CarriesUp n o → CarriesUp m o
up_then_up both_read read_read = both_read
up_then_up read_read read_read = read_read

down_then_down : {m n o : Capability} → CarriesDown m n → CarriesDown n o → CarriesDown m o
down_then_down both_write write_write = both_write
down_then_down write_write write_write = write_write
down_then_down respond_respond d = d
down_then_down respond_write write_write = respond_write

up_then_down : {m n o : Capability} {A : Type 0} → CarriesUp m n → CarriesDown n o → A
up_then_down both_read d = elim d [ ]
up_then_down read_read d = elim d [ ]

down_then_up : {m n o : Capability} {A : Type 0} → CarriesDown m n → CarriesUp n o → A
down_then_up both_write d = elim d [ ]
down_then_up write_write d = elim d [ ]
down_then_up respond_respond d = elim d [ ]
down_then_up respond_write d = elim d [ ]

-- a channel type in the middle
chan_tail : {c : TypeContext} {m n : Capability} {s t u : PlainType} → Through t → CarriesUp m n → Decides c s t → Decides c (Chan n t) u → Decides c (Chan m s) u
unfolding Through
chan_tail h r d d_same = d_up r d
chan_tail h r d d_top = d_top
chan_tail {c = c} {s = s} h r d (d_up {t = v} r2 e) = d_up (up_then_up r r2) (h c s v d e)
chan_tail h r d (d_down f e) = up_then_down r f

chan_tail_down : {c : TypeContext} {m n : Capability} {s t u : PlainType} → Through t → CarriesDown m n → Decides c t s → Decides c (Chan n t) u → Decides c (Chan m s) u
unfolding Through
chan_tail_down h f d d_same = d_down f d
chan_tail_down h f d d_top = d_top
chan_tail_down h f d (d_up r e) = down_then_up f r
chan_tail_down {c = c} {s = s} h f d (d_down {t = v} g e) = d_down (down_then_down f g) (h c v s e d)

chan_through : {m : Capability} {t : PlainType} → Through t → {c : TypeContext} {s u : PlainType} → Decides c s (Chan m t) → Decides c (Chan m t) u → Decides c s u
chan_through h d_same e = e
chan_through h (d_bound b d) e = d_bound b (chan_through h d e)
chan_through h (d_up r d) e = chan_tail h r d e
chan_through h (d_down f d) e = chan_tail_down h f d e

-- a type in the middle that only variables and itself are below_bound, but for what is above it
var_through : {c : TypeContext} {i : ℕ} {s u : PlainType} → Decides c s (Var i) → Decides c (Var i) u → Decides c s u
var_through d_same e = e
var_through (d_bound b d) e = d_bound b (var_through d e)

int_through : {c : TypeContext} {s u : PlainType} → Decides c s Int → Decides c Int u → Decides c s u
int_through d_same e = e
int_through (d_bound b d) e = d_bound b (int_through d e)

char_through : {c : TypeContext} {s u : PlainType} → Decides c s Char → Decides c Char u → Decides c s u
char_through d_same e = e
char_through (d_bound b d) e = d_bound b (char_through d e)

string_through : {c : TypeContext} {s u : PlainType} → Decides c s Str → Decides c Str u → Decides c s u
string_through d_same e = e
string_through (d_bound b d) e = d_bound b (string_through d e)

boolean_through : {c : TypeContext} {s u : PlainType} → Decides c s Boolean → Decides c Boolean u → Decides c s u
boolean_through d_same e = e
boolean_through (d_bound b d) e = d_bound b (boolean_through d e)

rec_through : {c : TypeContext} {t s u : PlainType} → Decides c s (Rec t) → Decides c (Rec t) u → Decides c s u
rec_through d_same e = e
rec_through (d_bound b d) e = d_bound b (rec_through d e)

ThroughArguments : PlainTypes → Type 0
ThroughArguments ts = (c : TypeContext) (ms : List Mark) (ss us : PlainTypes) → DecidesByMarks c ms ss ts → DecidesByMarks c ms ts us → DecidesByMarks c ms ss us

-- an applied operator variable in the middle
apply_tail : {c : TypeContext} {i : ℕ} {ms : List Mark} {ss ts : PlainTypes} {u : PlainType} → ThroughArguments ts → bound_of c i ≡ Operator ms → DecidesByMarks c ms ss ts → Decides c (Apply i ts) u → Decides c (Apply i ss) u
unfolding ThroughArguments
apply_tail h b d d_same = d_arguments b d
apply_tail h b d d_top = d_top
apply_tail {c = c} {ms = ms} {ss = ss} {ts = ts} h b d (d_arguments {ms = ns} {ts = us} b2 e) =
    let q : Operator ns ≡ Operator ms = sym b2 ∙ b in
    let z : ns ≡ ms = cc in
    d_arguments b (h c ms ss us d (subst (λ x. DecidesByMarks c x ts us) z e))

apply_through : {c : TypeContext} {i : ℕ} {ts : PlainTypes} {s u : PlainType} → ThroughArguments ts → Decides c s (Apply i ts) → Decides c (Apply i ts) u → Decides c s u
apply_through h d_same e = e
apply_through h (d_bound b d) e = d_bound b (apply_through h d e)
apply_through h (d_arguments b d) e = apply_tail h b d e

no_argument_through : ThroughArguments no_type
unfolding ThroughArguments
no_argument_through c ms ss us d_no_more e = e

argument_through : (t : PlainType) (ts : PlainTypes) → Through t → ThroughArguments ts → ThroughArguments (types t ts)
unfolding Through ThroughArguments
argument_through t ts h g c ms ss us (d_plus {s = s} d ds) (d_plus {t = u} e es) = d_plus (h c s u d e) (g _ _ _ _ ds es)
argument_through t ts h g c ms ss us (d_minus {s = s} d ds) (d_minus {t = u} e es) = d_minus (h c u s e d) (g _ _ _ _ ds es)
argument_through t ts h g c ms ss us (d_unmarked ds) (d_unmarked es) = d_unmarked (g _ _ _ _ ds es)

top_through : {c : TypeContext} {s u : PlainType} → Decides c s Top → Decides c Top u → Decides c s u
top_through d d_same = d
top_through d d_top = d_top

ThroughAll : PlainTypes → Type 0
ThroughAll ts = (c : TypeContext) (ss us : PlainTypes) → DecidesTypes c ss ts → DecidesTypes c ts us → DecidesTypes c ss us

ThroughLabels : PlainLabels → Type 0
ThroughLabels ms = (l : ℕ) (t : PlainType) → type_at l ms ≡ Some t → Through t

-- what stands at a has_label of the greater
label_found : {c : TypeContext} {ls ms : PlainLabels} → DecidesLabels c ls ms → (l : ℕ) (t : PlainType) → type_at l ms ≡ Some t → (s : PlainType) × (type_at l ls ≡ Some s) × Decides c s t
label_found d_has_none l t h = absurd (cc)
label_found {c = c} {ls = ls} (d_has_label {l = m} {s = v} {t = w} {ms = ms} e d rest) l t h = go (nat_eq l m) refl (label_found rest l t)
  where
    go : (b : Bool) → nat_eq l m ≡ b → (type_at l ms ≡ Some t → (s : PlainType) × (type_at l ls ≡ Some s) × Decides c s t) → (s : PlainType) × (type_at l ls ≡ Some s) × Decides c s t
    go true q r =
        let h2 : Some w ≡ Some t = rw q at h in
        let eqt : w ≡ t = cc in
        (v, rw (eqb-true l m q) e, subst (λ x. Decides c v x) eqt d)
    go false q r = r (rw q at h)

labels_through : {c : TypeContext} {ls ms ns : PlainLabels} → ThroughLabels ms → DecidesLabels c ls ms → DecidesLabels c ms ns → DecidesLabels c ls ns
unfolding Through ThroughLabels
labels_through h d d_has_none = d_has_none
labels_through {c = c} h d (d_has_label {l = l} {s = v} {t = w} e f rest) =
    let x = label_found d l v e in
    d_has_label x.1 (h l v e c x.0 w x.2 f) (labels_through h d rest)

fields_tail : {c : TypeContext} {bs : PlainBounds} {ps qs : PlainTypes} {ls ms : PlainLabels} {u : PlainType} → ThroughAll qs → ThroughLabels ms → DecidesTypes (under c bs) ps qs → DecidesLabels (under c bs) ls ms → Decides c (Fields bs qs ms) u → Decides c (Fields bs ps ls) u
unfolding ThroughAll
fields_tail g h d e d_same = d_fields d e
fields_tail g h d e d_top = d_top
fields_tail g h d e (d_fields d2 e2) = d_fields (g _ _ _ d d2) (labels_through h e e2)

fields_through : {c : TypeContext} {bs : PlainBounds} {qs : PlainTypes} {ms : PlainLabels} {s u : PlainType} → ThroughAll qs → ThroughLabels ms → Decides c s (Fields bs qs ms) → Decides c (Fields bs qs ms) u → Decides c s u
fields_through g h d_same f = f
fields_through g h (d_bound b d) f = d_bound b (fields_through g h d f)
fields_through g h (d_fields d e) f = fields_tail g h d e f

all_through : (t : PlainType) (ts : PlainTypes) → Through t → ThroughAll ts → ThroughAll (types t ts)
unfolding Through ThroughAll
all_through t ts h g c ss us (d_more d ds) (d_more e es) = d_more (h _ _ _ d e) (g _ _ _ ds es)

none_through : ThroughAll no_type
unfolding ThroughAll
none_through c ss us d_none e = e

no_label_through : ThroughLabels no_label
unfolding ThroughLabels
no_label_through l t h = absurd (cc)

label_through : (m : ℕ) (t : PlainType) (ms : PlainLabels) → Through t → ThroughLabels ms → ThroughLabels (labels m t ms)
unfolding ThroughLabels
label_through m t ms h g l u e = go (nat_eq l m) refl
  where
    go : (b : Bool) → nat_eq l m ≡ b → Through u
    go true q =
        let h2 : Some t ≡ Some u = rw q at e in
        let eqt : t ≡ u = cc in
        subst Through eqt h
    go false q = g l u (rw q at e)

mutual
  unfolding Through

  middle : (t : PlainType) → Through t
  middle Top c s u d e = top_through d e
  middle Int c s u d e = int_through d e
  middle Char c s u d e = char_through d e
  middle Str c s u d e = string_through d e
  middle Boolean c s u d e = boolean_through d e
  middle (Var i) c s u d e = var_through d e
  middle (Apply i ts) c s u d e = apply_through (middle_arguments ts) d e
  middle (Rec t) c s u d e = rec_through d e
  middle (Chan m t) c s u d e = chan_through (middle t) d e
  middle (Fields bs ps ls) c s u d e = fields_through (middle_types ps) (middle_labels ls) d e

  middle_arguments : (ts : PlainTypes) → ThroughArguments ts
  middle_arguments no_type = no_argument_through
  middle_arguments (types t ts) = argument_through t ts (middle t) (middle_arguments ts)

  middle_types : (ts : PlainTypes) → ThroughAll ts
  middle_types no_type = none_through
  middle_types (types t ts) = all_through t ts (middle t) (middle_types ts)

  middle_labels : (ls : PlainLabels) → ThroughLabels ls
  middle_labels no_label = no_label_through
  middle_labels (labels l t ls) = label_through l t ls (middle t) (middle_labels ls)

-- transitivity
pub decided_through : {c : TypeContext} {s t u : PlainType} → Decides c s t → Decides c t u → Decides c s u
unfolding Through
decided_through {c = c} {s = s} {t = t} {u = u} d e = middle t c s u d e

mutual
  pub to_decided : {c : TypeContext} {s t : PlainType} → IsSubtype c s t → Decides c s t
  to_decided same = d_same
  to_decided (through t d e) = decided_through (to_decided d) (to_decided e)
  to_decided below_top = d_top
  to_decided (below_bound b) = d_bound b d_same
  to_decided (upward r d) = d_up r (to_decided d)
  to_decided (downward f d) = d_down f (to_decided d)
  to_decided (by_fields d e) = d_fields (to_decided_types d) (to_decided_labels e)
  to_decided (by_arguments b d) = d_arguments b (to_decided_arguments d)

  pub to_decided_arguments : {c : TypeContext} {ms : List Mark} {ss ts : PlainTypes} → AreByMarks c ms ss ts → DecidesByMarks c ms ss ts
  to_decided_arguments no_more = d_no_more
  to_decided_arguments (plus d ds) = d_plus (to_decided d) (to_decided_arguments ds)
  to_decided_arguments (minus d ds) = d_minus (to_decided d) (to_decided_arguments ds)
  to_decided_arguments (unmarked ds) = d_unmarked (to_decided_arguments ds)

  pub to_decided_types : {c : TypeContext} {ss ts : PlainTypes} → AreSubtypes c ss ts → DecidesTypes c ss ts
  to_decided_types none = d_none
  to_decided_types (more d ds) = d_more (to_decided d) (to_decided_types ds)

  pub to_decided_labels : {c : TypeContext} {ss ts : PlainLabels} → HasLabels c ss ts → DecidesLabels c ss ts
  to_decided_labels has_none = d_has_none
  to_decided_labels (has_label e d ds) = d_has_label e (to_decided d) (to_decided_labels ds)

mutual
  pub of_decided : {c : TypeContext} {s t : PlainType} → Decides c s t → IsSubtype c s t
  of_decided d_same = same
  of_decided d_top = below_top
  of_decided (d_bound b d) = through _ (below_bound b) (of_decided d)
  of_decided (d_up r d) = upward r (of_decided d)
  of_decided (d_down f d) = downward f (of_decided d)
  of_decided (d_fields d e) = by_fields (of_decided_types d) (of_decided_labels e)
  of_decided (d_arguments b d) = by_arguments b (of_decided_arguments d)

  pub of_decided_arguments : {c : TypeContext} {ms : List Mark} {ss ts : PlainTypes} → DecidesByMarks c ms ss ts → AreByMarks c ms ss ts
  of_decided_arguments d_no_more = no_more
  of_decided_arguments (d_plus d ds) = plus (of_decided d) (of_decided_arguments ds)
  of_decided_arguments (d_minus d ds) = minus (of_decided d) (of_decided_arguments ds)
  of_decided_arguments (d_unmarked ds) = unmarked (of_decided_arguments ds)

  pub of_decided_types : {c : TypeContext} {ss ts : PlainTypes} → DecidesTypes c ss ts → AreSubtypes c ss ts
  of_decided_types d_none = none
  of_decided_types (d_more d ds) = more (of_decided d) (of_decided_types ds)

  pub of_decided_labels : {c : TypeContext} {ss ts : PlainLabels} → DecidesLabels c ss ts → HasLabels c ss ts
  of_decided_labels d_has_none = has_none
  of_decided_labels (d_has_label e d ds) = has_label e (of_decided d) (of_decided_labels ds)
