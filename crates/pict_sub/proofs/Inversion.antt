-- What subtyping says at each form of its two types.
use Rattle.std.proofs.Common.{◌≡◌, ◌≢◌, ℕ, suc, ◌+◌, List, [], ◌∷◌, length, refl, sym, ◌∙◌, ap, subst, subst₂, add-one, Bool, true, false, ◌⊎◌, inl, inr, ◌↔◌, Some}
use Rattle.std.specs.Prelude.{nat_eq}
use Rattle.std.proofs.lemmas.Bool.{eq-eqb, ne_eqb, eqb-true}
use Rattle.pict_syntax.specs.Labels.{StandsBefore}
use Rattle.pict_syntax.proofs.LabelLemmas.{other_label}
use Rattle.pict_types.specs.Types.{Capability, PlainType, Top, Var, Apply, Chan, Fields, Rec, PlainTypes, no_type, types, PlainLabels, no_label, labels, Below, PlainBounds, TypeContext, under, type_at, count_types, is_top, Operator}
use Rattle.pict_syntax.specs.declared.type_tree.Mark.{Mark}
use Rattle.pict_syntax.specs.declared.type_tree.Mark.TheVariants.{Plus, Minus, Plain as Unmarked}
use Rattle.pict_types.specs.Renaming.{rename, rename_bound, moved, bound_at, bound_of}
use Rattle.pict_types.specs.Kinds.{Kind, StandsBeforeAll, LabelsAreWellFormed}
use Rattle.pict_sub.specs.Shapes.{shape_of, variable, applied_, channel, record_}
use Rattle.pict_sub.specs.Subtyping.{CarriesUp, both_read, read_read, CarriesDown, both_write, write_write, respond_respond, respond_write, IsSubtype, same, through, below_top, below_bound, upward, downward, by_fields, by_arguments, AreByMarks, no_more, plus, minus, unmarked, AreSubtypes, none, more, HasLabels, has_none, has_label, AreRecordsBelow, AreChannelsBelow, HasBoundBelow}
use Rattle.pict_sub.specs.Laws.{IsChannel, IsAppliedTo}
use Rattle.pict_sub.proofs.Deciding.{Decides, DecidesByMarks, d_same, d_top, d_bound, d_up, d_down, d_fields, d_arguments, to_decided, of_decided, of_decided_arguments, of_decided_types, of_decided_labels}
use Rattle.pict_types.proofs.Formed.{before_further}
use Rattle.pict_types.proofs.Renamed.{bound_before}

-- a variable
decided_variable : {c : TypeContext} {i : ℕ} {t : PlainType} → Decides c (Var i) t → (t ≡ Var i) ⊎ ((t ≡ Top) ⊎ ((b : PlainType) × (bound_of c i ≡ Below b) × Decides c b t))
decided_variable d_same = inl refl
decided_variable d_top = inr (inl refl)
decided_variable (d_bound {b = b} e d) = inr (inr (b, e, d))

pub unbounded_variable : (c : TypeContext) (i : ℕ) (t : PlainType) → t ≢ Var i → t ≢ Top → ((b : PlainType) → bound_at c i ≢ Below b) → IsSubtype c (Var i) t → ⊥
unbounded_variable c i t h k f d = elim (decided_variable (to_decided d)) [
  | inl e ↦ h e
  | inr (inl e) ↦ k e
  | inr (inr x) ↦ let z = bound_before (moved (suc i) 0) (bound_at c i) x.0 x.1 in f z.0 z.1
]

pub bounded_variable : (c : TypeContext) (i : ℕ) (b t : PlainType) → t ≢ Var i → t ≢ Top → bound_at c i ≡ Below b → IsSubtype c (Var i) t ↔ IsSubtype c (rename (moved (suc i) 0) b) t
bounded_variable c i b t h k f = (forth, λ d. through _ (below_bound (ap (rename_bound (moved (suc i) 0)) f)) d)
  where
    forth : IsSubtype c (Var i) t → IsSubtype c (rename (moved (suc i) 0) b) t
    forth d = elim (decided_variable (to_decided d)) [
      | inl e ↦ absurd (h e)
      | inr (inl e) ↦ absurd (k e)
      | inr (inr x) ↦
          let g : Below (rename (moved (suc i) 0) b) ≡ Below x.0 = sym (ap (rename_bound (moved (suc i) 0)) f) ∙ x.1 in
          let e : x.0 ≡ rename (moved (suc i) 0) b = cc in
          of_decided (subst (λ y. Decides c y t) e x.2)
    ]

-- channels
decided_channel : {c : TypeContext} {m n : Capability} {s t : PlainType} → Decides c (Chan m s) (Chan n t) → AreChannelsBelow c m n s t
decided_channel d_same = inl (refl, refl)
decided_channel (d_up r d) = inr (inl (r, of_decided d))
decided_channel (d_down f d) = inr (inr (f, of_decided d))

pub channels : (c : TypeContext) (m n : Capability) (s t : PlainType) → IsSubtype c (Chan m s) (Chan n t) ↔ AreChannelsBelow c m n s t
channels c m n s t = (λ d. decided_channel (to_decided d), λ x. elim x [ inl e ↦ subst₂ (λ x y. IsSubtype c (Chan m s) (Chan x y)) e.0 e.1 same | inr (inl y) ↦ upward y.0 y.1 | inr (inr y) ↦ downward y.0 y.1 ])

decided_above_channel : {c : TypeContext} {m : Capability} {s t : PlainType} → Decides c (Chan m s) t → (t ≡ Top) ⊎ IsChannel t
decided_above_channel d_same = inr (_, _, refl)
decided_above_channel d_top = inl refl
decided_above_channel (d_up r d) = inr (_, _, refl)
decided_above_channel (d_down f d) = inr (_, _, refl)

pub above_channel : (c : TypeContext) (m : Capability) (s t : PlainType) → IsSubtype c (Chan m s) t → (t ≡ Top) ⊎ IsChannel t
above_channel c m s t d = decided_above_channel (to_decided d)

bound_below : {c : TypeContext} {i : ℕ} {b t : PlainType} → bound_of c i ≡ Below b → Decides c b t → HasBoundBelow c (Var i) t
bound_below {i = i} {b = b} e d = record { variable = i; bound = b; is = refl; bounded = e; below = of_decided d }

decided_below_channel : {c : TypeContext} {n : Capability} {s t : PlainType} → Decides c s (Chan n t) → IsChannel s ⊎ HasBoundBelow c s (Chan n t)
decided_below_channel d_same = inl (_, _, refl)
decided_below_channel (d_bound e d) = inr (bound_below e d)
decided_below_channel (d_up r d) = inl (_, _, refl)
decided_below_channel (d_down f d) = inl (_, _, refl)

pub below_channel : (c : TypeContext) (n : Capability) (s t : PlainType) → IsSubtype c s (Chan n t) → IsChannel s ⊎ HasBoundBelow c s (Chan n t)
below_channel c n s t d = decided_below_channel (to_decided d)

not_both : (m n : Capability) → CarriesUp m n → CarriesDown m n → ⊥
not_both m n both_read f = elim f [ ]
not_both m n read_read f = elim f [ ]

pub carried_up : (c : TypeContext) (m n : Capability) (s t : PlainType) → CarriesUp m n → IsSubtype c (Chan m s) (Chan n t) ↔ IsSubtype c s t
carried_up c m n s t r = (λ d. elim (decided_channel (to_decided d)) [ inl e ↦ subst (λ x. IsSubtype c s x) e.1 same | inr (inl x) ↦ x.1 | inr (inr x) ↦ absurd (not_both m n r x.0) ], λ d. upward r d)

pub carried_down : (c : TypeContext) (m n : Capability) (s t : PlainType) → CarriesDown m n → IsSubtype c (Chan m s) (Chan n t) ↔ IsSubtype c t s
carried_down c m n s t r = (λ d. elim (decided_channel (to_decided d)) [ inl e ↦ subst (λ x. IsSubtype c x s) e.1 same | inr (inl x) ↦ absurd (not_both m n x.0 r) | inr (inr x) ↦ x.1 ], λ d. downward r d)

pub neither : (c : TypeContext) (m n : Capability) (s t : PlainType) → (CarriesUp m n → ⊥) → (CarriesDown m n → ⊥) → IsSubtype c (Chan m s) (Chan n t) ↔ ((m ≡ n) × (s ≡ t))
neither c m n s t r f = (λ d. elim (decided_channel (to_decided d)) [ inl e ↦ e | inr (inl x) ↦ absurd (r x.0) | inr (inr x) ↦ absurd (f x.0) ], λ e. subst₂ (λ x y. IsSubtype c (Chan m s) (Chan x y)) e.0 e.1 same)

-- the same with the code's sum
pub bounded_variable_1 : (c : TypeContext) (i : ℕ) (b t : PlainType) → t ≢ Var i → t ≢ Top → bound_at c i ≡ Below b → IsSubtype c (Var i) t ↔ IsSubtype c (rename (moved (i + 1) 0) b) t
bounded_variable_1 c i b t h k f = rw add-one (bounded_variable c i b t h k f)

-- recursive types
decided_above_rec : {c : TypeContext} {s t : PlainType} → Decides c (Rec s) t → (t ≡ Top) ⊎ (t ≡ Rec s)
decided_above_rec d_same = inr refl
decided_above_rec d_top = inl refl

pub above_recursive : (c : TypeContext) (s t : PlainType) → IsSubtype c (Rec s) t ↔ ((t ≡ Top) ⊎ (t ≡ Rec s))
above_recursive c s t = (λ d. decided_above_rec (to_decided d), λ x. elim x [ inl e ↦ subst (IsSubtype c (Rec s)) (sym e) below_top | inr e ↦ subst (IsSubtype c (Rec s)) (sym e) same ])

decided_below_rec : {c : TypeContext} {s t : PlainType} → Decides c s (Rec t) → (s ≡ Rec t) ⊎ HasBoundBelow c s (Rec t)
decided_below_rec d_same = inl refl
decided_below_rec (d_bound e d) = inr (bound_below e d)

-- a variable is below what its bound is below
from_bound : {c : TypeContext} {s t : PlainType} → HasBoundBelow c s t → IsSubtype c s t
from_bound {c = c} {t = t} h = subst (λ s. IsSubtype c s t) (sym h.is) (through h.bound (below_bound h.bounded) h.below)

pub below_recursive : (c : TypeContext) (s t : PlainType) → IsSubtype c s (Rec t) ↔ ((s ≡ Rec t) ⊎ HasBoundBelow c s (Rec t))
below_recursive c s t = (λ d. decided_below_rec (to_decided d), λ x. elim x [ inl e ↦ subst (λ s. IsSubtype c s (Rec t)) (sym e) same | inr h ↦ from_bound h ])

-- applied operator variables: argument by argument, where there are as many as marks
same_arguments : {c : TypeContext} (ms : List Mark) (ts : PlainTypes) → length ms ≡ count_types ts → AreByMarks c ms ts ts
same_arguments [] no_type n = no_more
same_arguments [] (types t ts) n = absurd cc
same_arguments (k ∷ ms) no_type n = absurd cc
same_arguments (Plus ∷ ms) (types t ts) n = plus same (same_arguments ms ts cc)
same_arguments (Minus ∷ ms) (types t ts) n = minus same (same_arguments ms ts cc)
same_arguments (Unmarked ∷ ms) (types t ts) n = unmarked (same_arguments ms ts cc)

decided_applied : {c : TypeContext} {i j : ℕ} {ss ts : PlainTypes} → (ms : List Mark) → bound_of c i ≡ Operator ms → length ms ≡ count_types ss → Decides c (Apply i ss) (Apply j ts) → (i ≡ j) × AreByMarks c ms ss ts
decided_applied {ss = ss} ms b n d_same = (refl, same_arguments ms ss n)
decided_applied {c = c} {ss = ss} {ts = ts} ms b n (d_arguments {ms = ns} b2 d) =
    let q : Operator ns ≡ Operator ms = sym b2 ∙ b in
    let z : ns ≡ ms = cc in
    (refl, of_decided_arguments (subst (λ x. DecidesByMarks c x ss ts) z d))

pub applied : (c : TypeContext) (i j : ℕ) (ms : List Mark) (ss ts : PlainTypes) → bound_of c i ≡ Operator ms → length ms ≡ count_types ss → IsSubtype c (Apply i ss) (Apply j ts) ↔ ((i ≡ j) × AreByMarks c ms ss ts)
applied c i j ms ss ts b n = (λ d. decided_applied ms b n (to_decided d), λ x. subst (λ y. IsSubtype c (Apply i ss) (Apply y ts)) x.0 (by_arguments b x.1))

decided_above_applied : {c : TypeContext} {i : ℕ} {ss : PlainTypes} {t : PlainType} → Decides c (Apply i ss) t → (t ≡ Top) ⊎ IsAppliedTo i t
decided_above_applied d_same = inr (_, refl)
decided_above_applied d_top = inl refl
decided_above_applied (d_arguments b d) = inr (_, refl)

pub above_applied : (c : TypeContext) (i : ℕ) (ss : PlainTypes) (t : PlainType) → IsSubtype c (Apply i ss) t → (t ≡ Top) ⊎ IsAppliedTo i t
above_applied c i ss t d = decided_above_applied (to_decided d)

decided_below_applied : {c : TypeContext} {i : ℕ} {s : PlainType} {ts : PlainTypes} → Decides c s (Apply i ts) → IsAppliedTo i s ⊎ HasBoundBelow c s (Apply i ts)
decided_below_applied d_same = inl (_, refl)
decided_below_applied (d_bound e d) = inr (bound_below e d)
decided_below_applied (d_arguments b d) = inl (_, refl)

pub below_applied : (c : TypeContext) (i : ℕ) (s : PlainType) (ts : PlainTypes) → IsSubtype c s (Apply i ts) → IsAppliedTo i s ⊎ HasBoundBelow c s (Apply i ts)
below_applied c i s ts d = decided_below_applied (to_decided d)

-- rows
same_types : {c : TypeContext} (ts : PlainTypes) → AreSubtypes c ts ts
same_types no_type = none
same_types (types t ts) = more same (same_types ts)

pub types_short : (c : TypeContext) (t : PlainType) (ts : PlainTypes) → AreSubtypes c no_type (types t ts) → ⊥
types_short c t ts d = elim d [ ]

pub types_long : (c : TypeContext) (t : PlainType) (ts : PlainTypes) → AreSubtypes c (types t ts) no_type → ⊥
types_long c t ts d = elim d [ ]

pub types_more : (c : TypeContext) (s t : PlainType) (ss ts : PlainTypes) → AreSubtypes c (types s ss) (types t ts) ↔ (IsSubtype c s t × AreSubtypes c ss ts)
types_more c s t ss ts = (forth, λ x. more x.0 x.1)
  where
    forth : AreSubtypes c (types s ss) (types t ts) → (IsSubtype c s t × AreSubtypes c ss ts)
    forth (more d ds) = (d, ds)

pub as_many : {c : TypeContext} {ss ts : PlainTypes} → AreSubtypes c ss ts → count_types ss ≡ count_types ts
as_many none = refl
as_many (more d ds) = ap suc (as_many ds)

-- labels stand in a strict order, so each is found at its place
label_passed : (l m : ℕ) (s : PlainType) (ss : PlainLabels) → l ≢ m → type_at l (labels m s ss) ≡ type_at l ss
label_passed l m s ss h = let e : nat_eq l m ≡ false = ne_eqb l m h in rw e refl

pub label_here : (l : ℕ) (s : PlainType) (ss : PlainLabels) → type_at l (labels l s ss) ≡ Some s
label_here l s ss = let e : nat_eq l l ≡ true = eq-eqb l l refl in rw e refl

-- a label that is found comes after what stands before all
found_after : (ns : List (List ℕ)) (m l : ℕ) (ss : PlainLabels) (v : PlainType) → StandsBeforeAll ns m ss → type_at l ss ≡ Some v → StandsBefore ns m l
found_after ns m l no_label v h e = absurd (cc)
found_after ns m l (labels n s ss) v h e = go (nat_eq l n) refl (λ k. found_after ns m l ss v h.1 k)
  where
    go : (b : Bool) → nat_eq l n ≡ b → (type_at l ss ≡ Some v → StandsBefore ns m l) → StandsBefore ns m l
    go true q r = subst (StandsBefore ns m) (sym (eqb-true l n q)) h.0
    go false q r = r (rw q at e)

-- one more label in the smaller, in front of all the others
pub wider : {c : TypeContext} (ns : List (List ℕ)) (m : ℕ) (s : PlainType) (ss ts : PlainLabels) → StandsBeforeAll ns m ss → HasLabels c ss ts → HasLabels c (labels m s ss) ts
wider ns m s ss no_label h has_none = has_none
wider ns m s ss (labels l t ts) h (has_label {s = v} e d r) =
    has_label (label_passed l m s ss (other_label ns m l (found_after ns m l ss v h e)) ∙ e) d (wider ns m s ss ts h r)

-- and one less, where it is none of the greater's
narrower : {c : TypeContext} (ns : List (List ℕ)) (m : ℕ) (s : PlainType) (ss ts : PlainLabels) → StandsBeforeAll ns m ts → HasLabels c (labels m s ss) ts → HasLabels c ss ts
narrower ns m s ss no_label h has_none = has_none
narrower ns m s ss (labels l t ts) h (has_label e d r) =
    has_label (sym (label_passed l m s ss (other_label ns m l h.0)) ∙ e) d (narrower ns m s ss ts h.1 r)

same_labels : {c : TypeContext} (ns : List (List ℕ)) (ks : List Kind) (ts : PlainLabels) → LabelsAreWellFormed ns ks ts → HasLabels c ts ts
same_labels ns ks no_label f = has_none
same_labels ns ks (labels l t ts) f = has_label (label_here l t ts) same (wider ns l t ts ts f.0 (same_labels ns ks ts f.1.1))

pub no_label_left : (c : TypeContext) (l : ℕ) (t : PlainType) (ts : PlainLabels) → HasLabels c no_label (labels l t ts) → ⊥
no_label_left c l t ts (has_label e d r) = absurd (cc)

pub label_alike : (ns : List (List ℕ)) (c : TypeContext) (l : ℕ) (s t : PlainType) (ss ts : PlainLabels) → StandsBeforeAll ns l ss → StandsBeforeAll ns l ts → HasLabels c (labels l s ss) (labels l t ts) ↔ (IsSubtype c s t × HasLabels c ss ts)
label_alike ns c l s t ss ts g h = (forth, λ x. has_label (label_here l s ss) x.0 (wider ns l s ss ts g x.1))
  where
    forth : HasLabels c (labels l s ss) (labels l t ts) → (IsSubtype c s t × HasLabels c ss ts)
    forth (has_label {s = v} e d r) =
        let z : Some s ≡ Some v = sym (label_here l s ss) ∙ e in
        let q : v ≡ s = cc in
        (subst (λ x. IsSubtype c x t) q d, narrower ns l s ss ts h r)

-- a label of the smaller that is not the greater's first is passed over
pub label_other : (ns : List (List ℕ)) (c : TypeContext) (m l : ℕ) (s t : PlainType) (ss ts : PlainLabels) → m ≢ l → StandsBeforeAll ns m ss → StandsBeforeAll ns l ts → HasLabels c (labels m s ss) (labels l t ts) ↔ HasLabels c ss (labels l t ts)
label_other ns c m l s t ss ts ne g h = (forth, wider ns m s ss (labels l t ts) g)
  where
    forth : HasLabels c (labels m s ss) (labels l t ts) → HasLabels c ss (labels l t ts)
    forth (has_label {s = v} e d r) =
        let e2 : type_at l ss ≡ Some v = sym (label_passed l m s ss (λ q. ne (sym q))) ∙ e in
        has_label e2 d (narrower ns m s ss ts (before_further ns m l ts (found_after ns m l ss v g e2) h) r)

-- records: part by part
decided_record : {c : TypeContext} {bs cs : PlainBounds} {ps qs : PlainTypes} {ls ms : PlainLabels} (ns : List (List ℕ)) (ks : List Kind) → LabelsAreWellFormed ns ks ls → Decides c (Fields bs ps ls) (Fields cs qs ms) → (bs ≡ cs) × AreSubtypes (under c bs) ps qs × HasLabels (under c bs) ls ms
decided_record ns ks f d_same = (refl, same_types _, same_labels ns ks _ f)
decided_record ns ks f (d_fields d e) = (refl, of_decided_types d, of_decided_labels e)

pub records : (ns : List (List ℕ)) (ks : List Kind) (c : TypeContext) (bs cs : PlainBounds) (ps qs : PlainTypes) (ls ms : PlainLabels) → LabelsAreWellFormed ns ks ls → IsSubtype c (Fields bs ps ls) (Fields cs qs ms) ↔ AreRecordsBelow c bs cs ps qs ls ms
records ns ks c bs cs ps qs ls ms f =
    (λ d. let x = decided_record ns ks f (to_decided d) in record { alike = x.0; fields = x.1; labelled = x.2 }, λ x. subst (λ y. IsSubtype c (Fields bs ps ls) (Fields y qs ms)) x.alike (by_fields x.fields x.labelled))

-- whether a type is Top, as told
pub told_top : (t : PlainType) → is_top t ≡ true → t ≡ Top
told_top Top h = refl
told_top _ h = absurd (cc)

pub told_other : (t : PlainType) → is_top t ≡ false → t ≢ Top
told_other t h e = let z : false ≡ true = sym h ∙ ap is_top e in cc

pub top_above : (c : TypeContext) (s : PlainType) → IsSubtype c s Top
top_above c s = below_top

pub ruleset types_rules = (none, types_more, types_short, types_long)

-- by shape, where the second type is not Top
decided_itself : {c : TypeContext} {s t : PlainType} → Decides c s t → t ≢ Top → shape_of s ≢ variable → shape_of s ≢ applied_ → shape_of s ≢ channel → shape_of s ≢ record_ → s ≡ t
decided_itself d_same nt nv na nc nr = refl
decided_itself d_top nt nv na nc nr = absurd (nt refl)
decided_itself (d_bound b d) nt nv na nc nr = absurd (nv refl)
decided_itself (d_up r d) nt nv na nc nr = absurd (nc refl)
decided_itself (d_down f d) nt nv na nc nr = absurd (nc refl)
decided_itself (d_fields d e) nt nv na nc nr = absurd (nr refl)
decided_itself (d_arguments b d) nt nv na nc nr = absurd (na refl)

pub only_itself : (c : TypeContext) (s t : PlainType) → t ≢ Top → shape_of s ≢ variable → shape_of s ≢ applied_ → shape_of s ≢ channel → shape_of s ≢ record_ → IsSubtype c s t ↔ (s ≡ t)
only_itself c s t nt nv na nc nr = (λ d. decided_itself (to_decided d) nt nv na nc nr, λ e. subst (IsSubtype c s) e same)

decided_channel_only : {c : TypeContext} {m : Capability} {a t : PlainType} → Decides c (Chan m a) t → t ≢ Top → shape_of t ≢ channel → ⊥
decided_channel_only d_same nt nc = nc refl
decided_channel_only d_top nt nc = nt refl
decided_channel_only (d_up r d) nt nc = nc refl
decided_channel_only (d_down f d) nt nc = nc refl

pub not_channel : (c : TypeContext) (m : Capability) (a t : PlainType) → t ≢ Top → shape_of t ≢ channel → IsSubtype c (Chan m a) t → ⊥
not_channel c m a t nt nc d = decided_channel_only (to_decided d) nt nc

decided_record_only : {c : TypeContext} {bs : PlainBounds} {ps : PlainTypes} {ls : PlainLabels} {t : PlainType} → Decides c (Fields bs ps ls) t → t ≢ Top → shape_of t ≢ record_ → ⊥
decided_record_only d_same nt nr = nr refl
decided_record_only d_top nt nr = nt refl
decided_record_only (d_fields d e) nt nr = nr refl

pub not_record : (c : TypeContext) (bs : PlainBounds) (ps : PlainTypes) (ls : PlainLabels) (t : PlainType) → t ≢ Top → shape_of t ≢ record_ → IsSubtype c (Fields bs ps ls) t → ⊥
not_record c bs ps ls t nt nr d = decided_record_only (to_decided d) nt nr

decided_applied_only : {c : TypeContext} {i : ℕ} {ss : PlainTypes} {t : PlainType} → Decides c (Apply i ss) t → t ≢ Top → shape_of t ≢ applied_ → ⊥
decided_applied_only d_same nt nr = nr refl
decided_applied_only d_top nt nr = nt refl
decided_applied_only (d_arguments b d) nt nr = nr refl

pub not_applied : (c : TypeContext) (i : ℕ) (ss : PlainTypes) (t : PlainType) → t ≢ Top → shape_of t ≢ applied_ → IsSubtype c (Apply i ss) t → ⊥
not_applied c i ss t nt nr d = decided_applied_only (to_decided d) nt nr

pub ruleset other_rules = (told_top, told_other, top_above, only_itself)

pub ruleset variable_rules = (unbounded_variable, bounded_variable_1)

pub ruleset channel_rules = (not_channel, carried_up, carried_down, neither)

-- the pairs of capabilities that rise, and those that fall
pub ruleset carries_up_rows = (both_read, read_read)

pub ruleset carries_down_rows = (both_write, write_write, respond_write, respond_respond)
