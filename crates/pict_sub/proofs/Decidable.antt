-- Whether one type is below another is decided, for all types: by induction on the sum of the weights.
use Rattle.std.proofs.Common.{◌≡◌, ◌≢◌, ℕ, zero, suc, ◌+◌, ◌≤◌, List, [], ◌∷◌, length, subst₂, Option, Some, None, Bool, true, false, if◌then◌else◌, refl, sym, ◌∙◌, ap, ap₂, subst, arith, ◌⊎◌, inl, inr, ◌↔◌}
use Rattle.std.specs.Prelude.{nat_eq}
use Rattle.std.proofs.lemmas.Bool.Decides.{eqb_tells}
use Rattle.pict_types.specs.Types.{Capability, Both, Read, Write, Respond, PlainType, Top, Int, Char, Str, Boolean, Var, Apply, Chan, Fields, Rec, PlainTypes, no_type, types, PlainLabels, no_label, labels, PlainBound, Free, Below, Operator, PlainBounds, no_bound, bounds, TypeContext, under, type_at, count_types}
use Rattle.pict_syntax.specs.declared.type_tree.Mark.{Mark}
use Rattle.pict_syntax.specs.declared.type_tree.Mark.TheVariants.{Plus, Minus, Plain as Unmarked}
use Rattle.pict_types.specs.Renaming.{rename, moved, bound_at, bound_of}
use Rattle.pict_types.specs.Measures.{weigh, weigh_types, weigh_labels, weights, weight_of}
use Rattle.pict_sub.specs.Shapes.{shape_of, variable, applied_, channel, record_}
use Rattle.pict_sub.specs.Subtyping.{CarriesUp, both_read, read_read, CarriesDown, both_write, write_write, respond_write, respond_respond, IsSubtype, same, below_top, AreSubtypes, none, by_fields, by_arguments, AreByMarks, no_more, plus, minus, unmarked, HasLabels, has_label, has_none}
use Rattle.pict_sub.specs.Laws.{IsDecided}
use Rattle.pict_sub.proofs.Deciding.{Decides, d_same, d_fields, d_arguments, to_decided, of_decided_arguments, of_decided_types, of_decided_labels}
use Rattle.pict_sub.proofs.Inversion.{unbounded_variable, bounded_variable_1, carried_up, carried_down, neither, only_itself, not_applied, not_channel, not_record, types_short, types_long, types_more}
use Rattle.pict_types.proofs.Sizes.{weight_positive}
use Rattle.pict_types.proofs.Contexts.{weigh_bound_1, weigh_record}

by_iff : {A B : Type 0} → A ↔ B → IsDecided B → IsDecided A
by_iff e (inl b) = inl (e.1 b)
by_iff e (inr h) = inr (λ a. h (e.0 a))

both_of : {A B : Type 0} → IsDecided A → IsDecided B → IsDecided (A × B)
both_of (inl a) (inl b) = inl (a, b)
both_of (inl a) (inr h) = inr (λ x. h x.1)
both_of (inr h) d = inr (λ x. h x.0)

same_number : (i j : ℕ) → IsDecided (i ≡ j)
same_number i j = elim (eqb_tells i j) [ inl x ↦ inl x.1 | inr x ↦ inr x.1 ]

same_capability : (m n : Capability) → IsDecided (m ≡ n)
same_capability Both Both = inl refl
same_capability Read Read = inl refl
same_capability Write Write = inl refl
same_capability Respond Respond = inl refl
same_capability _ _ = inr (λ e. cc)

same_mark : (a b : Mark) → IsDecided (a ≡ b)
same_mark Plus Plus = inl refl
same_mark Minus Minus = inl refl
same_mark Unmarked Unmarked = inl refl
same_mark _ _ = inr (λ e. cc)

same_marks : (ms ns : List Mark) → IsDecided (ms ≡ ns)
same_marks [] [] = inl refl
same_marks (a ∷ ms) (b ∷ ns) = by_iff (λ e. (cc, cc), λ e. ap₂ (λ x xs. x ∷ xs) e.0 e.1) (both_of (same_mark a b) (same_marks ms ns))
same_marks _ _ = inr (λ e. cc)

mutual
  pub same_type : (s t : PlainType) → IsDecided (s ≡ t)
  same_type Top Top = inl refl
  same_type Int Int = inl refl
  same_type Char Char = inl refl
  same_type Str Str = inl refl
  same_type Boolean Boolean = inl refl
  same_type (Var i) (Var j) = by_iff (λ e. cc, λ e. ap Var e) (same_number i j)
  same_type (Apply i ss) (Apply j ts) = by_iff (λ e. (cc, cc), λ e. ap₂ Apply e.0 e.1) (both_of (same_number i j) (same_types_ ss ts))
  same_type (Chan m s) (Chan n t) = by_iff (λ e. (cc, cc), λ e. ap₂ Chan e.0 e.1) (both_of (same_capability m n) (same_type s t))
  same_type (Fields bs ps ls) (Fields cs qs ms) = by_iff (λ e. (cc, (cc, cc)), λ e. cc (e.0, e.1.0, e.1.1)) (both_of (same_bounds bs cs) (both_of (same_types_ ps qs) (same_labels_ ls ms)))
  same_type (Rec s) (Rec t) = by_iff (λ e. cc, λ e. ap Rec e) (same_type s t)
  same_type _ _ = inr (λ e. cc)

  same_types_ : (s t : PlainTypes) → IsDecided (s ≡ t)
  same_types_ no_type no_type = inl refl
  same_types_ (types s ss) (types t ts) = by_iff (λ e. (cc, cc), λ e. ap₂ types e.0 e.1) (both_of (same_type s t) (same_types_ ss ts))
  same_types_ _ _ = inr (λ e. cc)

  same_labels_ : (s t : PlainLabels) → IsDecided (s ≡ t)
  same_labels_ no_label no_label = inl refl
  same_labels_ (labels l s ss) (labels m t ts) = by_iff (λ e. (cc, (cc, cc)), λ e. cc (e.0, e.1.0, e.1.1)) (both_of (same_number l m) (both_of (same_type s t) (same_labels_ ss ts)))
  same_labels_ _ _ = inr (λ e. cc)

  same_bounds : (s t : PlainBounds) → IsDecided (s ≡ t)
  same_bounds no_bound no_bound = inl refl
  same_bounds (bounds s ss) (bounds t ts) = by_iff (λ e. (cc, cc), λ e. ap₂ bounds e.0 e.1) (both_of (same_bound s t) (same_bounds ss ts))
  same_bounds _ _ = inr (λ e. cc)

  pub same_bound : (s t : PlainBound) → IsDecided (s ≡ t)
  same_bound Free Free = inl refl
  same_bound (Below s) (Below t) = by_iff (λ e. cc, λ e. ap Below e) (same_type s t)
  same_bound (Operator m) (Operator n) = by_iff (λ e. cc, λ e. ap Operator e) (same_marks m n)
  same_bound _ _ = inr (λ e. cc)

-- decided for all types of this weight together
record DecidesUpTo (n : ℕ) : Type 0 where
  at : (c : TypeContext) (s t : PlainType) → weight_of c s + weight_of c t ≤ n → IsDecided (IsSubtype c s t)

types_decided : {n : ℕ} → DecidesUpTo n → (c : TypeContext) → (ss ts : PlainTypes) → weigh_types (weights c) ss + weigh_types (weights c) ts ≤ n → IsDecided (AreSubtypes c ss ts)
types_decided h c no_type no_type w = inl none
types_decided h c no_type (types t ts) w = inr (types_short c t ts)
types_decided h c (types s ss) no_type w = inr (types_long c s ss)
types_decided h c (types s ss) (types t ts) w =
    by_iff (types_more c s t ss ts) (both_of (h.at c s t (omega arith)) (types_decided h c ss ts (omega arith)))

-- arguments by the marks
pub plus_iff : {c : TypeContext} {s t : PlainType} {ms : List Mark} {ss ts : PlainTypes} → AreByMarks c (Plus ∷ ms) (types s ss) (types t ts) ↔ (IsSubtype c s t × AreByMarks c ms ss ts)
plus_iff {c = c} {s = s} {t = t} {ms = ms} {ss = ss} {ts = ts} = (go, λ x. plus x.0 x.1)
  where
    go : AreByMarks c (Plus ∷ ms) (types s ss) (types t ts) → (IsSubtype c s t × AreByMarks c ms ss ts)
    go (plus d ds) = (d, ds)

pub minus_iff : {c : TypeContext} {s t : PlainType} {ms : List Mark} {ss ts : PlainTypes} → AreByMarks c (Minus ∷ ms) (types s ss) (types t ts) ↔ (IsSubtype c t s × AreByMarks c ms ss ts)
minus_iff {c = c} {s = s} {t = t} {ms = ms} {ss = ss} {ts = ts} = (go, λ x. minus x.0 x.1)
  where
    go : AreByMarks c (Minus ∷ ms) (types s ss) (types t ts) → (IsSubtype c t s × AreByMarks c ms ss ts)
    go (minus d ds) = (d, ds)

unmarked_parts : (c : TypeContext) (ms : List Mark) (ss ts : PlainTypes) → AreByMarks c (Unmarked ∷ ms) ss ts → (s t : PlainType) (ss2 ts2 : PlainTypes) → ss ≡ types s ss2 → ts ≡ types t ts2 → (s ≡ t) × AreByMarks c ms ss2 ts2
unmarked_parts c ms ss ts (unmarked {t = u} {ss = us} {ts = vs} d) s t ss2 ts2 e f =
    let q : us ≡ ss2 = cc in
    let r : vs ≡ ts2 = cc in
    (cc, subst₂ (AreByMarks c ms) q r d)

pub unmarked_iff : {c : TypeContext} {s t : PlainType} {ms : List Mark} {ss ts : PlainTypes} → AreByMarks c (Unmarked ∷ ms) (types s ss) (types t ts) ↔ ((s ≡ t) × AreByMarks c ms ss ts)
unmarked_iff {c = c} {s = s} {t = t} {ms = ms} {ss = ss} {ts = ts} = (λ d. unmarked_parts c ms (types s ss) (types t ts) d s t ss ts refl refl, λ x. subst (λ y. AreByMarks c (Unmarked ∷ ms) (types s ss) (types y ts)) x.0 (unmarked x.1))

-- as many arguments as marks
as_many_first : {c : TypeContext} {ms : List Mark} {ss ts : PlainTypes} → AreByMarks c ms ss ts → length ms ≡ count_types ss
as_many_first no_more = refl
as_many_first (plus d ds) = ap suc (as_many_first ds)
as_many_first (minus d ds) = ap suc (as_many_first ds)
as_many_first (unmarked ds) = ap suc (as_many_first ds)

as_many_second : {c : TypeContext} {ms : List Mark} {ss ts : PlainTypes} → AreByMarks c ms ss ts → length ms ≡ count_types ts
as_many_second no_more = refl
as_many_second (plus d ds) = ap suc (as_many_second ds)
as_many_second (minus d ds) = ap suc (as_many_second ds)
as_many_second (unmarked ds) = ap suc (as_many_second ds)

arguments_decided : {n : ℕ} → DecidesUpTo n → (c : TypeContext) (ms : List Mark) (ss ts : PlainTypes) → weigh_types (weights c) ss + weigh_types (weights c) ts ≤ n → IsDecided (AreByMarks c ms ss ts)
arguments_decided h c [] no_type no_type w = inl no_more
arguments_decided h c [] no_type (types t ts) w = inr (λ d. let z = as_many_second d in absurd cc)
arguments_decided h c [] (types s ss) ts w = inr (λ d. let z = as_many_first d in absurd cc)
arguments_decided h c (k ∷ ms) no_type ts w = inr (λ d. let z = as_many_first d in absurd cc)
arguments_decided h c (k ∷ ms) (types s ss) no_type w = inr (λ d. let z = as_many_second d in absurd cc)
arguments_decided h c (Plus ∷ ms) (types s ss) (types t ts) w = by_iff plus_iff (both_of (h.at c s t (omega arith)) (arguments_decided h c ms ss ts (omega arith)))
arguments_decided h c (Minus ∷ ms) (types s ss) (types t ts) w = by_iff minus_iff (both_of (h.at c t s (omega arith)) (arguments_decided h c ms ss ts (omega arith)))
arguments_decided h c (Unmarked ∷ ms) (types s ss) (types t ts) w = by_iff unmarked_iff (both_of (same_type s t) (arguments_decided h c ms ss ts (omega arith)))

-- two applications are the same, or compare argument by argument
arguments_or_same : {c : TypeContext} {i j : ℕ} {ss ts : PlainTypes} → Decides c (Apply i ss) (Apply j ts) → (Apply i ss ≡ Apply j ts) ⊎ ((i ≡ j) × ((ms : List Mark) × (bound_of c i ≡ Operator ms) × AreByMarks c ms ss ts))
arguments_or_same d_same = inl refl
arguments_or_same (d_arguments {ms = ms} b d) = inr (refl, (ms, b, of_decided_arguments d))

applications_decided : {n : ℕ} → DecidesUpTo n → (c : TypeContext) (i j : ℕ) (ss ts : PlainTypes) → weight_of c (Apply i ss) + weight_of c (Apply j ts) ≤ suc n → IsDecided (IsSubtype c (Apply i ss) (Apply j ts))
applications_decided {n = n} h c i j ss ts w = first (same_type (Apply i ss) (Apply j ts))
  where
    marks : (Apply i ss ≡ Apply j ts → ⊥) → (i ≡ j) → (b : PlainBound) → bound_of c i ≡ b → IsDecided (IsSubtype c (Apply i ss) (Apply j ts))
    marks ns e (Operator ms) q =
        by_iff (
          λ d. elim (arguments_or_same (to_decided d)) [
            | inl z ↦ absurd (ns z)
            | inr x ↦
                let z : Operator x.1.0 ≡ Operator ms = sym x.1.1 ∙ q in
                let y : x.1.0 ≡ ms = cc in
                subst (λ k. AreByMarks c k ss ts) y x.1.2
          ],
          λ a. subst (λ k. IsSubtype c (Apply i ss) (Apply k ts)) e (by_arguments q a),
        ) (arguments_decided h c ms ss ts (omega (arith, w)))
    marks ns e Free q = inr (λ d. elim (arguments_or_same (to_decided d)) [ inl z ↦ ns z | inr x ↦ let z : Operator x.1.0 ≡ Free = sym x.1.1 ∙ q in absurd cc ])
    marks ns e (Below t) q = inr (λ d. elim (arguments_or_same (to_decided d)) [ inl z ↦ ns z | inr x ↦ let z : Operator x.1.0 ≡ Below t = sym x.1.1 ∙ q in absurd cc ])

    second : (Apply i ss ≡ Apply j ts → ⊥) → IsDecided (i ≡ j) → IsDecided (IsSubtype c (Apply i ss) (Apply j ts))
    second ns (inl e) = marks ns e (bound_of c i) refl
    second ns (inr e) = inr (λ d. elim (arguments_or_same (to_decided d)) [ inl q ↦ ns q | inr x ↦ e x.0 ])

    first : IsDecided (Apply i ss ≡ Apply j ts) → IsDecided (IsSubtype c (Apply i ss) (Apply j ts))
    first (inl q) = inl (subst (IsSubtype c (Apply i ss)) q same)
    first (inr ns) = second ns (same_number i j)

-- what stands at a label weighs no more than all fields
weighs_at : (ws : List ℕ) (l : ℕ) (ss : PlainLabels) (s : PlainType) → type_at l ss ≡ Some s → weigh ws s ≤ weigh_labels ws ss
weighs_at ws l no_label s e = absurd cc
weighs_at ws l (labels m u ss) s e = go (nat_eq l m) refl (weighs_at ws l ss s)
  where
    go : (b : Bool) → nat_eq l m ≡ b → (type_at l ss ≡ Some s → weigh ws s ≤ weigh_labels ws ss) → weigh ws s ≤ weigh ws u + weigh_labels ws ss
    go true q h =
        let z : Some u ≡ Some s = sym (ap (λ b. if b then Some u else type_at l ss) q) ∙ e in
        let y : u ≡ s = cc in
        subst (λ x. weigh ws x ≤ weigh ws u + weigh_labels ws ss) y (omega arith)
    go false q h =
        let z : type_at l ss ≡ Some s = sym (ap (λ b. if b then Some u else type_at l ss) q) ∙ e in
        omega (arith, h z)

first_wanted : {c : TypeContext} {ss ts : PlainLabels} {l : ℕ} {t : PlainType} → HasLabels c ss (labels l t ts) → (s : PlainType) × (type_at l ss ≡ Some s) × IsSubtype c s t
first_wanted (has_label e d r) = (_, e, d)

others_wanted : {c : TypeContext} {ss ts : PlainLabels} {l : ℕ} {t : PlainType} → HasLabels c ss (labels l t ts) → HasLabels c ss ts
others_wanted (has_label e d r) = r

-- each wanted label is looked up
labels_decided : {n : ℕ} → DecidesUpTo n → (c : TypeContext) → (ss ts : PlainLabels) → weigh_labels (weights c) ss + weigh_labels (weights c) ts ≤ n → IsDecided (HasLabels c ss ts)
labels_decided h c ss no_label w = inl has_none
labels_decided {n = n} h c ss (labels l t ts) w = go (type_at l ss) refl (labels_decided h c ss ts (omega arith))
  where
    at_it : (s : PlainType) → type_at l ss ≡ Some s → IsDecided (IsSubtype c s t) → IsDecided (HasLabels c ss ts) → IsDecided (HasLabels c ss (labels l t ts))
    at_it s e (inl d) (inl r) = inl (has_label e d r)
    at_it s e (inl d) (inr r) = inr (λ x. r (others_wanted x))
    at_it s e (inr d) r = inr (λ x.
        let y = first_wanted x in
        let z : Some y.0 ≡ Some s = sym y.1 ∙ e in
        let q : y.0 ≡ s = cc in
        d (subst (λ u. IsSubtype c u t) q y.2))

    go : (o : Option PlainType) → type_at l ss ≡ o → IsDecided (HasLabels c ss ts) → IsDecided (HasLabels c ss (labels l t ts))
    go None e r = inr (λ x. let y = first_wanted x in let z : Some y.0 ≡ None = sym y.1 ∙ e in absurd cc)
    go (Some s) e r = at_it s e (h.at c s t (omega (arith, w, weighs_at (weights c) l ss s e))) r

-- two records are the same, or compare part by part
parts_or_same : {c : TypeContext} {bs cs : PlainBounds} {ps qs : PlainTypes} {ls ms : PlainLabels} → Decides c (Fields bs ps ls) (Fields cs qs ms) → (Fields bs ps ls ≡ Fields cs qs ms) ⊎ ((bs ≡ cs) × AreSubtypes (under c bs) ps qs × HasLabels (under c bs) ls ms)
parts_or_same d_same = inl refl
parts_or_same (d_fields d e) = inr (refl, of_decided_types d, of_decided_labels e)

record_decided : {n : ℕ} → DecidesUpTo n → (c : TypeContext) → (bs cs : PlainBounds) (ps qs : PlainTypes) (ls ms : PlainLabels) → weight_of c (Fields bs ps ls) + weight_of c (Fields cs qs ms) ≤ suc n → IsDecided (IsSubtype c (Fields bs ps ls) (Fields cs qs ms))
record_decided {n = n} h c bs cs ps qs ls ms w = first (same_type (Fields bs ps ls) (Fields cs qs ms))
  where
    parts : (bs ≡ cs) → (Fields bs ps ls ≡ Fields cs qs ms → ⊥) → IsDecided (IsSubtype c (Fields bs ps ls) (Fields cs qs ms))
    parts e ns =
        let w2 : weight_of c (Fields bs qs ms) ≡ weight_of c (Fields cs qs ms) = ap (λ x. weight_of c (Fields x qs ms)) e in
        let t = types_decided h (under c bs) ps qs (omega (arith, w, w2, weigh_record c bs ps ls, weigh_record c bs qs ms)) in
        let l = labels_decided h (under c bs) ls ms (omega (arith, w, w2, weigh_record c bs ps ls, weigh_record c bs qs ms)) in
        by_iff (λ d. elim (parts_or_same (to_decided d)) [ inl q ↦ absurd (ns q) | inr x ↦ (x.1, x.2) ], λ x. subst (λ y. IsSubtype c (Fields bs ps ls) (Fields y qs ms)) e (by_fields x.0 x.1)) (both_of t l)

    second : (Fields bs ps ls ≡ Fields cs qs ms → ⊥) → IsDecided (bs ≡ cs) → IsDecided (IsSubtype c (Fields bs ps ls) (Fields cs qs ms))
    second ns (inl e) = parts e ns
    second ns (inr e) = inr (λ d. elim (parts_or_same (to_decided d)) [ inl q ↦ ns q | inr x ↦ e x.0 ])

    first : IsDecided (Fields bs ps ls ≡ Fields cs qs ms) → IsDecided (IsSubtype c (Fields bs ps ls) (Fields cs qs ms))
    first (inl q) = inl (subst (IsSubtype c (Fields bs ps ls)) q same)
    first (inr ns) = second ns (same_bounds bs cs)

-- how a channel type goes with its messages
way : (m n : Capability) → CarriesUp m n ⊎ (CarriesDown m n ⊎ ((CarriesUp m n → ⊥) × (CarriesDown m n → ⊥)))
way Both Both = inr (inr (λ r. elim r [ ], λ f. elim f [ ]))
way Both Read = inl both_read
way Both Write = inr (inl both_write)
way Both Respond = inr (inr (λ r. elim r [ ], λ f. elim f [ ]))
way Read Both = inr (inr (λ r. elim r [ ], λ f. elim f [ ]))
way Read Read = inl read_read
way Read Write = inr (inr (λ r. elim r [ ], λ f. elim f [ ]))
way Read Respond = inr (inr (λ r. elim r [ ], λ f. elim f [ ]))
way Write Both = inr (inr (λ r. elim r [ ], λ f. elim f [ ]))
way Write Read = inr (inr (λ r. elim r [ ], λ f. elim f [ ]))
way Write Write = inr (inl write_write)
way Write Respond = inr (inr (λ r. elim r [ ], λ f. elim f [ ]))
way Respond Both = inr (inr (λ r. elim r [ ], λ f. elim f [ ]))
way Respond Read = inr (inr (λ r. elim r [ ], λ f. elim f [ ]))
way Respond Write = inr (inl respond_write)
way Respond Respond = inr (inl respond_respond)

channels_decided : (c : TypeContext) (m n : Capability) (s t : PlainType) → IsDecided (IsSubtype c s t) → IsDecided (IsSubtype c t s) → IsDecided (IsSubtype c (Chan m s) (Chan n t))
channels_decided c m n s t d e = elim (way m n) [
  | inl r ↦ by_iff (carried_up c m n s t r) d
  | inr (inl f) ↦ by_iff (carried_down c m n s t f) e
  | inr (inr x) ↦ by_iff (neither c m n s t x.0 x.1) (both_of (same_capability m n) (same_type s t))
]

variable_decided : {n : ℕ} → DecidesUpTo n → (c : TypeContext) (i : ℕ) (t : PlainType) → weight_of c (Var i) + weight_of c t ≤ suc n → IsDecided (t ≡ Var i) → t ≢ Top → IsDecided (IsSubtype c (Var i) t)
variable_decided h c i t w (inl e) nt = inl (subst (IsSubtype c (Var i)) (sym e) same)
variable_decided h c i t w (inr ne) nt = go (bound_at c i) refl
  where
    go : (b : PlainBound) → bound_at c i ≡ b → IsDecided (IsSubtype c (Var i) t)
    go Free e = inr (unbounded_variable c i t ne nt (λ b q. let z : Free ≡ Below b = sym e ∙ q in absurd (cc)))
    go (Operator a) e = inr (unbounded_variable c i t ne nt (λ b q. let z : Operator a ≡ Below b = sym e ∙ q in absurd (cc)))
    go (Below b) e = by_iff (bounded_variable_1 c i b t ne nt e) (h.at c (rename (moved (i + 1) 0) b) t (omega (arith, w, weigh_bound_1 c i b e)))

rigid_decided : (c : TypeContext) (s t : PlainType) → shape_of s ≢ variable → shape_of s ≢ applied_ → shape_of s ≢ channel → shape_of s ≢ record_ → IsDecided (t ≡ Top) → IsDecided (IsSubtype c s t)
rigid_decided c s t nv na nc nr (inl e) = inl (subst (IsSubtype c s) (sym e) below_top)
rigid_decided c s t nv na nc nr (inr nt) = by_iff (only_itself c s t nt nv na nc nr) (same_type s t)

channel_decided : {n : ℕ} → DecidesUpTo n → (c : TypeContext) (m : Capability) (s t : PlainType) → weight_of c (Chan m s) + weight_of c t ≤ suc n → IsDecided (IsSubtype c (Chan m s) t)
channel_decided h c m s Top w = inl below_top
channel_decided h c m s (Chan n t) w = channels_decided c m n s t (h.at c s t (omega (arith, w))) (h.at c t s (omega (arith, w)))
channel_decided h c m s Int w = inr (not_channel c m s Int (λ e. cc) (λ e. cc))
channel_decided h c m s Char w = inr (not_channel c m s Char (λ e. cc) (λ e. cc))
channel_decided h c m s Str w = inr (not_channel c m s Str (λ e. cc) (λ e. cc))
channel_decided h c m s Boolean w = inr (not_channel c m s Boolean (λ e. cc) (λ e. cc))
channel_decided h c m s (Var i) w = inr (not_channel c m s (Var i) (λ e. cc) (λ e. cc))
channel_decided h c m s (Apply i ts) w = inr (not_channel c m s (Apply i ts) (λ e. cc) (λ e. cc))
channel_decided h c m s (Fields bs ps ls) w = inr (not_channel c m s (Fields bs ps ls) (λ e. cc) (λ e. cc))
channel_decided h c m s (Rec t) w = inr (not_channel c m s (Rec t) (λ e. cc) (λ e. cc))

fields_decided : {n : ℕ} → DecidesUpTo n → (c : TypeContext) (bs : PlainBounds) (ps : PlainTypes) (ls : PlainLabels) (t : PlainType) → weight_of c (Fields bs ps ls) + weight_of c t ≤ suc n → IsDecided (IsSubtype c (Fields bs ps ls) t)
fields_decided h c bs ps ls Top w = inl below_top
fields_decided h c bs ps ls (Fields cs qs ms) w = record_decided h c bs cs ps qs ls ms w
fields_decided h c bs ps ls Int w = inr (not_record c bs ps ls Int (λ e. cc) (λ e. cc))
fields_decided h c bs ps ls Char w = inr (not_record c bs ps ls Char (λ e. cc) (λ e. cc))
fields_decided h c bs ps ls Str w = inr (not_record c bs ps ls Str (λ e. cc) (λ e. cc))
fields_decided h c bs ps ls Boolean w = inr (not_record c bs ps ls Boolean (λ e. cc) (λ e. cc))
fields_decided h c bs ps ls (Var i) w = inr (not_record c bs ps ls (Var i) (λ e. cc) (λ e. cc))
fields_decided h c bs ps ls (Apply i ts) w = inr (not_record c bs ps ls (Apply i ts) (λ e. cc) (λ e. cc))
fields_decided h c bs ps ls (Chan m t) w = inr (not_record c bs ps ls (Chan m t) (λ e. cc) (λ e. cc))
fields_decided h c bs ps ls (Rec t) w = inr (not_record c bs ps ls (Rec t) (λ e. cc) (λ e. cc))

applied_decided : {n : ℕ} → DecidesUpTo n → (c : TypeContext) (i : ℕ) (ss : PlainTypes) (t : PlainType) → weight_of c (Apply i ss) + weight_of c t ≤ suc n → IsDecided (IsSubtype c (Apply i ss) t)
applied_decided h c i ss Top w = inl below_top
applied_decided h c i ss (Apply j ts) w = applications_decided h c i j ss ts w
applied_decided h c i ss Int w = inr (not_applied c i ss Int (λ e. cc) (λ e. cc))
applied_decided h c i ss Char w = inr (not_applied c i ss Char (λ e. cc) (λ e. cc))
applied_decided h c i ss Str w = inr (not_applied c i ss Str (λ e. cc) (λ e. cc))
applied_decided h c i ss Boolean w = inr (not_applied c i ss Boolean (λ e. cc) (λ e. cc))
applied_decided h c i ss (Var j) w = inr (not_applied c i ss (Var j) (λ e. cc) (λ e. cc))
applied_decided h c i ss (Chan m t) w = inr (not_applied c i ss (Chan m t) (λ e. cc) (λ e. cc))
applied_decided h c i ss (Fields bs ps ls) w = inr (not_applied c i ss (Fields bs ps ls) (λ e. cc) (λ e. cc))
applied_decided h c i ss (Rec t) w = inr (not_applied c i ss (Rec t) (λ e. cc) (λ e. cc))

one_more : {n : ℕ} → DecidesUpTo n → (c : TypeContext) (s t : PlainType) → weight_of c s + weight_of c t ≤ suc n → IsDecided (IsSubtype c s t)
one_more h c (Var i) t w = variable_or_top (same_type t Top)
  where
    variable_or_top : IsDecided (t ≡ Top) → IsDecided (IsSubtype c (Var i) t)
    variable_or_top (inl e) = inl (subst (IsSubtype c (Var i)) (sym e) below_top)
    variable_or_top (inr nt) = variable_decided h c i t w (same_type t (Var i)) nt
one_more h c (Chan m s) t w = channel_decided h c m s t w
one_more h c (Fields bs ps ls) t w = fields_decided h c bs ps ls t w
one_more h c Top t w = top_decided (same_type t Top)
  where
    top_decided : IsDecided (t ≡ Top) → IsDecided (IsSubtype c Top t)
    top_decided d = rigid_decided c Top t (λ e. cc) (λ e. cc) (λ e. cc) (λ e. cc) d
one_more h c Int t w = rigid_decided c Int t (λ e. cc) (λ e. cc) (λ e. cc) (λ e. cc) (same_type t Top)
one_more h c Char t w = rigid_decided c Char t (λ e. cc) (λ e. cc) (λ e. cc) (λ e. cc) (same_type t Top)
one_more h c Str t w = rigid_decided c Str t (λ e. cc) (λ e. cc) (λ e. cc) (λ e. cc) (same_type t Top)
one_more h c Boolean t w = rigid_decided c Boolean t (λ e. cc) (λ e. cc) (λ e. cc) (λ e. cc) (same_type t Top)
one_more h c (Apply i ts) t w = applied_decided h c i ts t w
one_more h c (Rec s) t w = rigid_decided c (Rec s) t (λ e. cc) (λ e. cc) (λ e. cc) (λ e. cc) (same_type t Top)

decides : (n : ℕ) → DecidesUpTo n
decides zero = record { at = λ c s t w. absurd (omega (arith, w, weight_positive c s)) }
decides (suc n) = record { at = one_more (decides n) }

pub decided : (c : TypeContext) (s t : PlainType) → IsDecided (IsSubtype c s t)
decided c s t = (decides (weight_of c s + weight_of c t)).at c s t (omega arith)
