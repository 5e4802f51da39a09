-- A type depends only on the variables that it mentions, and is well formed without those that it doesn't.
use Rattle.std.proofs.Common.{◌≡◌, ℕ, zero, suc, ◌+◌, ◌-◌, ◌≤◌, ◌<◌, Bool, true, false, ◌||◌, List, [], ◌∷◌, ◌++◌, length, Some, refl, sym, ◌∙◌, ap, ap₂, arith}
use Rattle.std.specs.Prelude.{nat_le, nat_lt}
use Rattle.std.proofs.lemmas.Bool.{ltb-false, le-ltb}
use Rattle.std.proofs.lemmas.Bool.Decides.{nat_tests}
use Rattle.pict_types.specs.Types.{PlainType, Top, Int, Char, Str, Boolean, Var, Apply, Chan, Fields, Rec, PlainTypes, no_type, types, PlainLabels, no_label, labels, PlainBound, Free, Below, Operator, PlainBounds, no_bound, bounds, count_types}
use Rattle.pict_types.specs.Kinds.{Kind, proper, operator_of, kind_by, kinds_under, kind_at, IsWellFormed, AreWellFormed, LabelsAreWellFormed, BoundsAreWellFormed, BoundIsWellFormed}
use Rattle.pict_types.specs.Renaming.{beyond, beyond_all, beyond_times, rename, rename_types, rename_labels, rename_bound, rename_bounds, moved}
use Rattle.pict_types.specs.Replacing.{bound_by, Replacement, rename_head, replacement_beyond, replacement_beyond_all, no_replacement, apply_head, replace, replace_types, replace_labels, replace_bounds, replace_bound}
use Rattle.pict_types.specs.NormalTypes.{IsNormal}
use Rattle.pict_types.specs.Mentions.{outside, outside_all, mentions, mentions_types, mentions_labels, mentions_bound, mentions_bounds, mentions_innermost, lowered, IsClosed}
use Rattle.pict_types.proofs.Moving.{times_low}
use Rattle.pict_types.proofs.Renamed.{renamed_twice, rename_same, top_renamed}
use Rattle.pict_types.proofs.Replacements.{replace_same, nothing_changed}
use Rattle.pict_types.proofs.Formed.{same_kind, count_renamed, before_renamed}
use Rattle.pict_types.proofs.Congruent.{three}

first_false : (a b : Bool) → (a || b) ≡ false → a ≡ false
first_false false b h = refl
first_false true b h = absurd cc

second_false : (a b : Bool) → (a || b) ≡ false → b ≡ false
second_false false b h = h
second_false true b h = absurd cc

-- two renamings that do the same to all variables but some
pub record AgreeBut (p : ℕ → Bool) (f g : ℕ → ℕ) : Type 0 where
  pub each : (i : ℕ) → p i ≡ false → f i ≡ g i

agree_beyond : {p : ℕ → Bool} {f g : ℕ → ℕ} → AgreeBut p f g → AgreeBut (outside p) (beyond f) (beyond g)
agree_beyond {p = p} {f = f} {g = g} x = record { each = go }
  where
    go : (i : ℕ) → outside p i ≡ false → beyond f i ≡ beyond g i
    go zero h = refl
    go (suc i) h = ap suc (x.each i h)

agree_under : {p : ℕ → Bool} {f g : ℕ → ℕ} (bs : PlainBounds) → AgreeBut p f g → AgreeBut (outside_all bs p) (beyond_all bs f) (beyond_all bs g)
agree_under no_bound x = x
agree_under (bounds b bs) x = agree_under bs (agree_beyond x)

mutual
  pub rename_agrees : {p : ℕ → Bool} {f g : ℕ → ℕ} (t : PlainType) → AgreeBut p f g → mentions p t ≡ false → rename f t ≡ rename g t
  rename_agrees Top x m = refl
  rename_agrees Int x m = refl
  rename_agrees Char x m = refl
  rename_agrees Str x m = refl
  rename_agrees Boolean x m = refl
  rename_agrees (Var i) x m = ap Var (x.each i m)
  rename_agrees {p = p} (Apply i ts) x m =
      ap₂ Apply (x.each i (first_false (p i) (mentions_types p ts) m)) (rename_types_agree ts x (second_false (p i) (mentions_types p ts) m))
  rename_agrees (Chan c t) x m = ap (Chan c) (rename_agrees t x m)
  rename_agrees {p = p} (Fields bs ps ls) x m =
      let r = second_false (mentions_bounds p bs) (mentions_types (outside_all bs p) ps || mentions_labels (outside_all bs p) ls) m in
      three Fields (rename_bounds_agree bs x (first_false (mentions_bounds p bs) (mentions_types (outside_all bs p) ps || mentions_labels (outside_all bs p) ls) m)) (rename_types_agree ps (agree_under bs x) (first_false (mentions_types (outside_all bs p) ps) (mentions_labels (outside_all bs p) ls) r)) (rename_labels_agree ls (agree_under bs x) (second_false (mentions_types (outside_all bs p) ps) (mentions_labels (outside_all bs p) ls) r))
  rename_agrees (Rec t) x m = ap Rec (rename_agrees t (agree_beyond x) m)

  rename_types_agree : {p : ℕ → Bool} {f g : ℕ → ℕ} (ts : PlainTypes) → AgreeBut p f g → mentions_types p ts ≡ false → rename_types f ts ≡ rename_types g ts
  rename_types_agree no_type x m = refl
  rename_types_agree {p = p} (types t ts) x m =
      ap₂ types (rename_agrees t x (first_false (mentions p t) (mentions_types p ts) m)) (rename_types_agree ts x (second_false (mentions p t) (mentions_types p ts) m))

  rename_labels_agree : {p : ℕ → Bool} {f g : ℕ → ℕ} (ls : PlainLabels) → AgreeBut p f g → mentions_labels p ls ≡ false → rename_labels f ls ≡ rename_labels g ls
  rename_labels_agree no_label x m = refl
  rename_labels_agree {p = p} (labels l t ls) x m =
      ap₂ (labels l) (rename_agrees t x (first_false (mentions p t) (mentions_labels p ls) m)) (rename_labels_agree ls x (second_false (mentions p t) (mentions_labels p ls) m))

  rename_bounds_agree : {p : ℕ → Bool} {f g : ℕ → ℕ} (bs : PlainBounds) → AgreeBut p f g → mentions_bounds p bs ≡ false → rename_bounds f bs ≡ rename_bounds g bs
  rename_bounds_agree no_bound x m = refl
  rename_bounds_agree {p = p} (bounds b bs) x m =
      ap₂ bounds (rename_bound_agrees b x (first_false (mentions_bound p b) (mentions_bounds (outside p) bs) m)) (rename_bounds_agree bs (agree_beyond x) (second_false (mentions_bound p b) (mentions_bounds (outside p) bs) m))

  rename_bound_agrees : {p : ℕ → Bool} {f g : ℕ → ℕ} (b : PlainBound) → AgreeBut p f g → mentions_bound p b ≡ false → rename_bound f b ≡ rename_bound g b
  rename_bound_agrees Free x m = refl
  rename_bound_agrees (Below t) x m = ap Below (rename_agrees t x m)
  rename_bound_agrees (Operator n) x m = refl

-- two replacements that put the same for all variables but some
pub record ReplaceAlikeBut (p : ℕ → Bool) (r q : Replacement) : Type 0 where
  pub types_ : (i : ℕ) → p i ≡ false → r.type_of i ≡ q.type_of i
  pub heads_ : (i : ℕ) → p i ≡ false → r.head_of i ≡ q.head_of i

alike_beyond : {p : ℕ → Bool} {r q : Replacement} → ReplaceAlikeBut p r q → ReplaceAlikeBut (outside p) (replacement_beyond r) (replacement_beyond q)
alike_beyond {p = p} {r = r} {q = q} x = record { types_ = go; heads_ = go2 }
  where
    go : (i : ℕ) → outside p i ≡ false → (replacement_beyond r).type_of i ≡ (replacement_beyond q).type_of i
    go zero h = refl
    go (suc i) h = ap (rename suc) (x.types_ i h)

    go2 : (i : ℕ) → outside p i ≡ false → (replacement_beyond r).head_of i ≡ (replacement_beyond q).head_of i
    go2 zero h = refl
    go2 (suc i) h = ap (rename_head suc) (x.heads_ i h)

alike_under : {p : ℕ → Bool} {r q : Replacement} (bs : PlainBounds) → ReplaceAlikeBut p r q → ReplaceAlikeBut (outside_all bs p) (replacement_beyond_all bs r) (replacement_beyond_all bs q)
alike_under no_bound x = x
alike_under (bounds b bs) x = alike_under bs (alike_beyond x)

mutual
  pub replace_agrees : {p : ℕ → Bool} {r q : Replacement} (t : PlainType) → ReplaceAlikeBut p r q → mentions p t ≡ false → replace r t ≡ replace q t
  replace_agrees Top x m = refl
  replace_agrees Int x m = refl
  replace_agrees Char x m = refl
  replace_agrees Str x m = refl
  replace_agrees Boolean x m = refl
  replace_agrees (Var i) x m = x.types_ i m
  replace_agrees {p = p} (Apply i ts) x m =
      ap₂ apply_head (x.heads_ i (first_false (p i) (mentions_types p ts) m)) (replace_types_agree ts x (second_false (p i) (mentions_types p ts) m))
  replace_agrees (Chan c t) x m = ap (Chan c) (replace_agrees t x m)
  replace_agrees {p = p} (Fields bs ps ls) x m =
      let r = second_false (mentions_bounds p bs) (mentions_types (outside_all bs p) ps || mentions_labels (outside_all bs p) ls) m in
      three Fields (replace_bounds_agree bs x (first_false (mentions_bounds p bs) (mentions_types (outside_all bs p) ps || mentions_labels (outside_all bs p) ls) m)) (replace_types_agree ps (alike_under bs x) (first_false (mentions_types (outside_all bs p) ps) (mentions_labels (outside_all bs p) ls) r)) (replace_labels_agree ls (alike_under bs x) (second_false (mentions_types (outside_all bs p) ps) (mentions_labels (outside_all bs p) ls) r))
  replace_agrees (Rec t) x m = ap Rec (replace_agrees t (alike_beyond x) m)

  replace_types_agree : {p : ℕ → Bool} {r q : Replacement} (ts : PlainTypes) → ReplaceAlikeBut p r q → mentions_types p ts ≡ false → replace_types r ts ≡ replace_types q ts
  replace_types_agree no_type x m = refl
  replace_types_agree {p = p} (types t ts) x m =
      ap₂ types (replace_agrees t x (first_false (mentions p t) (mentions_types p ts) m)) (replace_types_agree ts x (second_false (mentions p t) (mentions_types p ts) m))

  replace_labels_agree : {p : ℕ → Bool} {r q : Replacement} (ls : PlainLabels) → ReplaceAlikeBut p r q → mentions_labels p ls ≡ false → replace_labels r ls ≡ replace_labels q ls
  replace_labels_agree no_label x m = refl
  replace_labels_agree {p = p} (labels l t ls) x m =
      ap₂ (labels l) (replace_agrees t x (first_false (mentions p t) (mentions_labels p ls) m)) (replace_labels_agree ls x (second_false (mentions p t) (mentions_labels p ls) m))

  replace_bounds_agree : {p : ℕ → Bool} {r q : Replacement} (bs : PlainBounds) → ReplaceAlikeBut p r q → mentions_bounds p bs ≡ false → replace_bounds r bs ≡ replace_bounds q bs
  replace_bounds_agree no_bound x m = refl
  replace_bounds_agree {p = p} (bounds b bs) x m =
      ap₂ bounds (replace_bound_agrees b x (first_false (mentions_bound p b) (mentions_bounds (outside p) bs) m)) (replace_bounds_agree bs (alike_beyond x) (second_false (mentions_bound p b) (mentions_bounds (outside p) bs) m))

  replace_bound_agrees : {p : ℕ → Bool} {r q : Replacement} (b : PlainBound) → ReplaceAlikeBut p r q → mentions_bound p b ≡ false → replace_bound r b ≡ replace_bound q b
  replace_bound_agrees Free x m = refl
  replace_bound_agrees (Below t) x m = ap bound_by (replace_agrees t x m)
  replace_bound_agrees (Operator n) x m = refl

-- a closed type is fixed
all_agree : (f g : ℕ → ℕ) → AgreeBut (λ i. true) f g
all_agree f g = record { each = λ i h. absurd (cc) }

pub closed_renamed : (f : ℕ → ℕ) (t : PlainType) → IsClosed t → rename f t ≡ t
closed_renamed f t h = rename_agrees t (all_agree f (λ i. i)) h ∙ rename_same t (record { each = λ i. refl })

-- and one that mentions none but the innermost variables is, where these stay
outer_agree : (f : ℕ → ℕ) (d : ℕ) → AgreeBut (nat_le d) (beyond_times d f) (λ i. i)
outer_agree f d = record { each = λ i h. times_low f d i (below i h) }
  where
    below : (i : ℕ) → nat_le d i ≡ false → i < d
    below i h = grind (arith, nat_tests)

pub inner_renamed : (f : ℕ → ℕ) (d : ℕ) (t : PlainType) → mentions (nat_le d) t ≡ false → rename (beyond_times d f) t ≡ t
inner_renamed f d t h = rename_agrees t (outer_agree f d) h ∙ rename_same t (record { each = λ i. refl })

pub closed_replaced : (r : Replacement) (t : PlainType) → IsClosed t → IsNormal t → replace r t ≡ t
closed_replaced r t h n = replace_agrees t (all_alike r no_replacement) h ∙ replace_same t nothing_changed n
  where
    all_alike : (r q : Replacement) → ReplaceAlikeBut (λ i. true) r q
    all_alike r q = record { types_ = λ i h. absurd (cc); heads_ = λ i h. absurd (cc) }

-- what a renamed type mentions
pub record Comes (p q : ℕ → Bool) (f : ℕ → ℕ) : Type 0 where
  pub each : (i : ℕ) → p (f i) ≡ q i

pub comes_beyond : {p q : ℕ → Bool} {f : ℕ → ℕ} → Comes p q f → Comes (outside p) (outside q) (beyond f)
comes_beyond {p = p} {q = q} {f = f} x = record { each = go }
  where
    go : (i : ℕ) → outside p (beyond f i) ≡ outside q i
    go zero = refl
    go (suc i) = x.each i

pub comes_under : {p q : ℕ → Bool} {f : ℕ → ℕ} (bs : PlainBounds) → Comes p q f → Comes (outside_all (rename_bounds f bs) p) (outside_all bs q) (beyond_all bs f)
comes_under no_bound x = x
comes_under (bounds b bs) x = comes_under bs (comes_beyond x)

mutual
  pub mentions_renamed : {p q : ℕ → Bool} {f : ℕ → ℕ} (t : PlainType) → Comes p q f → mentions p (rename f t) ≡ mentions q t
  mentions_renamed Top x = refl
  mentions_renamed Int x = refl
  mentions_renamed Char x = refl
  mentions_renamed Str x = refl
  mentions_renamed Boolean x = refl
  mentions_renamed (Var i) x = x.each i
  mentions_renamed (Apply i ts) x = ap₂ (λ a b. a || b) (x.each i) (mentions_types_renamed ts x)
  mentions_renamed (Chan c t) x = mentions_renamed t x
  mentions_renamed (Fields bs ps ls) x =
      ap₂ (λ a b. a || b) (mentions_bounds_renamed bs x) (ap₂ (λ a b. a || b) (mentions_types_renamed ps (comes_under bs x)) (mentions_labels_renamed ls (comes_under bs x)))
  mentions_renamed (Rec t) x = mentions_renamed t (comes_beyond x)

  pub mentions_types_renamed : {p q : ℕ → Bool} {f : ℕ → ℕ} (ts : PlainTypes) → Comes p q f → mentions_types p (rename_types f ts) ≡ mentions_types q ts
  mentions_types_renamed no_type x = refl
  mentions_types_renamed (types t ts) x = ap₂ (λ a b. a || b) (mentions_renamed t x) (mentions_types_renamed ts x)

  pub mentions_labels_renamed : {p q : ℕ → Bool} {f : ℕ → ℕ} (ls : PlainLabels) → Comes p q f → mentions_labels p (rename_labels f ls) ≡ mentions_labels q ls
  mentions_labels_renamed no_label x = refl
  mentions_labels_renamed (labels l t ls) x = ap₂ (λ a b. a || b) (mentions_renamed t x) (mentions_labels_renamed ls x)

  pub mentions_bounds_renamed : {p q : ℕ → Bool} {f : ℕ → ℕ} (bs : PlainBounds) → Comes p q f → mentions_bounds p (rename_bounds f bs) ≡ mentions_bounds q bs
  mentions_bounds_renamed no_bound x = refl
  mentions_bounds_renamed (bounds b bs) x = ap₂ (λ a b. a || b) (mentions_bound_renamed b x) (mentions_bounds_renamed bs (comes_beyond x))

  mentions_bound_renamed : {p q : ℕ → Bool} {f : ℕ → ℕ} (b : PlainBound) → Comes p q f → mentions_bound p (rename_bound f b) ≡ mentions_bound q b
  mentions_bound_renamed Free x = refl
  mentions_bound_renamed (Below t) x = mentions_renamed t x
  mentions_bound_renamed (Operator n) x = refl

pub renamed_mentions : (p : ℕ → Bool) (f : ℕ → ℕ) (t : PlainType) → mentions p (rename f t) ≡ mentions (λ i. p (f i)) t
renamed_mentions p f t = mentions_renamed t (record { each = λ i. refl })

-- no type mentions none of the variables
pub record MarksNone (p : ℕ → Bool) : Type 0 where
  pub each : (i : ℕ) → p i ≡ false

pub none_beyond : {p : ℕ → Bool} → MarksNone p → MarksNone (outside p)
none_beyond {p = p} x = record { each = go }
  where
    go : (i : ℕ) → outside p i ≡ false
    go zero = refl
    go (suc i) = x.each i

none_under : {p : ℕ → Bool} (bs : PlainBounds) → MarksNone p → MarksNone (outside_all bs p)
none_under no_bound x = x
none_under (bounds b bs) x = none_under bs (none_beyond x)

pub neither : {a b : Bool} → a ≡ false → b ≡ false → (a || b) ≡ false
neither h k = ap₂ (λ a b. a || b) h k

mutual
  pub mentions_no : {p : ℕ → Bool} (t : PlainType) → MarksNone p → mentions p t ≡ false
  mentions_no Top x = refl
  mentions_no Int x = refl
  mentions_no Char x = refl
  mentions_no Str x = refl
  mentions_no Boolean x = refl
  mentions_no (Var i) x = x.each i
  mentions_no (Apply i ts) x = neither (x.each i) (mentions_types_no ts x)
  mentions_no (Chan c t) x = mentions_no t x
  mentions_no (Fields bs ps ls) x = neither (mentions_bounds_no bs x) (neither (mentions_types_no ps (none_under bs x)) (mentions_labels_no ls (none_under bs x)))
  mentions_no (Rec t) x = mentions_no t (none_beyond x)

  mentions_types_no : {p : ℕ → Bool} (ts : PlainTypes) → MarksNone p → mentions_types p ts ≡ false
  mentions_types_no no_type x = refl
  mentions_types_no (types t ts) x = neither (mentions_no t x) (mentions_types_no ts x)

  mentions_labels_no : {p : ℕ → Bool} (ls : PlainLabels) → MarksNone p → mentions_labels p ls ≡ false
  mentions_labels_no no_label x = refl
  mentions_labels_no (labels l t ls) x = neither (mentions_no t x) (mentions_labels_no ls x)

  mentions_bounds_no : {p : ℕ → Bool} (bs : PlainBounds) → MarksNone p → mentions_bounds p bs ≡ false
  mentions_bounds_no no_bound x = refl
  mentions_bounds_no (bounds b bs) x = neither (mentions_bound_no b x) (mentions_bounds_no bs (none_beyond x))

  mentions_bound_no : {p : ℕ → Bool} (b : PlainBound) → MarksNone p → mentions_bound p b ≡ false
  mentions_bound_no Free x = refl
  mentions_bound_no (Below t) x = mentions_no t x
  mentions_bound_no (Operator n) x = refl

-- lowering
not_lower : (i n : ℕ) → nat_lt (i + n) n ≡ false
not_lower i n = le-ltb (i + n) n (omega arith)

pub moved_mentions_none : (n : ℕ) (t : PlainType) → mentions_innermost n (rename (moved n 0) t) ≡ false
moved_mentions_none n t = renamed_mentions (λ i. nat_lt i n) (moved n 0) t ∙ mentions_no t (record { each = λ i. not_lower i n })

pub lowered_moved : (n : ℕ) (t : PlainType) → mentions_innermost n t ≡ false → rename (moved n 0) (lowered n t) ≡ t
lowered_moved n t m =
    renamed_twice t (record { each = λ i. refl })
    ∙ rename_agrees {p = λ i. nat_lt i n} {f = λ i. i - n + n} {g = λ i. i} t (record { each = λ i h. back i (ltb-false i n h) }) m
    ∙ rename_same t (record { each = λ i. refl })
  where
    back : (i : ℕ) → n ≤ i → i - n + n ≡ i
    back i h = omega (arith, h)

pub moved_lowered : (n : ℕ) (t : PlainType) → lowered n (rename (moved n 0) t) ≡ t
moved_lowered n t = renamed_twice t (record { each = λ i. refl }) ∙ rename_same t (record { each = λ i. there i })
  where
    there : (i : ℕ) → i + n - n ≡ i
    there i = omega arith

-- f takes variables to variables of their kinds, but for those of p
pub record KeepsOthers (p : ℕ → Bool) (f : ℕ → ℕ) (ks js : List Kind) : Type 0 where
  pub each : (i : ℕ) (k : Kind) → p i ≡ false → kind_at ks i ≡ Some k → kind_at js (f i) ≡ Some k

beyond_one : {p : ℕ → Bool} {f : ℕ → ℕ} {ks js : List Kind} (k j : Kind) → k ≡ j → KeepsOthers p f ks js → KeepsOthers (outside p) (beyond f) (k ∷ ks) (j ∷ js)
beyond_one {p = p} {f = f} {ks = ks} {js = js} k j e h = record { each = go }
  where
    go : (i : ℕ) (l : Kind) → outside p i ≡ false → kind_at (k ∷ ks) i ≡ Some l → kind_at (j ∷ js) (beyond f i) ≡ Some l
    go zero l n q = ap Some (sym e) ∙ q
    go (suc i) l n q = h.each i l n q

beyond_bounds : {p : ℕ → Bool} {f : ℕ → ℕ} {ks js : List Kind} (bs : PlainBounds) → KeepsOthers p f ks js → KeepsOthers (outside_all bs p) (beyond_all bs f) (kinds_under ks bs) (kinds_under js (rename_bounds f bs))
beyond_bounds no_bound h = h
beyond_bounds {f = f} (bounds b bs) h = beyond_bounds bs (beyond_one (kind_by b) (kind_by (rename_bound f b)) (same_kind f b) h)

mutual
  formed_others : {p : ℕ → Bool} {f : ℕ → ℕ} {ks js : List Kind} (ns : List (List ℕ)) (t : PlainType) → KeepsOthers p f ks js → mentions p t ≡ false → IsWellFormed ns ks t → IsWellFormed ns js (rename f t)
  formed_others ns Top h m w = tt
  formed_others ns Int h m w = tt
  formed_others ns Char h m w = tt
  formed_others ns Str h m w = tt
  formed_others ns Boolean h m w = tt
  formed_others ns (Var i) h m w = h.each i proper m w
  formed_others {p = p} {f = f} ns (Apply i ts) h m w =
      (h.each i (operator_of (count_types ts)) (first_false (p i) (mentions_types p ts) m) w.0 ∙ ap (λ n. Some (operator_of n)) (sym (count_renamed f ts)), formed_types ns ts h (second_false (p i) (mentions_types p ts) m) w.1)
  formed_others ns (Chan c t) h m w = formed_others ns t h m w
  formed_others {p = p} ns (Fields bs ps ls) h m w =
      let r = second_false (mentions_bounds p bs) (mentions_types (outside_all bs p) ps || mentions_labels (outside_all bs p) ls) m in
      (formed_bounds ns bs h (first_false (mentions_bounds p bs) (mentions_types (outside_all bs p) ps || mentions_labels (outside_all bs p) ls) m) w.0, (formed_types ns ps (beyond_bounds bs h) (first_false (mentions_types (outside_all bs p) ps) (mentions_labels (outside_all bs p) ls) r) w.1.0, formed_labels ns ls (beyond_bounds bs h) (second_false (mentions_types (outside_all bs p) ps) (mentions_labels (outside_all bs p) ls) r) w.1.1))
  formed_others ns (Rec t) h m w = formed_others ns t (beyond_one proper proper refl h) m w

  formed_types : {p : ℕ → Bool} {f : ℕ → ℕ} {ks js : List Kind} (ns : List (List ℕ)) (ts : PlainTypes) → KeepsOthers p f ks js → mentions_types p ts ≡ false → AreWellFormed ns ks ts → AreWellFormed ns js (rename_types f ts)
  formed_types ns no_type h m w = tt
  formed_types {p = p} ns (types t ts) h m w = (formed_others ns t h (first_false (mentions p t) (mentions_types p ts) m) w.0, formed_types ns ts h (second_false (mentions p t) (mentions_types p ts) m) w.1)

  formed_labels : {p : ℕ → Bool} {f : ℕ → ℕ} {ks js : List Kind} (ns : List (List ℕ)) (ls : PlainLabels) → KeepsOthers p f ks js → mentions_labels p ls ≡ false → LabelsAreWellFormed ns ks ls → LabelsAreWellFormed ns js (rename_labels f ls)
  formed_labels ns no_label h m w = tt
  formed_labels {p = p} {f = f} ns (labels l t ls) h m w =
      (before_renamed ns f l ls w.0, (formed_others ns t h (first_false (mentions p t) (mentions_labels p ls) m) w.1.0, formed_labels ns ls h (second_false (mentions p t) (mentions_labels p ls) m) w.1.1))

  formed_bounds : {p : ℕ → Bool} {f : ℕ → ℕ} {ks js : List Kind} (ns : List (List ℕ)) (bs : PlainBounds) → KeepsOthers p f ks js → mentions_bounds p bs ≡ false → BoundsAreWellFormed ns ks bs → BoundsAreWellFormed ns js (rename_bounds f bs)
  formed_bounds ns no_bound h m w = tt
  formed_bounds {p = p} {f = f} ns (bounds b bs) h m w =
      (formed_bound ns b h (first_false (mentions_bound p b) (mentions_bounds (outside p) bs) m) w.0, formed_bounds ns bs (beyond_one (kind_by b) (kind_by (rename_bound f b)) (same_kind f b) h) (second_false (mentions_bound p b) (mentions_bounds (outside p) bs) m) w.1)

  formed_bound : {p : ℕ → Bool} {f : ℕ → ℕ} {ks js : List Kind} (ns : List (List ℕ)) (b : PlainBound) → KeepsOthers p f ks js → mentions_bound p b ≡ false → BoundIsWellFormed ns ks b → BoundIsWellFormed ns js (rename_bound f b)
  formed_bound ns Free h m w = tt
  formed_bound {f = f} ns (Below t) h m w = (top_renamed f t ∙ w.0, formed_others ns t h m w.1)
  formed_bound ns (Operator n) h m w = tt

behind_kinds : (inner ks : List Kind) (i : ℕ) (k : Kind) → length inner ≤ i → kind_at (inner ++ ks) i ≡ Some k → kind_at ks (i - length inner) ≡ Some k
behind_kinds [] ks i k n q = let e : i - 0 ≡ i = omega arith in ap (kind_at ks) e ∙ q
behind_kinds (x ∷ inner) ks zero k n q = absurd (omega arith)
behind_kinds (x ∷ inner) ks (suc i) k n q =
    let e : suc i - suc (length inner) ≡ i - length inner = omega arith in
    ap (kind_at ks) e ∙ behind_kinds inner ks i k (omega (arith, n)) q

pub lowered_formed : (ns : List (List ℕ)) (inner ks : List Kind) (t : PlainType) → mentions_innermost (length inner) t ≡ false → IsWellFormed ns (inner ++ ks) t → IsWellFormed ns ks (lowered (length inner) t)
lowered_formed ns inner ks t m w = formed_others ns t (record { each = λ i k n q. behind_kinds inner ks i k (ltb-false i (length inner) n) q }) m w
