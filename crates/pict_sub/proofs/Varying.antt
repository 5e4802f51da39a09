-- Types that go with several variables at once, each as it is marked; and that this is to go so with each of them.
use Rattle.std.proofs.Common.{◌≡◌, ℕ, zero, suc, Bool, true, false, ◌&&◌, ◌||◌, not, List, [], ◌∷◌, refl, sym, ◌∙◌, ap, subst, inl, inr}
use Rattle.std.specs.Prelude.{nat_eq}
use Rattle.std.proofs.lemmas.Bool.{eq-eqb, ne_eqb}
use Rattle.std.proofs.lemmas.Bool.Decides.{eqb_tells}
use Rattle.pict_types.specs.Types.{Both, Read, Write, Respond, PlainType, Top, Int, Char, Str, Boolean, Var, Apply, Chan, Fields, Rec, PlainTypes, no_type, types, PlainLabels, no_label, labels, PlainBound, Free, Below, Operator, PlainBounds, no_bound, bounds, TypeContext, under}
use Rattle.pict_syntax.specs.declared.type_tree.Mark.{Mark}
use Rattle.pict_syntax.specs.declared.type_tree.Mark.TheVariants.{Plus, Minus, Plain as Unmarked}
use Rattle.pict_types.specs.Mentions.{outside, outside_all, mentions, mentions_types, mentions_labels, mentions_bound, mentions_bounds}
use Rattle.pict_types.specs.Variance.{Way, up, down, opposite, only, past, marks_at, goes, arguments_go, all_go, labels_go}

-- ---- marks of several variables

abbrev pub turned : Mark → Mark
turned Plus = Minus
turned Minus = Plus
turned Unmarked = Unmarked

abbrev pub turned_all : (ℕ → Mark) → ℕ → Mark
turned_all m i = turned (m i)

abbrev pub is_marked : Mark → Bool
is_marked Plus = true
is_marked Minus = true
is_marked Unmarked = false

abbrev pub is_minus : Mark → Bool
is_minus Plus = false
is_minus Minus = true
is_minus Unmarked = false

abbrev pub marked : (ℕ → Mark) → ℕ → Bool
marked m i = is_marked (m i)

-- under one more binder, and under the type fields of a record
abbrev pub marks_beyond : (ℕ → Mark) → ℕ → Mark
marks_beyond m zero = Unmarked
marks_beyond m (suc i) = m i

abbrev pub marks_under : PlainBounds → (ℕ → Mark) → ℕ → Mark
marks_under no_bound m = m
marks_under (bounds b bs) m = marks_under bs (marks_beyond m)

abbrev mutual
  pub VariesBy : TypeContext → (ℕ → Mark) → PlainType → Type 0
  VariesBy c m Top = Unit {0}
  VariesBy c m Int = Unit {0}
  VariesBy c m Char = Unit {0}
  VariesBy c m Str = Unit {0}
  VariesBy c m Boolean = Unit {0}
  VariesBy c m (Var i) = is_minus (m i) ≡ false
  VariesBy c m (Apply i ts) = ArgumentsVaryBy c m (marks_at c i) ts
  VariesBy c m (Chan Read t) = VariesBy c m t
  VariesBy c m (Chan Write t) = VariesBy c (turned_all m) t
  VariesBy c m (Chan Respond t) = VariesBy c (turned_all m) t
  VariesBy c m (Chan Both t) = mentions (marked m) t ≡ false
  VariesBy c m (Fields bs ps ls) =
      (mentions_bounds (marked m) bs ≡ false) × (AllVaryBy (under c bs) (marks_under bs m) ps × LabelsVaryBy (under c bs) (marks_under bs m) ls)
  VariesBy c m (Rec t) = mentions (outside (marked m)) t ≡ false

  pub ArgumentsVaryBy : TypeContext → (ℕ → Mark) → List Mark → PlainTypes → Type 0
  ArgumentsVaryBy c m [] ts = mentions_types (marked m) ts ≡ false
  ArgumentsVaryBy c m (k ∷ ms) no_type = Unit {0}
  ArgumentsVaryBy c m (Plus ∷ ms) (types t ts) = VariesBy c m t × ArgumentsVaryBy c m ms ts
  ArgumentsVaryBy c m (Minus ∷ ms) (types t ts) = VariesBy c (turned_all m) t × ArgumentsVaryBy c m ms ts
  ArgumentsVaryBy c m (Unmarked ∷ ms) (types t ts) = (mentions (marked m) t ≡ false) × ArgumentsVaryBy c m ms ts

  pub AllVaryBy : TypeContext → (ℕ → Mark) → PlainTypes → Type 0
  AllVaryBy c m no_type = Unit {0}
  AllVaryBy c m (types t ts) = VariesBy c m t × AllVaryBy c m ts

  pub LabelsVaryBy : TypeContext → (ℕ → Mark) → PlainLabels → Type 0
  LabelsVaryBy c m no_label = Unit {0}
  LabelsVaryBy c m (labels l t ls) = VariesBy c m t × LabelsVaryBy c m ls

-- ---- what no marked variable is mentioned in

pub and_first : (a b : Bool) → (a && b) ≡ true → a ≡ true
and_first true b h = refl
and_first false b h = absurd cc

pub and_second : (a b : Bool) → (a && b) ≡ true → b ≡ true
and_second true b h = h
and_second false b h = absurd cc

pub and_both : {a b : Bool} → a ≡ true → b ≡ true → (a && b) ≡ true
and_both {a = true} h k = k
and_both {a = false} h k = absurd cc

pub or_first : (a b : Bool) → (a || b) ≡ false → a ≡ false
or_first false b h = refl
or_first true b h = absurd cc

pub or_second : (a b : Bool) → (a || b) ≡ false → b ≡ false
or_second false b h = h
or_second true b h = absurd cc

pub or_both : {a b : Bool} → a ≡ false → b ≡ false → (a || b) ≡ false
or_both {a = false} h k = k
or_both {a = true} h k = absurd cc

pub not_true : (a : Bool) → not a ≡ true → a ≡ false
not_true false h = refl
not_true true h = absurd cc

-- each variable of p alone, and beyond a binder: the variable one further in
abbrev Each : (ℕ → Bool) → (ℕ → Bool) → Type 0
Each p k = (i : ℕ) → p i ≡ true → k i ≡ false

outside_only : (i : ℕ) → outside (only i) ≡ only (suc i)
outside_only i = λ k j. go j k
  where
    go : (j : ℕ) → outside (only i) j ≡ only (suc i) j
    go zero = sym (ne_eqb (suc i) 0 (λ e. cc))
    go (suc j) = elim (eqb_tells i j) [
      | inl x ↦ eq-eqb i j x.1 ∙ sym (eq-eqb (suc i) (suc j) (ap suc x.1))
      | inr x ↦ ne_eqb i j x.1 ∙ sym (ne_eqb (suc i) (suc j) (λ e. let z : i ≡ j = cc in x.1 z))
    ]

each_beyond : (K : (ℕ → Bool) → Bool) (p : ℕ → Bool) → ((i : ℕ) → p i ≡ true → K (outside (only i)) ≡ false) → (i : ℕ) → outside p i ≡ true → K (only i) ≡ false
each_beyond K p h zero e = absurd cc
each_beyond K p h (suc i) e = ap K (sym (outside_only i)) ∙ h i e

each_under : (bs : PlainBounds) (K : (ℕ → Bool) → Bool) (p : ℕ → Bool) → ((i : ℕ) → p i ≡ true → K (outside_all bs (only i)) ≡ false) → (i : ℕ) → outside_all bs p i ≡ true → K (only i) ≡ false
each_under no_bound K p h i e = h i e
each_under (bounds b bs) K p h i e = each_under bs K (outside p) (each_beyond (λ q. K (outside_all bs q)) p h) i e

-- what mentions none of some variables, mentions each of them not
mutual
  pub mentions_each : (p : ℕ → Bool) (t : PlainType) → ((i : ℕ) → p i ≡ true → mentions (only i) t ≡ false) → mentions p t ≡ false
  mentions_each p Top h = refl
  mentions_each p Int h = refl
  mentions_each p Char h = refl
  mentions_each p Str h = refl
  mentions_each p Boolean h = refl
  mentions_each p (Var j) h = go (p j) refl
    where
      go : (b : Bool) → p j ≡ b → p j ≡ false
      go false e = e
      go true e = let z : true ≡ false = sym (eq-eqb j j refl) ∙ h j e in absurd cc
  mentions_each p (Apply j ts) h = or_both (go (p j) refl) (mentions_each_types p ts (λ i e. or_second (nat_eq i j) (mentions_types (only i) ts) (h i e)))
    where
      go : (b : Bool) → p j ≡ b → p j ≡ false
      go false e = e
      go true e = let z : true ≡ false = sym (eq-eqb j j refl) ∙ or_first (nat_eq j j) (mentions_types (only j) ts) (h j e) in absurd cc
  mentions_each p (Chan c t) h = mentions_each p t h
  mentions_each p (Fields bs ps ls) h =
      or_both (mentions_each_bounds p bs (λ i e. or_first (mentions_bounds (only i) bs) _ (h i e)))
      (or_both (mentions_each_types (outside_all bs p) ps (each_under bs (λ q. mentions_types q ps) p (λ i e. or_first (mentions_types (outside_all bs (only i)) ps) _ (or_second (mentions_bounds (only i) bs) _ (h i e)))))
      (mentions_each_labels (outside_all bs p) ls (each_under bs (λ q. mentions_labels q ls) p (λ i e. or_second (mentions_types (outside_all bs (only i)) ps) _ (or_second (mentions_bounds (only i) bs) _ (h i e))))))
  mentions_each p (Rec t) h = mentions_each (outside p) t (each_beyond (λ q. mentions q t) p h)

  pub mentions_each_types : (p : ℕ → Bool) (ts : PlainTypes) → ((i : ℕ) → p i ≡ true → mentions_types (only i) ts ≡ false) → mentions_types p ts ≡ false
  mentions_each_types p no_type h = refl
  mentions_each_types p (types t ts) h =
      or_both (mentions_each p t (λ i e. or_first (mentions (only i) t) _ (h i e))) (mentions_each_types p ts (λ i e. or_second (mentions (only i) t) _ (h i e)))

  mentions_each_labels : (p : ℕ → Bool) (ls : PlainLabels) → ((i : ℕ) → p i ≡ true → mentions_labels (only i) ls ≡ false) → mentions_labels p ls ≡ false
  mentions_each_labels p no_label h = refl
  mentions_each_labels p (labels l t ls) h =
      or_both (mentions_each p t (λ i e. or_first (mentions (only i) t) _ (h i e))) (mentions_each_labels p ls (λ i e. or_second (mentions (only i) t) _ (h i e)))

  pub mentions_each_bounds : (p : ℕ → Bool) (bs : PlainBounds) → ((i : ℕ) → p i ≡ true → mentions_bounds (only i) bs ≡ false) → mentions_bounds p bs ≡ false
  mentions_each_bounds p no_bound h = refl
  mentions_each_bounds p (bounds b bs) h =
      or_both (mentions_each_bound p b (λ i e. or_first (mentions_bound (only i) b) _ (h i e))) (mentions_each_bounds (outside p) bs (each_beyond (λ q. mentions_bounds q bs) p (λ i e. or_second (mentions_bound (only i) b) _ (h i e))))

  mentions_each_bound : (p : ℕ → Bool) (b : PlainBound) → ((i : ℕ) → p i ≡ true → mentions_bound (only i) b ≡ false) → mentions_bound p b ≡ false
  mentions_each_bound p Free h = refl
  mentions_each_bound p (Below t) h = mentions_each p t h
  mentions_each_bound p (Operator ms) h = refl

-- and what mentions none of some mentions none of fewer
pub record Fewer (p q : ℕ → Bool) : Type 0 where
  pub each : (i : ℕ) → p i ≡ false → q i ≡ false

pub fewer_beyond : {p q : ℕ → Bool} → Fewer p q → Fewer (outside p) (outside q)
fewer_beyond {p = p} {q = q} x = record { each = go }
  where
    go : (i : ℕ) → outside p i ≡ false → outside q i ≡ false
    go zero h = refl
    go (suc i) h = x.each i h

pub fewer_under : {p q : ℕ → Bool} (bs : PlainBounds) → Fewer p q → Fewer (outside_all bs p) (outside_all bs q)
fewer_under no_bound x = x
fewer_under (bounds b bs) x = fewer_under bs (fewer_beyond x)

mutual
  pub mentions_fewer : {p q : ℕ → Bool} → Fewer p q → (t : PlainType) → mentions p t ≡ false → mentions q t ≡ false
  mentions_fewer x Top h = refl
  mentions_fewer x Int h = refl
  mentions_fewer x Char h = refl
  mentions_fewer x Str h = refl
  mentions_fewer x Boolean h = refl
  mentions_fewer x (Var j) h = x.each j h
  mentions_fewer {p = p} x (Apply j ts) h = or_both (x.each j (or_first (p j) _ h)) (mentions_fewer_types x ts (or_second (p j) _ h))
  mentions_fewer x (Chan c t) h = mentions_fewer x t h
  mentions_fewer {p = p} x (Fields bs ps ls) h =
      let r = or_second (mentions_bounds p bs) _ h in
      or_both (mentions_fewer_bounds x bs (or_first (mentions_bounds p bs) _ h)) (or_both (mentions_fewer_types (fewer_under bs x) ps (or_first (mentions_types (outside_all bs p) ps) _ r)) (mentions_fewer_labels (fewer_under bs x) ls (or_second (mentions_types (outside_all bs p) ps) _ r)))
  mentions_fewer x (Rec t) h = mentions_fewer (fewer_beyond x) t h

  pub mentions_fewer_types : {p q : ℕ → Bool} → Fewer p q → (ts : PlainTypes) → mentions_types p ts ≡ false → mentions_types q ts ≡ false
  mentions_fewer_types x no_type h = refl
  mentions_fewer_types {p = p} x (types t ts) h = or_both (mentions_fewer x t (or_first (mentions p t) _ h)) (mentions_fewer_types x ts (or_second (mentions p t) _ h))

  pub mentions_fewer_labels : {p q : ℕ → Bool} → Fewer p q → (ls : PlainLabels) → mentions_labels p ls ≡ false → mentions_labels q ls ≡ false
  mentions_fewer_labels x no_label h = refl
  mentions_fewer_labels {p = p} x (labels l t ls) h = or_both (mentions_fewer x t (or_first (mentions p t) _ h)) (mentions_fewer_labels x ls (or_second (mentions p t) _ h))

  pub mentions_fewer_bounds : {p q : ℕ → Bool} → Fewer p q → (bs : PlainBounds) → mentions_bounds p bs ≡ false → mentions_bounds q bs ≡ false
  mentions_fewer_bounds x no_bound h = refl
  mentions_fewer_bounds {p = p} x (bounds b bs) h = or_both (mentions_fewer_bound x b (or_first (mentions_bound p b) _ h)) (mentions_fewer_bounds (fewer_beyond x) bs (or_second (mentions_bound p b) _ h))

  mentions_fewer_bound : {p q : ℕ → Bool} → Fewer p q → (b : PlainBound) → mentions_bound p b ≡ false → mentions_bound q b ≡ false
  mentions_fewer_bound x Free h = refl
  mentions_fewer_bound x (Below t) h = mentions_fewer x t h
  mentions_fewer_bound x (Operator ms) h = refl

-- one of them
pub one_of : {p : ℕ → Bool} (i : ℕ) → p i ≡ true → Fewer p (only i)
one_of {p = p} i e = record { each = λ j h. ne_eqb i j (λ q. let z : true ≡ false = sym e ∙ ap p q ∙ h in cc) }

-- ---- one variable after the other

-- what goes as a mark says
abbrev pub AsMarked : Mark → (Way → Bool) → Type 0
AsMarked Plus P = P up ≡ true
AsMarked Minus P = P down ≡ true
AsMarked Unmarked P = Unit {0}

as_other : {P Q : Way → Bool} (k : Mark) → ((w : Way) → P w ≡ true → Q w ≡ true) → AsMarked k P → AsMarked k Q
as_other Plus f h = f up h
as_other Minus f h = f down h
as_other Unmarked f h = tt

as_turned : (P : Way → Bool) (k : Mark) → AsMarked k (λ w. P (opposite w)) → AsMarked (turned k) P
as_turned P Plus h = h
as_turned P Minus h = h
as_turned P Unmarked h = tt

as_none : {a : Bool} (k : Mark) → is_marked k ≡ true → AsMarked k (λ w. not a) → a ≡ false
as_none {a = a} Plus e h = not_true a h
as_none {a = a} Minus e h = not_true a h
as_none Unmarked e h = absurd cc

as_under : (bs : PlainBounds) (P : ℕ → Way → Bool) (m : ℕ → Mark) → ((i : ℕ) → AsMarked (m i) (P (past bs i))) → (i : ℕ) → AsMarked (marks_under bs m i) (P i)
as_under no_bound P m h i = h i
as_under (bounds b bs) P m h i = as_under bs P (marks_beyond m) go i
  where
    go : (i : ℕ) → AsMarked (marks_beyond m i) (P (past bs i))
    go zero = tt
    go (suc i) = h i

mutual
  -- where a type goes with each variable as it is marked, it varies by them all
  pub together : (c : TypeContext) (m : ℕ → Mark) (t : PlainType) → ((i : ℕ) → AsMarked (m i) (λ w. goes w c i t)) → VariesBy c m t
  together c m Top h = tt
  together c m Int h = tt
  together c m Char h = tt
  together c m Str h = tt
  together c m Boolean h = tt
  together c m (Var j) h = go (m j) refl (h j)
    where
      go : (k : Mark) → m j ≡ k → AsMarked (m j) (λ w. goes w c j (Var j)) → is_minus (m j) ≡ false
      go Plus e a = ap is_minus e
      go Minus e a =
          let b : not (nat_eq j j) ≡ true = subst (λ k. AsMarked k (λ w. goes w c j (Var j))) e a in
          let z : true ≡ false = sym (eq-eqb j j refl) ∙ not_true (nat_eq j j) b in absurd cc
      go Unmarked e a = ap is_minus e
  together c m (Apply j ts) h = arguments_together c m (marks_at c j) ts h
  together c m (Chan Read t) h = together c m t h
  together c m (Chan Write t) h = together c (turned_all m) t (λ i. as_turned (λ w. goes w c i t) (m i) (h i))
  together c m (Chan Respond t) h = together c (turned_all m) t (λ i. as_turned (λ w. goes w c i t) (m i) (h i))
  together c m (Chan Both t) h = mentions_each (marked m) t (λ i e. as_none (m i) e (h i))
  together c m (Fields bs ps ls) h = (
    mentions_each_bounds (marked m) bs (λ i e. as_none (m i) e (as_other (m i) (λ w. and_first (not (mentions_bounds (only i) bs)) _) (h i))),
    (
      all_together (under c bs) (marks_under bs m) ps (as_under bs (λ i w. all_go w (under c bs) i ps) m (λ i. as_other (m i) (λ w k. and_first (all_go w (under c bs) (past bs i) ps) _ (and_second (not (mentions_bounds (only i) bs)) _ k)) (h i))),
      labels_together (under c bs) (marks_under bs m) ls (as_under bs (λ i w. labels_go w (under c bs) i ls) m (λ i. as_other (m i) (λ w k. and_second (all_go w (under c bs) (past bs i) ps) _ (and_second (not (mentions_bounds (only i) bs)) _ k)) (h i))),
    ),
  )
  together c m (Rec t) h = mentions_each (marked m) (Rec t) (λ i e. as_none (m i) e (h i))

  arguments_together : (c : TypeContext) (m : ℕ → Mark) (ms : List Mark) (ts : PlainTypes) → ((i : ℕ) → AsMarked (m i) (λ w. arguments_go w c i ms ts)) → ArgumentsVaryBy c m ms ts
  arguments_together c m [] ts h = mentions_each_types (marked m) ts (λ i e. as_none (m i) e (h i))
  arguments_together c m (k ∷ ms) no_type h = tt
  arguments_together c m (Plus ∷ ms) (types t ts) h =
      (together c m t (λ i. as_other (m i) (λ w. and_first (goes w c i t) _) (h i)), arguments_together c m ms ts (λ i. as_other (m i) (λ w. and_second (goes w c i t) _) (h i)))
  arguments_together c m (Minus ∷ ms) (types t ts) h =
      (together c (turned_all m) t (λ i. as_turned (λ w. goes w c i t) (m i) (as_other (m i) (λ w. and_first (goes (opposite w) c i t) _) (h i))), arguments_together c m ms ts (λ i. as_other (m i) (λ w. and_second (goes (opposite w) c i t) _) (h i)))
  arguments_together c m (Unmarked ∷ ms) (types t ts) h =
      (mentions_each (marked m) t (λ i e. as_none (m i) e (as_other (m i) (λ w. and_first (not (mentions (only i) t)) _) (h i))), arguments_together c m ms ts (λ i. as_other (m i) (λ w. and_second (not (mentions (only i) t)) _) (h i)))

  all_together : (c : TypeContext) (m : ℕ → Mark) (ts : PlainTypes) → ((i : ℕ) → AsMarked (m i) (λ w. all_go w c i ts)) → AllVaryBy c m ts
  all_together c m no_type h = tt
  all_together c m (types t ts) h =
      (together c m t (λ i. as_other (m i) (λ w. and_first (goes w c i t) _) (h i)), all_together c m ts (λ i. as_other (m i) (λ w. and_second (goes w c i t) _) (h i)))

  labels_together : (c : TypeContext) (m : ℕ → Mark) (ls : PlainLabels) → ((i : ℕ) → AsMarked (m i) (λ w. labels_go w c i ls)) → LabelsVaryBy c m ls
  labels_together c m no_label h = tt
  labels_together c m (labels l t ls) h =
      (together c m t (λ i. as_other (m i) (λ w. and_first (goes w c i t) _) (h i)), labels_together c m ls (λ i. as_other (m i) (λ w. and_second (goes w c i t) _) (h i)))
