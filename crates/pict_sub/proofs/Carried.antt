-- A type that varies by its variables carries subtyping over: types put for them that compare as they are marked make types
-- that compare.
use Rattle.std.proofs.Common.{◌≡◌, ℕ, zero, suc, Bool, false, List, [], ◌∷◌, length, Some, refl, sym, ◌∙◌, ap, ap₂, subst}
use Rattle.pict_types.specs.Types.{Both, Read, Write, Respond, PlainType, Top, Int, Char, Str, Boolean, Var, Apply, Chan, Fields, Rec, PlainTypes, no_type, types, PlainLabels, no_label, labels, PlainBound, Free, Below, Operator, PlainBounds, no_bound, bounds, TypeContext, under, count_types}
use Rattle.pict_syntax.specs.declared.type_tree.Mark.{Mark}
use Rattle.pict_syntax.specs.declared.type_tree.Mark.TheVariants.{Plus, Minus, Plain as Unmarked}
use Rattle.pict_types.specs.Renaming.{rename, rename_bound, moved, bound_at, bound_of}
use Rattle.pict_types.specs.Mentions.{outside, outside_all, mentions, mentions_types, mentions_labels, mentions_bound, mentions_bounds}
use Rattle.pict_types.specs.Replacing.{bound_by, Filling, next_variable, filling_beyond, filling_beyond_all, apply_variable, fill, fill_types, fill_labels, fill_bound, fill_bounds}
use Rattle.pict_types.specs.Kinds.{kinds, kinds_under, kind_at, operator_of, IsWellFormed, AreWellFormed, LabelsAreWellFormed}
use Rattle.pict_types.specs.Variance.{marks_by}
use Rattle.pict_sub.specs.Subtyping.{read_read, write_write, respond_respond, IsSubtype, same, upward, downward, by_fields, by_arguments, AreByMarks, no_more, plus, minus, unmarked, AreSubtypes, none, more, HasLabels, has_none, has_label}
use Rattle.pict_types.proofs.Congruent.{three}
use Rattle.pict_types.proofs.Renamed.{bound_further}
use Rattle.pict_types.proofs.Formed.{before_filled}
use Rattle.pict_sub.proofs.Inversion.{wider, label_here}
use Rattle.pict_sub.proofs.Renamed.{weakened, one_more}
use Rattle.pict_sub.proofs.Varying.{turned, turned_all, is_marked, is_minus, marked, marks_beyond, marks_under, VariesBy, ArgumentsVaryBy, AllVaryBy, LabelsVaryBy, or_first, or_second}

-- ---- two fillings that put the same for all variables but some

pub record FillAlikeBut (p : ℕ → Bool) (s u : Filling) : Type 0 where
  pub types_ : (i : ℕ) → p i ≡ false → s.type_for i ≡ u.type_for i
  pub heads_ : (i : ℕ) → s.head_for i ≡ u.head_for i

alike_beyond : {p : ℕ → Bool} {s u : Filling} → FillAlikeBut p s u → FillAlikeBut (outside p) (filling_beyond s) (filling_beyond u)
alike_beyond {p = p} {s = s} {u = u} x = record { types_ = go; heads_ = go2 }
  where
    go : (i : ℕ) → outside p i ≡ false → (filling_beyond s).type_for i ≡ (filling_beyond u).type_for i
    go zero h = refl
    go (suc i) h = ap (rename suc) (x.types_ i h)

    go2 : (i : ℕ) → (filling_beyond s).head_for i ≡ (filling_beyond u).head_for i
    go2 zero = refl
    go2 (suc i) = ap next_variable (x.heads_ i)

alike_under : {p : ℕ → Bool} {s u : Filling} (bs : PlainBounds) → FillAlikeBut p s u → FillAlikeBut (outside_all bs p) (filling_beyond_all bs s) (filling_beyond_all bs u)
alike_under no_bound x = x
alike_under (bounds b bs) x = alike_under bs (alike_beyond x)

mutual
  pub fill_agrees : {p : ℕ → Bool} {s u : Filling} (t : PlainType) → FillAlikeBut p s u → mentions p t ≡ false → fill s t ≡ fill u t
  fill_agrees Top x m = refl
  fill_agrees Int x m = refl
  fill_agrees Char x m = refl
  fill_agrees Str x m = refl
  fill_agrees Boolean x m = refl
  fill_agrees (Var i) x m = x.types_ i m
  fill_agrees {p = p} (Apply i ts) x m = ap₂ apply_variable (x.heads_ i) (fill_types_agree ts x (or_second (p i) _ m))
  fill_agrees (Chan c t) x m = ap (Chan c) (fill_agrees t x m)
  fill_agrees {p = p} (Fields bs ps ls) x m =
      let r = or_second (mentions_bounds p bs) _ m in
      three Fields (fill_bounds_agree bs x (or_first (mentions_bounds p bs) _ m)) (fill_types_agree ps (alike_under bs x) (or_first (mentions_types (outside_all bs p) ps) _ r)) (fill_labels_agree ls (alike_under bs x) (or_second (mentions_types (outside_all bs p) ps) _ r))
  fill_agrees (Rec t) x m = ap Rec (fill_agrees t (alike_beyond x) m)

  pub fill_types_agree : {p : ℕ → Bool} {s u : Filling} (ts : PlainTypes) → FillAlikeBut p s u → mentions_types p ts ≡ false → fill_types s ts ≡ fill_types u ts
  fill_types_agree no_type x m = refl
  fill_types_agree {p = p} (types t ts) x m = ap₂ types (fill_agrees t x (or_first (mentions p t) _ m)) (fill_types_agree ts x (or_second (mentions p t) _ m))

  fill_labels_agree : {p : ℕ → Bool} {s u : Filling} (ls : PlainLabels) → FillAlikeBut p s u → mentions_labels p ls ≡ false → fill_labels s ls ≡ fill_labels u ls
  fill_labels_agree no_label x m = refl
  fill_labels_agree {p = p} (labels l t ls) x m = ap₂ (labels l) (fill_agrees t x (or_first (mentions p t) _ m)) (fill_labels_agree ls x (or_second (mentions p t) _ m))

  pub fill_bounds_agree : {p : ℕ → Bool} {s u : Filling} (bs : PlainBounds) → FillAlikeBut p s u → mentions_bounds p bs ≡ false → fill_bounds s bs ≡ fill_bounds u bs
  fill_bounds_agree no_bound x m = refl
  fill_bounds_agree {p = p} (bounds b bs) x m = ap₂ bounds (fill_bound_agrees b x (or_first (mentions_bound p b) _ m)) (fill_bounds_agree bs (alike_beyond x) (or_second (mentions_bound p b) _ m))

  fill_bound_agrees : {p : ℕ → Bool} {s u : Filling} (b : PlainBound) → FillAlikeBut p s u → mentions_bound p b ≡ false → fill_bound s b ≡ fill_bound u b
  fill_bound_agrees Free x m = refl
  fill_bound_agrees (Below t) x m = ap bound_by (fill_agrees t x m)
  fill_bound_agrees (Operator ms) x m = refl

-- ---- what is put compares as it is marked

abbrev pub ComparesBy : TypeContext → Mark → PlainType → PlainType → Type 0
ComparesBy d Plus s t = IsSubtype d s t
ComparesBy d Minus s t = IsSubtype d t s
ComparesBy d Unmarked s t = s ≡ t

compares_further : (b : PlainBound) (d : TypeContext) (k : Mark) (s t : PlainType) → ComparesBy d k s t → ComparesBy (b ∷ d) k (rename suc s) (rename suc t)
compares_further b d Plus s t h = weakened (one_more b d) h
compares_further b d Minus s t h = weakened (one_more b d) h
compares_further b d Unmarked s t h = ap (rename suc) h

compares_turned : (d : TypeContext) (k : Mark) (s t : PlainType) → ComparesBy d k s t → ComparesBy d (turned k) t s
compares_turned d Plus s t h = h
compares_turned d Minus s t h = h
compares_turned d Unmarked s t h = sym h

compares_same : (d : TypeContext) (k : Mark) (s t : PlainType) → is_marked k ≡ false → ComparesBy d k s t → s ≡ t
compares_same d Plus s t e h = absurd cc
compares_same d Minus s t e h = absurd cc
compares_same d Unmarked s t e h = h

compares_up : (d : TypeContext) (k : Mark) (s t : PlainType) → is_minus k ≡ false → ComparesBy d k s t → IsSubtype d s t
compares_up d Plus s t e h = h
compares_up d Minus s t e h = absurd cc
compares_up d Unmarked s t e h = subst (IsSubtype d s) h same

-- s puts variables of d for the operator variables of c, with their marks
pub record PutsHeads (c d : TypeContext) (s : Filling) : Type 0 where
  pub each : (i : ℕ) (ms : List Mark) → bound_at c i ≡ Operator ms → (j : ℕ) × (s.head_for i ≡ Some j) × (bound_of d j ≡ Operator ms)

pub record Compare (c d : TypeContext) (m : ℕ → Mark) (s u : Filling) : Type 0 where
  pub types_ : (i : ℕ) → ComparesBy d (m i) (s.type_for i) (u.type_for i)
  pub heads_ : (i : ℕ) → s.head_for i ≡ u.head_for i
  pub puts : PutsHeads c d s

puts_beyond : {c d : TypeContext} {s : Filling} (b : PlainBound) → PutsHeads c d s → PutsHeads (b ∷ c) (fill_bound s b ∷ d) (filling_beyond s)
puts_beyond {c = c} {d = d} {s = s} b x = record { each = go }
  where
    go : (i : ℕ) (ms : List Mark) → bound_at (b ∷ c) i ≡ Operator ms → (j : ℕ) × ((filling_beyond s).head_for i ≡ Some j) × (bound_of (fill_bound s b ∷ d) j ≡ Operator ms)
    go zero ms h = (0, refl, ap (λ y. rename_bound (moved 1 0) (fill_bound s y)) h)
    go (suc i) ms h =
        let y = x.each i ms h in
        (suc y.0, ap next_variable y.1, bound_further (fill_bound s b) d y.0 ∙ ap (rename_bound suc) y.2)

compare_beyond : {c d : TypeContext} {m : ℕ → Mark} {s u : Filling} (b : PlainBound) → Compare c d m s u → Compare (b ∷ c) (fill_bound s b ∷ d) (marks_beyond m) (filling_beyond s) (filling_beyond u)
compare_beyond {d = d} {m = m} {s = s} {u = u} b x = record { types_ = go; heads_ = go2; puts = puts_beyond b x.puts }
  where
    go : (i : ℕ) → ComparesBy (fill_bound s b ∷ d) (marks_beyond m i) ((filling_beyond s).type_for i) ((filling_beyond u).type_for i)
    go zero = refl
    go (suc i) = compares_further (fill_bound s b) d (m i) (s.type_for i) (u.type_for i) (x.types_ i)

    go2 : (i : ℕ) → (filling_beyond s).head_for i ≡ (filling_beyond u).head_for i
    go2 zero = refl
    go2 (suc i) = ap next_variable (x.heads_ i)

compare_under : {c d : TypeContext} {m : ℕ → Mark} {s u : Filling} (bs : PlainBounds) → Compare c d m s u → Compare (under c bs) (under d (fill_bounds s bs)) (marks_under bs m) (filling_beyond_all bs s) (filling_beyond_all bs u)
compare_under no_bound x = x
compare_under (bounds b bs) x = compare_under bs (compare_beyond b x)

compare_turned : {c d : TypeContext} {m : ℕ → Mark} {s u : Filling} → Compare c d m s u → Compare c d (turned_all m) u s
compare_turned {c = c} {d = d} {m = m} {s = s} {u = u} x =
    record { types_ = λ i. compares_turned d (m i) (s.type_for i) (u.type_for i) (x.types_ i); heads_ = λ i. sym (x.heads_ i); puts = record { each = go } }
  where
    go : (i : ℕ) (ms : List Mark) → bound_at c i ≡ Operator ms → (j : ℕ) × (u.head_for i ≡ Some j) × (bound_of d j ≡ Operator ms)
    go i ms h = let y = x.puts.each i ms h in (y.0, sym (x.heads_ i) ∙ y.1, y.2)

alike_by : {c d : TypeContext} {m : ℕ → Mark} {s u : Filling} → Compare c d m s u → FillAlikeBut (marked m) s u
alike_by {d = d} {m = m} {s = s} {u = u} x = record { types_ = λ i e. compares_same d (m i) (s.type_for i) (u.type_for i) e (x.types_ i); heads_ = x.heads_ }

-- an operator variable in scope has as many marks as its kind has arguments
pub operator_there : (c : TypeContext) (i n : ℕ) → kind_at (kinds c) i ≡ Some (operator_of n) → (ms : List Mark) × (bound_at c i ≡ Operator ms) × (length ms ≡ n)
operator_there [] i n h = absurd cc
operator_there (Free ∷ c) zero n h = absurd cc
operator_there (Below t ∷ c) zero n h = absurd cc
operator_there (Operator ms ∷ c) zero n h = (ms, refl, cc)
operator_there (b ∷ c) (suc i) n h = operator_there c i n h

pub kinds_of_under : (c : TypeContext) (bs : PlainBounds) → kinds (under c bs) ≡ kinds_under (kinds c) bs
kinds_of_under c no_bound = refl
kinds_of_under c (bounds b bs) = kinds_of_under (b ∷ c) bs

fewer_arguments : {a b : ℕ} → suc a ≡ suc b → a ≡ b
fewer_arguments e = cc

-- ---- subtyping is carried over

mutual
  pub carried : (names : List (List ℕ)) {c d : TypeContext} {m : ℕ → Mark} {s u : Filling} (t : PlainType) → IsWellFormed names (kinds c) t → VariesBy c m t → Compare c d m s u → IsSubtype d (fill s t) (fill u t)
  carried names Top w v x = same
  carried names Int w v x = same
  carried names Char w v x = same
  carried names Str w v x = same
  carried names Boolean w v x = same
  carried names {d = d} {m = m} {s = s} {u = u} (Var i) w v x = compares_up d (m i) (s.type_for i) (u.type_for i) v (x.types_ i)
  carried names {c = c} {d = d} {m = m} {s = s} {u = u} (Apply i ts) w v x =
      let o = operator_there c i (count_types ts) w.0 in
      let y = x.puts.each i o.0 o.1 in
      let a = arguments_carried names o.0 ts o.2 w.1 (subst (λ z. ArgumentsVaryBy c m z ts) (ap marks_by o.1) v) x in
      let e : Apply y.0 (fill_types s ts) ≡ fill s (Apply i ts) = ap (λ z. apply_variable z (fill_types s ts)) (sym y.1) in
      let f : Apply y.0 (fill_types u ts) ≡ fill u (Apply i ts) = ap (λ z. apply_variable z (fill_types u ts)) (sym y.1 ∙ x.heads_ i) in
      subst (λ z. IsSubtype d z (fill u (Apply i ts))) e (subst (IsSubtype d (Apply y.0 (fill_types s ts))) f (by_arguments y.2 a))
  carried names (Chan Read t) w v x = upward read_read (carried names t w v x)
  carried names (Chan Write t) w v x = downward write_write (carried names t w v (compare_turned x))
  carried names (Chan Respond t) w v x = downward respond_respond (carried names t w v (compare_turned x))
  carried names {d = d} {s = s} (Chan Both t) w v x = subst (IsSubtype d (fill s (Chan Both t))) (ap (Chan Both) (fill_agrees t (alike_by x) v)) same
  carried names {c = c} {d = d} {s = s} {u = u} (Fields bs ps ls) w v x =
      let e : fill_bounds s bs ≡ fill_bounds u bs = fill_bounds_agree bs (alike_by x) v.0 in
      let y = compare_under bs x in
      let k : kinds_under (kinds c) bs ≡ kinds (under c bs) = sym (kinds_of_under c bs) in
      let p = all_carried names ps (subst (λ z. AreWellFormed names z ps) k w.1.0) v.1.0 y in
      let q = labels_carried names ls (subst (λ z. LabelsAreWellFormed names z ls) k w.1.1) v.1.1 y in
      subst (λ z. IsSubtype d (fill s (Fields bs ps ls)) (Fields z (fill_types (filling_beyond_all bs u) ps) (fill_labels (filling_beyond_all bs u) ls))) e (by_fields p q)
  carried names {d = d} {s = s} (Rec t) w v x = subst (IsSubtype d (fill s (Rec t))) (fill_agrees (Rec t) (alike_by x) v) same

  arguments_carried : (names : List (List ℕ)) {c d : TypeContext} {m : ℕ → Mark} {s u : Filling} (ms : List Mark) (ts : PlainTypes) → length ms ≡ count_types ts → AreWellFormed names (kinds c) ts → ArgumentsVaryBy c m ms ts → Compare c d m s u → AreByMarks d ms (fill_types s ts) (fill_types u ts)
  arguments_carried names [] no_type n w v x = no_more
  arguments_carried names [] (types t ts) n w v x = absurd cc
  arguments_carried names (k ∷ ms) no_type n w v x = absurd cc
  arguments_carried names (Plus ∷ ms) (types t ts) n w v x = plus (carried names t w.0 v.0 x) (arguments_carried names ms ts (fewer_arguments n) w.1 v.1 x)
  arguments_carried names (Minus ∷ ms) (types t ts) n w v x = minus (carried names t w.0 v.0 (compare_turned x)) (arguments_carried names ms ts (fewer_arguments n) w.1 v.1 x)
  arguments_carried names {d = d} {s = s} {u = u} (Unmarked ∷ ms) (types t ts) n w v x =
      subst (λ z. AreByMarks d (Unmarked ∷ ms) (fill_types s (types t ts)) (types z (fill_types u ts))) (fill_agrees t (alike_by x) v.0) (unmarked (arguments_carried names ms ts (fewer_arguments n) w.1 v.1 x))

  all_carried : (names : List (List ℕ)) {c d : TypeContext} {m : ℕ → Mark} {s u : Filling} (ts : PlainTypes) → AreWellFormed names (kinds c) ts → AllVaryBy c m ts → Compare c d m s u → AreSubtypes d (fill_types s ts) (fill_types u ts)
  all_carried names no_type w v x = none
  all_carried names (types t ts) w v x = more (carried names t w.0 v.0 x) (all_carried names ts w.1 v.1 x)

  labels_carried : (names : List (List ℕ)) {c d : TypeContext} {m : ℕ → Mark} {s u : Filling} (ls : PlainLabels) → LabelsAreWellFormed names (kinds c) ls → LabelsVaryBy c m ls → Compare c d m s u → HasLabels d (fill_labels s ls) (fill_labels u ls)
  labels_carried names no_label w v x = has_none
  labels_carried names {s = s} {u = u} (labels l t ls) w v x =
      has_label (label_here l (fill s t) (fill_labels s ls)) (carried names t w.1.0 v.0 x) (wider names l (fill s t) (fill_labels s ls) (fill_labels u ls) (before_filled names s l ls w.0) (labels_carried names ls w.1.1 v.1 x))
