-- A type that varies by several variables goes with each as it is marked; what mentions none of them varies by them; and
-- this is kept by renamings.
use Rattle.std.proofs.Common.{◌≡◌, ℕ, zero, suc, Bool, true, false, ◌&&◌, not, List, [], ◌∷◌, refl, sym, ◌∙◌, ap, subst}
use Rattle.std.specs.Prelude.{nat_eq}
use Rattle.std.proofs.lemmas.Bool.{ne_eqb}
use Rattle.pict_types.specs.Types.{Both, Read, Write, Respond, PlainType, Top, Int, Char, Str, Boolean, Var, Apply, Chan, Fields, Rec, PlainTypes, no_type, types, PlainLabels, no_label, labels, PlainBound, Free, Below, Operator, PlainBounds, no_bound, bounds, TypeContext, under}
use Rattle.pict_syntax.specs.declared.type_tree.Mark.{Mark}
use Rattle.pict_syntax.specs.declared.type_tree.Mark.TheVariants.{Plus, Minus, Plain as Unmarked}
use Rattle.pict_types.specs.Renaming.{beyond, beyond_all, rename, rename_types, rename_labels, rename_bound, rename_bounds, bound_at}
use Rattle.pict_types.specs.Mentions.{outside, outside_all, mentions, mentions_types, mentions_labels, mentions_bounds}
use Rattle.pict_types.specs.Variance.{Way, up, down, opposite, past, marks_by, marks_at, goes, arguments_go, all_go, labels_go}
use Rattle.pict_types.proofs.Mentioned.{Comes, mentions_renamed, mentions_types_renamed, mentions_bounds_renamed}
use Rattle.pict_sub.proofs.Varying.{turned, turned_all, is_marked, is_minus, marked, marks_beyond, marks_under, VariesBy, ArgumentsVaryBy, AllVaryBy, LabelsVaryBy, and_both, or_first, or_second, Fewer, mentions_fewer, mentions_fewer_types, mentions_fewer_labels, mentions_fewer_bounds, one_of, AsMarked}

both_marked : (P Q : Way → Bool) (k : Mark) → AsMarked k P → AsMarked k Q → AsMarked k (λ w. P w && Q w)
both_marked P Q Plus h g = and_both h g
both_marked P Q Minus h g = and_both h g
both_marked P Q Unmarked h g = tt

turned_back : (P : Way → Bool) (k : Mark) → AsMarked (turned k) P → AsMarked k (λ w. P (opposite w))
turned_back P Plus h = h
turned_back P Minus h = h
turned_back P Unmarked h = tt

absent : {a : Bool} (k : Mark) → (is_marked k ≡ true → a ≡ false) → AsMarked k (λ w. not a)
absent Plus h = ap not (h refl)
absent Minus h = ap not (h refl)
absent Unmarked h = tt

always : {P : Way → Bool} (k : Mark) → ((w : Way) → P w ≡ true) → AsMarked k P
always Plus h = h up
always Minus h = h down
always Unmarked h = tt

past_marks : (bs : PlainBounds) (m : ℕ → Mark) (i : ℕ) → marks_under bs m (past bs i) ≡ m i
past_marks no_bound m i = refl
past_marks (bounds b bs) m i = past_marks bs (marks_beyond m) (suc i)

out_of : (bs : PlainBounds) (P : ℕ → Way → Bool) (m : ℕ → Mark) → ((i : ℕ) → AsMarked (marks_under bs m i) (P i)) → (i : ℕ) → AsMarked (m i) (P (past bs i))
out_of bs P m h i = subst (λ k. AsMarked k (P (past bs i))) (past_marks bs m i) (h (past bs i))

mutual
  pub apart : (c : TypeContext) (m : ℕ → Mark) (t : PlainType) → VariesBy c m t → (i : ℕ) → AsMarked (m i) (λ w. goes w c i t)
  apart c m Top v i = always (m i) (λ w. refl)
  apart c m Int v i = always (m i) (λ w. refl)
  apart c m Char v i = always (m i) (λ w. refl)
  apart c m Str v i = always (m i) (λ w. refl)
  apart c m Boolean v i = always (m i) (λ w. refl)
  apart c m (Var j) v i = go (m i) refl
    where
      go : (k : Mark) → m i ≡ k → AsMarked (m i) (λ w. goes w c i (Var j))
      go Plus e = subst (λ k. AsMarked k (λ w. goes w c i (Var j))) (sym e) refl
      go Minus e =
          let n : nat_eq i j ≡ false = ne_eqb i j (λ q. let z : true ≡ false = sym (ap is_minus e) ∙ ap (λ x. is_minus (m x)) q ∙ v in cc) in
          subst (λ k. AsMarked k (λ w. goes w c i (Var j))) (sym e) (ap not n)
      go Unmarked e = subst (λ k. AsMarked k (λ w. goes w c i (Var j))) (sym e) tt
  apart c m (Apply j ts) v i = arguments_apart c m (marks_at c j) ts v i
  apart c m (Chan Read t) v i = apart c m t v i
  apart c m (Chan Write t) v i = turned_back (λ w. goes w c i t) (m i) (apart c (turned_all m) t v i)
  apart c m (Chan Respond t) v i = turned_back (λ w. goes w c i t) (m i) (apart c (turned_all m) t v i)
  apart c m (Chan Both t) v i = absent (m i) (λ e. mentions_fewer (one_of i e) t v)
  apart c m (Fields bs ps ls) v i =
      both_marked _ _ (m i) (absent (m i) (λ e. mentions_fewer_bounds (one_of i e) bs v.0))
      (both_marked _ _ (m i) (out_of bs (λ j w. all_go w (under c bs) j ps) m (all_apart (under c bs) (marks_under bs m) ps v.1.0) i)
      (out_of bs (λ j w. labels_go w (under c bs) j ls) m (labels_apart (under c bs) (marks_under bs m) ls v.1.1) i))
  apart c m (Rec t) v i = absent (m i) (λ e. mentions_fewer (one_of i e) (Rec t) v)

  arguments_apart : (c : TypeContext) (m : ℕ → Mark) (ms : List Mark) (ts : PlainTypes) → ArgumentsVaryBy c m ms ts → (i : ℕ) → AsMarked (m i) (λ w. arguments_go w c i ms ts)
  arguments_apart c m [] ts v i = absent (m i) (λ e. mentions_fewer_types (one_of i e) ts v)
  arguments_apart c m (k ∷ ms) no_type v i = always (m i) (λ w. refl)
  arguments_apart c m (Plus ∷ ms) (types t ts) v i = both_marked _ _ (m i) (apart c m t v.0 i) (arguments_apart c m ms ts v.1 i)
  arguments_apart c m (Minus ∷ ms) (types t ts) v i = both_marked _ _ (m i) (turned_back (λ w. goes w c i t) (m i) (apart c (turned_all m) t v.0 i)) (arguments_apart c m ms ts v.1 i)
  arguments_apart c m (Unmarked ∷ ms) (types t ts) v i = both_marked _ _ (m i) (absent (m i) (λ e. mentions_fewer (one_of i e) t v.0)) (arguments_apart c m ms ts v.1 i)

  all_apart : (c : TypeContext) (m : ℕ → Mark) (ts : PlainTypes) → AllVaryBy c m ts → (i : ℕ) → AsMarked (m i) (λ w. all_go w c i ts)
  all_apart c m no_type v i = always (m i) (λ w. refl)
  all_apart c m (types t ts) v i = both_marked _ _ (m i) (apart c m t v.0 i) (all_apart c m ts v.1 i)

  labels_apart : (c : TypeContext) (m : ℕ → Mark) (ls : PlainLabels) → LabelsVaryBy c m ls → (i : ℕ) → AsMarked (m i) (λ w. labels_go w c i ls)
  labels_apart c m no_label v i = always (m i) (λ w. refl)
  labels_apart c m (labels l t ls) v i = both_marked _ _ (m i) (apart c m t v.0 i) (labels_apart c m ls v.1 i)

-- ---- what mentions none of the marked variables

pub turned_marked : (k : Mark) → is_marked (turned k) ≡ is_marked k
turned_marked Plus = refl
turned_marked Minus = refl
turned_marked Unmarked = refl

pub fewer_turned : (m : ℕ → Mark) → Fewer (marked m) (marked (turned_all m))
fewer_turned m = record { each = λ i h. turned_marked (m i) ∙ h }

fewer_marks_beyond : {p : ℕ → Bool} (m : ℕ → Mark) → Fewer p (marked m) → Fewer (outside p) (marked (marks_beyond m))
fewer_marks_beyond {p = p} m x = record { each = go }
  where
    go : (i : ℕ) → outside p i ≡ false → marked (marks_beyond m) i ≡ false
    go zero h = refl
    go (suc i) h = x.each i h

pub fewer_marks_under : {p : ℕ → Bool} (m : ℕ → Mark) (bs : PlainBounds) → Fewer p (marked m) → Fewer (outside_all bs p) (marked (marks_under bs m))
fewer_marks_under m no_bound x = x
fewer_marks_under m (bounds b bs) x = fewer_marks_under (marks_beyond m) bs (fewer_marks_beyond m x)

not_minus : (k : Mark) → is_marked k ≡ false → is_minus k ≡ false
not_minus Plus h = absurd cc
not_minus Minus h = absurd cc
not_minus Unmarked h = refl

mutual
  pub none_varies : (c : TypeContext) (m : ℕ → Mark) (t : PlainType) → mentions (marked m) t ≡ false → VariesBy c m t
  none_varies c m Top h = tt
  none_varies c m Int h = tt
  none_varies c m Char h = tt
  none_varies c m Str h = tt
  none_varies c m Boolean h = tt
  none_varies c m (Var j) h = not_minus (m j) h
  none_varies c m (Apply j ts) h = none_arguments_vary c m (marks_at c j) ts (or_second (marked m j) _ h)
  none_varies c m (Chan Read t) h = none_varies c m t h
  none_varies c m (Chan Write t) h = none_varies c (turned_all m) t (mentions_fewer (fewer_turned m) t h)
  none_varies c m (Chan Respond t) h = none_varies c (turned_all m) t (mentions_fewer (fewer_turned m) t h)
  none_varies c m (Chan Both t) h = h
  none_varies c m (Fields bs ps ls) h =
      let r = or_second (mentions_bounds (marked m) bs) _ h in
      let x = fewer_marks_under m bs (record { each = λ i e. e }) in
      (or_first (mentions_bounds (marked m) bs) _ h, (none_all_vary (under c bs) (marks_under bs m) ps (mentions_fewer_types x ps (or_first (mentions_types (outside_all bs (marked m)) ps) _ r)), none_labels_vary (under c bs) (marks_under bs m) ls (mentions_fewer_labels x ls (or_second (mentions_types (outside_all bs (marked m)) ps) _ r))))
  none_varies c m (Rec t) h = h

  pub none_arguments_vary : (c : TypeContext) (m : ℕ → Mark) (ms : List Mark) (ts : PlainTypes) → mentions_types (marked m) ts ≡ false → ArgumentsVaryBy c m ms ts
  none_arguments_vary c m [] ts h = h
  none_arguments_vary c m (k ∷ ms) no_type h = tt
  none_arguments_vary c m (Plus ∷ ms) (types t ts) h = (none_varies c m t (or_first (mentions (marked m) t) _ h), none_arguments_vary c m ms ts (or_second (mentions (marked m) t) _ h))
  none_arguments_vary c m (Minus ∷ ms) (types t ts) h = (none_varies c (turned_all m) t (mentions_fewer (fewer_turned m) t (or_first (mentions (marked m) t) _ h)), none_arguments_vary c m ms ts (or_second (mentions (marked m) t) _ h))
  none_arguments_vary c m (Unmarked ∷ ms) (types t ts) h = (or_first (mentions (marked m) t) _ h, none_arguments_vary c m ms ts (or_second (mentions (marked m) t) _ h))

  none_all_vary : (c : TypeContext) (m : ℕ → Mark) (ts : PlainTypes) → mentions_types (marked m) ts ≡ false → AllVaryBy c m ts
  none_all_vary c m no_type h = tt
  none_all_vary c m (types t ts) h = (none_varies c m t (or_first (mentions (marked m) t) _ h), none_all_vary c m ts (or_second (mentions (marked m) t) _ h))

  none_labels_vary : (c : TypeContext) (m : ℕ → Mark) (ls : PlainLabels) → mentions_labels (marked m) ls ≡ false → LabelsVaryBy c m ls
  none_labels_vary c m no_label h = tt
  none_labels_vary c m (labels l t ls) h = (none_varies c m t (or_first (mentions (marked m) t) _ h), none_labels_vary c m ls (or_second (mentions (marked m) t) _ h))

-- ---- renamings

-- f takes operator variables to ones with their marks, and each variable to one that is marked like it
pub record KeepsMarks (f : ℕ → ℕ) (c d : TypeContext) (m n : ℕ → Mark) : Type 0 where
  pub operators : (i : ℕ) (ms : List Mark) → bound_at c i ≡ Operator ms → bound_at d (f i) ≡ Operator ms
  pub marks : (i : ℕ) → n (f i) ≡ m i

pub keeps_marks_beyond : {f : ℕ → ℕ} {c d : TypeContext} {m n : ℕ → Mark} (b : PlainBound) → KeepsMarks f c d m n → KeepsMarks (beyond f) (b ∷ c) (rename_bound f b ∷ d) (marks_beyond m) (marks_beyond n)
keeps_marks_beyond {f = f} {c = c} {d = d} {m = m} {n = n} b x = record { operators = go; marks = go2 }
  where
    go : (i : ℕ) (ms : List Mark) → bound_at (b ∷ c) i ≡ Operator ms → bound_at (rename_bound f b ∷ d) (beyond f i) ≡ Operator ms
    go zero ms h = ap (rename_bound f) h
    go (suc i) ms h = x.operators i ms h

    go2 : (i : ℕ) → marks_beyond n (beyond f i) ≡ marks_beyond m i
    go2 zero = refl
    go2 (suc i) = x.marks i

pub keeps_marks_under : {f : ℕ → ℕ} {c d : TypeContext} {m n : ℕ → Mark} (bs : PlainBounds) → KeepsMarks f c d m n → KeepsMarks (beyond_all bs f) (under c bs) (under d (rename_bounds f bs)) (marks_under bs m) (marks_under (rename_bounds f bs) n)
keeps_marks_under no_bound x = x
keeps_marks_under (bounds b bs) x = keeps_marks_under bs (keeps_marks_beyond b x)

pub keeps_turned : {f : ℕ → ℕ} {c d : TypeContext} {m n : ℕ → Mark} → KeepsMarks f c d m n → KeepsMarks f c d (turned_all m) (turned_all n)
keeps_turned x = record { operators = x.operators; marks = λ i. ap turned (x.marks i) }

pub comes : {f : ℕ → ℕ} {c d : TypeContext} {m n : ℕ → Mark} → KeepsMarks f c d m n → Comes (marked n) (marked m) f
comes x = record { each = λ i. ap is_marked (x.marks i) }

mutual
  pub varies_renamed : {f : ℕ → ℕ} {c d : TypeContext} {m n : ℕ → Mark} (t : PlainType) → KeepsMarks f c d m n → VariesBy c m t → VariesBy d n (rename f t)
  varies_renamed Top x v = tt
  varies_renamed Int x v = tt
  varies_renamed Char x v = tt
  varies_renamed Str x v = tt
  varies_renamed Boolean x v = tt
  varies_renamed (Var j) x v = ap is_minus (x.marks j) ∙ v
  varies_renamed {f = f} {c = c} {d = d} {m = m} {n = n} (Apply j ts) x v = go (λ ms w. arguments_renamed ms ts x w) (bound_at c j) refl
    where
      unmarked_ : marks_at c j ≡ [] → VariesBy d n (rename f (Apply j ts))
      unmarked_ e =
          let w : mentions_types (marked m) ts ≡ false = subst (λ ms. ArgumentsVaryBy c m ms ts) e v in
          none_arguments_vary d n (marks_at d (f j)) (rename_types f ts) (mentions_types_renamed ts (comes x) ∙ w)

      go : ((ms : List Mark) → ArgumentsVaryBy c m ms ts → ArgumentsVaryBy d n ms (rename_types f ts)) → (b : PlainBound) → bound_at c j ≡ b → VariesBy d n (rename f (Apply j ts))
      go r Free e = unmarked_ (ap marks_by e)
      go r (Below u) e = unmarked_ (ap marks_by e)
      go r (Operator ms) e =
          subst (λ z. ArgumentsVaryBy d n z (rename_types f ts)) (sym (ap marks_by (x.operators j ms e))) (r ms (subst (λ z. ArgumentsVaryBy c m z ts) (ap marks_by e) v))
  varies_renamed (Chan Read t) x v = varies_renamed t x v
  varies_renamed (Chan Write t) x v = varies_renamed t (keeps_turned x) v
  varies_renamed (Chan Respond t) x v = varies_renamed t (keeps_turned x) v
  varies_renamed (Chan Both t) x v = mentions_renamed t (comes x) ∙ v
  varies_renamed (Fields bs ps ls) x v =
      (mentions_bounds_renamed bs (comes x) ∙ v.0, (all_renamed ps (keeps_marks_under bs x) v.1.0, labels_renamed ls (keeps_marks_under bs x) v.1.1))
  varies_renamed (Rec t) x v = mentions_renamed (Rec t) (comes x) ∙ v

  arguments_renamed : {f : ℕ → ℕ} {c d : TypeContext} {m n : ℕ → Mark} (ms : List Mark) (ts : PlainTypes) → KeepsMarks f c d m n → ArgumentsVaryBy c m ms ts → ArgumentsVaryBy d n ms (rename_types f ts)
  arguments_renamed [] ts x v = mentions_types_renamed ts (comes x) ∙ v
  arguments_renamed (k ∷ ms) no_type x v = tt
  arguments_renamed (Plus ∷ ms) (types t ts) x v = (varies_renamed t x v.0, arguments_renamed ms ts x v.1)
  arguments_renamed (Minus ∷ ms) (types t ts) x v = (varies_renamed t (keeps_turned x) v.0, arguments_renamed ms ts x v.1)
  arguments_renamed (Unmarked ∷ ms) (types t ts) x v = (mentions_renamed t (comes x) ∙ v.0, arguments_renamed ms ts x v.1)

  all_renamed : {f : ℕ → ℕ} {c d : TypeContext} {m n : ℕ → Mark} (ts : PlainTypes) → KeepsMarks f c d m n → AllVaryBy c m ts → AllVaryBy d n (rename_types f ts)
  all_renamed no_type x v = tt
  all_renamed (types t ts) x v = (varies_renamed t x v.0, all_renamed ts x v.1)

  labels_renamed : {f : ℕ → ℕ} {c d : TypeContext} {m n : ℕ → Mark} (ls : PlainLabels) → KeepsMarks f c d m n → LabelsVaryBy c m ls → LabelsVaryBy d n (rename_labels f ls)
  labels_renamed no_label x v = tt
  labels_renamed (labels l t ls) x v = (varies_renamed t x v.0, labels_renamed ls x v.1)
