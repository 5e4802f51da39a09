-- Matching only fills what is open, so what was found on the way is a part of all that is found.
use Rattle.std.proofs.Common.{◌≡◌, ℕ, zero, suc, ◌+◌, ◌-◌, nat_eq, nat_le, nat_lt, Bool, true, false, ◌&&◌, not, [], ◌∷◌, length, ◌⊎◌, inl, inr, refl, sym, ◌∙◌, subst}
use Rattle.std.specs.Prelude.{Option, Some, None, Result, Ok, Err, set, slice_get, if◌then◌else◌}
use Rattle.std.specs.Result.{IsErrAnd}
use Rattle.std.specs.declared.alloc.AllocError.{AllocError}
use Rattle.pict_types.specs.Types.{PlainType, Top, Int, Char, Str, Boolean, Var, Apply, Chan, Fields, Rec, PlainTypes, no_type, types, PlainLabels, no_label, labels, PlainBound, Free, Below, Operator, PlainBounds, no_bound, bounds, PlainArg, Plain, TypeContext, under, count_types, count_bounds, type_at}
use Rattle.pict_types.specs.Mentions.{mentions_innermost, lowered}
use Rattle.pict_sub.specs.Exposing.{exposure}
use Rattle.pict_rules.specs.Found.{Slot, Found, open_slot, filled, is_missing, find, is_same_head, match_channel, match_recursive, match_applied, match_record, match_label, matched, matched_types, matched_labels, matched_bounds, matched_bound}
use Rattle.pict_match.specs.Parts.{by_fields}
use Rattle.pict_match.specs.PlainFound.{IsPartly, Finds}

-- what is filled stays, and what changes is filled
pub record Grows (f g : Found) : Type 0 where
  pub grown : (i : ℕ) → (slice_get g i ≡ slice_get f i) ⊎ ((a : PlainArg) × (slice_get g i ≡ Some (filled a)))
  pub kept : (i : ℕ) (a : PlainArg) → slice_get f i ≡ Some (filled a) → slice_get g i ≡ Some (filled a)

pub grows_not : (f : Found) → Grows f f
grows_not f = record { grown = λ i. inl refl; kept = λ i a h. h }

pub grows_on : {f g h : Found} → Grows f g → Grows g h → Grows f h
grows_on {f} {g} {h} x y = record { grown = λ i. second i (y.grown i); kept = λ i a e. y.kept i a (x.kept i a e) }
  where
    first : (i : ℕ) → slice_get h i ≡ slice_get g i → (slice_get g i ≡ slice_get f i) ⊎ ((a : PlainArg) × (slice_get g i ≡ Some (filled a))) → (slice_get h i ≡ slice_get f i) ⊎ ((a : PlainArg) × (slice_get h i ≡ Some (filled a)))
    first i e (inl p) = inl (e ∙ p)
    first i e (inr p) = inr (p.0, e ∙ p.1)

    second : (i : ℕ) → (slice_get h i ≡ slice_get g i) ⊎ ((a : PlainArg) × (slice_get h i ≡ Some (filled a))) → (slice_get h i ≡ slice_get f i) ⊎ ((a : PlainArg) × (slice_get h i ≡ Some (filled a)))
    second i (inl e) = first i e (x.grown i)
    second i (inr p) = inr p

-- one more type field in front, which stays
grows_after : (x : Slot) {f g : Found} → Grows f g → Grows (x ∷ f) (x ∷ g)
grows_after x {f} {g} r = record { grown = grown; kept = kept }
  where
    grown : (i : ℕ) → (slice_get (x ∷ g) i ≡ slice_get (x ∷ f) i) ⊎ ((a : PlainArg) × (slice_get (x ∷ g) i ≡ Some (filled a)))
    grown zero = inl refl
    grown (suc i) = r.grown i

    kept : (i : ℕ) (a : PlainArg) → slice_get (x ∷ f) i ≡ Some (filled a) → slice_get (x ∷ g) i ≡ Some (filled a)
    kept zero a h = h
    kept (suc i) a h = r.kept i a h

grows_first : (b : PlainBound) (x : PlainArg) (f : Found) → Grows (open_slot b ∷ f) (filled x ∷ f)
grows_first b x f = record { grown = grown; kept = kept }
  where
    grown : (i : ℕ) → (slice_get (filled x ∷ f) i ≡ slice_get (open_slot b ∷ f) i) ⊎ ((a : PlainArg) × (slice_get (filled x ∷ f) i ≡ Some (filled a)))
    grown zero = inr (x, refl)
    grown (suc i) = inl refl

    kept : (i : ℕ) (a : PlainArg) → slice_get (open_slot b ∷ f) i ≡ Some (filled a) → slice_get (filled x ∷ f) i ≡ Some (filled a)
    kept zero a h = absurd (cc)
    kept (suc i) a h = h

-- one that is missing is filled
set_grows : (f : Found) (k : ℕ) (x : PlainArg) → is_missing f k ≡ true → Grows f (set f k (filled x))
set_grows [] k x m = absurd (cc)
set_grows (filled b ∷ f) zero x m = absurd (cc)
set_grows (open_slot b ∷ f) zero x m = grows_first b x f
set_grows (s ∷ f) (suc k) x m = grows_after s (set_grows f k x m)

find_grows : (d i : ℕ) (g : PlainType) (f : Found) → Grows f (find d i g f)
find_grows d i g f = go (nat_le d i) (nat_lt (i - d) (length f)) (is_missing f (length f - 1 - (i - d))) refl (not (mentions_innermost d g))
  where
    go : (a b m : Bool) → is_missing f (length f - 1 - (i - d)) ≡ m → (n : Bool) → Grows f (if a && ((b && m) && n) then set f (length f - 1 - (i - d)) (filled (Plain (lowered d g))) else f)
    go true true true e true = set_grows f (length f - 1 - (i - d)) (Plain (lowered d g)) e
    go true true true e false = grows_not f
    go true true false e n = grows_not f
    go true false m e n = grows_not f
    go false b m e n = grows_not f

-- the forms of a type, where what they go on with grows
either_grows : (b : Bool) (x f : Found) → Grows f x → Grows f (if b then x else f)
either_grows true x f h = h
either_grows false x f h = grows_not f

channel_grows : (x : PlainType) (k : PlainType → Found) (f : Found) → ((u : PlainType) → Grows f (k u)) → Grows f (match_channel x k f)
channel_grows (Chan m u) k f h = h u
channel_grows _ k f h = grows_not f

recursive_grows : (x : PlainType) (k : PlainType → Found) (f : Found) → ((u : PlainType) → Grows f (k u)) → Grows f (match_recursive x k f)
recursive_grows (Rec u) k f h = h u
recursive_grows _ k f h = grows_not f

applied_grows : (x : PlainType) (k : ℕ → PlainTypes → Found) (f : Found) → ((j : ℕ) (us : PlainTypes) → Grows f (k j us)) → Grows f (match_applied x k f)
applied_grows (Apply j us) k f h = h j us
applied_grows _ k f h = grows_not f

record_grows : (x : PlainType) (k : PlainBounds → PlainTypes → PlainLabels → Found) (f : Found) → ((cs : PlainBounds) (us : PlainTypes) (ms : PlainLabels) → Grows f (k cs us ms)) → Grows f (match_record x k f)
record_grows (Fields cs us ms) k f h = h cs us ms
record_grows _ k f h = grows_not f

label_grows : (x : Option PlainType) (k : PlainType → Found) (f : Found) → ((u : PlainType) → Grows f (k u)) → Grows f (match_label x k f)
label_grows None k f h = grows_not f
label_grows (Some u) k f h = h u

mutual
  pub matched_grows : (c : TypeContext) (d : ℕ) (w g : PlainType) (f : Found) → Grows f (matched c d w g f)
  matched_grows c d Top g f = grows_not f
  matched_grows c d Int g f = grows_not f
  matched_grows c d Char g f = grows_not f
  matched_grows c d Str g f = grows_not f
  matched_grows c d Boolean g f = grows_not f
  matched_grows c d (Var i) g f = find_grows d i g f
  matched_grows c d (Apply i ws) g f = applied_grows (exposure c g) (λ j us. if is_same_head d (length f) i j then matched_types c d ws us f else f) f (λ j us. either_grows (is_same_head d (length f) i j) _ f (types_grow c d ws us f))
  matched_grows c d (Chan m w) g f = channel_grows (exposure c g) (λ u. matched c d w u f) f (λ u. matched_grows c d w u f)
  matched_grows c d (Fields b ws ls) g f = record_grows (exposure c g) (λ cs us ms. by_fields c d b ws ls cs us ms f) f (λ cs us ms. either_grows (nat_eq (count_bounds b) (count_bounds cs) && nat_eq (count_types ws) (count_types us)) _ f (
      grows_on (bounds_grow c d b cs f) (grows_on (types_grow (under c cs) (d + count_bounds b) ws us (matched_bounds c d b cs f)) (labels_grow (under c cs) (d + count_bounds b) ls ms _))))
  matched_grows c d (Rec w) g f = recursive_grows (exposure c g) (λ u. matched (Free ∷ c) (suc d) w u f) f (λ u. matched_grows (Free ∷ c) (suc d) w u f)

  pub types_grow : (c : TypeContext) (d : ℕ) (ws gs : PlainTypes) (f : Found) → Grows f (matched_types c d ws gs f)
  types_grow c d no_type gs f = grows_not f
  types_grow c d (types w ws) no_type f = grows_not f
  types_grow c d (types w ws) (types g gs) f = grows_on (matched_grows c d w g f) (types_grow c d ws gs (matched c d w g f))

  pub labels_grow : (c : TypeContext) (d : ℕ) (ls ms : PlainLabels) (f : Found) → Grows f (matched_labels c d ls ms f)
  labels_grow c d no_label ms f = grows_not f
  labels_grow c d (labels l w ls) ms f = grows_on (label_grows (type_at l ms) (λ g. matched c d w g f) f (λ g. matched_grows c d w g f)) (labels_grow c d ls ms _)

  pub bounds_grow : (c : TypeContext) (d : ℕ) (ws gs : PlainBounds) (f : Found) → Grows f (matched_bounds c d ws gs f)
  bounds_grow c d no_bound gs f = grows_not f
  bounds_grow c d (bounds w ws) no_bound f = grows_not f
  bounds_grow c d (bounds w ws) (bounds g gs) f = grows_on (bound_grows c d w g f) (bounds_grow (g ∷ c) (suc d) ws gs (matched_bound c d w g f))

  pub bound_grows : (c : TypeContext) (d : ℕ) (w g : PlainBound) (f : Found) → Grows f (matched_bound c d w g f)
  bound_grows c d (Below w) (Below g) f = matched_grows c d w g f
  bound_grows c d (Below w) Free f = grows_not f
  bound_grows c d (Below w) (Operator n) f = grows_not f
  bound_grows c d Free g f = grows_not f
  bound_grows c d (Operator n) g f = grows_not f

-- nothing is a part, and a part of what is found on the way is a part of all
pub partly_none : (f t : Found) → IsPartly f t f
partly_none f t = record { each = λ i. inl refl }

pub partly : {f g m t h : Found} → Grows f g → Grows g m → Grows m t → IsPartly g m h → IsPartly f t h
partly {f} {g} {m} {t} {h} x y z p = record { each = λ i. by i (p.each i) }
  where
    -- what is found at a place at one time is found there in the end
    before : (i : ℕ) → slice_get h i ≡ slice_get g i → (slice_get g i ≡ slice_get f i) ⊎ ((a : PlainArg) × (slice_get g i ≡ Some (filled a))) → (slice_get h i ≡ slice_get f i) ⊎ (slice_get h i ≡ slice_get t i)
    before i e (inl q) = inl (e ∙ q)
    before i e (inr q) = inr (e ∙ q.1 ∙ sym ((grows_on y z).kept i q.0 q.1))

    after : (i : ℕ) → slice_get h i ≡ slice_get m i → (slice_get m i ≡ slice_get f i) ⊎ ((a : PlainArg) × (slice_get m i ≡ Some (filled a))) → (slice_get h i ≡ slice_get f i) ⊎ (slice_get h i ≡ slice_get t i)
    after i e (inl q) = inl (e ∙ q)
    after i e (inr q) = inr (e ∙ q.1 ∙ sym (z.kept i q.0 q.1))

    by : (i : ℕ) → (slice_get h i ≡ slice_get g i) ⊎ (slice_get h i ≡ slice_get m i) → (slice_get h i ≡ slice_get f i) ⊎ (slice_get h i ≡ slice_get t i)
    by i (inl e) = before i e (x.grown i)
    by i (inr e) = after i e ((grows_on x y).grown i)

-- a step is done, or wants memory: what is found is a part of what this and the later ones find
pub step_on : {f g m n : Found} → Grows f g → Grows g m → n ≡ m → Grows f n
step_on {f} x y e = subst (Grows f) (sym e) (grows_on x y)

pub step_stops : {f g m h t : Found} (u : Found) → Grows f g → Grows g m → Grows m u → u ≡ t → IsPartly g m h → IsPartly f t h
step_stops {m = m} u x y z e p = partly x y (subst (Grows m) e z) p

pub finds_err : (r : Result (Unit {0}) AllocError) (e : AllocError) (l : Found → Found) (f h : Found) → IsErrAnd r (λ y. y ≡ e) → IsPartly f (l f) h → Finds r l f h
finds_err (Ok x) e l f h is p = absurd is
finds_err (Err x) e l f h is p = p

-- a last call, after what was found before
pub finds_last : (r : Result (Unit {0}) AllocError) (k l : Found → Found) (f g h : Found) → Grows f g → Grows g (k g) → k g ≡ l f → Finds r k g h → Finds r l f h
finds_last (Ok x) k l f g h p q e n = n ∙ e
finds_last (Err x) k l f g h p q e n = subst (λ t. IsPartly f t h) e (partly p q (grows_not (k g)) n)

-- the same call, read in another way
pub finds_same : (r : Result (Unit {0}) AllocError) (k l : Found → Found) (f h : Found) → k f ≡ l f → Finds r k f h → Finds r l f h
finds_same (Ok x) k l f h e n = n ∙ e
finds_same (Err x) k l f h e n = subst (λ t. IsPartly f t h) e n
