-- Matching hangs on no bound of a type field: with other bounds it finds the same.
use Rattle.std.proofs.Common.{◌≡◌, ℕ, zero, suc, ◌+◌, ◌-◌, nat_eq, nat_le, nat_lt, Bool, true, false, ◌&&◌, not, List, [], ◌∷◌, length, ◌⊎◌, inl, inr, refl, sym, ◌∙◌, ap, subst, subst₂}
use Rattle.std.specs.Prelude.{Option, Some, None, Result, Ok, Err, set, slice_get, if◌then◌else◌}
use Rattle.std.specs.declared.alloc.AllocError.{AllocError}
use Rattle.pict_types.specs.declared.types.Ty.{Ty}
use Rattle.pict_types.specs.Types.{PlainType, Top, Int, Char, Str, Boolean, Var, Apply, Chan, Fields, Rec, PlainTypes, no_type, types, PlainLabels, no_label, labels, PlainBound, Free, Below, Operator, PlainBounds, no_bound, bounds, PlainArg, Plain, TypeContext, under, count_types, count_bounds, type_at}
use Rattle.pict_types.specs.Mentions.{mentions_innermost, lowered}
use Rattle.pict_types.specs.Plain.{plain}
use Rattle.pict_sub.specs.Exposing.{exposure}
use Rattle.pict_rules.specs.Found.{Slot, Found, open_slot, filled, is_missing, is_missing_variable, find, is_same_head, match_channel, match_recursive, match_applied, match_record, match_label, matched, matched_types, matched_labels, matched_bounds, matched_bound}
use Rattle.pict_match.specs.PlainFound.{IsPartly, Finds, first_bound, later_bounds, slots}

-- the same is found, and what is open has these bounds
abbrev pub rebound : PlainBounds → Found → Found
rebound bs [] = []
rebound bs (open_slot b ∷ f) = open_slot (first_bound bs) ∷ rebound (later_bounds bs) f
rebound bs (filled a ∷ f) = filled a ∷ rebound (later_bounds bs) f

pub slots_rebound : (bs cs : PlainBounds) (ts : List (Option Ty)) → slots bs ts ≡ rebound bs (slots cs ts)
slots_rebound bs cs [] = refl
slots_rebound bs cs (None ∷ ts) = ap (λ f. open_slot (first_bound bs) ∷ f) (slots_rebound (later_bounds bs) (later_bounds cs) ts)
slots_rebound bs cs (Some t ∷ ts) = ap (λ f. filled (Plain (plain t)) ∷ f) (slots_rebound (later_bounds bs) (later_bounds cs) ts)

length_rebound : (bs : PlainBounds) (f : Found) → length (rebound bs f) ≡ length f
length_rebound bs [] = refl
length_rebound bs (open_slot b ∷ f) = ap suc (length_rebound (later_bounds bs) f)
length_rebound bs (filled a ∷ f) = ap suc (length_rebound (later_bounds bs) f)

missing_rebound : (bs : PlainBounds) (f : Found) (k : ℕ) → is_missing (rebound bs f) k ≡ is_missing f k
missing_rebound bs [] k = refl
missing_rebound bs (open_slot b ∷ f) zero = refl
missing_rebound bs (filled a ∷ f) zero = refl
missing_rebound bs (open_slot b ∷ f) (suc k) = missing_rebound (later_bounds bs) f k
missing_rebound bs (filled a ∷ f) (suc k) = missing_rebound (later_bounds bs) f k

set_rebound : (bs : PlainBounds) (f : Found) (k : ℕ) (a : PlainArg) → rebound bs (set f k (filled a)) ≡ set (rebound bs f) k (filled a)
set_rebound bs [] k a = refl
set_rebound bs (open_slot b ∷ f) zero a = refl
set_rebound bs (filled x ∷ f) zero a = refl
set_rebound bs (open_slot b ∷ f) (suc k) a = ap (λ f. open_slot (first_bound bs) ∷ f) (set_rebound (later_bounds bs) f k a)
set_rebound bs (filled x ∷ f) (suc k) a = ap (λ f. filled x ∷ f) (set_rebound (later_bounds bs) f k a)

variable_rebound : (bs : PlainBounds) (f : Found) (j : ℕ) → is_missing_variable (rebound bs f) j ≡ is_missing_variable f j
variable_rebound bs f j =
    ap (λ n. nat_lt j n && is_missing (rebound bs f) (n - 1 - j)) (length_rebound bs f)
    ∙ ap (λ b. nat_lt j (length f) && b) (missing_rebound bs f (length f - 1 - j))

find_rebound : (bs : PlainBounds) (d i : ℕ) (g : PlainType) (f : Found) → rebound bs (find d i g f) ≡ find d i g (rebound bs f)
find_rebound bs d i g f =
    go (nat_le d i && (is_missing_variable f (i - d) && not (mentions_innermost d g)))
    ∙ sym (ap (λ n. if nat_le d i && (is_missing_variable f (i - d) && not (mentions_innermost d g)) then set (rebound bs f) (n - 1 - (i - d)) (filled (Plain (lowered d g))) else rebound bs f) (length_rebound bs f))
    ∙ sym (ap (λ b. if nat_le d i && (b && not (mentions_innermost d g)) then set (rebound bs f) (length (rebound bs f) - 1 - (i - d)) (filled (Plain (lowered d g))) else rebound bs f) (variable_rebound bs f (i - d)))
  where
    go : (b : Bool) → rebound bs (if b then set f (length f - 1 - (i - d)) (filled (Plain (lowered d g))) else f) ≡ (if b then set (rebound bs f) (length f - 1 - (i - d)) (filled (Plain (lowered d g))) else rebound bs f)
    go true = set_rebound bs f (length f - 1 - (i - d)) (Plain (lowered d g))
    go false = refl

-- the same of the forms of a type, where it holds of what they go on with
either_rebound : (bs : PlainBounds) (b : Bool) (x y f : Found) → rebound bs x ≡ y → rebound bs (if b then x else f) ≡ (if b then y else rebound bs f)
either_rebound bs true x y f h = h
either_rebound bs false x y f h = refl

channel_rebound : (bs : PlainBounds) (x : PlainType) (k l : PlainType → Found) (f : Found) → ((u : PlainType) → rebound bs (k u) ≡ l u) → rebound bs (match_channel x k f) ≡ match_channel x l (rebound bs f)
channel_rebound bs (Chan m u) k l f h = h u
channel_rebound bs _ k l f h = refl

recursive_rebound : (bs : PlainBounds) (x : PlainType) (k l : PlainType → Found) (f : Found) → ((u : PlainType) → rebound bs (k u) ≡ l u) → rebound bs (match_recursive x k f) ≡ match_recursive x l (rebound bs f)
recursive_rebound bs (Rec u) k l f h = h u
recursive_rebound bs _ k l f h = refl

applied_rebound : (bs : PlainBounds) (x : PlainType) (k l : ℕ → PlainTypes → Found) (f : Found) → ((j : ℕ) (us : PlainTypes) → rebound bs (k j us) ≡ l j us) → rebound bs (match_applied x k f) ≡ match_applied x l (rebound bs f)
applied_rebound bs (Apply j us) k l f h = h j us
applied_rebound bs _ k l f h = refl

record_rebound : (bs : PlainBounds) (x : PlainType) (k l : PlainBounds → PlainTypes → PlainLabels → Found) (f : Found) → ((cs : PlainBounds) (us : PlainTypes) (ms : PlainLabels) → rebound bs (k cs us ms) ≡ l cs us ms) → rebound bs (match_record x k f) ≡ match_record x l (rebound bs f)
record_rebound bs (Fields cs us ms) k l f h = h cs us ms
record_rebound bs _ k l f h = refl

label_rebound : (bs : PlainBounds) (x : Option PlainType) (k l : PlainType → Found) (f : Found) → ((u : PlainType) → rebound bs (k u) ≡ l u) → rebound bs (match_label x k f) ≡ match_label x l (rebound bs f)
label_rebound bs None k l f h = refl
label_rebound bs (Some u) k l f h = h u

mutual
  matched_rebound : (bs : PlainBounds) (c : TypeContext) (d : ℕ) (w g : PlainType) (f : Found) → rebound bs (matched c d w g f) ≡ matched c d w g (rebound bs f)
  matched_rebound bs c d Top g f = refl
  matched_rebound bs c d Int g f = refl
  matched_rebound bs c d Char g f = refl
  matched_rebound bs c d Str g f = refl
  matched_rebound bs c d Boolean g f = refl
  matched_rebound bs c d (Var i) g f = find_rebound bs d i g f
  matched_rebound bs c d (Apply i ws) g f =
      applied_rebound bs (exposure c g) (λ j us. if is_same_head d (length f) i j then matched_types c d ws us f else f) (λ j us. if is_same_head d (length f) i j then matched_types c d ws us (rebound bs f) else rebound bs f) f (λ j us. either_rebound bs (is_same_head d (length f) i j) _ _ f (types_rebound bs c d ws us f))
      ∙ sym (ap (λ n. match_applied (exposure c g) (λ j us. if is_same_head d n i j then matched_types c d ws us (rebound bs f) else rebound bs f) (rebound bs f)) (length_rebound bs f))
  matched_rebound bs c d (Chan m w) g f = channel_rebound bs (exposure c g) (λ u. matched c d w u f) (λ u. matched c d w u (rebound bs f)) f (λ u. matched_rebound bs c d w u f)
  matched_rebound bs c d (Fields b ws ls) g f =
      record_rebound bs (exposure c g) _ _ f (λ cs us ms. either_rebound bs (nat_eq (count_bounds b) (count_bounds cs) && nat_eq (count_types ws) (count_types us)) _ _ f (
      labels_rebound bs (under c cs) (d + count_bounds b) ls ms (matched_types (under c cs) (d + count_bounds b) ws us (matched_bounds c d b cs f))
      ∙ ap (matched_labels (under c cs) (d + count_bounds b) ls ms) (types_rebound bs (under c cs) (d + count_bounds b) ws us (matched_bounds c d b cs f)
      ∙ ap (matched_types (under c cs) (d + count_bounds b) ws us) (bounds_rebound bs c d b cs f))))
  matched_rebound bs c d (Rec w) g f = recursive_rebound bs (exposure c g) (λ u. matched (Free ∷ c) (suc d) w u f) (λ u. matched (Free ∷ c) (suc d) w u (rebound bs f)) f (λ u. matched_rebound bs (Free ∷ c) (suc d) w u f)

  types_rebound : (bs : PlainBounds) (c : TypeContext) (d : ℕ) (ws gs : PlainTypes) (f : Found) → rebound bs (matched_types c d ws gs f) ≡ matched_types c d ws gs (rebound bs f)
  types_rebound bs c d no_type gs f = refl
  types_rebound bs c d (types w ws) no_type f = refl
  types_rebound bs c d (types w ws) (types g gs) f = types_rebound bs c d ws gs (matched c d w g f) ∙ ap (matched_types c d ws gs) (matched_rebound bs c d w g f)

  labels_rebound : (bs : PlainBounds) (c : TypeContext) (d : ℕ) (ls ms : PlainLabels) (f : Found) → rebound bs (matched_labels c d ls ms f) ≡ matched_labels c d ls ms (rebound bs f)
  labels_rebound bs c d no_label ms f = refl
  labels_rebound bs c d (labels l w ls) ms f =
      labels_rebound bs c d ls ms (match_label (type_at l ms) (λ g. matched c d w g f) f)
      ∙ ap (matched_labels c d ls ms) (label_rebound bs (type_at l ms) (λ g. matched c d w g f) (λ g. matched c d w g (rebound bs f)) f (λ g. matched_rebound bs c d w g f))

  bounds_rebound : (bs : PlainBounds) (c : TypeContext) (d : ℕ) (ws gs : PlainBounds) (f : Found) → rebound bs (matched_bounds c d ws gs f) ≡ matched_bounds c d ws gs (rebound bs f)
  bounds_rebound bs c d no_bound gs f = refl
  bounds_rebound bs c d (bounds w ws) no_bound f = refl
  bounds_rebound bs c d (bounds w ws) (bounds g gs) f = bounds_rebound bs (g ∷ c) (suc d) ws gs (matched_bound c d w g f) ∙ ap (matched_bounds (g ∷ c) (suc d) ws gs) (bound_rebound bs c d w g f)

  bound_rebound : (bs : PlainBounds) (c : TypeContext) (d : ℕ) (w g : PlainBound) (f : Found) → rebound bs (matched_bound c d w g f) ≡ matched_bound c d w g (rebound bs f)
  bound_rebound bs c d (Below w) (Below g) f = matched_rebound bs c d w g f
  bound_rebound bs c d (Below w) Free f = refl
  bound_rebound bs c d (Below w) (Operator n) f = refl
  bound_rebound bs c d Free g f = refl
  bound_rebound bs c d (Operator n) g f = refl

-- a part is a part with other bounds too: what stands at a place hangs on the bound at that place alone
abbrev bound_in : PlainBounds → ℕ → PlainBound
bound_in bs zero = first_bound bs
bound_in bs (suc i) = bound_in (later_bounds bs) i

abbrev slot_with : PlainBound → Option Slot → Option Slot
slot_with b None = None
slot_with b (Some (open_slot x)) = Some (open_slot b)
slot_with b (Some (filled a)) = Some (filled a)

slot_rebound : (bs : PlainBounds) (f : Found) (i : ℕ) → slice_get (rebound bs f) i ≡ slot_with (bound_in bs i) (slice_get f i)
slot_rebound bs [] i = refl
slot_rebound bs (open_slot b ∷ f) zero = refl
slot_rebound bs (filled a ∷ f) zero = refl
slot_rebound bs (open_slot b ∷ f) (suc i) = slot_rebound (later_bounds bs) f i
slot_rebound bs (filled a ∷ f) (suc i) = slot_rebound (later_bounds bs) f i

partly_rebound : (bs : PlainBounds) {f t h : Found} → IsPartly f t h → IsPartly (rebound bs f) (rebound bs t) (rebound bs h)
partly_rebound bs {f} {t} {h} p = record { each = λ i. by i (p.each i) }
  where
    same : (x : Found) (i : ℕ) → slice_get h i ≡ slice_get x i → slice_get (rebound bs h) i ≡ slice_get (rebound bs x) i
    same x i e = slot_rebound bs h i ∙ ap (slot_with (bound_in bs i)) e ∙ sym (slot_rebound bs x i)

    by : (i : ℕ) → (slice_get h i ≡ slice_get f i) ⊎ (slice_get h i ≡ slice_get t i) → (slice_get (rebound bs h) i ≡ slice_get (rebound bs f) i) ⊎ (slice_get (rebound bs h) i ≡ slice_get (rebound bs t) i)
    by i (inl e) = inl (same f i e)
    by i (inr e) = inr (same t i e)

-- what is found without the bounds is found with them
module _ (c : TypeContext) (d : ℕ) (w g : PlainType) (old new : List (Option Ty)) (bs : PlainBounds) where
  all_rebound : rebound bs (matched c d w g (slots no_bound old)) ≡ matched c d w g (slots bs old)
  all_rebound = matched_rebound bs c d w g (slots no_bound old) ∙ ap (matched c d w g) (sym (slots_rebound bs no_bound old))

  pub with_bounds : (r : Result (Unit {0}) AllocError) → Finds r (matched c d w g) (slots no_bound old) (slots no_bound new) → Finds r (matched c d w g) (slots bs old) (slots bs new)
  with_bounds (Ok x) h = slots_rebound bs no_bound new ∙ ap (rebound bs) h ∙ all_rebound
  with_bounds (Err e) h =
      let there = partly_rebound bs h in
      let old_there = subst (λ x. IsPartly x (rebound bs (matched c d w g (slots no_bound old))) (rebound bs (slots no_bound new))) (sym (slots_rebound bs no_bound old)) there in
      subst₂ (λ x y. IsPartly (slots bs old) x y) all_rebound (sym (slots_rebound bs no_bound new)) old_there
