-- What is found for type fields stays: so a type that mentions nothing missing has one meaning from then on.
use Rattle.std.proofs.Common.{◌≡◌, ℕ, zero, suc, ◌+◌, ◌-◌, nat_eq, nat_lt, nat_le, Bool, true, false, ◌&&◌, not, List, [], ◌∷◌, map, length, Option, Some, None, refl, sym, ◌∙◌, ap, ap₂, subst, arith}
use Rattle.std.specs.Prelude.{if◌then◌else◌, set}
use Rattle.std.proofs.lemmas.Bool.Decides.{nat_tests}
use Rattle.pict_types.specs.Types.{PlainType, Top, Int, Char, Str, Boolean, Var, Apply, Chan, Fields, Rec, PlainTypes, no_type, types, PlainLabels, no_label, labels, PlainBound, Free, Below, Operator, PlainBounds, no_bound, bounds, PlainArg, Plain, Op, TypeContext, under, count_types, count_bounds, type_at}
use Rattle.pict_types.specs.Replacing.{Replacement, with_args, with_arg, no_replacement, type_in, head_in}
use Rattle.pict_types.specs.Mentions.{mentions_innermost, lowered}
use Rattle.pict_types.proofs.Mentioned.{replace_agrees, ReplaceAlikeBut}
use Rattle.pict_sub.specs.Exposing.{exposure}
use Rattle.pict_rules.specs.Found.{Slot, open_slot, filled, Found, is_open, is_missing, is_missing_variable, mentions_missing, argument_in, all_found, with_found, find, is_same_head, match_channel, match_recursive, match_applied, match_record, match_label, matched, matched_types, matched_labels, matched_bounds, matched_bound}
use Rattle.pict_types.specs.AsMarked.{varies_as, VaryAsMarked}
use Rattle.pict_types.specs.Kinds.{kind_by}
use Rattle.pict_rules.specs.Regular.{IsNoOperator, NoOperatorIsFound, kind_of_slot, kinds_found, kinds_of_fields}
use Rattle.pict_rules.proofs.RegularMatched.{head_same, tail_same}
use Rattle.pict_normal.proofs.Used.{and_cases}

-- a type field that is found stays so, and no operator is found for another
abbrev pub SlotStays : Slot → Slot → Type 0
SlotStays (open_slot b) y = IsNoOperator y
SlotStays (filled a) y = y ≡ filled a

abbrev pub Stays : Found → Found → Type 0
Stays [] [] = Unit {0}
Stays [] (y ∷ g) = ⊥
Stays (x ∷ f) [] = ⊥
Stays (x ∷ f) (y ∷ g) = SlotStays x y × Stays f g

slot_same : (x : Slot) → SlotStays x x
slot_same (open_slot b) = tt
slot_same (filled a) = refl

pub stays_same : (f : Found) → Stays f f
stays_same [] = tt
stays_same (x ∷ f) = (slot_same x, stays_same f)

slot_on : (x y z : Slot) → SlotStays x y → SlotStays y z → SlotStays x z
slot_on (open_slot b) (open_slot d) z h k = k
slot_on (open_slot b) (filled a) z h k = subst IsNoOperator (sym k) h
slot_on (filled a) y z h k = subst (λ u. SlotStays u z) h k

pub stays_on : (f g h : Found) → Stays f g → Stays g h → Stays f h
stays_on [] [] [] x y = tt
stays_on [] [] (c ∷ h) x y = absurd y
stays_on [] (b ∷ g) h x y = absurd x
stays_on (a ∷ f) [] h x y = absurd x
stays_on (a ∷ f) (b ∷ g) [] x y = absurd y
stays_on (a ∷ f) (b ∷ g) (c ∷ h) x y = (slot_on a b c x.0 y.0, stays_on f g h x.1 y.1)

slot_no_operator : (x y : Slot) → SlotStays x y → IsNoOperator x → IsNoOperator y
slot_no_operator (open_slot b) y h k = h
slot_no_operator (filled a) y h k = subst IsNoOperator (sym h) k

pub stays_no_operator : (f g : Found) → Stays f g → NoOperatorIsFound f → NoOperatorIsFound g
stays_no_operator [] [] h k = tt
stays_no_operator [] (y ∷ g) h k = absurd h
stays_no_operator (x ∷ f) [] h k = absurd h
stays_no_operator (x ∷ f) (y ∷ g) h k = (slot_no_operator x y h.0 k.0, stays_no_operator f g h.1 k.1)

-- so each argument that is found varies as its field's marks say: its field is no operator
slot_varies : (c : TypeContext) (x : Slot) (b : PlainBound) → is_open x ≡ false → IsNoOperator x → kind_of_slot x ≡ kind_by b → varies_as c (argument_in x) b ≡ true
slot_varies c (open_slot d) b h k q = absurd cc
slot_varies c (filled (Op n t)) b h k q = absurd k
slot_varies c (filled (Plain t)) Free h k q = refl
slot_varies c (filled (Plain t)) (Below u) h k q = refl
slot_varies c (filled (Plain t)) (Operator ms) h k q = absurd cc

pub found_vary : (c : TypeContext) (f : Found) (bs : PlainBounds) → all_found f ≡ true → NoOperatorIsFound f → kinds_found f ≡ kinds_of_fields bs → VaryAsMarked c (map argument_in f) bs
found_vary c [] bs h k q = tt
found_vary c (x ∷ f) no_bound h k q = tt
found_vary c (x ∷ f) (bounds b bs) h k q =
    let y = and_cases (not (is_open x)) (all_found f) h in
    (slot_varies c x b (none_open (is_open x) y.0) k.0 (head_same q), found_vary c f bs y.1 k.1 (tail_same q))
  where
    none_open : (b : Bool) → not b ≡ true → b ≡ false
    none_open true e = absurd cc
    none_open false e = refl

-- ---- one meaning

-- the variables that are missing, under the type fields
abbrev first_missing : Bool → (ℕ → Bool) → ℕ → Bool
first_missing b p zero = b
first_missing b p (suc i) = p i

abbrev missing_after : Found → (ℕ → Bool) → ℕ → Bool
missing_after [] p = p
missing_after (x ∷ f) p = missing_after f (first_missing (is_open x) p)

missing_past : (f : Found) (p : ℕ → Bool) (i : ℕ) → missing_after f p (i + length f) ≡ p i
missing_past [] p i = let e : i + 0 ≡ i = omega arith in ap p e
missing_past (x ∷ f) p i = let e : i + suc (length f) ≡ suc i + length f = omega arith in ap (missing_after f (first_missing (is_open x) p)) e ∙ missing_past f (first_missing (is_open x) p) (suc i)

missing_inside : (f : Found) (p : ℕ → Bool) (i j : ℕ) → i + suc j ≡ length f → missing_after f p i ≡ is_missing f j
missing_inside [] p i j h = absurd (omega (arith, h))
missing_inside (x ∷ f) p i zero h =
    let e : i ≡ 0 + length f = omega (arith, h) in
    ap (missing_after f (first_missing (is_open x) p)) e ∙ missing_past f (first_missing (is_open x) p) 0
missing_inside (x ∷ f) p i (suc j) h = missing_inside f (first_missing (is_open x) p) i j (omega (arith, h))

data Side (n : ℕ) (i : ℕ) : Type 0 where
  inside : (j : ℕ) → i + suc j ≡ n → Side n i
  outside : (j : ℕ) → i ≡ j + n → Side n i

side : (n i : ℕ) → Side n i
side zero i = outside i (omega arith)
side (suc n) zero = inside n (omega arith)
side (suc n) (suc i) = go (side n i)
  where
    go : Side n i → Side (suc n) (suc i)
    go (inside j h) = inside j (omega (arith, h))
    go (outside j h) = outside j (omega (arith, h))

same_missing : (f : Found) (i : ℕ) → missing_after f (λ j. false) i ≡ is_missing_variable f i
same_missing f i = go (side (length f) i)
  where
    go : Side (length f) i → missing_after f (λ j. false) i ≡ is_missing_variable f i
    go (inside j h) =
        let e : nat_lt i (length f) ≡ true = grind (arith, nat_tests, h) in
        let k : length f - 1 - i ≡ j = omega (arith, h) in
        missing_inside f (λ z. false) i j h ∙ ap (is_missing f) (sym k) ∙ ap (λ b. b && is_missing f (length f - 1 - i)) (sym e)
    go (outside j h) =
        let e : nat_lt i (length f) ≡ false = grind (arith, nat_tests, h) in
        ap (missing_after f (λ z. false)) h ∙ missing_past f (λ z. false) j ∙ ap (λ b. b && is_missing f (length f - 1 - i)) (sym e)

agree_arg : (p : ℕ → Bool) (r q : Replacement) (x y : Slot) → SlotStays x y → ReplaceAlikeBut p r q → ReplaceAlikeBut (first_missing (is_open x) p) (with_arg (argument_in x) r) (with_arg (argument_in y) q)
agree_arg p r q x y h k = record { types_ = go; heads_ = go2 }
  where
    same_arg : (x : Slot) → SlotStays x y → is_open x ≡ false → argument_in x ≡ argument_in y
    same_arg (open_slot b) h e = absurd cc
    same_arg (filled a) h e = ap argument_in (sym h)

    go : (i : ℕ) → first_missing (is_open x) p i ≡ false → (with_arg (argument_in x) r).type_of i ≡ (with_arg (argument_in y) q).type_of i
    go zero e = ap type_in (same_arg x h e)
    go (suc i) e = k.types_ i e

    go2 : (i : ℕ) → first_missing (is_open x) p i ≡ false → (with_arg (argument_in x) r).head_of i ≡ (with_arg (argument_in y) q).head_of i
    go2 zero e = ap head_in (same_arg x h e)
    go2 (suc i) e = k.heads_ i e

agree_args : (p : ℕ → Bool) (r q : Replacement) (f g : Found) → Stays f g → ReplaceAlikeBut p r q → ReplaceAlikeBut (missing_after f p) (with_args (map argument_in f) r) (with_args (map argument_in g) q)
agree_args p r q [] [] h k = k
agree_args p r q [] (y ∷ g) h k = absurd h
agree_args p r q (x ∷ f) [] h k = absurd h
agree_args p r q (x ∷ f) (y ∷ g) h k = agree_args (first_missing (is_open x) p) (with_arg (argument_in x) r) (with_arg (argument_in y) q) f g h.1 (agree_arg p r q x y h.0 k)

pub found_same : (f g : Found) (t : PlainType) → Stays f g → mentions_missing f t ≡ false → with_found f t ≡ with_found g t
found_same f g t h m =
    let k = agree_args (λ i. false) no_replacement no_replacement f g h (record { types_ = λ i e. refl; heads_ = λ i e. refl }) in
    replace_agrees {p = is_missing_variable f} t (record { types_ = λ i e. k.types_ i (same_missing f i ∙ e); heads_ = λ i e. k.heads_ i (same_missing f i ∙ e) }) m

-- ---- arguments

-- where all are given, all stay
pub given_stay : (args : List PlainArg) (g : Found) → Stays (map filled args) g → map argument_in g ≡ args
given_stay [] [] h = refl
given_stay [] (y ∷ g) h = absurd h
given_stay (a ∷ args) [] h = absurd h
given_stay (a ∷ args) (y ∷ g) h = ap₂ (λ x xs. x ∷ xs) (ap argument_in h.0) (given_stay args g h.1)

-- ---- matching

set_stays : (f : Found) (n : ℕ) (x : Slot) → IsNoOperator x → is_missing f n ≡ true → Stays f (set f n x)
set_stays [] n x o h = absurd cc
set_stays (filled a ∷ f) zero x o h = absurd cc
set_stays (open_slot b ∷ f) zero x o h = (o, stays_same f)
set_stays (y ∷ f) (suc n) x o h = (slot_same y, set_stays f n x o h)

find_stays : (d i : ℕ) (g : PlainType) (f : Found) → Stays f (find d i g f)
find_stays d i g f = go (nat_le d i && (is_missing_variable f (i - d) && not (mentions_innermost d g))) refl
  where
    there : (nat_le d i && (is_missing_variable f (i - d) && not (mentions_innermost d g))) ≡ true → is_missing f (length f - 1 - (i - d)) ≡ true
    there q = (and_cases (nat_lt (i - d) (length f)) _ (and_cases (is_missing_variable f (i - d)) _ (and_cases (nat_le d i) _ q).1).0).1

    go : (b : Bool) → (nat_le d i && (is_missing_variable f (i - d) && not (mentions_innermost d g))) ≡ b → Stays f (if b then set f (length f - 1 - (i - d)) (filled (Plain (lowered d g))) else f)
    go true q = set_stays f (length f - 1 - (i - d)) (filled (Plain (lowered d g))) tt (there q)
    go false q = stays_same f

in_channel : (P : Found → Type 0) (t : PlainType) (k : PlainType → Found) (f : Found) → ((u : PlainType) → P (k u)) → P f → P (match_channel t k f)
in_channel P Top k f h x = x
in_channel P Int k f h x = x
in_channel P Char k f h x = x
in_channel P Str k f h x = x
in_channel P Boolean k f h x = x
in_channel P (Var i) k f h x = x
in_channel P (Apply i ts) k f h x = x
in_channel P (Chan m t) k f h x = h t
in_channel P (Fields bs ps ls) k f h x = x
in_channel P (Rec t) k f h x = x

in_recursive : (P : Found → Type 0) (t : PlainType) (k : PlainType → Found) (f : Found) → ((u : PlainType) → P (k u)) → P f → P (match_recursive t k f)
in_recursive P Top k f h x = x
in_recursive P Int k f h x = x
in_recursive P Char k f h x = x
in_recursive P Str k f h x = x
in_recursive P Boolean k f h x = x
in_recursive P (Var i) k f h x = x
in_recursive P (Apply i ts) k f h x = x
in_recursive P (Chan m t) k f h x = x
in_recursive P (Fields bs ps ls) k f h x = x
in_recursive P (Rec t) k f h x = h t

in_applied : (P : Found → Type 0) (t : PlainType) (k : ℕ → PlainTypes → Found) (f : Found) → ((j : ℕ) (us : PlainTypes) → P (k j us)) → P f → P (match_applied t k f)
in_applied P Top k f h x = x
in_applied P Int k f h x = x
in_applied P Char k f h x = x
in_applied P Str k f h x = x
in_applied P Boolean k f h x = x
in_applied P (Var i) k f h x = x
in_applied P (Apply i ts) k f h x = h i ts
in_applied P (Chan m t) k f h x = x
in_applied P (Fields bs ps ls) k f h x = x
in_applied P (Rec t) k f h x = x

in_record : (P : Found → Type 0) (t : PlainType) (k : PlainBounds → PlainTypes → PlainLabels → Found) (f : Found) → ((bs : PlainBounds) (ps : PlainTypes) (ls : PlainLabels) → P (k bs ps ls)) → P f → P (match_record t k f)
in_record P Top k f h x = x
in_record P Int k f h x = x
in_record P Char k f h x = x
in_record P Str k f h x = x
in_record P Boolean k f h x = x
in_record P (Var i) k f h x = x
in_record P (Apply i ts) k f h x = x
in_record P (Chan m t) k f h x = x
in_record P (Fields bs ps ls) k f h x = h bs ps ls
in_record P (Rec t) k f h x = x

one_way : (P : Found → Type 0) (b : Bool) {x y : Found} → P x → P y → P (if b then x else y)
one_way P true h k = h
one_way P false h k = k

label_given : (P : Found → Type 0) (o : Option PlainType) (k : PlainType → Found) (f : Found) → ((u : PlainType) → P (k u)) → P f → P (match_label o k f)
label_given P None k f h x = x
label_given P (Some t) k f h x = h t

mutual
  pub matched_stays : (c : TypeContext) (d : ℕ) (w g : PlainType) (f : Found) → Stays f (matched c d w g f)
  matched_stays c d Top g f = stays_same f
  matched_stays c d Int g f = stays_same f
  matched_stays c d Char g f = stays_same f
  matched_stays c d Str g f = stays_same f
  matched_stays c d Boolean g f = stays_same f
  matched_stays c d (Var i) g f = find_stays d i g f
  matched_stays c d (Apply i ws) g f = in_applied (Stays f) (exposure c g) _ f (λ j us. one_way (Stays f) (is_same_head d (length f) i j) (types_stay c d ws us f) (stays_same f)) (stays_same f)
  matched_stays c d (Chan m w) g f = in_channel (Stays f) (exposure c g) _ f (λ u. matched_stays c d w u f) (stays_same f)
  matched_stays c d (Fields bs ws ls) g f =
      in_record (Stays f) (exposure c g) _ f (λ cs us ms. one_way (Stays f) (nat_eq (count_bounds bs) (count_bounds cs) && nat_eq (count_types ws) (count_types us))
      (three (matched_bounds c d bs cs f) (matched_types (under c cs) (d + count_bounds bs) ws us (matched_bounds c d bs cs f)) _ (bounds_stay c d bs cs f) (types_stay (under c cs) (d + count_bounds bs) ws us (matched_bounds c d bs cs f)) (labels_stay (under c cs) (d + count_bounds bs) ls ms (matched_types (under c cs) (d + count_bounds bs) ws us (matched_bounds c d bs cs f))))
      (stays_same f)) (stays_same f)
    where
      three : (g h i : Found) → Stays f g → Stays g h → Stays h i → Stays f i
      three g h i x y z = stays_on f g i x (stays_on g h i y z)
  matched_stays c d (Rec w) g f = in_recursive (Stays f) (exposure c g) _ f (λ u. matched_stays (Free ∷ c) (suc d) w u f) (stays_same f)

  types_stay : (c : TypeContext) (d : ℕ) (ws gs : PlainTypes) (f : Found) → Stays f (matched_types c d ws gs f)
  types_stay c d no_type gs f = stays_same f
  types_stay c d (types w ws) no_type f = stays_same f
  types_stay c d (types w ws) (types g gs) f = stays_on f (matched c d w g f) _ (matched_stays c d w g f) (types_stay c d ws gs (matched c d w g f))

  labels_stay : (c : TypeContext) (d : ℕ) (ls ms : PlainLabels) (f : Found) → Stays f (matched_labels c d ls ms f)
  labels_stay c d no_label ms f = stays_same f
  labels_stay c d (labels l w ls) ms f = stays_on f (match_label (type_at l ms) (λ g. matched c d w g f) f) _ (label_given (Stays f) (type_at l ms) (λ g. matched c d w g f) f (λ u. matched_stays c d w u f) (stays_same f)) (labels_stay c d ls ms _)

  bounds_stay : (c : TypeContext) (d : ℕ) (bs gs : PlainBounds) (f : Found) → Stays f (matched_bounds c d bs gs f)
  bounds_stay c d no_bound gs f = stays_same f
  bounds_stay c d (bounds b bs) no_bound f = stays_same f
  bounds_stay c d (bounds b bs) (bounds g gs) f = stays_on f (matched_bound c d b g f) _ (bound_stays c d b g f) (bounds_stay (g ∷ c) (suc d) bs gs (matched_bound c d b g f))

  bound_stays : (c : TypeContext) (d : ℕ) (b g : PlainBound) (f : Found) → Stays f (matched_bound c d b g f)
  bound_stays c d Free g f = stays_same f
  bound_stays c d (Operator n) g f = stays_same f
  bound_stays c d (Below w) Free f = stays_same f
  bound_stays c d (Below w) (Operator n) f = stays_same f
  bound_stays c d (Below w) (Below g) f = matched_stays c d w g f
