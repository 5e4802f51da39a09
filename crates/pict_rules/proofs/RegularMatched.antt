-- Matching finds types that are well formed outside the type fields, for type fields of kind `Type` alone.
use Rattle.std.proofs.Common.{◌≡◌, ℕ, zero, suc, ◌+◌, ◌-◌, ◌≤◌, ◌<◌, nat_eq, nat_lt, nat_le, if◌then◌else◌, Bool, true, false, ◌&&◌, not, List, [], ◌∷◌, ◌++◌, length, Some, refl, sym, ◌∙◌, ap, subst, arith, eqb-true}
use Rattle.std.specs.Prelude.{set}
use Rattle.std.proofs.lemmas.Bool.{ltb-true, leb-true}
use Rattle.pict_types.specs.Types.{PlainType, Top, Int, Char, Str, Boolean, Var, Apply, Chan, Fields, Rec, PlainTypes, no_type, types, PlainLabels, no_label, labels, PlainBound, Free, Below, Operator, PlainBounds, no_bound, bounds, Plain, TypeContext, under, count_types, count_bounds, type_at}
use Rattle.pict_types.specs.Kinds.{Kind, proper, kind_by, kind_at, kinds, kinds_under, IsWellFormed, AreWellFormed, LabelsAreWellFormed, BoundIsWellFormed, BoundsAreWellFormed, ContextIsWellFormed}
use Rattle.pict_types.specs.Mentions.{mentions_innermost, lowered}
use Rattle.pict_types.proofs.Mentioned.{lowered_formed}
use Rattle.pict_sub.specs.Exposing.{exposure}
use Rattle.pict_sub.proofs.Followed.{exposure_formed}
use Rattle.pict_rules.specs.Found.{open_slot, filled, Found, is_missing, is_missing_variable, find, is_same_head, match_channel, match_recursive, match_applied, match_record, match_label, matched, matched_types, matched_labels, matched_bounds, matched_bound}
use Rattle.pict_rules.specs.Environments.{Environment}
use Rattle.pict_rules.specs.Regular.{kinds_in, kind_of_slot, kinds_found, kinds_within, FoundFits, NoOperatorIsFound}
use Rattle.pict_types.proofs.Contexts.{formed_under, kinds_under_is}
use Rattle.pict_normal.proofs.Used.{and_cases}

-- what is kept: the kinds of the type fields, that what is found is written outside them, and that no operator is
pub record Keeps (e : Environment) (f h : Found) : Type 0 where
  pub kinds_ : kinds_found h ≡ kinds_found f
  pub fits : FoundFits e h
  pub no_operator : NoOperatorIsFound f → NoOperatorIsFound h

abbrev pub kind_list : List Kind → List Kind
kind_list ks = ks

pub head_same : {k l : Kind} {ks ls : List Kind} → kind_list (k ∷ ks) ≡ l ∷ ls → k ≡ l
head_same e = cc

pub tail_same : {k l : Kind} {ks ls : List Kind} → kind_list (k ∷ ks) ≡ l ∷ ls → ks ≡ ls
tail_same e = cc

pub within_same : (ks : List Kind) (f g : Found) → kinds_found f ≡ kinds_found g → kinds_within ks f ≡ kinds_within ks g
within_same ks [] [] h = refl
within_same ks [] (y ∷ g) h = absurd cc
within_same ks (x ∷ f) [] h = absurd cc
within_same ks (x ∷ f) (y ∷ g) h = within_same (kind_of_slot x ∷ ks) f g (tail_same h) ∙ ap (λ k. kinds_within (k ∷ ks) g) (head_same h)

keeps_on : {e : Environment} {f g h : Found} → Keeps e f g → Keeps e g h → Keeps e f h
keeps_on x y = record { kinds_ = y.kinds_ ∙ x.kinds_; fits = y.fits; no_operator = λ z. y.no_operator (x.no_operator z) }

-- the type field that variable j under them is
outer_kind : (ks : List Kind) (f : Found) (j : ℕ) → kind_at (kinds_within ks f) (length f + j) ≡ kind_at ks j
outer_kind ks [] j = let e : 0 + j ≡ j = omega arith in ap (kind_at ks) e
outer_kind ks (x ∷ f) j = let e : length (x ∷ f) + j ≡ length f + suc j = omega arith in ap (kind_at (kinds_within (kind_of_slot x ∷ ks) f)) e ∙ outer_kind (kind_of_slot x ∷ ks) f (suc j)

-- one that is missing, and of kind `Type`, may be filled by a type
fill_last : (e : Environment) (f : Found) (ks : List Kind) (n j : ℕ) (t : PlainType) → n + suc j ≡ length f → is_missing f n ≡ true → kind_at (kinds_within ks f) j ≡ Some proper → FoundFits e f → IsWellFormed e.names (kinds_in e) t → Keeps e f (set f n (filled (Plain t)))
fill_last e [] ks n j t q m k w h = absurd (omega (arith, q))
fill_last e (filled a ∷ f) ks zero j t q m k w h = absurd cc
fill_last e (open_slot b ∷ f) ks zero j t q m k w h =
    let i : j ≡ length f + 0 = omega (arith, q) in
    let p : Some (kind_by b) ≡ Some proper = sym (outer_kind (kind_by b ∷ ks) f 0) ∙ ap (kind_at (kinds_within (kind_by b ∷ ks) f)) (sym i) ∙ k in
    let r : kind_by b ≡ proper = cc in
    record { kinds_ = ap (λ z. z ∷ kinds_found f) (sym r); fits = (h, w.1); no_operator = λ z. (tt, z.1) }
fill_last e (x ∷ f) ks (suc n) j t q m k w h =
    let r = fill_last e f (kind_of_slot x ∷ ks) n j t (omega (arith, q)) m k w.1 h in
    record { kinds_ = ap (λ z. kind_of_slot x ∷ z) r.kinds_; fits = (w.0, r.fits); no_operator = λ z. (z.0, r.no_operator z.1) }

inner_kind : (inner ks : List Kind) (i : ℕ) → length inner ≤ i → kind_at (inner ++ ks) i ≡ kind_at ks (i - length inner)
inner_kind [] ks i h = let e : i - 0 ≡ i = omega arith in ap (kind_at ks) (sym e)
inner_kind (x ∷ inner) ks zero h = absurd (omega (arith, h))
inner_kind (x ∷ inner) ks (suc i) h = let e : i - length inner ≡ suc i - suc (length inner) = omega arith in inner_kind inner ks i (omega (arith, h)) ∙ ap (kind_at ks) e

-- a place of matching: under d inner variables, whose kinds are these for what is given and for what is wanted
record IsPlace (e : Environment) (c : TypeContext) (d : ℕ) (wanted : List Kind) : Type 0 where
  context : ContextIsWellFormed e.names c
  inner : List Kind
  kinds_ : kinds c ≡ inner ++ kinds_in e
  given_ : length inner ≡ d
  wanted_ : length wanted ≡ d

not_true : (b : Bool) → not b ≡ true → b ≡ false
not_true false h = refl
not_true true h = absurd cc

found_one : (e : Environment) (c : TypeContext) (d i : ℕ) (wanted : List Kind) (g : PlainType) (f : Found) → IsPlace e c d wanted → kind_at (wanted ++ kinds_within (kinds_in e) f) i ≡ Some proper → IsWellFormed e.names (kinds c) g → FoundFits e f → (nat_le d i && (is_missing_variable f (i - d) && not (mentions_innermost d g))) ≡ true → Keeps e f (set f (length f - 1 - (i - d)) (filled (Plain (lowered d g))))
found_one e c d i wanted g f p k w h q =
    let a = and_cases (nat_le d i) _ q in
    let b = and_cases (is_missing_variable f (i - d)) _ a.1 in
    let m = and_cases (nat_lt (i - d) (length f)) _ b.0 in
    let low : d ≤ i = leb-true d i a.0 in
    let inside : i - d < length f = ltb-true (i - d) (length f) m.0 in
    let free : mentions_innermost d g ≡ false = not_true (mentions_innermost d g) b.1 in
    let out : IsWellFormed e.names (kinds_in e) (lowered d g) =
    subst (λ n. IsWellFormed e.names (kinds_in e) (lowered n g)) p.given_ (lowered_formed e.names p.inner (kinds_in e) g (subst (λ n. mentions_innermost n g ≡ false) (sym p.given_) free) (subst (λ ks. IsWellFormed e.names ks g) p.kinds_ w)) in
    let at_it : kind_at (kinds_within (kinds_in e) f) (i - d) ≡ Some proper =
    subst (λ n. kind_at (kinds_within (kinds_in e) f) (i - n) ≡ Some proper) p.wanted_ (sym (inner_kind wanted (kinds_within (kinds_in e) f) i (omega (arith, low, p.wanted_))) ∙ k) in
    fill_last e f (kinds_in e) (length f - 1 - (i - d)) (i - d) (lowered d g) (omega (arith, inside)) m.1 at_it h out

find_keeps : (e : Environment) (c : TypeContext) (d i : ℕ) (wanted : List Kind) (g : PlainType) (f : Found) → IsPlace e c d wanted → kind_at (wanted ++ kinds_within (kinds_in e) f) i ≡ Some proper → IsWellFormed e.names (kinds c) g → FoundFits e f → Keeps e f (find d i g f)
find_keeps e c d i wanted g f p k w h = go (nat_le d i && (is_missing_variable f (i - d) && not (mentions_innermost d g))) (found_one e c d i wanted g f p k w h)
  where
    go : (b : Bool) → (b ≡ true → Keeps e f (set f (length f - 1 - (i - d)) (filled (Plain (lowered d g))))) → Keeps e f (if b then set f (length f - 1 - (i - d)) (filled (Plain (lowered d g))) else f)
    go true x = x refl
    go false x = record { kinds_ = refl; fits = h; no_operator = λ z. z }

-- a test, and what is known where it holds
known : (P : Found → Type 0) (b : Bool) {x y : Found} → (b ≡ true → P x) → P y → P (if b then x else y)
known P true h k = h refl
known P false h k = k

-- the form of what is given
at_channel : (P : Found → Type 0) (ns : List (List ℕ)) (ks : List Kind) (t : PlainType) (k : PlainType → Found) (f : Found) → IsWellFormed ns ks t → ((u : PlainType) → IsWellFormed ns ks u → P (k u)) → P f → P (match_channel t k f)
at_channel P ns ks Top k f w h x = x
at_channel P ns ks Int k f w h x = x
at_channel P ns ks Char k f w h x = x
at_channel P ns ks Str k f w h x = x
at_channel P ns ks Boolean k f w h x = x
at_channel P ns ks (Var i) k f w h x = x
at_channel P ns ks (Apply i ts) k f w h x = x
at_channel P ns ks (Chan m t) k f w h x = h t w
at_channel P ns ks (Fields bs ps ls) k f w h x = x
at_channel P ns ks (Rec t) k f w h x = x

at_recursive : (P : Found → Type 0) (ns : List (List ℕ)) (ks : List Kind) (t : PlainType) (k : PlainType → Found) (f : Found) → IsWellFormed ns ks t → ((u : PlainType) → IsWellFormed ns (proper ∷ ks) u → P (k u)) → P f → P (match_recursive t k f)
at_recursive P ns ks Top k f w h x = x
at_recursive P ns ks Int k f w h x = x
at_recursive P ns ks Char k f w h x = x
at_recursive P ns ks Str k f w h x = x
at_recursive P ns ks Boolean k f w h x = x
at_recursive P ns ks (Var i) k f w h x = x
at_recursive P ns ks (Apply i ts) k f w h x = x
at_recursive P ns ks (Chan m t) k f w h x = x
at_recursive P ns ks (Fields bs ps ls) k f w h x = x
at_recursive P ns ks (Rec t) k f w h x = h t w

at_applied : (P : Found → Type 0) (ns : List (List ℕ)) (ks : List Kind) (t : PlainType) (k : ℕ → PlainTypes → Found) (f : Found) → IsWellFormed ns ks t → ((j : ℕ) (us : PlainTypes) → AreWellFormed ns ks us → P (k j us)) → P f → P (match_applied t k f)
at_applied P ns ks Top k f w h x = x
at_applied P ns ks Int k f w h x = x
at_applied P ns ks Char k f w h x = x
at_applied P ns ks Str k f w h x = x
at_applied P ns ks Boolean k f w h x = x
at_applied P ns ks (Var i) k f w h x = x
at_applied P ns ks (Apply i ts) k f w h x = h i ts w.1
at_applied P ns ks (Chan m t) k f w h x = x
at_applied P ns ks (Fields bs ps ls) k f w h x = x
at_applied P ns ks (Rec t) k f w h x = x

at_record : (P : Found → Type 0) (ns : List (List ℕ)) (ks : List Kind) (t : PlainType) (k : PlainBounds → PlainTypes → PlainLabels → Found) (f : Found) → IsWellFormed ns ks t → ((bs : PlainBounds) (ps : PlainTypes) (ls : PlainLabels) → IsWellFormed ns ks (Fields bs ps ls) → P (k bs ps ls)) → P f → P (match_record t k f)
at_record P ns ks Top k f w h x = x
at_record P ns ks Int k f w h x = x
at_record P ns ks Char k f w h x = x
at_record P ns ks Str k f w h x = x
at_record P ns ks Boolean k f w h x = x
at_record P ns ks (Var i) k f w h x = x
at_record P ns ks (Apply i ts) k f w h x = x
at_record P ns ks (Chan m t) k f w h x = x
at_record P ns ks (Fields bs ps ls) k f w h x = h bs ps ls w
at_record P ns ks (Rec t) k f w h x = x

-- further in
under_both : (inner ks : List Kind) (bs : PlainBounds) → kinds_under (inner ++ ks) bs ≡ kinds_under inner bs ++ ks
under_both inner ks no_bound = refl
under_both inner ks (bounds b bs) = under_both (kind_by b ∷ inner) ks bs

under_count : (inner : List Kind) (bs : PlainBounds) → length (kinds_under inner bs) ≡ length inner + count_bounds bs
under_count inner no_bound = omega arith
under_count inner (bounds b bs) = omega (arith, under_count (kind_by b ∷ inner) bs)

one_in : {e : Environment} {c : TypeContext} {d : ℕ} {wanted : List Kind} (b : PlainBound) (k : Kind) → BoundIsWellFormed e.names (kinds c) b → IsPlace e c d wanted → IsPlace e (b ∷ c) (suc d) (k ∷ wanted)
one_in b k h p = record { context = (h, p.context); inner = kind_by b ∷ p.inner; kinds_ = ap (λ z. kind_by b ∷ z) p.kinds_; given_ = ap suc p.given_; wanted_ = ap suc p.wanted_ }

fields_in : {e : Environment} {c : TypeContext} {d : ℕ} {wanted : List Kind} (bs cs : PlainBounds) → count_bounds bs ≡ count_bounds cs → BoundsAreWellFormed e.names (kinds c) cs → IsPlace e c d wanted → IsPlace e (under c cs) (d + count_bounds bs) (kinds_under wanted bs)
fields_in {e = e} {c = c} {wanted = wanted} bs cs n h p = record {
  context = formed_under e.names c cs p.context h;
  inner = kinds_under p.inner cs;
  kinds_ = kinds_under_is c cs ∙ (ap (λ z. kinds_under z cs) p.kinds_ ∙ under_both p.inner (kinds_in e) cs);
  given_ = omega (arith, under_count p.inner cs, p.given_, n);
  wanted_ = omega (arith, under_count wanted bs, p.wanted_);
}

still : {e : Environment} {f g : Found} → Keeps e f g → (wanted : List Kind) → wanted ++ kinds_within (kinds_in e) f ≡ wanted ++ kinds_within (kinds_in e) g
still {e = e} {f = f} {g = g} x wanted = ap (λ z. wanted ++ z) (sym (within_same (kinds_in e) g f x.kinds_))

unchanged : {e : Environment} (f : Found) → FoundFits e f → Keeps e f f
unchanged f h = record { kinds_ = refl; fits = h; no_operator = λ z. z }

label_at : (P : Found → Type 0) (ns : List (List ℕ)) (ks : List Kind) (l : ℕ) (ms : PlainLabels) (k : PlainType → Found) (f : Found) → LabelsAreWellFormed ns ks ms → ((u : PlainType) → IsWellFormed ns ks u → P (k u)) → P f → P (match_label (type_at l ms) k f)
label_at P ns ks l no_label k f w h x = x
label_at P ns ks l (labels m t ms) k f w h x = go (nat_eq l m) (label_at P ns ks l ms k f w.1.1 h x)
  where
    go : (b : Bool) → P (match_label (type_at l ms) k f) → P (match_label (if b then Some t else type_at l ms) k f)
    go true r = h t w.1.0
    go false r = r

-- the parts of two records one after the other, where each part keeps what is kept
fields_keep : (e : Environment) (c : TypeContext) (d : ℕ) (wanted : List Kind) (bs : PlainBounds) (ws : PlainTypes) (ls : PlainLabels) (cs : PlainBounds) (us : PlainTypes) (ms : PlainLabels) (f : Found) → IsPlace e c d wanted → count_bounds bs ≡ count_bounds cs → IsWellFormed e.names (wanted ++ kinds_within (kinds_in e) f) (Fields bs ws ls) → IsWellFormed e.names (kinds c) (Fields cs us ms) → Keeps e f (matched_bounds c d bs cs f) → ((g : Found) → IsPlace e (under c cs) (d + count_bounds bs) (kinds_under wanted bs) → AreWellFormed e.names (kinds_under wanted bs ++ kinds_within (kinds_in e) g) ws → AreWellFormed e.names (kinds (under c cs)) us → FoundFits e g → Keeps e g (matched_types (under c cs) (d + count_bounds bs) ws us g)) → ((g : Found) → IsPlace e (under c cs) (d + count_bounds bs) (kinds_under wanted bs) → LabelsAreWellFormed e.names (kinds_under wanted bs ++ kinds_within (kinds_in e) g) ls → LabelsAreWellFormed e.names (kinds (under c cs)) ms → FoundFits e g → Keeps e g (matched_labels (under c cs) (d + count_bounds bs) ls ms g)) → Keeps e f (matched_labels (under c cs) (d + count_bounds bs) ls ms (matched_types (under c cs) (d + count_bounds bs) ws us (matched_bounds c d bs cs f)))
fields_keep e c d wanted bs ws ls cs us ms f p n x y one types_ labels_ =
    let q = fields_in bs cs n y.0 p in
    let parts : kinds_under (wanted ++ kinds_within (kinds_in e) f) bs ≡ kinds_under wanted bs ++ kinds_within (kinds_in e) f = under_both wanted (kinds_within (kinds_in e) f) bs in
    let us2 = subst (λ z. AreWellFormed e.names z us) (sym (kinds_under_is c cs)) y.1.0 in
    let ms2 = subst (λ z. LabelsAreWellFormed e.names z ms) (sym (kinds_under_is c cs)) y.1.1 in
    let two = types_ (matched_bounds c d bs cs f) q (subst (λ z. AreWellFormed e.names z ws) (parts ∙ still one (kinds_under wanted bs)) x.1.0) us2 one.fits in
    let both = keeps_on one two in
    keeps_on both (labels_ _ q (subst (λ z. LabelsAreWellFormed e.names z ls) (parts ∙ still both (kinds_under wanted bs)) x.1.1) ms2 both.fits)

mutual
  matched_keeps : (e : Environment) (c : TypeContext) (d : ℕ) (wanted : List Kind) (w g : PlainType) (f : Found) → IsPlace e c d wanted → IsWellFormed e.names (wanted ++ kinds_within (kinds_in e) f) w → IsWellFormed e.names (kinds c) g → FoundFits e f → Keeps e f (matched c d w g f)
  matched_keeps e c d wanted Top g f p x y h = unchanged f h
  matched_keeps e c d wanted Int g f p x y h = unchanged f h
  matched_keeps e c d wanted Char g f p x y h = unchanged f h
  matched_keeps e c d wanted Str g f p x y h = unchanged f h
  matched_keeps e c d wanted Boolean g f p x y h = unchanged f h
  matched_keeps e c d wanted (Var i) g f p x y h = find_keeps e c d i wanted g f p x y h
  matched_keeps e c d wanted (Apply i ws) g f p x y h =
      at_applied (Keeps e f) e.names (kinds c) (exposure c g) _ f (exposure_formed e.names c g p.context y) (λ j us z.
      known (Keeps e f) (is_same_head d (length f) i j) (λ q. types_keep e c d wanted ws us f p x.1 z h) (unchanged f h)) (unchanged f h)
  matched_keeps e c d wanted (Chan m w) g f p x y h =
      at_channel (Keeps e f) e.names (kinds c) (exposure c g) _ f (exposure_formed e.names c g p.context y) (λ u z. matched_keeps e c d wanted w u f p x z h) (unchanged f h)
  matched_keeps e c d wanted (Fields bs ws ls) g f p x y h =
      at_record (Keeps e f) e.names (kinds c) (exposure c g) _ f (exposure_formed e.names c g p.context y) (λ cs us ms z.
      known (Keeps e f) (nat_eq (count_bounds bs) (count_bounds cs) && nat_eq (count_types ws) (count_types us)) (λ q.
      fields_keep e c d wanted bs ws ls cs us ms f p (eqb-true (count_bounds bs) (count_bounds cs) (and_cases (nat_eq (count_bounds bs) (count_bounds cs)) _ q).0) x z
      (bounds_keep e c d wanted bs cs f p x.0 z.0 h)
      (λ k r u v w. types_keep e (under c cs) (d + count_bounds bs) (kinds_under wanted bs) ws us k r u v w)
      (λ k r u v w. labels_keep e (under c cs) (d + count_bounds bs) (kinds_under wanted bs) ls ms k r u v w)) (unchanged f h)) (unchanged f h)
  matched_keeps e c d wanted (Rec w) g f p x y h =
      at_recursive (Keeps e f) e.names (kinds c) (exposure c g) _ f (exposure_formed e.names c g p.context y) (λ u z. matched_keeps e (Free ∷ c) (suc d) (proper ∷ wanted) w u f (one_in Free proper tt p) x z h) (unchanged f h)

  types_keep : (e : Environment) (c : TypeContext) (d : ℕ) (wanted : List Kind) (ws gs : PlainTypes) (f : Found) → IsPlace e c d wanted → AreWellFormed e.names (wanted ++ kinds_within (kinds_in e) f) ws → AreWellFormed e.names (kinds c) gs → FoundFits e f → Keeps e f (matched_types c d ws gs f)
  types_keep e c d wanted no_type gs f p x y h = unchanged f h
  types_keep e c d wanted (types w ws) no_type f p x y h = unchanged f h
  types_keep e c d wanted (types w ws) (types g gs) f p x y h =
      let one = matched_keeps e c d wanted w g f p x.0 y.0 h in
      keeps_on one (types_keep e c d wanted ws gs (matched c d w g f) p (subst (λ z. AreWellFormed e.names z ws) (still one wanted) x.1) y.1 one.fits)

  labels_keep : (e : Environment) (c : TypeContext) (d : ℕ) (wanted : List Kind) (ls ms : PlainLabels) (f : Found) → IsPlace e c d wanted → LabelsAreWellFormed e.names (wanted ++ kinds_within (kinds_in e) f) ls → LabelsAreWellFormed e.names (kinds c) ms → FoundFits e f → Keeps e f (matched_labels c d ls ms f)
  labels_keep e c d wanted no_label ms f p x y h = unchanged f h
  labels_keep e c d wanted (labels l w ls) ms f p x y h =
      let one = label_at (Keeps e f) e.names (kinds c) l ms (λ g. matched c d w g f) f y (λ u z. matched_keeps e c d wanted w u f p x.1.0 z h) (unchanged f h) in
      keeps_on one (labels_keep e c d wanted ls ms _ p (subst (λ z. LabelsAreWellFormed e.names z ls) (still one wanted) x.1.1) y one.fits)

  bounds_keep : (e : Environment) (c : TypeContext) (d : ℕ) (wanted : List Kind) (bs gs : PlainBounds) (f : Found) → IsPlace e c d wanted → BoundsAreWellFormed e.names (wanted ++ kinds_within (kinds_in e) f) bs → BoundsAreWellFormed e.names (kinds c) gs → FoundFits e f → Keeps e f (matched_bounds c d bs gs f)
  bounds_keep e c d wanted no_bound gs f p x y h = unchanged f h
  bounds_keep e c d wanted (bounds b bs) no_bound f p x y h = unchanged f h
  bounds_keep e c d wanted (bounds b bs) (bounds g gs) f p x y h =
      let one = bound_keeps e c d wanted b g f p x.0 y.0 h in
      keeps_on one (bounds_keep e (g ∷ c) (suc d) (kind_by b ∷ wanted) bs gs (matched_bound c d b g f) (one_in g (kind_by b) y.0 p) (subst (λ z. BoundsAreWellFormed e.names z bs) (still one (kind_by b ∷ wanted)) x.1) y.1 one.fits)

  bound_keeps : (e : Environment) (c : TypeContext) (d : ℕ) (wanted : List Kind) (b g : PlainBound) (f : Found) → IsPlace e c d wanted → BoundIsWellFormed e.names (wanted ++ kinds_within (kinds_in e) f) b → BoundIsWellFormed e.names (kinds c) g → FoundFits e f → Keeps e f (matched_bound c d b g f)
  bound_keeps e c d wanted Free g f p x y h = unchanged f h
  bound_keeps e c d wanted (Operator ms) g f p x y h = unchanged f h
  bound_keeps e c d wanted (Below w) Free f p x y h = unchanged f h
  bound_keeps e c d wanted (Below w) (Operator ms) f p x y h = unchanged f h
  bound_keeps e c d wanted (Below w) (Below g) f p x y h = matched_keeps e c d wanted w g f p x.1 y.1 h

-- matching in an environment
pub matched_in : (e : Environment) (c : TypeContext) (w g : PlainType) (f : Found) → ContextIsWellFormed e.names c → kinds c ≡ kinds_in e → IsWellFormed e.names (kinds_within (kinds_in e) f) w → IsWellFormed e.names (kinds_in e) g → FoundFits e f → Keeps e f (matched c 0 w g f)
matched_in e c w g f h q x y z = matched_keeps e c 0 [] w g f (record { context = h; inner = []; kinds_ = q; given_ = refl; wanted_ = refl }) x (subst (λ ks. IsWellFormed e.names ks g) (sym q) y) z
