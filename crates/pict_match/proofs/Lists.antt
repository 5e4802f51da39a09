-- One more of a row is matched, and what is left gives the whole.
use Rattle.std.proofs.Common.{◌≡◌, ℕ, zero, suc, ◌+◌, ◌≤◌, ◌<◌, nat_eq, false, List, [], ◌∷◌, length, get_or, drop, take, Some, None, refl, sym, ◌∙◌, ap, ap₂, subst, add-one, arith, eq-eqb, ne_eqb}
use Rattle.std.specs.Ordering.{ordering_reverse}
use Rattle.std.specs.declared.cmp.Ordering.TheVariants.{Less, Equal, Greater}
use Rattle.pict_syntax.specs.Labels.{label_cmp, StandsBefore}
use Rattle.pict_syntax.proofs.LabelLemmas.{label_order, other_label, equal_labels}
use Rattle.pict_types.specs.declared.types.Ty.{Ty}
use Rattle.pict_types.specs.declared.types.Bound.{Bound}
use Rattle.pict_types.specs.Types.{PlainType, PlainTypes, no_type, types, PlainLabels, no_label, labels, TypeContext, under, type_at}
use Rattle.pict_types.specs.Kinds.{Kind, StandsBeforeAll, IsWellFormed, LabelsAreWellFormed, BoundIsWellFormed, BoundsAreWellFormed, ContextIsWellFormed, kinds}
use Rattle.pict_types.specs.Plain.{plain, plain_bound, plain_types, plain_bounds}
use Rattle.pict_types.proofs.Rows.{types_drop, types_end, labels_end, bounds_end}
use Rattle.pict_types.proofs.Formed.{before_further}
use Rattle.pict_types.proofs.Items.{types_formed}
use Rattle.pict_rules.specs.Found.{Found, match_label, matched, matched_types, matched_labels, matched_bounds, matched_bound}
use Rattle.pict_match.specs.Formed.{IsFormed, AreFormed, LabelsAreFormed, BoundIsFormed, BoundsAreFormed}

-- types
pub type_formed_at : {names : List (List ℕ)} (ts : List Ty) (i : ℕ) (d : Ty) → AreFormed names (plain_types ts) → i < length ts → IsFormed names (plain (get_or ts i d))
type_formed_at {names} ts i d f h = record { kinds_ = f.kinds_; formed = types_formed names f.kinds_ ts i d f.formed h }

pub types_next : (c : TypeContext) (d : ℕ) (ws gs : List Ty) (i : ℕ) (w g : Ty) (f : Found) → i < length ws → i < length gs → w ≡ get_or ws i w → g ≡ get_or gs i g → matched_types c d (plain_types (drop (i + 1) ws)) (plain_types (drop (i + 1) gs)) (matched c d (plain w) (plain g) f) ≡ matched_types c d (plain_types (drop i ws)) (plain_types (drop i gs)) f
types_next c d ws gs i w g f h k p q =
    ap₂ (λ x y. matched_types c d (plain_types (drop (i + 1) ws)) (plain_types (drop (i + 1) gs)) (matched c d (plain x) (plain y) f)) p q
    ∙ sym (ap₂ (λ x y. matched_types c d x y f) (types_drop ws i w h) (types_drop gs i g k))

none_wanted : (c : TypeContext) (d : ℕ) (ws gs : PlainTypes) (f : Found) → ws ≡ no_type → matched_types c d ws gs f ≡ f
none_wanted c d ws gs f h = rw h refl

none_given : (c : TypeContext) (d : ℕ) (ws gs : PlainTypes) (f : Found) → gs ≡ no_type → matched_types c d ws gs f ≡ f
none_given c d no_type gs f h = refl
none_given c d (types w ws) gs f h = rw h refl

pub types_done : (c : TypeContext) (d : ℕ) (ws gs : List Ty) (i : ℕ) (f : Found) → length ws ≤ i → matched_types c d (plain_types (drop i ws)) (plain_types (drop i gs)) f ≡ f
types_done c d ws gs i f h = none_wanted c d _ _ f (types_end ws i h)

pub types_out : (c : TypeContext) (d : ℕ) (ws gs : List Ty) (i : ℕ) (f : Found) → length gs ≤ i → matched_types c d (plain_types (drop i ws)) (plain_types (drop i gs)) f ≡ f
types_out c d ws gs i f h = none_given c d _ _ f (types_end gs i h)

-- labels: a label that comes before all others is none of them
absent : (names : List (List ℕ)) (l : ℕ) (ms : PlainLabels) → StandsBeforeAll names l ms → type_at l ms ≡ None
absent names l no_label h = refl
absent names l (labels m t ms) h =
    let e : nat_eq l m ≡ false = ne_eqb l m (λ q. other_label names l m h.0 (sym q)) in
    rw e (absent names l ms h.1)

-- one that the given labels lack finds nothing
lacking : (names : List (List ℕ)) (c : TypeContext) (d : ℕ) (l : ℕ) (w : PlainType) (ls ms : PlainLabels) (f : Found) → StandsBeforeAll names l ms → matched_labels c d (labels l w ls) ms f ≡ matched_labels c d ls ms f
lacking names c d l w ls ms f h =
    ap (λ x. matched_labels c d ls ms (match_label x (λ g. matched c d w g f) f)) (absent names l ms h)

-- one that the wanted labels lack changes nothing
unwanted : (names : List (List ℕ)) (c : TypeContext) (d : ℕ) (m : ℕ) (g : PlainType) (ls ms : PlainLabels) (f : Found) → StandsBeforeAll names m ls → matched_labels c d ls (labels m g ms) f ≡ matched_labels c d ls ms f
unwanted names c d m g no_label ms f h = refl
unwanted names c d m g (labels l w ls) ms f h =
    let e : nat_eq l m ≡ false = ne_eqb l m (other_label names m l h.0) in
    let p : type_at l (labels m g ms) ≡ type_at l ms = rw e refl in
    ap (λ x. matched_labels c d ls (labels m g ms) (match_label x (λ u. matched c d w u f) f)) p
    ∙ unwanted names c d m g ls ms (match_label (type_at l ms) (λ u. matched c d w u f) f) h.1

formed_first : {names : List (List ℕ)} {l : ℕ} {w : PlainType} {ls : PlainLabels} → LabelsAreFormed names (labels l w ls) → IsFormed names w
formed_first f = record { kinds_ = f.kinds_; formed = f.formed.1.0 }

formed_rest : {names : List (List ℕ)} {l : ℕ} {w : PlainType} {ls : PlainLabels} → LabelsAreFormed names (labels l w ls) → LabelsAreFormed names ls
formed_rest f = record { kinds_ = f.kinds_; formed = f.formed.1.1 }

-- what is left of two rows of labels, in order, still matches as the whole
pub record IsLeft (names : List (List ℕ)) (c : TypeContext) (d : ℕ) (ls ms : PlainLabels) (f h : Found) : Type 0 where
  pub wanted : LabelsAreFormed names ls
  pub given : LabelsAreWellFormed names (kinds c) ms
  pub gives : matched_labels c d ls ms f ≡ h

module _ (names : List (List ℕ)) (c : TypeContext) (d : ℕ) {ls ms : PlainLabels} {f h : Found} (l m : ℕ) (w g : PlainType) (ls' ms' : PlainLabels) (p : ls ≡ labels l w ls') (q : ms ≡ labels m g ms') (left : IsLeft names c d ls ms f h) where
  wanted_now : LabelsAreFormed names (labels l w ls')
  wanted_now = subst (LabelsAreFormed names) p left.wanted

  given_now : LabelsAreWellFormed names (kinds c) (labels m g ms')
  given_now = subst (LabelsAreWellFormed names (kinds c)) q left.given

  gives_now : matched_labels c d (labels l w ls') (labels m g ms') f ≡ h
  gives_now = sym (ap₂ (λ x y. matched_labels c d x y f) p q) ∙ left.gives

  wanted_rest : LabelsAreFormed names ls'
  wanted_rest = formed_rest wanted_now

  pub wanted_type : IsFormed names w
  wanted_type = formed_first wanted_now

  pub given_type : IsWellFormed names (kinds c) g
  given_type = given_now.1.0

  pub pass_wanted : label_cmp names l m ≡ Less → IsLeft names c d ls' ms f h
  pass_wanted e = record {
    wanted = wanted_rest;
    given = left.given;
    gives = ap (λ y. matched_labels c d ls' y f) q ∙ sym (lacking names c d l w ls' (labels m g ms') f (e, before_further names l m ms' e given_now.0)) ∙ gives_now;
  }

  pub pass_given : label_cmp names l m ≡ Greater → IsLeft names c d ls ms' f h
  pass_given e =
      let b : StandsBefore names m l = (label_order names).antisymm m l ∙ ap ordering_reverse e in
      record {
        wanted = left.wanted;
        given = given_now.1.1;
        gives = ap (λ x. matched_labels c d x ms' f) p ∙ sym (unwanted names c d m g (labels l w ls') ms' f (b, before_further names m l ls' b wanted_now.formed.0)) ∙ gives_now;
      }

  pub take_both : label_cmp names l m ≡ Equal → IsLeft names c d ls' ms' (matched c d w g f) h
  take_both e =
      let same : l ≡ m = equal_labels names l m e in
      let here : type_at l (labels m g ms') ≡ Some g = rw (eq-eqb l m same) refl in
      let after : StandsBeforeAll names m ls' = subst (λ x. StandsBeforeAll names x ls') same wanted_now.formed.0 in
      record {
        wanted = wanted_rest;
        given = given_now.1.1;
        gives = sym (unwanted names c d m g ls' ms' (matched c d w g f) after)
            ∙ sym (ap (λ x. matched_labels c d ls' (labels m g ms') (match_label x (λ u. matched c d w u f) f)) here)
            ∙ gives_now;
      }

pub labels_done : (names : List (List ℕ)) (c : TypeContext) (d : ℕ) (ls ms : PlainLabels) (f h : Found) → ls ≡ no_label → IsLeft names c d ls ms f h → f ≡ h
labels_done names c d ls ms f h e left = ap (λ x. matched_labels c d x ms f) (sym e) ∙ left.gives

none_there : (c : TypeContext) (d : ℕ) (ls : PlainLabels) (f : Found) → matched_labels c d ls no_label f ≡ f
none_there c d no_label f = refl
none_there c d (labels l w ls) f = none_there c d ls f

pub labels_out : (names : List (List ℕ)) (c : TypeContext) (d : ℕ) (ls ms : PlainLabels) (f h : Found) → ms ≡ no_label → IsLeft names c d ls ms f h → f ≡ h
labels_out names c d ls ms f h e left = sym (none_there c d ls f) ∙ ap (λ x. matched_labels c d ls x f) (sym e) ∙ left.gives

-- bounds: the given ones so far stand around
bounds_apart : (names : List (List ℕ)) (ks : List Kind) (bs : List Bound) (i : ℕ) (d : Bound) → BoundsAreWellFormed names ks (plain_bounds bs) → i < length bs → BoundIsFormed names (plain_bound (get_or bs i d))
bounds_apart names ks [] i d f h = absurd (omega arith)
bounds_apart names ks (b ∷ bs) zero d f h = record { kinds_ = ks; formed = f.0 }
bounds_apart names ks (b ∷ bs) (suc i) d f h = bounds_apart names _ bs i d f.1 (omega arith)

pub bound_formed_at : {names : List (List ℕ)} (bs : List Bound) (i : ℕ) (d : Bound) → BoundsAreFormed names (plain_bounds bs) → i < length bs → BoundIsFormed names (plain_bound (get_or bs i d))
bound_formed_at {names} bs i d f h = bounds_apart names f.kinds_ bs i d f.formed h

pub context_at : (names : List (List ℕ)) (c : TypeContext) (bs : List Bound) (i : ℕ) → ContextIsWellFormed names c → BoundsAreWellFormed names (kinds c) (plain_bounds bs) → i ≤ length bs → ContextIsWellFormed names (under c (plain_bounds (take i bs)))
context_at names c bs zero w f h = w
context_at names c [] (suc i) w f h = w
context_at names c (b ∷ bs) (suc i) w f h = context_at names (plain_bound b ∷ c) bs i (f.0, w) f.1 (omega arith)

given_at : (names : List (List ℕ)) (c : TypeContext) (bs : List Bound) (i : ℕ) (d : Bound) → BoundsAreWellFormed names (kinds c) (plain_bounds bs) → i < length bs → BoundIsWellFormed names (kinds (under c (plain_bounds (take i bs)))) (plain_bound (get_or bs i d))
given_at names c [] i d f h = absurd (omega arith)
given_at names c (b ∷ bs) zero d f h = f.0
given_at names c (b ∷ bs) (suc i) d f h = given_at names (plain_bound b ∷ c) bs i d f.1 (omega arith)

pub given_bound_at : (names : List (List ℕ)) (c : TypeContext) (bs : List Bound) (i : ℕ) (b : Bound) → b ≡ get_or bs i b → BoundsAreWellFormed names (kinds c) (plain_bounds bs) → i < length bs → BoundIsWellFormed names (kinds (under c (plain_bounds (take i bs)))) (plain_bound b)
given_bound_at names c bs i b e f h = subst (λ x. BoundIsWellFormed names (kinds (under c (plain_bounds (take i bs)))) (plain_bound x)) (sym e) (given_at names c bs i b f h)

bounds_further : (c : TypeContext) (d : ℕ) (bs cs : List Bound) (i : ℕ) (x y : Bound) (f : Found) → i < length bs → i < length cs → matched_bounds (under c (plain_bounds (take (suc i) cs))) (d + suc i) (plain_bounds (drop (suc i) bs)) (plain_bounds (drop (suc i) cs)) (matched_bound (under c (plain_bounds (take i cs))) (d + i) (plain_bound (get_or bs i x)) (plain_bound (get_or cs i y)) f) ≡ matched_bounds (under c (plain_bounds (take i cs))) (d + i) (plain_bounds (drop i bs)) (plain_bounds (drop i cs)) f
bounds_further c d [] cs i x y f h k = absurd (omega arith)
bounds_further c d (b ∷ bs) [] i x y f h k = absurd (omega arith)
bounds_further c d (b ∷ bs) (g ∷ cs) zero x y f h k = ap (λ n. matched_bounds (plain_bound g ∷ c) n (plain_bounds bs) (plain_bounds cs) (matched_bound c (d + 0) (plain_bound b) (plain_bound g) f)) (omega arith)
bounds_further c d (b ∷ bs) (g ∷ cs) (suc i) x y f h k =
    ap₂ (λ n m. matched_bounds (under (plain_bound g ∷ c) (plain_bounds (take (suc i) cs))) n (plain_bounds (drop (suc i) bs)) (plain_bounds (drop (suc i) cs)) (matched_bound (under (plain_bound g ∷ c) (plain_bounds (take i cs))) m (plain_bound (get_or bs i x)) (plain_bound (get_or cs i y)) f)) (omega arith) (omega arith)
    ∙ bounds_further (plain_bound g ∷ c) (suc d) bs cs i x y f (omega arith) (omega arith)
    ∙ ap (λ m. matched_bounds (under (plain_bound g ∷ c) (plain_bounds (take i cs))) m (plain_bounds (drop i bs)) (plain_bounds (drop i cs)) f) (omega arith)

pub bounds_next : (c : TypeContext) (d n : ℕ) (bs cs : List Bound) (i : ℕ) (w g : Bound) (f : Found) → i < length bs → i < length cs → w ≡ get_or bs i w → g ≡ get_or cs i g → n ≡ d + i → matched_bounds (under c (plain_bounds (take (i + 1) cs))) (d + (i + 1)) (plain_bounds (drop (i + 1) bs)) (plain_bounds (drop (i + 1) cs)) (matched_bound (under c (plain_bounds (take i cs))) n (plain_bound w) (plain_bound g) f) ≡ matched_bounds (under c (plain_bounds (take i cs))) (d + i) (plain_bounds (drop i bs)) (plain_bounds (drop i cs)) f
bounds_next c d n bs cs i w g f l m p q e =
    ap₂ (λ x y. matched_bounds (under c (plain_bounds (take x cs))) (d + x) (plain_bounds (drop x bs)) (plain_bounds (drop x cs)) y) (add-one i)
    (ap (λ x. matched_bound (under c (plain_bounds (take i cs))) x (plain_bound w) (plain_bound g) f) e ∙ ap₂ (λ x y. matched_bound (under c (plain_bounds (take i cs))) (d + i) (plain_bound x) (plain_bound y) f) p q)
    ∙ bounds_further c d bs cs i w g f l m

pub bounds_done : (c : TypeContext) (d : ℕ) (bs gs : List Bound) (i : ℕ) (f : Found) → length bs ≤ i → matched_bounds c d (plain_bounds (drop i bs)) (plain_bounds (drop i gs)) f ≡ f
bounds_done c d bs gs i f h = ap (λ z. matched_bounds c d z (plain_bounds (drop i gs)) f) (bounds_end bs i h)

pub ruleset type_rules = (types_next, types_done, types_out)

pub ruleset label_rules = (labels_done, labels_end)

pub ruleset bound_rules = (bounds_done)
