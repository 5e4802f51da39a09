-- Renaming, filling and replacing keep types well formed.
use Rattle.std.proofs.Common.{◌≡◌, ℕ, zero, suc, List, [], ◌∷◌, Option, Some, None, refl, sym, ◌∙◌, ap, subst}
use Rattle.pict_types.specs.Types.{PlainType, Top, Int, Char, Str, Boolean, Var, Apply, Chan, Fields, Rec, PlainTypes, no_type, types, PlainLabels, no_label, labels, PlainBound, Free, Below, Operator, PlainBounds, no_bound, bounds, PlainArg, Plain, Op, count_types}
use Rattle.pict_types.specs.Renaming.{beyond, beyond_all, beyond_times, rename, rename_types, rename_labels, rename_bounds, rename_bound}
use Rattle.pict_types.specs.Replacing.{bound_by, Filling, next_variable, apply_variable, filling_beyond, filling_beyond_all, fill, fill_types, fill_labels, fill_bounds, fill_bound, with_type, with_types, no_filling, Head, variable, operator, nothing, apply_head, rename_head, Replacement, replacement_beyond, replacement_beyond_all, replace, replace_types, replace_labels, replace_bounds, replace_bound, type_in, head_in, with_arg, with_args, arguments, unfolding_of, instance_of, IsOfKind, FitTheirFields}
use Rattle.pict_types.specs.Fitting.{StandsForOperator, ReplacesKinds}
use Rattle.pict_types.specs.Kinds.{Kind, proper, operator_of, kind_by, kinds_under, kind_at, with_parameters, StandsBeforeAll, IsWellFormed, AreWellFormed, LabelsAreWellFormed, BoundsAreWellFormed, BoundIsWellFormed, ArgIsWellFormed}
use Rattle.pict_types.specs.Instances.{ArgsAreWellFormed}
use Rattle.pict_types.proofs.Renamed.{top_renamed}
use Rattle.pict_syntax.specs.Labels.{StandsBefore}
use Rattle.pict_syntax.proofs.LabelLemmas.{label_order}

-- f takes variables to variables of their kinds
pub record KeepsKinds (f : ℕ → ℕ) (ks js : List Kind) : Type 0 where
  pub each : (i : ℕ) (k : Kind) → kind_at ks i ≡ Some k → kind_at js (f i) ≡ Some k

pub keeps_beyond : {f : ℕ → ℕ} {ks js : List Kind} {k j : Kind} → k ≡ j → KeepsKinds f ks js → KeepsKinds (beyond f) (k ∷ ks) (j ∷ js)
keeps_beyond {f = f} {ks = ks} {js = js} {k = k} {j = j} e h = record { each = go }
  where
    go : (i : ℕ) (l : Kind) → kind_at (k ∷ ks) i ≡ Some l → kind_at (j ∷ js) (beyond f i) ≡ Some l
    go zero l q = ap Some (sym e) ∙ q
    go (suc i) l q = h.each i l q

pub same_kind : (f : ℕ → ℕ) (b : PlainBound) → kind_by b ≡ kind_by (rename_bound f b)
same_kind f Free = refl
same_kind f (Below t) = refl
same_kind f (Operator n) = refl

pub keeps_under : {f : ℕ → ℕ} {ks js : List Kind} (bs : PlainBounds) → KeepsKinds f ks js → KeepsKinds (beyond_all bs f) (kinds_under ks bs) (kinds_under js (rename_bounds f bs))
keeps_under no_bound h = h
keeps_under {f = f} (bounds b bs) h = keeps_under bs (keeps_beyond (same_kind f b) h)

pub count_renamed : (f : ℕ → ℕ) (ts : PlainTypes) → count_types (rename_types f ts) ≡ count_types ts
count_renamed f no_type = refl
count_renamed f (types t ts) = ap suc (count_renamed f ts)

-- what stands before the first of some labels stands before them all
pub before_further : (ns : List (List ℕ)) (l m : ℕ) (ls : PlainLabels) → StandsBefore ns l m → StandsBeforeAll ns m ls → StandsBeforeAll ns l ls
before_further ns l m no_label h k = tt
before_further ns l m (labels n t ls) h k = ((label_order ns).trans l m n h k.0, before_further ns l m ls h k.1)

pub before_renamed : (ns : List (List ℕ)) (f : ℕ → ℕ) (l : ℕ) (ls : PlainLabels) → StandsBeforeAll ns l ls → StandsBeforeAll ns l (rename_labels f ls)
before_renamed ns f l no_label h = tt
before_renamed ns f l (labels m t ls) h = (h.0, before_renamed ns f l ls h.1)

mutual
  pub formed_renamed : {f : ℕ → ℕ} {ks js : List Kind} (ns : List (List ℕ)) (t : PlainType) → KeepsKinds f ks js → IsWellFormed ns ks t → IsWellFormed ns js (rename f t)
  formed_renamed ns Top h w = tt
  formed_renamed ns Int h w = tt
  formed_renamed ns Char h w = tt
  formed_renamed ns Str h w = tt
  formed_renamed ns Boolean h w = tt
  formed_renamed ns (Var i) h w = h.each i proper w
  formed_renamed {f = f} ns (Apply i ts) h w =
      (h.each i (operator_of (count_types ts)) w.0 ∙ ap (λ n. Some (operator_of n)) (sym (count_renamed f ts)), formed_types_renamed ns ts h w.1)
  formed_renamed ns (Chan m t) h w = formed_renamed ns t h w
  formed_renamed ns (Fields bs ps ls) h w =
      (formed_bounds_renamed ns bs h w.0, (formed_types_renamed ns ps (keeps_under bs h) w.1.0, formed_labels_renamed ns ls (keeps_under bs h) w.1.1))
  formed_renamed ns (Rec t) h w = formed_renamed ns t (keeps_beyond refl h) w

  pub formed_types_renamed : {f : ℕ → ℕ} {ks js : List Kind} (ns : List (List ℕ)) (ts : PlainTypes) → KeepsKinds f ks js → AreWellFormed ns ks ts → AreWellFormed ns js (rename_types f ts)
  formed_types_renamed ns no_type h w = tt
  formed_types_renamed ns (types t ts) h w = (formed_renamed ns t h w.0, formed_types_renamed ns ts h w.1)

  pub formed_labels_renamed : {f : ℕ → ℕ} {ks js : List Kind} (ns : List (List ℕ)) (ls : PlainLabels) → KeepsKinds f ks js → LabelsAreWellFormed ns ks ls → LabelsAreWellFormed ns js (rename_labels f ls)
  formed_labels_renamed ns no_label h w = tt
  formed_labels_renamed {f = f} ns (labels l t ls) h w =
      (before_renamed ns f l ls w.0, (formed_renamed ns t h w.1.0, formed_labels_renamed ns ls h w.1.1))

  pub formed_bounds_renamed : {f : ℕ → ℕ} {ks js : List Kind} (ns : List (List ℕ)) (bs : PlainBounds) → KeepsKinds f ks js → BoundsAreWellFormed ns ks bs → BoundsAreWellFormed ns js (rename_bounds f bs)
  formed_bounds_renamed ns no_bound h w = tt
  formed_bounds_renamed {f = f} ns (bounds b bs) h w =
      (formed_bound_renamed ns b h w.0, formed_bounds_renamed ns bs (keeps_beyond (same_kind f b) h) w.1)

  pub formed_bound_renamed : {f : ℕ → ℕ} {ks js : List Kind} (ns : List (List ℕ)) (b : PlainBound) → KeepsKinds f ks js → BoundIsWellFormed ns ks b → BoundIsWellFormed ns js (rename_bound f b)
  formed_bound_renamed ns Free h w = tt
  formed_bound_renamed {f = f} ns (Below t) h w = (top_renamed f t ∙ w.0, formed_renamed ns t h w.1)
  formed_bound_renamed ns (Operator n) h w = tt

-- one more variable in front
pub one_more_kind : (j : Kind) (js : List Kind) → KeepsKinds suc js (j ∷ js)
one_more_kind j js = record { each = λ i k q. q }

pub kind_bound_by : (t : PlainType) → kind_by (bound_by t) ≡ proper
kind_bound_by Top = refl
kind_bound_by Int = refl
kind_bound_by Char = refl
kind_bound_by Str = refl
kind_bound_by Boolean = refl
kind_bound_by (Var i) = refl
kind_bound_by (Apply i ts) = refl
kind_bound_by (Chan m t) = refl
kind_bound_by (Fields bs ps ls) = refl
kind_bound_by (Rec t) = refl

pub formed_bound_by : (ns : List (List ℕ)) (ks : List Kind) (t : PlainType) → IsWellFormed ns ks t → BoundIsWellFormed ns ks (bound_by t)
formed_bound_by ns ks Top w = tt
formed_bound_by ns ks Int w = (refl, w)
formed_bound_by ns ks Char w = (refl, w)
formed_bound_by ns ks Str w = (refl, w)
formed_bound_by ns ks Boolean w = (refl, w)
formed_bound_by ns ks (Var i) w = (refl, w)
formed_bound_by ns ks (Apply i ts) w = (refl, w)
formed_bound_by ns ks (Chan m t) w = (refl, w)
formed_bound_by ns ks (Fields bs ps ls) w = (refl, w)
formed_bound_by ns ks (Rec t) w = (refl, w)

-- an operator variable stays one of so many arguments
abbrev pub IsOperator : List Kind → ℕ → Option ℕ → Type 0
IsOperator js n None = ⊥
IsOperator js n (Some j) = kind_at js j ≡ Some (operator_of n)

operator_further : (j : Kind) (js : List Kind) (n : ℕ) (o : Option ℕ) → IsOperator js n o → IsOperator (j ∷ js) n (next_variable o)
operator_further j js n None h = h
operator_further j js n (Some i) h = h

-- the filling puts well formed types for variables, and operator variables for operator variables
pub record FillsKinds (ns : List (List ℕ)) (s : Filling) (ks js : List Kind) : Type 0 where
  pub types_ : (i : ℕ) → kind_at ks i ≡ Some proper → IsWellFormed ns js (s.type_for i)
  pub heads_ : (i n : ℕ) → kind_at ks i ≡ Some (operator_of n) → IsOperator js n (s.head_for i)

fills_beyond : {ns : List (List ℕ)} {s : Filling} {ks js : List Kind} (k j : Kind) → k ≡ j → FillsKinds ns s ks js → FillsKinds ns (filling_beyond s) (k ∷ ks) (j ∷ js)
fills_beyond {ns = ns} {s = s} {ks = ks} {js = js} k j e h = record { types_ = go; heads_ = go2 }
  where
    go : (i : ℕ) → kind_at (k ∷ ks) i ≡ Some proper → IsWellFormed ns (j ∷ js) ((filling_beyond s).type_for i)
    go zero q = ap Some (sym e) ∙ q
    go (suc i) q = formed_renamed ns (s.type_for i) (one_more_kind j js) (h.types_ i q)

    go2 : (i n : ℕ) → kind_at (k ∷ ks) i ≡ Some (operator_of n) → IsOperator (j ∷ js) n ((filling_beyond s).head_for i)
    go2 zero n q = ap Some (sym e) ∙ q
    go2 (suc i) n q = operator_further j js n (s.head_for i) (h.heads_ i n q)

filled_kind : (s : Filling) (b : PlainBound) → kind_by b ≡ kind_by (fill_bound s b)
filled_kind s Free = refl
filled_kind s (Below t) = sym (kind_bound_by (fill s t))
filled_kind s (Operator n) = refl

fills_under : {ns : List (List ℕ)} {s : Filling} {ks js : List Kind} (bs : PlainBounds) → FillsKinds ns s ks js → FillsKinds ns (filling_beyond_all bs s) (kinds_under ks bs) (kinds_under js (fill_bounds s bs))
fills_under no_bound h = h
fills_under {s = s} (bounds b bs) h = fills_under bs (fills_beyond (kind_by b) (kind_by (fill_bound s b)) (filled_kind s b) h)

count_filled : (s : Filling) (ts : PlainTypes) → count_types (fill_types s ts) ≡ count_types ts
count_filled s no_type = refl
count_filled s (types t ts) = ap suc (count_filled s ts)

pub before_filled : (ns : List (List ℕ)) (s : Filling) (l : ℕ) (ls : PlainLabels) → StandsBeforeAll ns l ls → StandsBeforeAll ns l (fill_labels s ls)
before_filled ns s l no_label h = tt
before_filled ns s l (labels m t ls) h = (h.0, before_filled ns s l ls h.1)

applied_formed : (ns : List (List ℕ)) (js : List Kind) (n : ℕ) (o : Option ℕ) (us : PlainTypes) → count_types us ≡ n → IsOperator js n o → AreWellFormed ns js us → IsWellFormed ns js (apply_variable o us)
applied_formed ns js n None us e h w = absurd h
applied_formed ns js n (Some j) us e h w = (h ∙ ap (λ m. Some (operator_of m)) (sym e), w)

mutual
  pub fill_formed : {s : Filling} {ks js : List Kind} (ns : List (List ℕ)) (t : PlainType) → FillsKinds ns s ks js → IsWellFormed ns ks t → IsWellFormed ns js (fill s t)
  fill_formed ns Top h w = tt
  fill_formed ns Int h w = tt
  fill_formed ns Char h w = tt
  fill_formed ns Str h w = tt
  fill_formed ns Boolean h w = tt
  fill_formed ns (Var i) h w = h.types_ i w
  fill_formed {s = s} {ks = ks} {js = js} ns (Apply i ts) h w =
      applied_formed ns js (count_types ts) (s.head_for i) (fill_types s ts) (count_filled s ts) (h.heads_ i (count_types ts) w.0) (fill_types_formed ns ts h w.1)
  fill_formed ns (Chan m t) h w = fill_formed ns t h w
  fill_formed ns (Fields bs ps ls) h w =
      (fill_bounds_formed ns bs h w.0, (fill_types_formed ns ps (fills_under bs h) w.1.0, fill_labels_formed ns ls (fills_under bs h) w.1.1))
  fill_formed ns (Rec t) h w = fill_formed ns t (fills_beyond proper proper refl h) w

  fill_types_formed : {s : Filling} {ks js : List Kind} (ns : List (List ℕ)) (ts : PlainTypes) → FillsKinds ns s ks js → AreWellFormed ns ks ts → AreWellFormed ns js (fill_types s ts)
  fill_types_formed ns no_type h w = tt
  fill_types_formed ns (types t ts) h w = (fill_formed ns t h w.0, fill_types_formed ns ts h w.1)

  fill_labels_formed : {s : Filling} {ks js : List Kind} (ns : List (List ℕ)) (ls : PlainLabels) → FillsKinds ns s ks js → LabelsAreWellFormed ns ks ls → LabelsAreWellFormed ns js (fill_labels s ls)
  fill_labels_formed ns no_label h w = tt
  fill_labels_formed {s = s} ns (labels l t ls) h w =
      (before_filled ns s l ls w.0, (fill_formed ns t h w.1.0, fill_labels_formed ns ls h w.1.1))

  fill_bounds_formed : {s : Filling} {ks js : List Kind} (ns : List (List ℕ)) (bs : PlainBounds) → FillsKinds ns s ks js → BoundsAreWellFormed ns ks bs → BoundsAreWellFormed ns js (fill_bounds s bs)
  fill_bounds_formed ns no_bound h w = tt
  fill_bounds_formed {s = s} ns (bounds b bs) h w =
      (fill_bound_formed ns b h w.0, fill_bounds_formed ns bs (fills_beyond (kind_by b) (kind_by (fill_bound s b)) (filled_kind s b) h) w.1)

  fill_bound_formed : {s : Filling} {ks js : List Kind} (ns : List (List ℕ)) (b : PlainBound) → FillsKinds ns s ks js → BoundIsWellFormed ns ks b → BoundIsWellFormed ns js (fill_bound s b)
  fill_bound_formed ns Free h w = tt
  fill_bound_formed {s = s} {js = js} ns (Below t) h w = formed_bound_by ns js (fill s t) (fill_formed ns t h w.1)
  fill_bound_formed ns (Operator n) h w = tt

-- the parameters of an operator have its arguments put for them
pub parameters_further : (n : ℕ) (ks : List Kind) → with_parameters n (proper ∷ ks) ≡ proper ∷ with_parameters n ks
parameters_further zero ks = refl
parameters_further (suc n) ks = ap (λ x. proper ∷ x) (parameters_further n ks)

fills_type : {ns : List (List ℕ)} {s : Filling} {ks js : List Kind} (t : PlainType) → IsWellFormed ns js t → FillsKinds ns s ks js → FillsKinds ns (with_type t s) (proper ∷ ks) js
fills_type {ns = ns} {s = s} {ks = ks} {js = js} t w h = record { types_ = go; heads_ = go2 }
  where
    go : (i : ℕ) → kind_at (proper ∷ ks) i ≡ Some proper → IsWellFormed ns js ((with_type t s).type_for i)
    go zero q = w
    go (suc i) q = h.types_ i q

    go2 : (i n : ℕ) → kind_at (proper ∷ ks) i ≡ Some (operator_of n) → IsOperator js n ((with_type t s).head_for i)
    go2 zero n q = absurd (cc)
    go2 (suc i) n q = h.heads_ i n q

pub fills_types : {ns : List (List ℕ)} {s : Filling} {ks js : List Kind} (n : ℕ) (us : PlainTypes) → count_types us ≡ n → AreWellFormed ns js us → FillsKinds ns s ks js → FillsKinds ns (with_types n us s) (with_parameters n ks) js
fills_types zero us e w h = h
fills_types (suc n) no_type e w h = absurd (cc)
fills_types {ns = ns} {s = s} {ks = ks} {js = js} (suc n) (types t ts) e w h =
    let k : count_types ts ≡ n = cc in
    subst (λ x. FillsKinds ns (with_types n ts (with_type t s)) x js) (parameters_further n ks) (fills_types n ts k w.1 (fills_type t w.0 h))

fills_itself : (ns : List (List ℕ)) (ks : List Kind) → FillsKinds ns no_filling ks ks
fills_itself ns ks = record { types_ = λ i q. q; heads_ = λ i n q. q }

pub keeps_parameters : (m : ℕ) {f : ℕ → ℕ} {ks js : List Kind} → KeepsKinds f ks js → KeepsKinds (beyond_times m f) (with_parameters m ks) (with_parameters m js)
keeps_parameters zero h = h
keeps_parameters (suc m) h = keeps_beyond refl (keeps_parameters m h)

pub head_further : (ns : List (List ℕ)) (j : Kind) (js : List Kind) (n : ℕ) (h : Head) → StandsForOperator ns js n h → StandsForOperator ns (j ∷ js) n (rename_head suc h)
head_further ns j js n (variable i) w = w
head_further ns j js n (operator m t) w = (w.0, formed_renamed ns t (keeps_parameters m (one_more_kind j js)) w.1)
head_further ns j js n nothing w = w

pub replaces_beyond : {ns : List (List ℕ)} {s : Replacement} {ks js : List Kind} (k j : Kind) → k ≡ j → ReplacesKinds ns s ks js → ReplacesKinds ns (replacement_beyond s) (k ∷ ks) (j ∷ js)
replaces_beyond {ns = ns} {s = s} {ks = ks} {js = js} k j e h = record { types_ = go; heads_ = go2 }
  where
    go : (i : ℕ) → kind_at (k ∷ ks) i ≡ Some proper → IsWellFormed ns (j ∷ js) ((replacement_beyond s).type_of i)
    go zero q = ap Some (sym e) ∙ q
    go (suc i) q = formed_renamed ns (s.type_of i) (one_more_kind j js) (h.types_ i q)

    go2 : (i n : ℕ) → kind_at (k ∷ ks) i ≡ Some (operator_of n) → StandsForOperator ns (j ∷ js) n ((replacement_beyond s).head_of i)
    go2 zero n q = ap Some (sym e) ∙ q
    go2 (suc i) n q = head_further ns j js n (s.head_of i) (h.heads_ i n q)

pub replaced_kind : (s : Replacement) (b : PlainBound) → kind_by b ≡ kind_by (replace_bound s b)
replaced_kind s Free = refl
replaced_kind s (Below t) = sym (kind_bound_by (replace s t))
replaced_kind s (Operator n) = refl

pub replaces_under : {ns : List (List ℕ)} {s : Replacement} {ks js : List Kind} (bs : PlainBounds) → ReplacesKinds ns s ks js → ReplacesKinds ns (replacement_beyond_all bs s) (kinds_under ks bs) (kinds_under js (replace_bounds s bs))
replaces_under no_bound h = h
replaces_under {s = s} (bounds b bs) h = replaces_under bs (replaces_beyond (kind_by b) (kind_by (replace_bound s b)) (replaced_kind s b) h)

pub count_replaced : (s : Replacement) (ts : PlainTypes) → count_types (replace_types s ts) ≡ count_types ts
count_replaced s no_type = refl
count_replaced s (types t ts) = ap suc (count_replaced s ts)

before_replaced : (ns : List (List ℕ)) (s : Replacement) (l : ℕ) (ls : PlainLabels) → StandsBeforeAll ns l ls → StandsBeforeAll ns l (replace_labels s ls)
before_replaced ns s l no_label h = tt
before_replaced ns s l (labels m t ls) h = (h.0, before_replaced ns s l ls h.1)

head_formed : (ns : List (List ℕ)) (js : List Kind) (n : ℕ) (h : Head) (us : PlainTypes) → count_types us ≡ n → StandsForOperator ns js n h → AreWellFormed ns js us → IsWellFormed ns js (apply_head h us)
head_formed ns js n (variable j) us e h w = (h ∙ ap (λ m. Some (operator_of m)) (sym e), w)
head_formed ns js n (operator m t) us e h w = fill_formed ns t (fills_types m us (e ∙ sym h.0) w (fills_itself ns js)) h.1
head_formed ns js n nothing us e h w = absurd h

mutual
  pub replace_formed : {s : Replacement} {ks js : List Kind} (ns : List (List ℕ)) (t : PlainType) → ReplacesKinds ns s ks js → IsWellFormed ns ks t → IsWellFormed ns js (replace s t)
  replace_formed ns Top h w = tt
  replace_formed ns Int h w = tt
  replace_formed ns Char h w = tt
  replace_formed ns Str h w = tt
  replace_formed ns Boolean h w = tt
  replace_formed ns (Var i) h w = h.types_ i w
  replace_formed {s = s} {ks = ks} {js = js} ns (Apply i ts) h w =
      head_formed ns js (count_types ts) (s.head_of i) (replace_types s ts) (count_replaced s ts) (h.heads_ i (count_types ts) w.0) (replace_types_formed ns ts h w.1)
  replace_formed ns (Chan m t) h w = replace_formed ns t h w
  replace_formed ns (Fields bs ps ls) h w =
      (replace_bounds_formed ns bs h w.0, (replace_types_formed ns ps (replaces_under bs h) w.1.0, replace_labels_formed ns ls (replaces_under bs h) w.1.1))
  replace_formed ns (Rec t) h w = replace_formed ns t (replaces_beyond proper proper refl h) w

  pub replace_types_formed : {s : Replacement} {ks js : List Kind} (ns : List (List ℕ)) (ts : PlainTypes) → ReplacesKinds ns s ks js → AreWellFormed ns ks ts → AreWellFormed ns js (replace_types s ts)
  replace_types_formed ns no_type h w = tt
  replace_types_formed ns (types t ts) h w = (replace_formed ns t h w.0, replace_types_formed ns ts h w.1)

  pub replace_labels_formed : {s : Replacement} {ks js : List Kind} (ns : List (List ℕ)) (ls : PlainLabels) → ReplacesKinds ns s ks js → LabelsAreWellFormed ns ks ls → LabelsAreWellFormed ns js (replace_labels s ls)
  replace_labels_formed ns no_label h w = tt
  replace_labels_formed {s = s} ns (labels l t ls) h w =
      (before_replaced ns s l ls w.0, (replace_formed ns t h w.1.0, replace_labels_formed ns ls h w.1.1))

  pub replace_bounds_formed : {s : Replacement} {ks js : List Kind} (ns : List (List ℕ)) (bs : PlainBounds) → ReplacesKinds ns s ks js → BoundsAreWellFormed ns ks bs → BoundsAreWellFormed ns js (replace_bounds s bs)
  replace_bounds_formed ns no_bound h w = tt
  replace_bounds_formed {s = s} ns (bounds b bs) h w =
      (replace_bound_formed ns b h w.0, replace_bounds_formed ns bs (replaces_beyond (kind_by b) (kind_by (replace_bound s b)) (replaced_kind s b) h) w.1)

  replace_bound_formed : {s : Replacement} {ks js : List Kind} (ns : List (List ℕ)) (b : PlainBound) → ReplacesKinds ns s ks js → BoundIsWellFormed ns ks b → BoundIsWellFormed ns js (replace_bound s b)
  replace_bound_formed ns Free h w = tt
  replace_bound_formed {s = s} {js = js} ns (Below t) h w = formed_bound_by ns js (replace s t) (replace_formed ns t h w.1)
  replace_bound_formed ns (Operator n) h w = tt

-- the unfolding of a well formed type is well formed
pub unfolding_formed : (ns : List (List ℕ)) (ks : List Kind) (t : PlainType) → IsWellFormed ns ks (Rec t) → IsWellFormed ns ks (unfolding_of t)
unfolding_formed ns ks t w = replace_formed ns t (record { types_ = go; heads_ = go2 }) w
  where
    go : (i : ℕ) → kind_at (proper ∷ ks) i ≡ Some proper → IsWellFormed ns ks ((arguments (Plain (Rec t) ∷ [])).type_of i)
    go zero q = w
    go (suc i) q = q

    go2 : (i n : ℕ) → kind_at (proper ∷ ks) i ≡ Some (operator_of n) → StandsForOperator ns ks n ((arguments (Plain (Rec t) ∷ [])).head_of i)
    go2 zero n q = absurd (cc)
    go2 (suc i) n q = q

-- arguments of the kinds of the type fields fit them
pub arg_keeps : {ns : List (List ℕ)} {s : Replacement} {ks js : List Kind} (a : PlainArg) (b : PlainBound) → IsOfKind a b → ArgIsWellFormed ns js a → ReplacesKinds ns s ks js → ReplacesKinds ns (with_arg a s) (kind_by b ∷ ks) js
arg_keeps {ns = ns} {s = s} {ks = ks} {js = js} a b f w h = record { types_ = go; heads_ = go2 }
  where
    type_first : (a : PlainArg) (b : PlainBound) → IsOfKind a b → ArgIsWellFormed ns js a → Some (kind_by b) ≡ Some proper → IsWellFormed ns js (type_in a)
    type_first (Plain t) Free f w q = w
    type_first (Plain t) (Below u) f w q = w
    type_first (Plain t) (Operator n) f w q = absurd f
    type_first (Op m t) Free f w q = absurd f
    type_first (Op m t) (Below u) f w q = absurd f
    type_first (Op m t) (Operator n) f w q = absurd (cc)

    head_first : (a : PlainArg) (b : PlainBound) (n : ℕ) → IsOfKind a b → ArgIsWellFormed ns js a → Some (kind_by b) ≡ Some (operator_of n) → StandsForOperator ns js n (head_in a)
    head_first (Plain t) Free n f w q = absurd (cc)
    head_first (Plain t) (Below u) n f w q = absurd (cc)
    head_first (Plain t) (Operator k) n f w q = absurd f
    head_first (Op m t) Free n f w q = absurd f
    head_first (Op m t) (Below u) n f w q = absurd f
    head_first (Op m t) (Operator k) n f w q = let e : m ≡ n = cc in (e, w)

    go : (i : ℕ) → kind_at (kind_by b ∷ ks) i ≡ Some proper → IsWellFormed ns js ((with_arg a s).type_of i)
    go zero q = type_first a b f w q
    go (suc i) q = h.types_ i q

    go2 : (i n : ℕ) → kind_at (kind_by b ∷ ks) i ≡ Some (operator_of n) → StandsForOperator ns js n ((with_arg a s).head_of i)
    go2 zero n q = head_first a b n f w q
    go2 (suc i) n q = h.heads_ i n q

args_keep : {ns : List (List ℕ)} {s : Replacement} {ks js : List Kind} (args : List PlainArg) (bs : PlainBounds) → FitTheirFields args bs → ArgsAreWellFormed ns js args → ReplacesKinds ns s ks js → ReplacesKinds ns (with_args args s) (kinds_under ks bs) js
args_keep [] no_bound f w h = h
args_keep [] (bounds b bs) f w h = absurd f
args_keep (a ∷ args) no_bound f w h = absurd f
args_keep (a ∷ args) (bounds b bs) f w h = args_keep args bs f.1 w.1 (arg_keeps a b f.0 w.0 h)

pub arguments_keep : (ns : List (List ℕ)) (ks : List Kind) (args : List PlainArg) (bs : PlainBounds) → FitTheirFields args bs → ArgsAreWellFormed ns ks args → ReplacesKinds ns (arguments args) (kinds_under ks bs) ks
arguments_keep ns ks args bs f w = args_keep args bs f w (record { types_ = λ i q. q; heads_ = λ i n q. q })

-- a record with its arguments is well formed
pub instance_formed : (ns : List (List ℕ)) (ks : List Kind) (args : List PlainArg) (bs : PlainBounds) (ps : PlainTypes) (ls : PlainLabels) → FitTheirFields args bs → ArgsAreWellFormed ns ks args → IsWellFormed ns ks (Fields bs ps ls) → IsWellFormed ns ks (instance_of args ps ls)
instance_formed ns ks args bs ps ls f a w =
    let h = arguments_keep ns ks args bs f a in
    (tt, (replace_types_formed ns ps h w.1.0, replace_labels_formed ns ls h w.1.1))
