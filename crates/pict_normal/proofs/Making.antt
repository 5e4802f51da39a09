-- What is known of a type, a row and the arguments of an operator that were made.
use Rattle.pict_syntax.specs.declared.limits.TheConstants.{HEIGHT_LIMIT, WEIGHT_LIMIT}
use Rattle.std.proofs.Common.{◌≡◌, ℕ, ◌+◌, ◌≤◌, ◌<◌, max, List, [], ◌∷◌, ◌++◌, Option, Some, None, IfSome, IfNone, Result, Ok, Err, IfOk, IfErr, refl, sym, ◌∙◌, ap, subst, arith}
use Rattle.std.specs.declared.vec.Vec.{Vec}
use Rattle.std.specs.declared.alloc.Global.{Global}
use Rattle.pict_normal.specs.declared.made.Made.{Made}
use Rattle.pict_normal.specs.declared.made.Row.{Row}
use Rattle.pict_types.specs.declared.measure.Measures.{Measures}
use Rattle.pict_types.specs.declared.types.Ty.{Ty}
use Rattle.pict_types.specs.declared.types.Bound.{Bound}
use Rattle.pict_syntax.specs.declared.name.Name.{Name}
use Rattle.pict_types.specs.Types.{PlainType, PlainTypes, no_type, types, PlainLabels, no_label, labels, PlainBounds, no_bound}
use Rattle.pict_types.specs.Measures.{held, weigh, weigh_types, weigh_labels, rise, rise_types, rise_labels}
use Rattle.std.specs.Result.{IsErrAnd, IsOkAnd}
use Rattle.std.proofs.lemmas.Option.{IfSome_then}
use Rattle.pict_types.specs.declared.limits.Measure.TheVariants.{Weight, Height}
use Rattle.pict_types.specs.declared.limits.SizeError.{SizeError}
use Rattle.pict_types.specs.declared.limits.SizeError.TheVariants.{TooBig}
use Rattle.pict_normal.specs.declared.made.MakeError.{MakeError}
use Rattle.pict_normal.specs.declared.made.MakeError.TheVariants.{TooHeavy, Memory}
use Rattle.pict_normal.specs.Made.{IsMade, IsReason, IsRow, IsGrown, size_error}
use Rattle.pict_types.specs.Plain.{plain, plain_types, plain_labels, plain_bounds}
use Rattle.pict_types.proofs.Rows.{then_types, types_push, types_then_none, then_labels, labels_push, labels_then_none, then_bounds, bounds_then_none}

pub made_is : {ws hs : List ℕ} {t : PlainType} (m : Made) (u : Ty) → IsMade ws hs m t → m.ty ≡ Some u → plain u ≡ t
made_is {t = t} m u h e = subst (λ o. IfSome o (λ x. plain x ≡ t)) e h.made

pub row_is : {T A : Type 0} {whole : List T → A} {w left_w h left_h : ℕ} {all : A} (r : Row T) (v : Vec T Global) → IsRow whole r w left_w h left_h all → r.items ≡ Some v → whole v.items ≡ all
row_is {whole = whole} {all = all} r v x e = subst (λ o. IfSome o (λ y. whole y.items ≡ all)) e x.made

-- what is left may rise otherwise, as a u64 holds it
pub row_alike : {T A : Type 0} {whole : List T → A} {r : Row T} {w left_w h left_h : ℕ} {all : A} (h' left_h' : ℕ) → held h ≡ held h' → held left_h ≡ held left_h' → IsRow whole r w left_w h left_h all → IsRow whole r w left_w h' left_h' all
row_alike h' left_h' s t x = record {
  weight = x.weight;
  light = x.light;
  height = omega (arith, s, t, x.height);
  height_fits = x.height_fits;
  made = x.made;
  missing = x.missing;
}

grown : {T A : Type 0} (whole next : List T → A) (all : A) (q o : Option (Vec T Global)) (p : Option T) → IfSome q (λ v. IsGrown o p v.items) → IfSome o (λ v. whole v.items ≡ all) → IfSome p (λ x. (xs : List T) → next (xs ++ x ∷ []) ≡ whole xs) → IfSome q (λ v. next v.items ≡ all)
grown whole next all None o p g s k = tt
grown whole next all (Some v) None p g s k = absurd g
grown whole next all (Some v) (Some xs) None g s k = absurd g
grown whole next all (Some v) (Some xs) (Some x) g s k = ap next g ∙ k xs.items ∙ s

-- one more part
pub row_step : {T A : Type 0} {whole : List T → A} {r : Row T} {w h all_w all_h : ℕ} {all : A} (next : List T → A) (s : Row T) (m : Measures) (part : Option T) (a b left_w left_h : ℕ) → w ≡ a + left_w → h ≡ max b left_h → IsRow whole r all_w w all_h h all → m.weight ≡ a → m.height ≡ held b → s.measures.weight ≡ r.measures.weight + m.weight → s.measures.weight ≤ WEIGHT_LIMIT → s.measures.height ≡ max r.measures.height m.height → IfSome s.items (λ v. IsGrown r.items part v.items) → (IfNone r.items (HEIGHT_LIMIT < r.measures.height) → IfNone part (HEIGHT_LIMIT < m.height) → IfNone s.items (HEIGHT_LIMIT < s.measures.height)) → IfNone part (HEIGHT_LIMIT < m.height) → IfSome part (λ x. (xs : List T) → next (xs ++ x ∷ []) ≡ whole xs) → IsRow next s all_w left_w all_h left_h all
row_step {whole = whole} {r = r} {all = all} next s m part a b left_w left_h p q x e f g light k l n o y = record {
  weight = omega (arith, p, x.weight, e, g);
  height = omega (arith, q, x.height, f, k);
  light = light;
  height_fits = omega (arith, k, f, x.height_fits);
  made = grown whole next all s.items r.items part l x.made y;
  missing = n x.missing o;
}

-- one more type in a row
pub types_more : {r : Row Ty} {all_w all_h : ℕ} {all : PlainTypes} (ws hs : List ℕ) (u : PlainType) (us : PlainTypes) (m : Made) (s : Row Ty) → IsRow (λ xs. then_types (plain_types xs) (types u us)) r all_w (weigh_types ws (types u us)) all_h (rise_types hs (types u us)) all → IsMade ws hs m u → s.measures.weight ≡ r.measures.weight + m.measures.weight → s.measures.weight ≤ WEIGHT_LIMIT → s.measures.height ≡ max r.measures.height m.measures.height → IfSome s.items (λ v. IsGrown r.items m.ty v.items) → (IfNone r.items (HEIGHT_LIMIT < r.measures.height) → IfNone m.ty (HEIGHT_LIMIT < m.measures.height) → IfNone s.items (HEIGHT_LIMIT < s.measures.height)) → IsRow (λ xs. then_types (plain_types xs) us) s all_w (weigh_types ws us) all_h (rise_types hs us) all
types_more ws hs u us m s x h g light k l n =
    row_step (λ xs. then_types (plain_types xs) us) s m.measures m.ty (weigh ws u) (rise hs u) (weigh_types ws us) (rise_types hs us) refl refl x h.weight h.height g light k l n h.missing (IfSome_then m.ty h.made (λ y e xs. go y e xs))
  where
    go : (y : Ty) → plain y ≡ u → (xs : List Ty) → then_types (plain_types (xs ++ y ∷ [])) us ≡ then_types (plain_types xs) (types u us)
    go y e xs = types_push xs y us ∙ ap (λ t. then_types (plain_types xs) (types t us)) e

-- one more labelled field in a row
pub labels_more : {r : Row (Name × Ty)} {all_w all_h : ℕ} {all : PlainLabels} (ws hs : List ℕ) (l : Name) (u : PlainType) (us : PlainLabels) (m : Made) (part : Option (Name × Ty)) (s : Row (Name × Ty)) → IsRow (λ xs. then_labels (plain_labels xs) (labels l.0 u us)) r all_w (weigh_labels ws (labels l.0 u us)) all_h (rise_labels hs (labels l.0 u us)) all → IsMade ws hs m u → IfSome m.ty (λ t. part ≡ Some (l, t)) → (m.ty ≡ None → part ≡ None) → s.measures.weight ≡ r.measures.weight + m.measures.weight → s.measures.weight ≤ WEIGHT_LIMIT → s.measures.height ≡ max r.measures.height m.measures.height → IfSome s.items (λ v. IsGrown r.items part v.items) → (IfNone r.items (HEIGHT_LIMIT < r.measures.height) → IfNone part (HEIGHT_LIMIT < m.measures.height) → IfNone s.items (HEIGHT_LIMIT < s.measures.height)) → IsRow (λ xs. then_labels (plain_labels xs) us) s all_w (weigh_labels ws us) all_h (rise_labels hs us) all
labels_more ws hs l u us m part s x h some none g light k q n =
    row_step (λ xs. then_labels (plain_labels xs) us) s m.measures part (weigh ws u) (rise hs u) (weigh_labels ws us) (rise_labels hs us) refl refl x h.weight h.height g light k q n (missing part m.ty some h.missing) (there part m.ty some none h.made)
  where
    missing : (o : Option (Name × Ty)) (p : Option Ty) → IfSome p (λ t. o ≡ Some (l, t)) → IfNone p (HEIGHT_LIMIT < m.measures.height) → IfNone o (HEIGHT_LIMIT < m.measures.height)
    missing None None e d = d
    missing None (Some t) e d = absurd (cc)
    missing (Some y) p e d = tt

    there : (o : Option (Name × Ty)) (p : Option Ty) → IfSome p (λ t. o ≡ Some (l, t)) → (p ≡ None → o ≡ None) → IfSome p (λ t. plain t ≡ u) → IfSome o (λ y. (xs : List (Name × Ty)) → then_labels (plain_labels (xs ++ y ∷ [])) us ≡ then_labels (plain_labels xs) (labels l.0 u us))
    there None p e f d = tt
    there (Some y) None e f d = absurd (cc (f refl))
    there (Some y) (Some t) e f d =
        let is : y ≡ (l, t) = cc in
        λ xs. labels_push xs y us ∙ ap (λ z. then_labels (plain_labels xs) (labels z.0.0 (plain z.1) us)) is ∙ ap (λ z. then_labels (plain_labels xs) (labels l.0 z us)) d

-- a type without parts
pub leaf_is : {ws hs : List ℕ} (m : Made) (u : Ty) (t : PlainType) → m.measures ≡ record { weight = 1; height = 1 } → m.ty ≡ Some u → plain u ≡ t → weigh ws t ≡ 1 → rise hs t ≡ 1 → IsMade ws hs m t
leaf_is m u t e f g w h =
    let one = ap (λ y. y.weight) e in
    let low = ap (λ y. y.height) e in
    record {
      weight = omega (arith, one, w);
      light = omega (arith, one);
      height = omega (arith, low, h);
      made = subst (λ o. IfSome o (λ x. plain x ≡ t)) (sym f) g;
      low = subst (λ o. IfSome o (λ x. m.measures.height ≤ HEIGHT_LIMIT)) (sym f) (omega (arith, low));
      missing = subst (λ o. IfNone o (HEIGHT_LIMIT < m.measures.height)) (sym f) tt;
    }

-- an error on the way is an error of the whole
pub reason_by : (v w : ℕ) (e : MakeError) → (WEIGHT_LIMIT < v → WEIGHT_LIMIT < w) → IsReason v e → IsReason w e
reason_by v w TooHeavy f h = f h
reason_by v w Memory f h = tt

pub passed_on : {T E : Type 0} (P : E → Type 0) (r : Result T E) (e : E) → IsErrAnd r (λ y. y ≡ e) → P e → IfErr r P
passed_on P (Ok x) e is p = tt
passed_on P (Err y) e is p = subst P (sym is) p

pub passed_reason : {T : Type 0} (r : Result T MakeError) (e : MakeError) (v w : ℕ) → IsErrAnd r (λ y. y ≡ e) → (WEIGHT_LIMIT < v → WEIGHT_LIMIT < w) → IsReason v e → IfErr r (λ y. IsReason w y)
passed_reason r e v w is f h = passed_on (IsReason w) r e is (reason_by v w e f h)

pub ok_both : {T E : Type 0} {P Q : T → Type 0} {R : Type 0} (r : Result T E) → ((x : T) → P x → Q x → R) → IfOk r P → IsOkAnd r Q → R
ok_both (Ok x) f p q = f x p q
ok_both (Err e) f p q = absurd q

pub err_both : {T U E F : Type 0} {A : U → Type 0} {B : F → Type 0} {P : U → E → Type 0} {Q : F → E → Type 0} {R : E → Type 0} (r : Result T E) (m : Result U F) → ((x : U) → A x → (e : E) → P x e → R e) → ((y : F) → B y → (e : E) → Q y e → R e) → IfOk m A → IfErr m B → IfErr r (λ e. IfOk m (λ x. P x e)) → IfErr r (λ e. IfErr m (λ y. Q y e)) → IfErr r R
err_both (Ok x) m f g a b p q = tt
err_both (Err e) (Ok x) f g a b p q = f x a e p
err_both (Err e) (Err y) f g a b p q = g y b e q

-- the error of an instance
pub heavy_error : {T : Type 0} (r : Result T SizeError) (e : MakeError) (v w : ℕ) → IsErrAnd r (λ y. y ≡ size_error e) → (WEIGHT_LIMIT < v → WEIGHT_LIMIT < w) → IsReason v e → r ≡ Err (TooBig Weight) → WEIGHT_LIMIT < w
heavy_error (Ok x) e v w is f h same = absurd is
heavy_error (Err y) TooHeavy v w is f h same = f h
heavy_error (Err y) Memory v w is f h same = absurd (cc)

pub not_high : {T : Type 0} (r : Result T SizeError) (e : MakeError) → IsErrAnd r (λ y. y ≡ size_error e) → r ≡ Err (TooBig Height) → ⊥
not_high (Ok x) e is same = is
not_high (Err y) TooHeavy is same = cc
not_high (Err y) Memory is same = cc

pub if_err : {T E : Type 0} {P Q : E → Type 0} (r : Result T E) → ((e : E) → P e → Q e) → IfErr r P → IfErr r Q
if_err (Ok x) f h = tt
if_err (Err e) f h = f e h

pub if_ok : {T E : Type 0} {P Q : T → Type 0} (r : Result T E) → ((x : T) → P x → Q x) → IfOk r P → IfOk r Q
if_ok (Ok x) f h = f x h
if_ok (Err e) f h = tt

-- a row with all its parts
row_whole : {T A : Type 0} {whole : List T → A} {r : Row T} {w h : ℕ} {all : A} (next : List T → A) → ((xs : List T) → next xs ≡ whole xs) → IsRow whole r w 0 h 0 all → IsRow next r w 0 h 0 all
row_whole {r = r} next e x = record {
  weight = x.weight;
  height = x.height;
  light = x.light;
  height_fits = x.height_fits;
  made = IfSome_then r.items x.made (λ v i. e v.items ∙ i);
  missing = x.missing;
}

pub types_done : {r : Row Ty} {w h : ℕ} {all : PlainTypes} → IsRow (λ xs. then_types (plain_types xs) no_type) r w 0 h 0 all → IsRow plain_types r w 0 h 0 all
types_done x = row_whole plain_types (λ xs. sym (types_then_none (plain_types xs))) x

pub labels_done : {r : Row (Name × Ty)} {w h : ℕ} {all : PlainLabels} → IsRow (λ xs. then_labels (plain_labels xs) no_label) r w 0 h 0 all → IsRow plain_labels r w 0 h 0 all
labels_done x = row_whole plain_labels (λ xs. sym (labels_then_none (plain_labels xs))) x

pub fields_done : {r : Row Bound} {w h : ℕ} {all : PlainBounds} → IsRow (λ xs. then_bounds (plain_bounds xs) no_bound) r w 0 h 0 all → IsRow plain_bounds r w 0 h 0 all
fields_done x = row_whole plain_bounds (λ xs. sym (bounds_then_none (plain_bounds xs))) x
