-- What is placed under binders is placed in its parts.
use Rattle.std.proofs.Common.{◌≡◌, ℕ, suc, ◌+◌, ◌<◌, List, [], ◌∷◌, ◌++◌, length, get_or, drop, refl, sym, ◌∙◌, ap, subst}
use Rattle.pict_types.specs.declared.measure.Measures.{Measures}
use Rattle.pict_normal.specs.declared.puts.Puts.{Puts}
use Rattle.pict_types.specs.declared.types.Bound.{Bound}
use Rattle.pict_types.specs.declared.types.Ty.{Ty}
use Rattle.pict_syntax.specs.declared.name.Name.{Name}
use Rattle.pict_types.specs.Types.{PlainType, Rec, PlainBound, PlainBounds, bounds, count_bounds}
use Rattle.pict_types.specs.Kinds.{Kind, proper, kind_by, kinds, kinds_under, IsWellFormed, AreWellFormed, LabelsAreWellFormed, BoundsAreWellFormed, BoundIsWellFormed}
use Rattle.pict_types.specs.Fitting.{ReplacesKinds}
use Rattle.pict_types.specs.Plain.{plain, plain_bound, plain_types, plain_labels, plain_bounds}
use Rattle.pict_types.specs.Replacing.{replacement_past, replace_bound, replace_bounds}
use Rattle.pict_normal.specs.Putting.{FitsKinds, IsUnder, context_names, variables_in, replacement_in, replacement_of}
use Rattle.pict_types.proofs.Formed.{replaces_beyond, replaces_under, replaced_kind}
use Rattle.pict_types.proofs.Past.{all_past}
use Rattle.pict_types.proofs.Items.{types_formed, labels_formed, bounds_next}

pub placed_part : {p : Puts} {ms : List Measures} {F : List Kind → Type 0} (G : List Kind → Type 0) → ((ks : List Kind) → F ks → G ks) → FitsKinds p ms F → FitsKinds p ms G
placed_part G go x = record {
  sources = x.sources;
  targets = x.targets;
  keeps = x.keeps;
  formed = go x.sources x.formed;
}

-- the same binders
pub placed_same : {p : Puts} {ms : List Measures} {F : List Kind → Type 0} (ks : List Measures) → ks ≡ ms → FitsKinds p ms F → FitsKinds p ks F
placed_same {p = p} {F = F} ks e x = subst (λ y. FitsKinds p y F) (sym e) x

pub one_more : (ms : List Measures) (m : Measures) → length (ms ++ m ∷ []) ≡ suc (length ms)
one_more [] m = refl
one_more (x ∷ ms) m = ap suc (one_more ms m)

-- under one more binder
placed_further : {p : Puts} {ms : List Measures} {F : List Kind → Type 0} (G : List Kind → Type 0) (m : Measures) (i j : Kind) → i ≡ j → ((ks : List Kind) → F ks → G (i ∷ ks)) → FitsKinds p ms F → FitsKinds p (ms ++ m ∷ []) G
placed_further {p = p} {ms = ms} G m i j e go x =
    let l = one_more ms m in
    record {
      sources = i ∷ x.sources;
      targets = j ∷ x.targets;
      keeps = subst (λ d. ReplacesKinds (context_names p) (replacement_past d (replacement_of p)) (i ∷ x.sources) (j ∷ x.targets)) (sym l) (replaces_beyond i j e x.keeps);
      formed = go x.sources x.formed;
    }

pub placed_rec : {p : Puts} {ms : List Measures} (t : PlainType) (m : Measures) → FitsKinds p ms (λ ks. IsWellFormed (context_names p) ks (Rec t)) → FitsKinds p (ms ++ m ∷ []) (λ ks. IsWellFormed (context_names p) ks t)
placed_rec {p = p} t m x = placed_further (λ ks. IsWellFormed (context_names p) ks t) m proper proper refl (λ ks y. y) x

pub placed_rest : {p : Puts} {ms : List Measures} (b : PlainBound) (bs : PlainBounds) (m : Measures) → FitsKinds p ms (λ ks. BoundsAreWellFormed (context_names p) ks (bounds b bs)) → FitsKinds p (ms ++ m ∷ []) (λ ks. BoundsAreWellFormed (context_names p) ks bs)
placed_rest {p = p} {ms = ms} b bs m x =
    placed_further (λ ks. BoundsAreWellFormed (context_names p) ks bs) m (kind_by b) (kind_by (replace_bound (replacement_in p ms) b)) (replaced_kind (replacement_in p ms) b) (λ ks y. y.1) x

pub placed_under : {p : Puts} {ms : List Measures} {F : List Kind → Type 0} (ks : List Measures) (bs : PlainBounds) (G : List Kind → Type 0) → IsUnder p ms ks bs → ((js : List Kind) → F js → G (kinds_under js bs)) → FitsKinds p ms F → FitsKinds p ks G
placed_under {p = p} {ms = ms} ks bs G u go x =
    let s = replacement_of p in
    let past : replacement_past (length ks) s ≡ replacement_past (length ms + count_bounds bs) s = ap (λ d. replacement_past d s) u.count in
    record {
      sources = kinds_under x.sources bs;
      targets = kinds_under x.targets (replace_bounds (replacement_in p ms) bs);
      keeps = subst (λ r. ReplacesKinds (context_names p) r (kinds_under x.sources bs) (kinds_under x.targets (replace_bounds (replacement_in p ms) bs))) (all_past (length ms) s bs ∙ sym past) (replaces_under bs x.keeps);
      formed = go x.sources x.formed;
    }

pub placed_item : {p : Puts} {ms : List Measures} (ns : List Measures) (xs : List Ty) (i : ℕ) (x : Ty) → ns ≡ ms → i < length xs → x ≡ get_or xs i x → FitsKinds p ms (λ ks. AreWellFormed (context_names p) ks (plain_types xs)) → FitsKinds p ns (λ ks. IsWellFormed (context_names p) ks (plain x))
placed_item {p = p} ns xs i x q h e y =
    placed_same ns q (placed_part (λ ks. IsWellFormed (context_names p) ks (plain x)) (λ ks w. subst (λ z. IsWellFormed (context_names p) ks (plain z)) (sym e) (types_formed (context_names p) ks xs i x w h)) y)

pub placed_label : {p : Puts} {ms : List Measures} (ns : List Measures) (xs : List (Name × Ty)) (i : ℕ) (x : Name × Ty) → ns ≡ ms → i < length xs → x ≡ get_or xs i x → FitsKinds p ms (λ ks. LabelsAreWellFormed (context_names p) ks (plain_labels xs)) → FitsKinds p ns (λ ks. IsWellFormed (context_names p) ks (plain x.1))
placed_label {p = p} ns xs i x q h e y =
    placed_same ns q (placed_part (λ ks. IsWellFormed (context_names p) ks (plain x.1)) (λ ks w. subst (λ z. IsWellFormed (context_names p) ks (plain z.1)) (sym e) (labels_formed (context_names p) ks xs i x w h)) y)

pub placed_bound : {p : Puts} {ms : List Measures} (xs : List Bound) (i : ℕ) (x : Bound) → i < length xs → x ≡ get_or xs i x → FitsKinds p ms (λ ks. BoundsAreWellFormed (context_names p) ks (plain_bounds (drop i xs))) → FitsKinds p ms (λ ks. BoundIsWellFormed (context_names p) ks (plain_bound x))
placed_bound {p = p} xs i x h e y =
    placed_part (λ ks. BoundIsWellFormed (context_names p) ks (plain_bound x)) (λ ks w. (subst (BoundsAreWellFormed (context_names p) ks) (bounds_next xs i x h e) w).0) y

-- nothing is around it yet
pub placed_first : {p : Puts} {F : List Kind → Type 0} (ms : List Measures) (sources : List Kind) → ms ≡ [] → ReplacesKinds (context_names p) (replacement_of p) sources (kinds (variables_in p)) → F sources → FitsKinds p ms F
placed_first {p = p} ms sources e s w =
    placed_same ms e (record {
      sources = sources;
      targets = kinds (variables_in p);
      keeps = s;
      formed = w;
    })
