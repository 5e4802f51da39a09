-- A pattern that opens a type fits each closed value of that type, and finds values of the types that it names.
use Rattle.std.specs.Prelude.{nat_eq, option_and_then}
use Rattle.std.proofs.lemmas.Bool.{eqb-true}
use Rattle.std.proofs.Common.{◌≡◌, ℕ, ◌+◌, Bool, true, false, List, [], ◌∷◌, ◌++◌, map, refl, sym, ap₂, subst, Option, Some}
use Rattle.pict_types.specs.Types.{PlainType, Fields, PlainTypes, PlainLabels, PlainBound, PlainBounds, no_bound, bounds, PlainArg, TypeContext, type_at}
use Rattle.pict_types.specs.Replacing.{Replacement, replace, replace_types, replace_labels, with_arg}
use Rattle.pict_types.specs.Kinds.{kinds, AreWellFormed, LabelsAreWellFormed}
use Rattle.pict_types.proofs.Formed.{formed_types_renamed, formed_labels_renamed, unfolding_formed}
use Rattle.pict_types.proofs.Composed.{replace_twice, argument_last}
use Rattle.pict_types.proofs.Replaced.{type_at_replaced}
use Rattle.pict_types.proofs.Replacements.{formed_arg_normal}
use Rattle.pict_sub.proofs.Replaced.{replaced}
use Rattle.pict_core.specs.Term.{Val, Vals, Labelled, Record, Pat, Pats, LabelledPats, RecordPat}
use Rattle.pict_core.specs.Matching.{field_at, both, match_value, match_values, match_labelled}
use Rattle.pict_typing.specs.Worlds.{over, IsTypeIn, with_first, MayStandFor, shifted}
use Rattle.pict_typing.specs.Opening.{Opens, binds_one, binds_none, lowered, opens_unfolding, opens_field, opens_record, OpenTypes, opens_none, opens_more, OpenLabels, opens_no_label, opens_label}
use Rattle.pict_typing.specs.Instantiating.{Instantiates}
use Rattle.pict_typing.specs.Processes.{AreClosedTypes}
use Rattle.pict_typing.proofs.Crossing.{Drops, drops_none, drops_more, drops_field, drops_types, drops_labels, list_drops, unfolding_replaced}
use Rattle.pict_typing.proofs.Openings.{opens_keep, opens_types_keep, type_found}
use Rattle.pict_typing.proofs.Instantiating.{argument_instantiates, type_instantiated}
use Rattle.pict_typing.proofs.Forms.{Fits, record_fits, package_fits, AllFit, none_fit, more_fit, LabelsFit, none_left, found, fold_inside}
use Rattle.pict_typing.proofs.Above.{fits_above}

-- ---- values and types, in order

abbrev pub FitInOrder : List (List ℕ) → List PlainType → List Val → List PlainType → Type 0
FitInOrder names ms [] [] = Unit {0}
FitInOrder names ms [] (t ∷ ts) = ⊥
FitInOrder names ms (v ∷ vs) [] = ⊥
FitInOrder names ms (v ∷ vs) (t ∷ ts) = Fits names ms v t × FitInOrder names ms vs ts

fit_more : (names : List (List ℕ)) (ms : List PlainType) (vs ws : List Val) (ts us : List PlainType) → FitInOrder names ms vs ts → FitInOrder names ms ws us → FitInOrder names ms (vs ++ ws) (ts ++ us)
fit_more names ms [] ws [] us x y = y
fit_more names ms [] ws (t ∷ ts) us x y = absurd x
fit_more names ms (v ∷ vs) ws [] us x y = absurd x
fit_more names ms (v ∷ vs) ws (t ∷ ts) us x y = (x.0, fit_more names ms vs ws ts us x.1 y)

-- A pattern that opens n variables, which make d, and has the types ts for what it binds, finds values of these types,
-- once the new variables have the arguments that the value's packages have. So far r stood for the variables.
pub record Finds (names : List (List ℕ)) (ms : List PlainType) (r : Replacement) (d : TypeContext) (n : ℕ) (ts : List PlainType) (looked : Option (List Val)) : Type 0 where
  pub parts : List Val
  pub later : Replacement
  pub is : looked ≡ Some parts
  pub instantiates : Instantiates names later d []
  pub drops : Drops n later r
  pub fit : FitInOrder names ms parts (map (replace later) ts)

joined : {names : List (List ℕ)} {ms : List PlainType} {r : Replacement} {d e : TypeContext} {m n : ℕ} {ts us : List PlainType} {a b : Option (List Val)} (x : Finds names ms r d m ts a) → Finds names ms x.later e n us b → Finds names ms r e (m + n) (map (shifted n) ts ++ us) (both a b)
joined {names = names} {ms = ms} {m = m} {n = n} {ts = ts} {us = us} x y =
    record {
      parts = x.parts ++ y.parts;
      later = y.later;
      is = ap₂ both x.is y.is;
      instantiates = y.instantiates;
      drops = drops_more m n x.drops y.drops;
      fit = subst (FitInOrder names ms (x.parts ++ y.parts)) (list_drops n ts us y.drops) (fit_more names ms x.parts y.parts (map (replace x.later) ts) (map (replace y.later) us) x.fit y.fit);
    }

one_field_more : {names : List (List ℕ)} {ms : List PlainType} {r : Replacement} {d : TypeContext} {n : ℕ} {ts : List PlainType} {a : Option (List Val)} (arg : PlainArg) → Finds names ms (with_arg arg r) d n ts a → Finds names ms r d (n + 1) ts a
one_field_more {n = n} arg x = record { parts = x.parts; later = x.later; is = x.is; instantiates = x.instantiates; drops = drops_field n arg x.drops; fit = x.fit }

-- ---- the parts of a canonical form

record Package (names : List (List ℕ)) (ms : List PlainType) (v : Val) (b : PlainBound) (bs : PlainBounds) (ps : PlainTypes) (ls : PlainLabels) : Type 0 where
  arg : PlainArg
  may : MayStandFor (over names ms) b arg
  inside : Fits names ms v (with_first arg bs ps ls)

package_of : {names : List (List ℕ)} {ms : List PlainType} {v : Val} {b : PlainBound} {bs : PlainBounds} {ps : PlainTypes} {ls : PlainLabels} → Fits names ms v (Fields (bounds b bs) ps ls) → Package names ms v b bs ps ls
package_of (package_fits a may x) = record { arg = a; may = may; inside = x }

record Fieldwise (names : List (List ℕ)) (ms : List PlainType) (v : Val) (ps : PlainTypes) (ls : PlainLabels) : Type 0 where
  positional : Vals
  labelled : Labelled
  is : v ≡ Record positional labelled
  all : AllFit names ms positional ps
  each : LabelsFit names ms labelled ls

fieldwise : {names : List (List ℕ)} {ms : List PlainType} {v : Val} {ps : PlainTypes} {ls : PlainLabels} → Fits names ms v (Fields no_bound ps ls) → Fieldwise names ms v ps ls
fieldwise (record_fits {vs = vs} {ws = ws} h x y) = record { positional = vs; labelled = ws; is = refl; all = x; each = y }

label_fits : {names : List (List ℕ)} {ms : List PlainType} {ws : Labelled} {ls : PlainLabels} (l : ℕ) (t : PlainType) → type_at l ls ≡ Some t → LabelsFit names ms ws ls → (v : Val) × (field_at l ws ≡ Some v) × Fits names ms v t
label_fits l t e none_left = absurd (cc)
label_fits {names = names} {ms = ms} {ws = ws} l t e (found {l = m} {v = v} {t = u} {ls = ls} f x y) = go (nat_eq l m) refl (λ k. label_fits l t k y)
  where
    go : (b : Bool) → nat_eq l m ≡ b → (type_at l ls ≡ Some t → (v : Val) × (field_at l ws ≡ Some v) × Fits names ms v t) → (v : Val) × (field_at l ws ≡ Some v) × Fits names ms v t
    go true q k =
        let e2 : Some u ≡ Some t = rw q at e in
        let i : u ≡ t = cc in
        (v, subst (λ z. field_at z ws ≡ Some v) (sym (eqb-true l m q)) f, subst (Fits names ms v) i x)
    go false q k = k (rw q at e)

-- ---- patterns against values

module _ (names : List (List ℕ)) (ms : List PlainType) (closed_ : AreClosedTypes names ms) where
  mutual
    pub meets : {c d : TypeContext} {r : Replacement} {p : Pat} {t : PlainType} {n : ℕ} {ts : List PlainType} {v : Val} → IsTypeIn names c t → Instantiates names r c [] → Opens names c p t d n ts → Fits names ms v (replace r t) → Finds names ms r d n ts (match_value p v)
    meets {r = r} {v = v} w i binds_one x = record { parts = v ∷ []; later = r; is = refl; instantiates = i; drops = drops_none r; fit = (x, tt) }
    meets {r = r} w i binds_none x = record { parts = []; later = r; is = refl; instantiates = i; drops = drops_none r; fit = tt }
    meets {r = r} {t = t} w i (lowered u f e o) x = meets f i o (fits_above names ms closed_ (replace r u) (type_instantiated names t i w) (type_instantiated names u i f) x (replaced i.within e))
    meets {c = c} {r = r} {v = v} w i (opens_unfolding {t = t} o) x =
        meets (unfolding_formed names (kinds c) t w) i o (subst (Fits names ms v) (sym (unfolding_replaced t i.normal)) (fold_inside x))
    meets {c = c} {r = r} {v = v} w i (opens_field {b = b} {bs = bs} {ps = ps} {ls = ls} o) x =
        let k = package_of x in
        one_field_more k.arg (meets (w.0.1, w.1) (argument_instantiates names ms r c k.arg b i k.may) o (subst (Fits names ms v) (replace_twice (Fields bs ps ls) (argument_last k.arg r (formed_arg_normal names [] k.arg k.may.formed) i.normal)) k.inside))
    meets {d = d} {r = r} {v = v} w i (opens_record {qs = qs} {rs = rs} {ls = ls} {m = m} {n = n} {ts = ts} {us = us} dist o q) x =
        let k = fieldwise x in
        let a = meets_types w.1.0 i o k.all in
        let b = meets_labels (formed_labels_renamed names ls (opens_types_keep o) w.1.1) a.instantiates q (subst (LabelsFit names ms k.labelled) (sym (drops_labels m ls a.drops)) k.each) in
        subst (λ z. Finds names ms r d (m + n) (map (shifted n) ts ++ us) (match_value (RecordPat qs rs) z)) (sym k.is) (joined a b)

    meets_types : {c d : TypeContext} {r : Replacement} {p : Pats} {t : PlainTypes} {n : ℕ} {ts : List PlainType} {v : Vals} → AreWellFormed names (kinds c) t → Instantiates names r c [] → OpenTypes names c p t d n ts → AllFit names ms v (replace_types r t) → Finds names ms r d n ts (match_values p v)
    meets_types {r = r} w i opens_none none_fit = record { parts = []; later = r; is = refl; instantiates = i; drops = drops_none r; fit = tt }
    meets_types w i (opens_more {ps = ps} {m = m} o q) (more_fit {vs = vs} x y) =
        let a = meets w.0 i o x in
        joined a (meets_types (formed_types_renamed names ps (opens_keep o) w.1) a.instantiates q (subst (AllFit names ms vs) (sym (drops_types m ps a.drops)) y))

    meets_labels : {c d : TypeContext} {r : Replacement} {p : LabelledPats} {t : PlainLabels} {n : ℕ} {ts : List PlainType} {v : Labelled} → LabelsAreWellFormed names (kinds c) t → Instantiates names r c [] → OpenLabels names c p t d n ts → LabelsFit names ms v (replace_labels r t) → Finds names ms r d n ts (match_labelled p v)
    meets_labels {r = r} w i opens_no_label x = record { parts = []; later = r; is = refl; instantiates = i; drops = drops_none r; fit = tt }
    meets_labels {c = c} {d = d} {r = r} {v = v} w i (opens_label {label = l} {q = p} {qs = ps} {p = t} {ls = ls} {m = m} {n = n} {ts = ts} {us = us} e o q) x =
        let f = label_fits l (replace r t) (type_at_replaced r l ls t e) x in
        let a = meets (type_found names (kinds c) ls l t e w) i o f.2 in
        let b = meets_labels (formed_labels_renamed names ls (opens_keep o) w) a.instantiates q (subst (LabelsFit names ms v) (sym (drops_labels m ls a.drops)) x) in
        subst (λ z. Finds names ms r d (m + n) (map (shifted n) ts ++ us) (both (option_and_then (match_value p) z) (match_labelled ps v))) (sym f.1) (joined a b)
