-- The context after a pattern: it keeps the kinds of the variables before it, and the types that the pattern's
-- variables have are well formed in it.
use Rattle.std.specs.Prelude.{nat_eq}
use Rattle.std.proofs.Common.{◌≡◌, ℕ, suc, ◌+◌, Bool, true, false, List, [], ◌∷◌, ◌++◌, map, refl, subst, Some, arith}
use Rattle.pict_types.specs.Types.{PlainType, PlainTypes, PlainLabels, no_label, labels, TypeContext, type_at}
use Rattle.pict_types.specs.Renaming.{moved}
use Rattle.pict_types.specs.Kinds.{Kind, kinds, kind_at, IsWellFormed, AreWellFormed, LabelsAreWellFormed}
use Rattle.pict_types.proofs.Formed.{KeepsKinds, formed_renamed, formed_types_renamed, formed_labels_renamed, unfolding_formed}
use Rattle.pict_core.specs.Term.{Pat, Pats, LabelledPats}
use Rattle.pict_typing.specs.Worlds.{IsTypeIn, shifted}
use Rattle.pict_typing.specs.Opening.{Opens, binds_one, binds_none, lowered, opens_unfolding, opens_field, opens_record, OpenTypes, opens_none, opens_more, OpenLabels, opens_no_label, opens_label}

-- ---- kinds

keeps_none : (ks : List Kind) → KeepsKinds (moved 0 0) ks ks
keeps_none ks = record { each = λ i k q. subst (λ j. kind_at ks j ≡ Some k) (omega arith) q }

keeps_more : (m n : ℕ) {ks js ls : List Kind} → KeepsKinds (moved m 0) ks js → KeepsKinds (moved n 0) js ls → KeepsKinds (moved (m + n) 0) ks ls
keeps_more m n {ls = ls} x y = record { each = λ i k q. subst (λ j. kind_at ls j ≡ Some k) (omega arith) (y.each (i + m) k (x.each i k q)) }

keeps_field : (n : ℕ) {k : Kind} {ks js : List Kind} → KeepsKinds (moved n 0) (k ∷ ks) js → KeepsKinds (moved (n + 1) 0) ks js
keeps_field n {js = js} x = record { each = λ i k q. subst (λ j. kind_at js j ≡ Some k) (omega arith) (x.each (suc i) k q) }

mutual
  pub opens_keep : {names : List (List ℕ)} {c d : TypeContext} {p : Pat} {t : PlainType} {n : ℕ} {ts : List PlainType} → Opens names c p t d n ts → KeepsKinds (moved n 0) (kinds c) (kinds d)
  opens_keep binds_one = keeps_none _
  opens_keep binds_none = keeps_none _
  opens_keep (lowered u f e o) = opens_keep o
  opens_keep (opens_unfolding o) = opens_keep o
  opens_keep (opens_field {n = n} o) = keeps_field n (opens_keep o)
  opens_keep (opens_record {m = m} {n = n} i o q) = keeps_more m n (opens_types_keep o) (opens_labels_keep q)

  pub opens_types_keep : {names : List (List ℕ)} {c d : TypeContext} {p : Pats} {t : PlainTypes} {n : ℕ} {ts : List PlainType} → OpenTypes names c p t d n ts → KeepsKinds (moved n 0) (kinds c) (kinds d)
  opens_types_keep opens_none = keeps_none _
  opens_types_keep (opens_more {m = m} {n = n} o q) = keeps_more m n (opens_keep o) (opens_types_keep q)

  opens_labels_keep : {names : List (List ℕ)} {c d : TypeContext} {p : LabelledPats} {t : PlainLabels} {n : ℕ} {ts : List PlainType} → OpenLabels names c p t d n ts → KeepsKinds (moved n 0) (kinds c) (kinds d)
  opens_labels_keep opens_no_label = keeps_none _
  opens_labels_keep (opens_label {m = m} {n = n} e o q) = keeps_more m n (opens_keep o) (opens_labels_keep q)

-- ---- types

-- the type at a label is well formed
pub type_found : (names : List (List ℕ)) (ks : List Kind) (ls : PlainLabels) (l : ℕ) (t : PlainType) → type_at l ls ≡ Some t → LabelsAreWellFormed names ks ls → IsWellFormed names ks t
type_found names ks no_label l t e w = absurd (cc)
type_found names ks (labels m u ls) l t e w = go (nat_eq l m) refl (λ k. type_found names ks ls l t k w.1.1)
  where
    go : (b : Bool) → nat_eq l m ≡ b → (type_at l ls ≡ Some t → IsWellFormed names ks t) → IsWellFormed names ks t
    go true q k =
        let e2 : Some u ≡ Some t = rw q at e in
        let i : u ≡ t = cc in
        subst (IsWellFormed names ks) i w.1.0
    go false q k = k (rw q at e)

abbrev pub AreTypesIn : List (List ℕ) → TypeContext → List PlainType → Type 0
AreTypesIn names c [] = Unit {0}
AreTypesIn names c (t ∷ ts) = IsTypeIn names c t × AreTypesIn names c ts

types_joined : (names : List (List ℕ)) (c : TypeContext) (ts us : List PlainType) → AreTypesIn names c ts → AreTypesIn names c us → AreTypesIn names c (ts ++ us)
types_joined names c [] us x y = y
types_joined names c (t ∷ ts) us x y = (x.0, types_joined names c ts us x.1 y)

types_shifted : (names : List (List ℕ)) (c d : TypeContext) (n : ℕ) (ts : List PlainType) → KeepsKinds (moved n 0) (kinds c) (kinds d) → AreTypesIn names c ts → AreTypesIn names d (map (shifted n) ts)
types_shifted names c d n [] k x = tt
types_shifted names c d n (t ∷ ts) k x = (formed_renamed names t k x.0, types_shifted names c d n ts k x.1)

module _ (names : List (List ℕ)) where
  mutual
    pub types_opened : {c d : TypeContext} {p : Pat} {t : PlainType} {n : ℕ} {ts : List PlainType} → IsTypeIn names c t → Opens names c p t d n ts → AreTypesIn names d ts
    types_opened w binds_one = (w, tt)
    types_opened w binds_none = tt
    types_opened w (lowered u f e o) = types_opened f o
    types_opened {c = c} w (opens_unfolding {t = t} o) = types_opened (unfolding_formed names (kinds c) t w) o
    types_opened w (opens_field o) = types_opened (w.0.1, w.1) o
    types_opened {d = e} w (opens_record {d = d} {ls = ls} {n = n} {ts = ts} {us = us} i o q) =
        types_joined names e (map (shifted n) ts) us (types_shifted names d e n ts (opens_labels_keep q) (fields_opened w.1.0 o)) (labels_opened (formed_labels_renamed names ls (opens_types_keep o) w.1.1) q)

    fields_opened : {c d : TypeContext} {p : Pats} {t : PlainTypes} {n : ℕ} {ts : List PlainType} → AreWellFormed names (kinds c) t → OpenTypes names c p t d n ts → AreTypesIn names d ts
    fields_opened w opens_none = tt
    fields_opened {d = e} w (opens_more {d = d} {ps = ps} {n = n} {ts = ts} {us = us} o q) =
        types_joined names e (map (shifted n) ts) us (types_shifted names d e n ts (opens_types_keep q) (types_opened w.0 o)) (fields_opened (formed_types_renamed names ps (opens_keep o) w.1) q)

    labels_opened : {c d : TypeContext} {p : LabelledPats} {t : PlainLabels} {n : ℕ} {ts : List PlainType} → LabelsAreWellFormed names (kinds c) t → OpenLabels names c p t d n ts → AreTypesIn names d ts
    labels_opened w opens_no_label = tt
    labels_opened {c = c} {d = e} w (opens_label {d = d} {label = l} {p = p} {ls = ls} {n = n} {ts = ts} {us = us} f o q) =
        types_joined names e (map (shifted n) ts) us (types_shifted names d e n ts (opens_labels_keep q) (types_opened (type_found names (kinds c) ls l p f w) o)) (labels_opened (formed_labels_renamed names ls (opens_keep o) w) q)
