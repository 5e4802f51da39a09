-- Patterns against types: a pattern opens packages, and its variables have types.
use Rattle.std.specs.Prelude.{◌≡◌, ◌≢◌, ℕ, ◌+◌, List, [], ◌∷◌, ◌++◌, map, Some}
use Rattle.pict_types.specs.Types.{PlainType, Fields, Rec, PlainTypes, no_type, types, PlainLabels, PlainBound, PlainBounds, no_bound, bounds, TypeContext, type_at}
use Rattle.pict_types.specs.Renaming.{rename_types, rename_labels, moved}
use Rattle.pict_types.specs.Replacing.{unfolding_of}
use Rattle.pict_sub.specs.Subtyping.{IsSubtype}
use Rattle.pict_core.specs.Term.{Pat, Pats, LabelledPats, Bind, Any, RecordPat, no_pats, more_pats, no_labelled_pats, more_labelled_pats}
use Rattle.pict_typing.specs.Worlds.{IsTypeIn, shifted}

-- no field of the pattern has this label
abbrev pub LacksLabel : ℕ → LabelledPats → Type 0
LacksLabel label no_labelled_pats = Unit {0}
LacksLabel label (more_labelled_pats l p ps) = (label ≢ l) × LacksLabel label ps

-- no label stands twice
abbrev pub LabelsAreDistinct : LabelledPats → Type 0
LabelsAreDistinct no_labelled_pats = Unit {0}
LabelsAreDistinct (more_labelled_pats label p ps) = LacksLabel label ps × LabelsAreDistinct ps

-- Opens names c p t d n ts: against the type t, written in c, the pattern p opens n type variables, which make d of c.
-- The variables that it binds have the types ts, in order; these are written in d.
mutual
  pub data Opens (names : List (List ℕ)) : TypeContext → Pat → PlainType → TypeContext → ℕ → List PlainType → Type 0 where
    -- a variable has the whole type; a wildcard binds nothing
    binds_one : {c : TypeContext} {t : PlainType} → Opens names c Bind t c 0 (t ∷ [])
    binds_none : {c : TypeContext} {t : PlainType} → Opens names c Any t c 0 []
    -- what opens a type above t opens t
    lowered : {c d : TypeContext} {p : Pat} {t : PlainType} (u : PlainType) {n : ℕ} {ts : List PlainType}
        → IsTypeIn names c u → IsSubtype c t u → Opens names c p u d n ts → Opens names c p t d n ts
    -- what opens the unfolding of a recursive type opens the recursive type
    opens_unfolding : {c d : TypeContext} {p : Pat} {t : PlainType} {n : ℕ} {ts : List PlainType}
        → Opens names c p (unfolding_of t) d n ts → Opens names c p (Rec t) d n ts
    -- a package: its first type field becomes a new type variable, with the field's bound
    opens_field : {c d : TypeContext} {p : Pat} {b : PlainBound} {bs : PlainBounds} {ps : PlainTypes} {ls : PlainLabels} {n : ℕ} {ts : List PlainType}
        → Opens names (b ∷ c) p (Fields bs ps ls) d n ts → Opens names c p (Fields (bounds b bs) ps ls) d (n + 1) ts
    -- a record pattern in which no label stands twice: the positional fields, then the labelled ones
    opens_record : {c d e : TypeContext} {qs : Pats} {rs : LabelledPats} {ps : PlainTypes} {ls : PlainLabels} {m n : ℕ} {ts us : List PlainType}
        → LabelsAreDistinct rs → OpenTypes names c qs ps d m ts → OpenLabels names d rs (rename_labels (moved m 0) ls) e n us
        → Opens names c (RecordPat qs rs) (Fields no_bound ps ls) e (m + n) (map (shifted n) ts ++ us)

  -- as many patterns as types, each in the type variables that those before it opened
  pub data OpenTypes (names : List (List ℕ)) : TypeContext → Pats → PlainTypes → TypeContext → ℕ → List PlainType → Type 0 where
    opens_none : {c : TypeContext} → OpenTypes names c no_pats no_type c 0 []
    opens_more : {c d e : TypeContext} {q : Pat} {qs : Pats} {p : PlainType} {ps : PlainTypes} {m n : ℕ} {ts us : List PlainType}
        → Opens names c q p d m ts → OpenTypes names d qs (rename_types (moved m 0) ps) e n us
        → OpenTypes names c (more_pats q qs) (types p ps) e (m + n) (map (shifted n) ts ++ us)

  -- each label of the pattern is one of the type, which may have more
  pub data OpenLabels (names : List (List ℕ)) : TypeContext → LabelledPats → PlainLabels → TypeContext → ℕ → List PlainType → Type 0 where
    opens_no_label : {c : TypeContext} {ls : PlainLabels} → OpenLabels names c no_labelled_pats ls c 0 []
    opens_label : {c d e : TypeContext} {label : ℕ} {q : Pat} {qs : LabelledPats} {p : PlainType} {ls : PlainLabels} {m n : ℕ} {ts us : List PlainType}
        → type_at label ls ≡ Some p → Opens names c q p d m ts → OpenLabels names d qs (rename_labels (moved m 0) ls) e n us
        → OpenLabels names c (more_labelled_pats label q qs) ls e (m + n) (map (shifted n) ts ++ us)
