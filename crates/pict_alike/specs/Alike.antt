-- Written types that differ in the names that they bind, in the order of their labels, and in their places in the text.
use Rattle.std.specs.Prelude.{◌≡◌, ℕ, nat_eq, Bool, true, false, List, [], ◌∷◌, Option}
use Rattle.pict_syntax.specs.declared.id.Id.{Id}
use Rattle.pict_syntax.specs.declared.name.Name.{Name}
use Rattle.pict_syntax.specs.declared.span.Span.{Span}
use Rattle.pict_syntax.specs.Trees.{KindTree, TypeTree, top_type, int_type, char_type, string_type, bool_type, use_type, both_type, read_type, write_type, respond_type, fields_type, apply_type, rec_type, type_binder, Bound, unbounded, bound, TypeTrees, no_types, more_types, TypeBinders, no_binders, more_binders, LabelledTypes, no_labelled_types, more_labelled_types}

-- names that are bound in two types, in pairs, the innermost first
abbrev pub Pairs : Type 0
Pairs = List (ℕ × ℕ)

-- both names are those of this pair; where neither is, it hangs on the others
abbrev pub Meet : Bool → Bool → Type 0 → Type 0
Meet true true others = Unit {0}
Meet true false others = ⊥
Meet false true others = ⊥
Meet false false others = others

-- two names mean the same: the innermost pair that has one of them has both, or no pair has any and they are one name
abbrev pub SameName : Pairs → ℕ → ℕ → Type 0
SameName [] n m = n ≡ m
SameName (p ∷ ps) n m = Meet (nat_eq p.0 n) (nat_eq p.1 m) (SameName ps n m)

-- the second list is the first with this field put somewhere
pub data Inserts : Id → TypeTree → LabelledTypes → LabelledTypes → Type 0 where
  at_end : {l : Id} {t : TypeTree} {ls : LabelledTypes} → Inserts l t ls (more_labelled_types ls l t)
  before : {l k : Id} {t u : TypeTree} {ls ms : LabelledTypes}
      → Inserts l t ls ms → Inserts l t (more_labelled_types ls k u) (more_labelled_types ms k u)

mutual
  -- two types under such pairs
  pub data IsAlike : Pairs → TypeTree → TypeTree → Type 0 where
    tops : {ps : Pairs} {s r : Span} → IsAlike ps (top_type s) (top_type r)
    ints : {ps : Pairs} {s r : Span} → IsAlike ps (int_type s) (int_type r)
    chars : {ps : Pairs} {s r : Span} → IsAlike ps (char_type s) (char_type r)
    strings : {ps : Pairs} {s r : Span} → IsAlike ps (string_type s) (string_type r)
    bools : {ps : Pairs} {s r : Span} → IsAlike ps (bool_type s) (bool_type r)
    uses : {ps : Pairs} {s r : Span} {n m : Name} → SameName ps n.0 m.0 → IsAlike ps (use_type s n) (use_type r m)
    boths : {ps : Pairs} {s r : Span} {t u : TypeTree} → IsAlike ps t u → IsAlike ps (both_type s t) (both_type r u)
    reads : {ps : Pairs} {s r : Span} {t u : TypeTree} → IsAlike ps t u → IsAlike ps (read_type s t) (read_type r u)
    writes : {ps : Pairs} {s r : Span} {t u : TypeTree} → IsAlike ps t u → IsAlike ps (write_type s t) (write_type r u)
    responds : {ps : Pairs} {s r : Span} {t u : TypeTree} → IsAlike ps t u → IsAlike ps (respond_type s t) (respond_type r u)
    -- the fields stand under the type fields, whose names go in pairs
    records : {ps qs : Pairs} {s r : Span} {bs cs : TypeBinders} {ts us : TypeTrees} {ls ms : LabelledTypes}
        → BindersAlike ps bs cs qs → AreAlike qs ts us → LabelsAlike qs ls ms
        → IsAlike ps (fields_type s bs ts ls) (fields_type r cs us ms)
    applied : {ps : Pairs} {s r : Span} {x y : Id} {ts us : TypeTrees}
        → SameName ps x.name.0 y.name.0 → AreAlike ps ts us → IsAlike ps (apply_type s x ts) (apply_type r y us)
    recs : {ps : Pairs} {s r : Span} {x y : Id} {t u : TypeTree}
        → IsAlike ((x.name.0, y.name.0) ∷ ps) t u → IsAlike ps (rec_type s x t) (rec_type r y u)

  pub data AreAlike : Pairs → TypeTrees → TypeTrees → Type 0 where
    no_more : {ps : Pairs} → AreAlike ps no_types no_types
    and_type : {ps : Pairs} {ts us : TypeTrees} {t u : TypeTree}
        → AreAlike ps ts us → IsAlike ps t u → AreAlike ps (more_types ts t) (more_types us u)

  -- the same labels, in any order, with types that are alike
  pub data LabelsAlike : Pairs → LabelledTypes → LabelledTypes → Type 0 where
    no_labels : {ps : Pairs} → LabelsAlike ps no_labelled_types no_labelled_types
    and_label : {ps : Pairs} {ls ms all : LabelledTypes} {l m : Id} {t u : TypeTree}
        → LabelsAlike ps ls ms → IsAlike ps t u → l.name.0 ≡ m.name.0 → Inserts m u ms all
        → LabelsAlike ps (more_labelled_types ls l t) all

  -- type binders, in order: with one kind, and with bounds that are alike under those before them; and all pairs behind them
  pub data BindersAlike : Pairs → TypeBinders → TypeBinders → Pairs → Type 0 where
    no_more_binders : {ps : Pairs} → BindersAlike ps no_binders no_binders ps
    and_binder : {ps qs : Pairs} {bs cs : TypeBinders} {s r : Span} {x y : Id} {k : Option KindTree} {b c : Bound}
        → BindersAlike ps bs cs qs → BoundsAlike qs b c
        → BindersAlike ps (more_binders bs (type_binder s x k b)) (more_binders cs (type_binder r y k c)) ((x.name.0, y.name.0) ∷ qs)

  pub data BoundsAlike : Pairs → Bound → Bound → Type 0 where
    no_bounds : {ps : Pairs} → BoundsAlike ps unbounded unbounded
    two_bounds : {ps : Pairs} {t u : TypeTree} → IsAlike ps t u → BoundsAlike ps (bound t) (bound u)
