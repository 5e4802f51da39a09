-- Arguments by their marks: the first ones, and the end.
use Rattle.std.proofs.Common.{◌≡◌, ℕ, zero, suc, List, [], ◌∷◌, length, refl, sym, ◌∙◌, ap, subst, ◌↔◌, Some}
use Rattle.pict_syntax.specs.declared.type_tree.Mark.{Mark}
use Rattle.pict_syntax.specs.declared.type_tree.Mark.TheVariants.{Plus, Minus, Plain as Unmarked}
use Rattle.pict_types.specs.Types.{PlainType, Apply, PlainTypes, no_type, types, Free, Below, Operator, TypeContext, count_types}
use Rattle.pict_types.specs.Renaming.{rename_bound, moved, bound_at}
use Rattle.pict_types.specs.Kinds.{kinds, kind_at, operator_of}
use Rattle.pict_sub.specs.Subtyping.{IsSubtype, AreByMarks, no_more, ComparesBy}
use Rattle.pict_types.proofs.Marks.{marks_drop, marks_end}
use Rattle.pict_sub.proofs.Inversion.{applied}
use Rattle.pict_sub.proofs.Decidable.{plus_iff, minus_iff, unmarked_iff}

pub marks_more : (c : TypeContext) (m : Mark) (s t : PlainType) (ms : List Mark) (ss ts : PlainTypes) → AreByMarks c (m ∷ ms) (types s ss) (types t ts) ↔ (ComparesBy c m s t × AreByMarks c ms ss ts)
marks_more c Plus s t ms ss ts = plus_iff
marks_more c Minus s t ms ss ts = minus_iff
marks_more c Unmarked s t ms ss ts = unmarked_iff

pub no_arguments : (c : TypeContext) → AreByMarks c [] no_type no_type
no_arguments c = no_more

-- an operator variable in scope has as many marks as its kind has arguments
pub operator_there : (c : TypeContext) (i n : ℕ) → kind_at (kinds c) i ≡ Some (operator_of n) → (ms : List Mark) × (bound_at c i ≡ Operator ms) × (length ms ≡ n)
operator_there [] i n h = absurd cc
operator_there (Free ∷ c) zero n h = absurd cc
operator_there (Below t ∷ c) zero n h = absurd cc
operator_there (Operator ms ∷ c) zero n h = (ms, refl, cc)
operator_there (b ∷ c) (suc i) n h = operator_there c i n h

pub marks_there : (c : TypeContext) (i n : ℕ) (ms : List Mark) → kind_at (kinds c) i ≡ Some (operator_of n) → bound_at c i ≡ Operator ms → length ms ≡ n
marks_there c i n ms h e =
    let o = operator_there c i n h in
    let q : Operator o.0 ≡ Operator ms = sym o.1 ∙ e in
    let z : o.0 ≡ ms = cc in
    ap length (sym z) ∙ o.2

-- two applications in scope
pub applied_at : (c : TypeContext) (i j : ℕ) (ms : List Mark) (ss ts : PlainTypes) → bound_at c i ≡ Operator ms → length ms ≡ count_types ss → IsSubtype c (Apply i ss) (Apply j ts) ↔ ((i ≡ j) × AreByMarks c ms ss ts)
applied_at c i j ms ss ts e n = applied c i j ms ss ts (ap (rename_bound (moved (suc i) 0)) e) n

pub applied_to : (c : TypeContext) (i j : ℕ) (ms : List Mark) (ss ts : PlainTypes) (t : PlainType) → t ≡ Apply j ts → bound_at c i ≡ Operator ms → length ms ≡ count_types ss → IsSubtype c (Apply i ss) t ↔ ((i ≡ j) × AreByMarks c ms ss ts)
applied_to c i j ms ss ts t q e n = subst (λ z. IsSubtype c (Apply i ss) z ↔ ((i ≡ j) × AreByMarks c ms ss ts)) (sym q) (applied_at c i j ms ss ts e n)

pub ruleset marks_rules = (marks_more, marks_drop, marks_end, no_arguments)
