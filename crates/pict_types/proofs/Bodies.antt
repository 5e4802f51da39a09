-- A parameter seen under type fields.
use Rattle.std.proofs.Common.{◌≡◌, ℕ, zero, suc, ◌+◌, ◌-◌, ◌≤◌, ◌<◌, Bool, true, false, ◌&&◌, ◌||◌, not, get_or, drop, add-one, drop-cons, List, [], ◌∷◌, length, take, refl, sym, ◌∙◌, ap, arith, inl, inr}
use Rattle.std.proofs.lemmas.Bool.{eq-eqb, ne_eqb}
use Rattle.std.proofs.lemmas.Bool.Decides.{eqb_tells}
use Rattle.pict_types.specs.declared.types.Bound.{Bound}
use Rattle.std.proofs.lemmas.List.{drop_all}
use Rattle.pict_syntax.specs.declared.type_tree.Mark.{Mark}
use Rattle.pict_syntax.specs.declared.type_tree.Mark.TheVariants.{Plus, Minus, Plain as Unmarked}
use Rattle.pict_types.specs.Types.{PlainType, Var, PlainTypes, no_type, types, Free, PlainBounds, no_bound, bounds, TypeContext}
use Rattle.pict_types.specs.Renaming.{bound_at}
use Rattle.pict_types.specs.Bodies.{way_of, argument_goes}
use Rattle.pict_types.proofs.Contexts.{bound_got, no_variable, bound_outside, bound_inside}
use Rattle.pict_types.specs.Plain.{plain_bounds}
use Rattle.pict_types.specs.Mentions.{outside, outside_all}
use Rattle.pict_types.specs.Variance.{Way, opposite, only, past, goes, arguments_go, under_parameters}

pub outside_only : (i : ℕ) → outside (only i) ≡ only (suc i)
outside_only i = λ k j. go j k
  where
    go : (j : ℕ) → outside (only i) j ≡ only (suc i) j
    go zero = sym (ne_eqb (suc i) 0 (λ e. cc))
    go (suc j) = elim (eqb_tells i j) [
      | inl x ↦ eq-eqb i j x.1 ∙ sym (eq-eqb (suc i) (suc j) (ap suc x.1))
      | inr x ↦ ne_eqb i j x.1 ∙ sym (ne_eqb (suc i) (suc j) (λ e. let z : i ≡ j = cc in x.1 z))
    ]

pub only_past : (bs : PlainBounds) (y : ℕ) → outside_all bs (only y) ≡ only (past bs y)
only_past no_bound y = refl
only_past (bounds b bs) y = ap (outside_all bs) (outside_only y) ∙ only_past bs (suc y)

pub past_is : (bs : List Bound) (y : ℕ) → past (plain_bounds bs) y ≡ y + length bs
past_is [] y = omega arith
past_is (b ∷ bs) y = omega (arith, past_is bs (suc y))

-- under the first i type fields
pub past_take : (bs : List Bound) (i y : ℕ) → i ≤ length bs → past (plain_bounds (take i bs)) y ≡ i + y
past_take bs zero y h = omega arith
past_take [] (suc i) y h = absurd (omega (arith, h))
past_take (b ∷ bs) (suc i) y h = omega (arith, past_take bs i (suc y) (omega (arith, h)))

pub inner_is_other : (bs : List Bound) (y i : ℕ) → i < length bs → only (past (plain_bounds bs) y) i ≡ false
inner_is_other bs y i h = ne_eqb _ i (λ e. let p = past_is bs y in omega (arith, p, e, h))

pub outer_is_same : (bs : List Bound) (y i : ℕ) → length bs ≤ i → only (past (plain_bounds bs) y) i ≡ only y (i - length bs)
outer_is_same bs y i h = elim (eqb_tells y (i - length bs)) [
  | inl x ↦ eq-eqb _ i (let p = past_is bs y in omega (arith, p, x.1, h)) ∙ sym (eq-eqb y (i - length bs) x.1)
  | inr x ↦ ne_eqb _ i (λ e. let p = past_is bs y in x.1 (omega (arith, p, e, h))) ∙ sym (ne_eqb y (i - length bs) x.1)
]

pub first_is_other : (y : ℕ) → only (suc y) 0 ≡ false
first_is_other y = ne_eqb (suc y) 0 (λ e. cc)

pub further_is_same : (y i : ℕ) → 1 ≤ i → only (suc y) i ≡ only y (i - 1)
further_is_same y i h = elim (eqb_tells y (i - 1)) [
  | inl x ↦ eq-eqb (suc y) i (omega (arith, x.1, h)) ∙ sym (eq-eqb y (i - 1) x.1)
  | inr x ↦ ne_eqb (suc y) i (λ e. x.1 (omega (arith, e, h))) ∙ sym (ne_eqb y (i - 1) x.1)
]

pub ruleset parameter_rules = (inner_is_other, outer_is_same, first_is_other, further_is_same)

-- ---- ways

pub turned : (up_ : Bool) → way_of (not up_) ≡ opposite (way_of up_)
turned true = refl
turned false = refl

pub variable_goes : (up_ : Bool) (c : TypeContext) (x i : ℕ) → goes (way_of up_) c x (Var i) ≡ (up_ || not (only x i))
variable_goes true c x i = refl
variable_goes false c x i = refl

pub ruleset way_rules = (turned, variable_goes)

-- ---- marks of variables

pub parameter_free : (n : ℕ) (c : TypeContext) (i : ℕ) → i < n → bound_at (under_parameters n c) i ≡ Free
parameter_free zero c i h = absurd (omega (arith, h))
parameter_free (suc n) c zero h = refl
parameter_free (suc n) c (suc i) h = parameter_free n c i (omega (arith, h))

pub parameters_past : (n : ℕ) (c : TypeContext) (i : ℕ) → n ≤ i → bound_at (under_parameters n c) i ≡ bound_at c (i - n)
parameters_past zero c i h = let e : i ≡ i - 0 = omega arith in ap (bound_at c) e
parameters_past (suc n) c zero h = absurd (omega (arith, h))
parameters_past (suc n) c (suc i) h =
    let e : i - n ≡ suc i - suc n = omega arith in
    parameters_past n c i (omega (arith, h)) ∙ ap (bound_at c) e

pub ruleset marks_rules = (parameter_free, parameters_past, bound_got, no_variable, bound_outside, bound_inside)

-- ---- arguments

pub marks_drop : (xs : List Mark) (i : ℕ) (d : Mark) → i < length xs → drop i xs ≡ get_or xs i d ∷ drop (i + 1) xs
marks_drop xs i d h = rw (add-one, drop-cons xs i d) refl

pub marks_end : (xs : List Mark) (i : ℕ) → length xs ≤ i → drop i xs ≡ []
marks_end xs i h = drop_all i xs h

pub arguments_more : (w : Way) (c : TypeContext) (x : ℕ) (m : Mark) (ms : List Mark) (t : PlainType) (ts : PlainTypes) → arguments_go w c x (m ∷ ms) (types t ts) ≡ (argument_goes w c x m t && arguments_go w c x ms ts)
arguments_more w c x Plus ms t ts = refl
arguments_more w c x Minus ms t ts = refl
arguments_more w c x Unmarked ms t ts = refl

pub arguments_end : (w : Way) (c : TypeContext) (x : ℕ) (ms : List Mark) → arguments_go w c x ms no_type ≡ true
arguments_end w c x [] = refl
arguments_end w c x (m ∷ ms) = refl

pub ruleset arguments_rules = (marks_drop, marks_end, arguments_more, arguments_end)

pub ruleset body_rules = (marks_drop, marks_end)
