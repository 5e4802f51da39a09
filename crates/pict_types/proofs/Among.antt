-- Variables among some, seen under binders.
use Rattle.std.proofs.Common.{◌≡◌, ℕ, zero, suc, ◌+◌, ◌-◌, ◌≤◌, ◌<◌, Bool, false, List, [], ◌∷◌, length, get_or, reverse, refl, ◌∙◌, ap, arith}
use Rattle.std.specs.Prelude.{slice_get, unwrap_or}
use Rattle.std.proofs.lemmas.List.{get_or-reverse, get_or_past, length-reverse}
use Rattle.std.proofs.lemmas.Option.{unwrap_or-slice_get}
use Rattle.pict_types.specs.Types.{PlainBounds, no_bound, bounds, count_bounds}
use Rattle.pict_types.specs.Mentions.{outside_all, outside_times}

pub inner_is_none : (p : ℕ → Bool) (d i : ℕ) → i < d → outside_times d p i ≡ false
inner_is_none p zero i h = absurd (omega arith)
inner_is_none p (suc d) zero h = refl
inner_is_none p (suc d) (suc i) h = inner_is_none p d i (omega arith)

pub outer_is : (p : ℕ → Bool) (d i : ℕ) → d ≤ i → outside_times d p i ≡ p (i - d)
outer_is p zero i h = let e : i ≡ i - 0 = omega arith in ap p e
outer_is p (suc d) zero h = absurd (omega arith)
outer_is p (suc d) (suc i) h =
    let e : i - d ≡ suc i - suc d = omega arith in
    outer_is p d i (omega arith) ∙ ap p e

-- under the type fields of a record
pub outside_is : (p : ℕ → Bool) (d : ℕ) (bs : PlainBounds) → outside_all bs (outside_times d p) ≡ outside_times (d + count_bounds bs) p
outside_is p d no_bound = ap (λ n. outside_times n p) (omega arith)
outside_is p d (bounds b bs) = outside_is p (suc d) bs ∙ ap (λ n. outside_times n p) (omega arith)

-- the mark of a variable, the last one that of variable 0
any_default : (xs : List Bool) (i : ℕ) (d e : Bool) → i < length xs → get_or xs i d ≡ get_or xs i e
any_default [] i d e h = absurd (omega arith)
any_default (x ∷ xs) zero d e h = refl
any_default (x ∷ xs) (suc i) d e h = any_default xs i d e (omega arith)

pub mark_is : (ms : List Bool) (i : ℕ) (d : Bool) → i < length ms → unwrap_or (slice_get (reverse ms) i) false ≡ get_or ms (length ms - 1 - i) d
mark_is ms i d h =
    unwrap_or-slice_get (reverse ms) i false
    ∙ get_or-reverse ms i false h
    ∙ any_default ms (length ms - 1 - i) false d (omega (arith, h))

pub no_mark : (ms : List Bool) (i : ℕ) → length ms ≤ i → unwrap_or (slice_get (reverse ms) i) false ≡ false
no_mark ms i h =
    let n = length-reverse ms in
    unwrap_or-slice_get (reverse ms) i false ∙ get_or_past (reverse ms) i false (omega (arith, n, h))

pub ruleset among_rules = (inner_is_none, outer_is, mark_is, no_mark)
