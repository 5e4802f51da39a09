-- The levels that the pattern of a node binds are the next ones, and the values that it binds stand there.
use Rattle.std.proofs.Common.{ℕ, zero, suc, ◌+◌, ◌-◌, ◌<◌, ◌≤◌, ◌≡◌, ◌==◌, Bool, true, false, ◌||◌, List, [], ◌∷◌, ◌++◌, length, map, refl, sym, ap, ◌∙◌, arith, cond, nat_lt, unwrap_or, pos}
use Rattle.std.proofs.lemmas.Bool.Decides.{nat_tests}
use Rattle.std.specs.List.{slice_get}
use Rattle.pict_core.specs.Term as term
use Rattle.pict_core.specs.Term.{Val, Int, Pat, Pats, LabelledPats}
use Rattle.pict_core.specs.Closed.{binds, binds_all, binds_labelled}
use Rattle.pict_code.specs.Levels.{has}
use Rattle.pict_code.specs.Nodes.{leveled, leveled_all, leveled_labelled}
use Rattle.pict_desk.specs.Binding.{levels_of, levels_of_all, levels_of_labelled}
use Rattle.pict_desk.proofs.Putting.{extended}

-- so many levels from this one on
pub levels_from : ℕ → ℕ → List ℕ
levels_from n zero = []
levels_from n (suc k) = n ∷ levels_from (n + 1) k

from_both : (n j k : ℕ) → levels_from n (j + k) ≡ levels_from n j ++ levels_from (n + j) k
unfolding levels_from
from_both n zero k = let e : 0 + k ≡ k = omega arith in let f : n + 0 ≡ n = omega arith in rw (e, f) refl
from_both n (suc j) k =
    let e : suc j + k ≡ suc (j + k) = omega arith in
    let f : n + suc j ≡ n + 1 + j = omega arith in
    rw (e, f) (ap (λ ls. n ∷ ls) (from_both (n + 1) j k))

mutual
  unfolding levels_from

  pub levels_leveled : (n : ℕ) (p : Pat) → levels_of (leveled n p) ≡ levels_from n (binds p)
  levels_leveled n term.Bind = refl
  levels_leveled n term.Any = refl
  levels_leveled n (term.RecordPat ps ls) =
      ap (λ xs. xs ++ levels_of_labelled (leveled_labelled (n + binds_all ps) ls)) (all_leveled n ps)
      ∙ ap (λ xs. levels_from n (binds_all ps) ++ xs) (labelled_leveled (n + binds_all ps) ls)
      ∙ sym (from_both n (binds_all ps) (binds_labelled ls))

  all_leveled : (n : ℕ) (ps : Pats) → levels_of_all (leveled_all n ps) ≡ levels_from n (binds_all ps)
  all_leveled n term.no_pats = refl
  all_leveled n (term.more_pats p ps) =
      ap (λ xs. xs ++ levels_of_all (leveled_all (n + binds p) ps)) (levels_leveled n p)
      ∙ ap (λ xs. levels_from n (binds p) ++ xs) (all_leveled (n + binds p) ps)
      ∙ sym (from_both n (binds p) (binds_all ps))

  labelled_leveled : (n : ℕ) (ls : LabelledPats) → levels_of_labelled (leveled_labelled n ls) ≡ levels_from n (binds_labelled ls)
  labelled_leveled n term.no_labelled_pats = refl
  labelled_leveled n (term.more_labelled_pats label p ls) =
      ap (λ xs. xs ++ levels_of_labelled (leveled_labelled (n + binds p) ls)) (levels_leveled n p)
      ∙ ap (λ xs. levels_from n (binds p) ++ xs) (labelled_leveled (n + binds p) ls)
      ∙ sym (from_both n (binds p) (binds_labelled ls))

pub length_from : (n k : ℕ) → length (levels_from n k) ≡ k
unfolding levels_from
length_from n zero = refl
length_from n (suc k) = ap suc (length_from (n + 1) k)

none_before : (level n k : ℕ) → level < n → has level (levels_from n k) ≡ false
unfolding levels_from
none_before level n zero h = refl
none_before level n (suc k) h =
    let e : (level == n) ≡ false = grind (arith, nat_tests) in
    ap (λ b. b || has level (levels_from (n + 1) k)) e ∙ none_before level (n + 1) k (omega arith)

at_next : (later : ℕ → Val) (v : Val) (vs : List Val) (n level : ℕ) (b : Bool) → (level == n) ≡ b → later n ≡ v → n ≤ level
    → (n + 1 ≤ level → later level ≡ unwrap_or (slice_get vs (level - (n + 1))) (Int (pos 0))) → later level ≡ unwrap_or (slice_get (v ∷ vs) (level - n)) (Int (pos 0))
at_next later v vs n level true t head low rest =
    let same : level ≡ n = grind (arith, nat_tests) in
    let first : level - n ≡ 0 = omega arith in
    rw first (ap later same ∙ head)
at_next later v vs n level false t head low rest =
    let more : n + 1 ≤ level = grind (arith, nat_tests) in
    let next : level - n ≡ suc (level - (n + 1)) = omega arith in
    rw next (rest more)

value_from : (later : ℕ → Val) (bound : List Val) (n k level : ℕ) → map later (levels_from n k) ≡ bound → n ≤ level → level < n + k
    → later level ≡ unwrap_or (slice_get bound (level - n)) (Int (pos 0))
unfolding levels_from
value_from later bound n zero level e low high = absurd (omega arith)
value_from later [] n (suc k) level e low high = cc
value_from later (v ∷ vs) n (suc k) level e low high =
    let head : later n ≡ v = cc in
    let tail : map later (levels_from (n + 1) k) ≡ vs = cc in
    at_next later v vs n level (level == n) refl head low (λ more. value_from later vs (n + 1) k level tail more (omega arith))

-- the values afterwards: those around, and what is bound from level n on
pub values_after : (before later : ℕ → Val) (bound : List Val) (n k : ℕ) → map later (levels_from n k) ≡ bound
    → ((level : ℕ) → has level (levels_from n k) ≡ false → later level ≡ before level)
    → (level : ℕ) → level < n + k → later level ≡ extended n before bound level
values_after before later bound n k here others level high = by_side (nat_lt level n) refl
  where
    by_side : (b : Bool) → nat_lt level n ≡ b → later level ≡ cond b (before level) (unwrap_or (slice_get bound (level - n)) (Int (pos 0)))
    by_side true t = others level (none_before level n k (grind (arith, nat_tests)))
    by_side false t = value_from later bound n k level here (grind (arith, nat_tests)) high
