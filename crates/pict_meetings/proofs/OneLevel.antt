-- A pattern that is one variable binds the two words as they stand.
use Rattle.std.proofs.Common.{ℕ, ◌<◌, ◌≡◌, ◌≢◌, ◌==◌, ◌||◌, Bool, true, false, List, [], ◌∷◌, length, set, refl, ap, arith, rules}
use Rattle.std.proofs.lemmas.List.{get_or-set_same, get_or-set_other}
use Rattle.std.proofs.lemmas.Bool.Decides.{nat_tests}
use Rattle.pict_code.specs.Instruction.{Bind}
use Rattle.pict_code.specs.Plain.{plain_pat}
use Rattle.pict_code.specs.declared.pattern.CodePat.{the_lemmas}
use Rattle.pict_code.specs.declared.pattern.CodePat.TheVariants as pattern
use Rattle.pict_heap.specs.HeapState.{HeapState}
use Rattle.pict_desk.specs.Binding.{BindsPattern}
use Rattle.pict_desk.specs.Known.{value_in}

pub plain_bind : (level : ℕ) → plain_pat (pattern.Bind level) ≡ Bind level
plain_bind level = search (rules, the_lemmas)

apart_from : (other level : ℕ) (b : Bool) → (other == level) ≡ b → b || false ≡ false → other ≢ level
apart_from other level true e h = cc
apart_from other level false e h = grind (arith, nat_tests)

module _ (h : HeapState) (values : List (ℕ × ℕ)) (level : ℕ) (pair : ℕ × ℕ) (inside : level < length values) where
  pub bound_here : BindsPattern h (Bind level) (value_in h pair.0 pair.1) values (set values level pair)
  bound_here = record {
    bound = value_in h pair.0 pair.1 ∷ [];
    fits = refl;
    here = ap (λ (x : ℕ × ℕ). value_in h x.0 x.1 ∷ []) (get_or-set_same values level pair (0, 0) inside);
    others = λ other none. get_or-set_other values level other pair (0, 0) (apart_from other level (other == level) refl none);
  }
