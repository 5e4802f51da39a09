-- A frame's values are all that counts: a part with them is the part with the values of all variables around it.
use Rattle.std.proofs.Common.{ℕ, zero, suc, ◌-◌, ◌≡◌, ◌==◌, Bool, true, false, ◌||◌, ◌&&◌, List, [], ◌∷◌, map, refl, sym, ap, ◌∙◌, arith, cond, nat_lt}
use Rattle.std.proofs.lemmas.Bool.Decides.{nat_tests}
use Rattle.pict_core.specs.Term.{Val, Process, Var}
use Rattle.pict_core.specs.Substitution.{replace}
use Rattle.pict_code.specs.Frames.{occurs, frame_of}
use Rattle.pict_code.specs.Levels.{has}
use Rattle.pict_code.specs.Nodes.{place}
use Rattle.pict_code.specs.Standing.{closing, value_at, with_frame}
use Rattle.pict_code.proofs.Agreeing.{agree}
use Rattle.pict_code.proofs.Levels.{frame_has}

value_head : (f : ℕ → Val) (level l : ℕ) (ls : List ℕ) (b : Bool) → (level == l) ≡ b → (has level ls ≡ true → value_at ls (map f ls) level ≡ f level)
    → b || has level ls ≡ true → cond b (f l) (value_at ls (map f ls) level) ≡ f level
value_head f level l ls true e later h = let is : l ≡ level = grind (arith, nat_tests) in ap f is
value_head f level l ls false e later h = later h

value_of_level : (f : ℕ → Val) (level : ℕ) (ls : List ℕ) → has level ls ≡ true → value_at ls (map f ls) level ≡ f level
value_of_level f level [] h = cc
value_of_level f level (l ∷ ls) h = value_head f level l ls (level == l) refl (value_of_level f level ls) h

frame_variable : (n : ℕ) (values : ℕ → Val) (p : Process) (level : ℕ) (b : Bool) → nat_lt level n ≡ b → occurs level p ≡ true
    → cond b (value_at (frame_of n p) (map values (frame_of n p)) level) (Var (level - n)) ≡ cond b (values level) (Var (level - n))
frame_variable n values p level true e h =
    let both : nat_lt level n && occurs level p ≡ true = cc (e, h) in
    value_of_level values level (frame_of n p) (frame_has n p level ∙ both)
frame_variable n values p level false e h = refl

pub frame_is_enough : (n : ℕ) (values : ℕ → Val) (p : Process) → with_frame (place n p) (map values (frame_of n p)) ≡ replace (closing n values) p
frame_is_enough n values p = agree _ _ (λ _. refl) p (λ level h. frame_variable n values p level _ refl h)
