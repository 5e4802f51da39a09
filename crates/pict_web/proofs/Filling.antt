-- A page that has failed is full, and texts don't fail.
use Rattle.std.proofs.Common.{ℕ, ◌≡◌, ◌-◌, ◌^◌, ◌<◌, ◌≤◌, nat_le, Bool, true, false, cond, length, refl, arith}
use Rattle.std.proofs.lemmas.Bool.{leb-true}
use Rattle.pict_outside.specs.Counts.{Rose}
use Rattle.pict_web.specs.Held.{PageState, page_faults}

pub never_fails : ¬ Rose 0 0
never_fails r = let l : 0 < 0 = r (λ z. omega (arith, z)) in omega (arith, l)

pub full_by : (old : ℕ) (s : PageState) → Rose old (page_faults s) → s.room ≤ length s.taken
full_by old s h = go (nat_le s.room (length s.taken)) refl h
  where
    go : (b : Bool) → nat_le s.room (length s.taken) ≡ b → Rose old (cond b (2 ^ 64 - 1) 0) → s.room ≤ length s.taken
    go true e r = leb-true s.room (length s.taken) e
    go false e r = let l : old < 0 = r (λ z. omega (arith, z)) in omega (arith, l)
