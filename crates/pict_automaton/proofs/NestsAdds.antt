-- A token adds its nesting, the greater of the depths before and behind it, to the nestings of what was read.
use Rattle.std.proofs.Common.{ℕ, suc, List, ◌∷◌, ◌++◌, ◌≡◌, ◌≤◌, ap, sym, ◌∙◌, max, arith}
use Rattle.pict_automaton.specs.Places.{State, stop}
use Rattle.pict_automaton.specs.Depth.{depth}
use Rattle.pict_automaton.proofs.Finish.{Going}
use Rattle.pict_automaton.proofs.Nests.{state_nests}
use Rattle.pict_automaton.proofs.NestsPuts.{Puts}

-- from a state of depth `d` a token leads to `y`, unless it stops the machine; at most two constructs begin
pub record Adds (d : ℕ) (before : List ℕ → List ℕ) (y : State) : Type 0 where
  pub rises : depth y ≤ suc (suc d)
  pub adds : Going y → (ns : List ℕ) → state_nests y ns ≡ before (max d (depth y) ∷ ns)

pub stopped : {d : ℕ} {B : List ℕ → List ℕ} → Adds d B stop
stopped = record { rises = omega arith; adds = λ g ns. absurd g }

max_less : (d e : ℕ) → e ≤ d → max d e ≡ d
max_less d e h = omega (arith, h)

max_more : (d e : ℕ) → d ≤ e → max d e ≡ e
max_more d e h = omega (arith, h)

not_deeper : {d : ℕ} {B : List ℕ → List ℕ} {y : State} → depth y ≤ d → ((ns : List ℕ) → state_nests y ns ≡ B (d ∷ ns)) → Adds d B y
not_deeper {d} {B} {y} h e = record { rises = omega (arith, h); adds = λ g ns. e ns ∙ ap (λ n. B (n ∷ ns)) (sym (max_less d (depth y) h)) }

deeper : {d : ℕ} {B : List ℕ → List ℕ} {y : State} → d ≤ depth y → depth y ≤ suc (suc d) → ((ns : List ℕ) → state_nests y ns ≡ B (depth y ∷ ns)) → Adds d B y
deeper {d} {B} {y} h u e = record { rises = u; adds = λ g ns. e ns ∙ ap (λ n. B (n ∷ ns)) (sym (max_more d (depth y) h)) }

-- no construct begins or ends, or not so that the depth tells
pub stays : {B : List ℕ → List ℕ} {y : State} → ((ns : List ℕ) → state_nests y ns ≡ B (depth y ∷ ns)) → Adds (depth y) B y
stays e = not_deeper (omega arith) e

-- one construct begins, or two
pub opens : {d : ℕ} {B : List ℕ → List ℕ} {y : State} → depth y ≡ suc d → ((ns : List ℕ) → state_nests y ns ≡ B (depth y ∷ ns)) → Adds d B y
opens h e = deeper (omega (arith, h)) (omega (arith, h)) e

pub opens_two : {d : ℕ} {B : List ℕ → List ℕ} {y : State} → depth y ≡ suc (suc d) → ((ns : List ℕ) → state_nests y ns ≡ B (depth y ∷ ns)) → Adds d B y
opens_two h e = deeper (omega (arith, h)) (omega (arith, h)) e

-- one construct ends
pub shuts : {B : List ℕ → List ℕ} {y : State} → ((ns : List ℕ) → state_nests y ns ≡ B (suc (depth y) ∷ ns)) → Adds (suc (depth y)) B y
shuts e = not_deeper (omega arith) e

-- a phrase ends, and it is put at its place: it is no construct, or one
pub ends : {d : ℕ} {A B : List ℕ → List ℕ} {N : List ℕ} {y : State} → Puts d A N y → ((ns : List ℕ) → A (N ++ ns) ≡ B (d ∷ ns)) → Adds d B y
ends f e = not_deeper f.within (λ ns. f.joins ns ∙ e ns)

pub closes : {d : ℕ} {A B : List ℕ → List ℕ} {N : List ℕ} {y : State} → Puts d A N y → ((ns : List ℕ) → A (N ++ ns) ≡ B (suc d ∷ ns)) → Adds (suc d) B y
closes f e = not_deeper (omega (arith, f.within)) (λ ns. f.joins ns ∙ e ns)

-- what was read before, in another form
pub behind : {d : ℕ} {A B : List ℕ → List ℕ} {y : State} → ((ns : List ℕ) → A ns ≡ B ns) → Adds d A y → Adds d B y
behind {d} e f = record { rises = f.rises; adds = λ g ns. f.adds g ns ∙ e (max d _ ∷ ns) }
