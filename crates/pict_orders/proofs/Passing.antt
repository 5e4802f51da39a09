-- Processes are gone through one after the other, with a test of each.
use Rattle.std.proofs.Common.{ℕ, ◌+◌, ◌<◌, ◌≡◌, Bool, true, false, List, ◌∷◌, length, map, drop, get_or, refl, sym, ap, ◌∙◌}
use Rattle.std.specs.Prelude.{if◌then◌else◌}
use Rattle.std.proofs.lemmas.List.{drop_more}
use Rattle.pict_core.specs.Term.{Process}
use Rattle.pict_core.specs.Configuration.{Ready, Parked}
use Rattle.pict_core.specs.Step.{is_ready}
use Rattle.pict_shared.specs.declared.held.Held.{Held}
use Rattle.pict_shared.specs.Plain.{plain_held}

marked : (b : Bool) (s : ℕ) (p : Process) → is_ready (record { stamp = s; mark = if b then Ready else Parked; process = p }) ≡ b
marked true s p = refl
marked false s p = refl

-- an entry is ready where the program says so
pub readiness : (e : Held) → is_ready (plain_held e) ≡ e.ready
readiness e = marked e.ready e.stamp (plain_held e).process

-- what is left begins with the one that comes next
pub left_at : (es : List Held) (k : ℕ) (e : Held) → k < length es → e ≡ get_or es k e → map plain_held (drop k es) ≡ plain_held e ∷ map plain_held (drop (k + 1) es)
left_at es k e within is = ap (map plain_held) (drop_more es k e within ∙ ap (λ (x : Held). x ∷ drop (k + 1) es) (sym is))
