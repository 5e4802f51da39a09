use Rattle.std.proofs.Common.{◌≡◌, ◌≢◌, ◌++◌, List, ℕ, Bool, true, false, Option, Some, None, IfSome, length, take, drop, sym, ◌∙◌, ap, refl, take-append-drop, Bor}
use Rattle.std.proofs.Math.Seq.{take-append_seam}
use Rattle.std.specs.Option.{MatchOption}
use Rattle.std.proofs.lemmas.Slice.Eq.{slice_eq-Decides}
use Rattle.std.proofs.lemmas.Bool.{false≢true}
use Rattle.std.proofs.lemmas.Bool.Decides.{Decides-eqb}
use Rattle.pict_object.proofs.table.behind.Goals as goal

stripped : (text bytes : List ℕ) (same : Bool) (r : Option (Bor (List ℕ))) (left : Bor (List ℕ) → Type 0) → (same ≡ true → take (length bytes) text ≡ bytes)
    → MatchOption r (same ≡ false) (λ x. (same ≡ true) × (x.now ≡ drop (length bytes) text) × left x) → IfSome r (λ rest. text ≡ bytes ++ rest.now)
stripped text bytes same None left front h = tt
stripped text bytes same (Some x) left front h = sym (take-append-drop (length bytes) text) ∙ ap (λ t. t ++ drop (length bytes) text) (front h.0) ∙ ap (λ t. bytes ++ t) (sym h.1)

other : (text bytes rest : List ℕ) (same : Bool) (r : Option (Bor (List ℕ))) (found : Bor (List ℕ) → Type 0) → (take (length bytes) text ≡ bytes → same ≡ true)
    → MatchOption r (same ≡ false) found → r ≡ None → text ≢ bytes ++ rest
other text bytes rest same None found front h none e = false≢true (sym h ∙ front (ap (take (length bytes)) e ∙ take-append_seam bytes rest))
other text bytes rest same (Some x) found front h none e = cc

pub returns-clause-some : goal.returns-clause-some
returns-clause-some c =
    stripped c.args.bytes.now c.args.front.now _ c.strip_prefix.result _ (slice_eq-Decides Decides-eqb (take (length c.args.front.now) c.args.bytes.now) c.args.front.now _ refl).0 c.strip_prefix.ensures.cases

pub returns-clause-none : goal.returns-clause-none
returns-clause-none c none rest =
    other c.args.bytes.now c.args.front.now rest _ c.strip_prefix.result _ (slice_eq-Decides Decides-eqb (take (length c.args.front.now) c.args.bytes.now) c.args.front.now _ refl).1 c.strip_prefix.ensures.cases none
