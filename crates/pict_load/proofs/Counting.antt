-- What the counter has counted is what the labels of the run say.
use Rattle.std.proofs.Common.{◌≡◌, ℕ, ◌+◌, List, [], ◌∷◌, length, Some, sym, ◌∙◌, ap, get_or, arith}
use Rattle.std.proofs.lemmas.List.{length-append}
use Rattle.pict_core.specs.Term.{Process}
use Rattle.pict_core.specs.Configuration.{opening}
use Rattle.pict_core.specs.Step.{Label}
use Rattle.pict_core.specs.Run.{printed_by, bytes_of}
use Rattle.pict_view.specs.View.{View}
use Rattle.pict_view.specs.Watching.{RanFor, Saw, view_after}
use Rattle.pict_machine.specs.Events.{end_of}
use Rattle.pict_load.specs.declared.summary.Tally.{Tally}
use Rattle.pict_load.specs.Counted.{communication, communications_of, counts_after, IsCounted}

same_two : (a b c d : ℕ) → a ≡ c → b ≡ d → a ∷ b ∷ [] ≡ c ∷ d ∷ []
same_two a b c d e f i = e i ∷ f i ∷ []

all_counted : (a b : ℕ) (labels : List (ℕ × Label)) → view_after counts_after (a ∷ b ∷ []) labels ≡ (a + communications_of labels) ∷ (b + length (bytes_of labels)) ∷ []
all_counted a b [] = same_two a b (a + 0) (b + 0) (omega arith) (omega arith)
all_counted a b (l ∷ ls) =
    all_counted (a + communication l.1) (b + length (printed_by l.1)) ls
    ∙ same_two _ _ _ _ (omega arith) (omega (arith, length-append (printed_by l.1) (bytes_of ls)))

pub is_counted : (p : Process) (fuel : ℕ) (tally : Tally) (v : View) → RanFor (opening p) fuel tally.steps (end_of tally.end) v (Saw counts_after (Some (0 ∷ 0 ∷ [])) (Some (tally.communications ∷ tally.printed ∷ []))) → IsCounted p fuel tally
is_counted p fuel tally v r =
    let labels = r.ran.labels in
    let seen : tally.communications ∷ tally.printed ∷ [] ≡ (0 + communications_of labels) ∷ (0 + length (bytes_of labels)) ∷ [] = r.ran.seen ∙ all_counted 0 0 labels in
    let first : tally.communications ≡ 0 + communications_of labels = ap (λ l. get_or l 0 0) seen in
    let second : tally.printed ≡ 0 + length (bytes_of labels) = ap (λ l. get_or l 1 0) seen in
    record { labels = labels; runs = r.ran.runs; steps = sym r.count; communications = omega arith; printed = omega arith }
