-- Steps by place, one more at a time.
use Rattle.std.proofs.Common.{ℕ, ◌≡◌, ◌+◌, ◌<◌, ◌≤◌, ◌⊎◌, List, [], ◌∷◌, ◌++◌, take, drop, take-append-drop, append_assoc, length, get_or, map, sym, ap, ◌∙◌, subst, arith, append-nil}
use Rattle.std.proofs.lemmas.List.{length-map, length-take-le, map-append}
use Rattle.std.proofs.lemmas.Grind.{flat_map-append}
use Rattle.pict_core.specs.Term.{Process}
use Rattle.pict_core.specs.Closed.{IsClosed}
use Rattle.pict_core.specs.Configuration.{Configuration, IsConfiguration, opening}
use Rattle.pict_core.specs.Run.{shown}
use Rattle.pict_core.specs.Places.{Place}
use Rattle.pict_core.specs.FreeRun.{FreelyRuns, at_start, by_step}
use Rattle.pict_reduction.proofs.Apart.{opening_reached}
use Rattle.pict_trace.specs.Lines.{line_text, lines_text}
use Rattle.pict_replay.specs.Replayed.{Line}
use Rattle.pict_orders.specs.Plain.{place_of}
use Rattle.pict_orders.specs.declared.choice.Choice.{Choice}
use Rattle.pict_orders.proofs.Quietly.{place_keeps}
use Rattle.pict_orders.specs.Room.{IsFull}
use Rattle.pict_way.specs.Way.{LeadsNowhere, IsStuck}
use Rattle.pict_way.specs.Tracing.{IsTracedStep, IsTraced}
use Rattle.pict_way.proofs.Writing.{before, place_more}

-- the steps at these places lead to C, and their lines are written
pub record TracedSoFar (names : List (List ℕ)) (p : Process) (places : List Place) (C : Configuration) (old new : List ℕ) : Type 0 where
  pub labels : List Line
  pub runs : FreelyRuns (opening p) places labels C
  pub is : IsConfiguration C
  pub text : new ≡ old ++ lines_text names labels

pub none_yet : (names : List (List ℕ)) (p : Process) (C : Configuration) (old : List ℕ) → IsClosed p → C ≡ opening p → TracedSoFar names p [] C old old
none_yet names p C old closed e = record {
  labels = [];
  runs = subst (λ (X : Configuration). FreelyRuns (opening p) [] [] X) (sym e) at_start;
  is = subst IsConfiguration (sym e) (opening_reached p closed).is;
  text = sym (append-nil old);
}

one_more : (names : List (List ℕ)) (p : Process) (places : List Place) (place : Place) (C D : Configuration) (number : ℕ) (old out new : List ℕ)
    → TracedSoFar names p places C old out → number ≡ length places + 1 → IsTracedStep names number C place D out new → TracedSoFar names p (places ++ place ∷ []) D old new
one_more names p places place C D number old out new t e s =
    let more = lines_text names (shown (length places + 1) s.label) in
    record {
      labels = t.labels ++ shown (length places + 1) s.label;
      runs = by_step t.runs s.there s.steps;
      is = place_keeps C D place s.label t.is s.there s.steps;
      text = before old out new (lines_text names t.labels) more t.text (s.text ∙ ap (λ k. out ++ lines_text names (shown k s.label)) e)
          ∙ ap (λ x. old ++ x) (sym (flat_map-append (λ (l : Line). line_text names l.0 l.1) t.labels (shown (length places + 1) s.label)));
    }

-- one choice more
pub traced_more : (names : List (List ℕ)) (p : Process) (cs : List Choice) (i number : ℕ) (d : Choice) (C D : Configuration) (old out new : List ℕ)
    → i < length cs → number ≡ i + 1 → TracedSoFar names p (map place_of (take i cs)) C old out
    → IsTracedStep names number C (place_of (get_or cs i d)) D out new → TracedSoFar names p (map place_of (take (i + 1) cs)) D old new
traced_more names p cs i number d C D old out new within e t s =
    let short : i ≤ length cs = omega (arith, within) in
    let taken : length (take i cs) ≡ i = length-take-le i cs short in
    let same : length (map place_of (take i cs)) ≡ length (take i cs) = length-map (take i cs) place_of in
    let count : number ≡ length (map place_of (take i cs)) + 1 = omega (arith, e, taken, same) in
    subst (λ (places : List Place). TracedSoFar names p places D old new) (sym (place_more cs i d within))
    (one_more names p (map place_of (take i cs)) (place_of (get_or cs i d)) C D number old out new t count s)

pub traced : (names : List (List ℕ)) (p : Process) (places : List Place) (C : Configuration) (old new : List ℕ) → TracedSoFar names p places C old new → IsTraced names p places old new
traced names p places C old new t = record { labels = t.labels; last = C; runs = t.runs; text = t.text }

-- ---- a choice that can't be made

-- the choices before it were made
pub stuck_at : (names : List (List ℕ)) (p : Process) (cs : List Choice) (i : ℕ) (d : Choice) (C : Configuration) (old new : List ℕ) → i < length cs
    → TracedSoFar names p (map place_of (take i cs)) C old new → LeadsNowhere C (place_of (get_or cs i d)) ⊎ IsFull C → IsStuck p (map place_of cs)
stuck_at names p cs i d C old new within t stuck = record {
  made = map place_of (take i cs);
  next = place_of (get_or cs i d);
  rest = map place_of (drop (i + 1) cs);
  whole = ap (map place_of) (sym (take-append-drop (i + 1) cs)) ∙ map-append place_of (take (i + 1) cs) (drop (i + 1) cs)
      ∙ ap (λ (l : List Place). l ++ map place_of (drop (i + 1) cs)) (place_more cs i d within)
      ∙ append_assoc (map place_of (take i cs)) (place_of (get_or cs i d) ∷ []) (map place_of (drop (i + 1) cs));
  labels = t.labels;
  last = C;
  runs = t.runs;
  stuck = stuck;
}
