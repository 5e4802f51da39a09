-- What free runs show is within ranges, and fits lines that are read.
use Rattle.std.proofs.Common.{◌≡◌, ℕ, ◌+◌, ◌≤◌, ◌^◌, List, [], ◌∷◌, ◌++◌, length, refl, sym, subst, arith, length-append}
use Rattle.std.specs.List.{AllByRecursion}
use Rattle.pict_core.specs.Term.{Val, Vals, Labelled, Var, Chan, Int, Char, Boolean, Text, PrimitiveVal, Record, no_vals, more_vals, no_labelled, more_labelled, Process}
use Rattle.pict_core.specs.Closed.{IsOver, AreOver, LabelledOver, IsClosed}
use Rattle.pict_core.specs.Configuration.{Configuration, IsConfiguration, opening}
use Rattle.pict_core.specs.Step.{Label, Quiet, Comm, Print, Steps}
use Rattle.pict_core.specs.Run.{shown}
use Rattle.pict_core.specs.Places.{Place, choice_at}
use Rattle.pict_core.specs.FreeRun.{FreelyRuns, at_start, by_step}
use Rattle.pict_core.proofs.Closed.{over_more}
use Rattle.pict_core.proofs.Kept.{free_steps_keep}
use Rattle.pict_core.proofs.Placing.{places_are_free}
use Rattle.pict_object.proofs.Lists.{all_both, all_weaker, all_split}
use Rattle.pict_trace.specs.Ordered.{IsInRange, AreInRange, LabelledInRange, FitsLine}
use Rattle.pict_ranges.specs.Ranges.{IsMachineValue, AreMachineValues, AreMachineFields, IsMachineConfiguration, IsShort, IsShownAmong, IsShownWithin, NestsWithin}
use Rattle.pict_ranges.specs.Laws.{FreeRunsAreInRange, FreeRunsFitLines}
use Rattle.pict_ranges.proofs.Steps.{StepIs, step_by_is, value_of}

-- ---- what is shown among channels is shown among more

among_more : (c d : ℕ) → c ≤ d → (label : Label) → IsShownAmong c label → IsShownAmong d label
among_more c d more Quiet h = tt
among_more c d more (Comm channel v) h = (let few = h.0 in omega (arith, few, more), over_more 0 0 c d (omega arith) more v h.1, h.2)
among_more c d more (Print bytes) h = h

within_more : (m n : ℕ) → m ≤ n → (l : ℕ × Label) → IsShownWithin m l → IsShownWithin n l
within_more m n more (number, label) h = (let few = h.0 in omega (arith, few, more), among_more m n more label h.1)

-- ---- runs

abbrev AreShort : List (ℕ × Label) → Type 0
AreShort labels = AllByRecursion (λ (l : ℕ × Label). IsShort l.1) labels

abbrev AreWithin : ℕ → List (ℕ × Label) → Type 0
AreWithin steps labels = AllByRecursion (IsShownWithin steps) labels

short_shown : (n : ℕ) (label : Label) → AreShort (shown n label) → IsShort label
short_shown n Quiet h = tt
short_shown n (Comm c v) h = h.0
short_shown n (Print bytes) h = tt

shown_within : (n : ℕ) (label : Label) → IsShownAmong n label → AreWithin n (shown n label)
shown_within n Quiet h = tt
shown_within n (Comm c v) h = ((omega arith, h), tt)
shown_within n (Print bytes) h = ((omega arith, h), tt)

-- so it is behind so many steps
record IsRun (steps : ℕ) (labels : List (ℕ × Label)) (D : Configuration) : Type 0 where
  closed : IsConfiguration D
  is : IsMachineConfiguration D
  channels : D.channels ≤ steps
  within : AreWithin steps labels

module _ (C : Configuration) (closed : IsConfiguration C) (is : IsMachineConfiguration C) (none : C.channels ≡ 0) where
  run_is : (places : List Place) (labels : List (ℕ × Label)) (D : Configuration) → FreelyRuns C places labels D → AreShort labels → IsRun (length places) labels D
  run_is places labels D at_start short = record { closed = closed; is = is; channels = omega (arith, none); within = tt }
  run_is places labels D (by_step {places = ps} {labels = ls} {D = M} {place = place} {label = label} r there steps) short =
      let n = length ps + 1 in
      let many : length (ps ++ place ∷ []) ≡ n = length-append ps (place ∷ []) in
      let parts = all_split (λ (l : ℕ × Label). IsShort l.1) ls (shown n label) short in
      let before = run_is ps ls M r parts.0 in
      let last : IsShort label = short_shown n label parts.1 in
      let step : StepIs M (Steps D label) = subst (StepIs M) steps (step_by_is M before.is before.closed (choice_at M place)) in
      let free = places_are_free M D place label before.closed there steps in
      let few = before.channels in
      let one = step.1 in
      let here : IsShownAmong n label = among_more M.channels n (omega (arith, few)) label step.0 in
      let within : AreWithin n (ls ++ shown n label)
      = all_both (IsShownWithin n) ls (shown n label) (all_weaker (IsShownWithin (length ps)) (IsShownWithin n) (within_more (length ps) n (omega arith)) ls before.within) (shown_within n label here) in
      subst (λ k. IsRun k (ls ++ shown n label) D) (sym many)
      (record { closed = free_steps_keep M free.0 D label before.closed free.1; is = step.2 last; channels = omega (arith, few, one); within = within })

pub opening_closed : (p : Process) → IsClosed p → IsConfiguration (opening p)
opening_closed p h = record { stamps = (omega arith, omega arith); closed = (h, tt) }

pub free_runs_are_in_range : FreeRunsAreInRange
free_runs_are_in_range p places labels C closed is runs short = (run_is (opening p) (opening_closed p closed) (is, tt) refl places labels C runs short).within

-- ---- lines

-- no line is that of a quiet step
abbrev Speaks : ℕ × Label → Type 0
Speaks (number, Quiet) = ⊥
Speaks (number, _) = Unit {0}

module _ (channels : ℕ) (few : channels ≤ 2 ^ 32) where
  mutual
    in_range : (v : Val) → IsOver 0 channels v → IsMachineValue v → IsInRange v
    in_range (Var x) o h = absurd (omega (arith, o))
    in_range (Chan x) o h = omega (arith, o, few)
    in_range (Int x) o h = h
    in_range (Char x) o h = h
    in_range (Boolean x) o h = tt
    in_range (Text x) o h = h.0
    in_range (PrimitiveVal x) o h = tt
    in_range (Record vs ls) o h = (all_in_range vs o.0 h.0, fields_in_range ls o.1 h.1)

    all_in_range : (vs : Vals) → AreOver 0 channels vs → AreMachineValues vs → AreInRange vs
    all_in_range no_vals o h = tt
    all_in_range (more_vals v vs) o h = (in_range v o.0 h.0, all_in_range vs o.1 h.1)

    fields_in_range : (ls : Labelled) → LabelledOver 0 channels ls → AreMachineFields ls → LabelledInRange ls
    fields_in_range no_labelled o h = tt
    fields_in_range (more_labelled l v ls) o h = (in_range v o.0 h.0, fields_in_range ls o.1 h.1)

  fits : (l : ℕ × Label) → Speaks l → IsShownWithin channels l → IsShort l.1 → NestsWithin l → FitsLine l
  fits (number, Quiet) speaks h short low = absurd speaks
  fits (number, Comm channel v) speaks h short low =
      let n = h.0 in
      let c = h.1.0 in
      (omega (arith, n, few), omega (arith, c, few), in_range v h.1.1 (value_of channel v h.1.2 short), low)
  fits (number, Print bytes) speaks h short low = let n = h.0 in (omega (arith, n, few), h.1)

  all_fit : (ls : List (ℕ × Label)) → AllByRecursion Speaks ls → AreWithin channels ls → AreShort ls → AllByRecursion NestsWithin ls → AllByRecursion FitsLine ls
  all_fit [] speak h short low = tt
  all_fit (l ∷ ls) speak h short low = (fits l speak.0 h.0 short.0 low.0, all_fit ls speak.1 h.1 short.1 low.1)

shown_speaks : (n : ℕ) (label : Label) → AllByRecursion Speaks (shown n label)
shown_speaks n Quiet = tt
shown_speaks n (Comm c v) = (tt, tt)
shown_speaks n (Print bytes) = (tt, tt)

run_speaks : (C : Configuration) (places : List Place) (labels : List (ℕ × Label)) (D : Configuration) → FreelyRuns C places labels D → AllByRecursion Speaks labels
run_speaks C places labels D at_start = tt
run_speaks C places labels D (by_step {places = ps} {labels = ls} {D = M} {label = label} r there steps) =
    all_both Speaks ls (shown (length ps + 1) label) (run_speaks C ps ls M r) (shown_speaks (length ps + 1) label)

pub free_runs_fit_lines : FreeRunsFitLines
free_runs_fit_lines p places labels C closed is runs short few low =
    all_fit (length places) few labels (run_speaks (opening p) places labels C runs) (free_runs_are_in_range p places labels C closed is runs short) short low
