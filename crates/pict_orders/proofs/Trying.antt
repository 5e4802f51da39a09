-- What the functions of a search do, from what those that they call do.
use Rattle.std.proofs.Common.{ℕ, ◌+◌, ◌<◌, ◌≤◌, ◌≡◌, List, [], ◌∷◌, ◌++◌, length, max, get_or, refl, sym, ap, ◌∙◌, subst, arith, Some, Result, Ok, Err, IfOk}
use Rattle.std.specs.List.{slice_get}
use Rattle.std.proofs.lemmas.Option.{slice_get_read}
use Rattle.std.specs.declared.alloc.AllocError.{AllocError}
use Rattle.pict_core.specs.Term.{Process}
use Rattle.pict_core.specs.Closed.{IsClosed}
use Rattle.pict_core.specs.Configuration.{Configuration, IsConfiguration}
use Rattle.pict_core.specs.Step.{Steps, Traps, Wrong, Finished}
use Rattle.pict_core.specs.Places.{ready_entries, partners_at, outcome_at}
use Rattle.pict_reduction.specs.Congruence.{Congruent}
use Rattle.pict_reduction.specs.Reading.{reading}
use Rattle.pict_exploration.specs.Explored.{IsFoundAs}
use Rattle.pict_reference.specs.Plain.{IsOutcome, plain_label}
use Rattle.pict_reference.specs.declared.outcome.Label.{Label as MadeLabel}
use Rattle.pict_reference.specs.declared.outcome.StepOutcome.{StepOutcome as Made}
use Rattle.pict_reference.specs.declared.outcome.StepOutcome.TheVariants as made
use Rattle.pict_orders.specs.Plain.{configuration_of, place, place_of}
use Rattle.pict_orders.specs.declared.choice.Choice.{Choice}
use Rattle.pict_orders.specs.Found.{vertex_of, vertices, IsSearch}
use Rattle.pict_orders.specs.Going.{Extends, Goes, IsThere, IsReadyAt, IsStepFrom, IsFoundBy, IsTried, AreTried, IsExpanded, AreExpanded}
use Rattle.pict_orders.specs.declared.search.Extent.{Extent}
use Rattle.pict_orders.specs.declared.search.Extent.TheVariants.{All, Limit, NoRoom}
use Rattle.pict_orders.specs.declared.search.Found.{Found}
use Rattle.pict_orders.specs.declared.search.Search.{Search}
use Rattle.pict_orders.specs.declared.search.Trap.{Trap}
use Rattle.pict_orders.proofs.Going.{same_vertex, all_has_room, extends_itself, extends_then, its_vertex, vertex_is, tried_steps, tried_trap, tried_nothing, there_at, ready_at, tried_all, expanded_all, empty_search, TriedSoFar, ExpandedSoFar, RunSoFar, tried_more, expanded_more, run_more, run_through}

-- ---- a search that ends by its limit promises no more

limit_is_not_all : {A : Type 0} → Limit ≡ All → A
limit_is_not_all e = let never : ⊥ = cc in absurd never

limit_has_room : {A : Type 0} → Limit ≡ NoRoom → A
limit_has_room e = let never : ⊥ = cc in absurd never

pub goes_to_limit : (p : Process) (s t : Search) (Done : Type 0) → IsSearch p (vertices t.found.items) t.traps.items → Extends s t → Goes p s t Limit Done
goes_to_limit p s t Done h e = record { is = h; extends = e; done = λ x. limit_is_not_all x; full = λ x. limit_has_room x }

-- ---- vertices

pub found_like : (fs : List Found) (number : ℕ) (f : Found) (bytes : List ℕ) (C : Configuration) → number < length fs → f ≡ get_or fs number f → f.bytes.items ≡ bytes
    → Congruent 0 (reading (configuration_of f.state)) (reading C) → IsFoundAs (vertices fs) bytes (reading C)
found_like fs number f bytes C within is same alike = record {
  vertex = vertex_of f;
  is = (number, its_vertex fs number f (slice_get_read fs (length fs) number f refl within is));
  printed = same;
  same = alike;
}

pub begins : (p : Process) (fs : List Found) (ts : List Trap) → fs ≡ [] → ts ≡ [] → IsSearch p (vertices fs) ts
begins p fs ts e h = subst (λ (l : List Trap). IsSearch p (vertices fs) l) (sym h) (subst (λ (l : List Found). IsSearch p (vertices l) []) (sym e) (empty_search p))

-- ---- one step of a vertex

module _ (s : Search) (number : ℕ) (f : Found) (C D : Configuration) (choice : Choice) (m : Made) (within : number < length s.found.items) (is : f ≡ get_or s.found.items number f)
    (same : C ≡ configuration_of f.state) (outcome : IsConfiguration C → IsOutcome m (outcome_at C (place_of choice)) C D) where
  kept : slice_get s.found.items number ≡ Some f
  kept = slice_get_read s.found.items (length s.found.items) number f refl within is

  outcome_in : (p : Process) → IsClosed p → IsSearch p (vertices s.found.items) s.traps.items → IsOutcome m (outcome_at C (place_of choice)) C D
  outcome_in p u h = outcome (subst IsConfiguration (sym same) (vertex_is p (vertices s.found.items) s.traps.items u h (vertex_of f) (number, its_vertex s.found.items number f kept)))

  here : outcome_at (configuration_of f.state) (place_of choice) ≡ outcome_at C (place_of choice)
  here = ap (λ (X : Configuration). outcome_at X (place_of choice)) (sym same)

  pub try_steps : (t : Search) (r : Result Extent AllocError) (l : MadeLabel) → m ≡ made.Steps l
      → IfOk r (λ extent. (p : Process) → IsClosed p → IsSearch p (vertices s.found.items) s.traps.items
      → IsStepFrom (vertices s.found.items) number (place_of choice) D (plain_label l) → Goes p s t extent (IsFoundBy s t number (plain_label l) D))
      → IfOk r (λ extent. (p : Process) → IsClosed p → IsSearch p (vertices s.found.items) s.traps.items
      → IsThere (vertices s.found.items) number (place_of choice) → Goes p s t extent (IsTried t number (place_of choice)))
  try_steps t (Ok extent) l e go = λ p u h there.
      let steps : outcome_at C (place_of choice) ≡ Steps D (plain_label l) = subst (λ (x : Made). IsOutcome x (outcome_at C (place_of choice)) C D) e (outcome_in p u h) in
      tried_steps p s t extent number f (place_of choice) D (plain_label l) kept within (here ∙ steps) there (go p u h)
  try_steps t (Err x) l e go = go

  pub try_wrong : m ≡ made.Wrong → (p : Process) → IsClosed p → IsSearch p (vertices s.found.items) s.traps.items → Goes p s s All (IsTried s number (place_of choice))
  try_wrong e p u h =
      let none : (outcome_at C (place_of choice) ≡ Wrong) × (D ≡ C) = subst (λ (x : Made). IsOutcome x (outcome_at C (place_of choice)) C D) e (outcome_in p u h) in
      tried_nothing p s number f (place_of choice) Wrong kept (here ∙ none.0) (λ v. tt) h

  pub try_finished : m ≡ made.Finished → (p : Process) → IsClosed p → IsSearch p (vertices s.found.items) s.traps.items → Goes p s s All (IsTried s number (place_of choice))
  try_finished e p u h =
      let none : (outcome_at C (place_of choice) ≡ Finished) × (D ≡ C) = subst (λ (x : Made). IsOutcome x (outcome_at C (place_of choice)) C D) e (outcome_in p u h) in
      tried_nothing p s number f (place_of choice) Finished kept (here ∙ none.0) (λ v. tt) h

pub try_trap : (s t : Search) (number : ℕ) (f : Found) (C D : Configuration) (trap : Trap) (m : Made) → number < length s.found.items → f ≡ get_or s.found.items number f
    → C ≡ configuration_of f.state → (IsConfiguration C → IsOutcome m (outcome_at C (place_of trap.choice)) C D) → m ≡ made.Traps trap.at
    → t.found ≡ s.found → t.traps.items ≡ s.traps.items ++ trap ∷ [] → trap.vertex ≡ number
    → (p : Process) → IsClosed p → IsSearch p (vertices s.found.items) s.traps.items → IsThere (vertices s.found.items) number (place_of trap.choice) → Goes p s t All (IsTried t number (place_of trap.choice))
try_trap s t number f C D trap m within is same outcome e unchanged more named p u h there =
    let traps : (outcome_at C (place_of trap.choice) ≡ Traps trap.at) × (D ≡ C) =
    subst (λ (x : Made). IsOutcome x (outcome_at C (place_of trap.choice)) C D) e (outcome_in s number f C D trap.choice m within is same outcome p u h) in
    tried_trap p s t number f trap (kept s number f C D trap.choice m within is same outcome) unchanged more named (here s number f C D trap.choice m within is same outcome ∙ traps.0) there h

-- ---- the steps of a vertex, one after the other

pub tried_none : (p : Process) (s : Search) (number ready : ℕ) → IsSearch p (vertices s.found.items) s.traps.items → TriedSoFar p s s number ready 0
tried_none p s number ready h = record { is = h; extends = extends_itself s; tried = λ j l. absurd (omega (arith, l)) }

module _ (p : Process) (s t u : Search) (number ready partner m : ℕ) (f : Found) (extent : Extent) (within : number < length s.found.items) (is : f ≡ get_or s.found.items number f)
    (many : m ≡ length (partners_at (configuration_of f.state) ready)) (below : partner < max m 1) (one : IsReadyAt (vertices s.found.items) number ready) (closed : IsClosed p)
    (far : TriedSoFar p s t number ready partner)
    (goes : (q : Process) → IsClosed q → IsSearch q (vertices t.found.items) t.traps.items → IsThere (vertices t.found.items) number (place ready partner) → Goes q t u extent (IsTried u number (place ready partner))) where
  went : Goes p t u extent (IsTried u number (place ready partner))
  went = goes p closed far.is
      (λ v e. there_at s number ready partner m f (slice_get_read s.found.items (length s.found.items) number f refl within is) many below one v (same_vertex s t far.extends number v within e))

  pub try_on : extent ≡ All → TriedSoFar p s u number ready (partner + 1)
  try_on all = tried_more p s t u number ready partner within far went.is went.extends (went.done all)

  pub try_no_more : (extent ≡ All → ⊥) → Goes p s u extent (AreTried u number ready)
  try_no_more ends = record { is = went.is; extends = extends_then s t u far.extends went.extends; done = λ e. absurd (ends e); full = went.full }

-- all partners were tried
pub try_all : (p : Process) (s t : Search) (number ready partner m : ℕ) (f : Found) → number < length s.found.items → f ≡ get_or s.found.items number f
    → m ≡ length (partners_at (configuration_of f.state) ready) → max m 1 ≤ partner → TriedSoFar p s t number ready partner → Goes p s t All (AreTried t number ready)
try_all p s t number ready partner m f within is many end far =
    tried_all p s t number ready m f (slice_get_read s.found.items (length s.found.items) number f refl within is) within many
    (record { is = far.is; extends = far.extends; tried = λ j l. far.tried j (omega (arith, l, end)) })

pub expanded_none : (p : Process) (s : Search) (number : ℕ) → IsSearch p (vertices s.found.items) s.traps.items → ExpandedSoFar p s s number 0
expanded_none p s number h = record { is = h; extends = extends_itself s; tried = λ i l. absurd (omega (arith, l)) }

module _ (p : Process) (s t u : Search) (number ready n : ℕ) (f : Found) (extent : Extent) (within : number < length s.found.items) (is : f ≡ get_or s.found.items number f)
    (many : n ≡ length (ready_entries (configuration_of f.state))) (below : ready < n) (closed : IsClosed p) (far : ExpandedSoFar p s t number ready)
    (goes : (q : Process) → IsClosed q → IsSearch q (vertices t.found.items) t.traps.items → IsReadyAt (vertices t.found.items) number ready → Goes q t u extent (AreTried u number ready)) where
  reached : Goes p t u extent (AreTried u number ready)
  reached = goes p closed far.is (ready_at s t number ready n f far.extends (slice_get_read s.found.items (length s.found.items) number f refl within is) within many below)

  pub expand_on : extent ≡ All → ExpandedSoFar p s u number (ready + 1)
  expand_on all = expanded_more p s t u number ready within far reached.is reached.extends (reached.done all)

  pub expand_no_more : (extent ≡ All → ⊥) → Goes p s u extent (IsExpanded u number)
  expand_no_more ends = record { is = reached.is; extends = extends_then s t u far.extends reached.extends; done = λ e. absurd (ends e); full = reached.full }

-- all ready processes were
pub expand_all : (p : Process) (s t : Search) (number ready n : ℕ) (f : Found) → number < length s.found.items → f ≡ get_or s.found.items number f
    → n ≡ length (ready_entries (configuration_of f.state)) → n ≤ ready → ExpandedSoFar p s t number ready → Goes p s t All (IsExpanded t number)
expand_all p s t number ready n f within is many end far =
    expanded_all p s t number n f (slice_get_read s.found.items (length s.found.items) number f refl within is) within many
    (record { is = far.is; extends = far.extends; tried = λ i l. far.tried i (omega (arith, l, end)) })

-- ---- all vertices

pub run_none : (p : Process) (s : Search) → IsSearch p (vertices s.found.items) s.traps.items → RunSoFar p s s 0
run_none p s h = record { is = h; extends = extends_itself s; below = λ n l. absurd (omega (arith, l)) }

module _ (p : Process) (s t u : Search) (number : ℕ) (extent : Extent) (within : number < length t.found.items) (closed : IsClosed p) (far : RunSoFar p s t number)
    (goes : (q : Process) → IsClosed q → IsSearch q (vertices t.found.items) t.traps.items → Goes q t u extent (IsExpanded u number)) where
  pub run_on : extent ≡ All → RunSoFar p s u (number + 1)
  run_on all = let went = goes p closed far.is in run_more p s t u number far within went.is went.extends (went.done all)

  pub run_no_more : (extent ≡ All → ⊥) → Goes p s u extent (AreExpanded u)
  run_no_more ends = let went = goes p closed far.is in record { is = went.is; extends = extends_then s t u far.extends went.extends; done = λ e. absurd (ends e); full = went.full }

-- there are no more
pub run_all : (p : Process) (s t : Search) (number : ℕ) → RunSoFar p s t number → length t.found.items ≤ number → Goes p s t All (AreExpanded t)
run_all p s t number far end = record { is = far.is; extends = far.extends; done = λ e. run_through p s t number far end; full = λ e. all_has_room e }

-- there are no more numbers
pub run_out : (p : Process) (s t : Search) (number : ℕ) → RunSoFar p s t number → Goes p s t Limit (AreExpanded t)
run_out p s t number far = goes_to_limit p s t (AreExpanded t) far.is far.extends
