-- A search from the opening configuration on.
use Rattle.std.proofs.Common.{ℕ, ◌≡◌, ◌<◌, ◌++◌, List, [], ◌∷◌, length, map, refl, sym, subst, arith, Some, Result, Ok, Err, IfOk, OnOk}
use Rattle.std.specs.List.{slice_get}
use Rattle.std.proofs.lemmas.List.{length-map}
use Rattle.std.specs.declared.alloc.AllocError.{AllocError}
use Rattle.pict_core.specs.Term.{Process}
use Rattle.pict_core.specs.Closed.{IsClosed}
use Rattle.pict_core.specs.Configuration.{Configuration, IsConfiguration, opening}
use Rattle.pict_core.specs.Places.{Place}
use Rattle.pict_core.specs.FreeRun.{at_start}
use Rattle.pict_reduction.specs.Reading.{reading}
use Rattle.pict_reduction.proofs.Apart.{opening_reached}
use Rattle.pict_exploration.specs.Alone.{SettlesTo}
use Rattle.pict_exploration.specs.Explored.{Vertex, IsReachedByChoices, IsFoundAs, IsFoundSettled, Explores}
use Rattle.pict_orders.specs.Plain.{place_of}
use Rattle.pict_orders.specs.declared.choice.Choice.{Choice}
use Rattle.pict_orders.specs.Settling.{vertex, Settles}
use Rattle.pict_orders.specs.Room.{ComesToFull}
use Rattle.pict_orders.specs.Found.{vertex_of, vertices, IsSearch, BeginsAt, ListsTraps}
use Rattle.pict_orders.specs.Going.{Extends, Goes, IsAdded, IsOpened, IsWhole, AreExpanded}
use Rattle.pict_orders.specs.declared.search.Extent.{Extent}
use Rattle.pict_orders.specs.declared.search.Extent.TheVariants.{All, NoRoom}
use Rattle.pict_orders.specs.declared.search.Found.{Found}
use Rattle.pict_orders.specs.declared.search.Search.{Search}
use Rattle.pict_orders.proofs.Going.{same_vertex, extends_then, found_still, goes_no_further, goes_as, found_before, reach_added}
use Rattle.pict_orders.proofs.Lists.{get_within}
use Rattle.pict_orders.proofs.Ending.{explores, lists_traps}

-- ---- a configuration that is reached

module _ (s : Search) (before after : List Place) (bytes : List ℕ) (C D : Configuration) (settled : IsConfiguration C → Settles before C after D) where
  -- it is there
  pub reach_known : (same : List ℕ) → same ≡ bytes → IsFoundAs (vertices s.found.items) same (reading D) → (p : Process) → IsSearch p (vertices s.found.items) s.traps.items → IsConfiguration C
      → IsReachedByChoices p (vertex before bytes C) → Goes p s s All (IsFoundSettled (vertices s.found.items) bytes (reading C))
  reach_known same e found p h is r = goes_no_further p s (IsFoundSettled (vertices s.found.items) bytes (reading C)) h
      (found_before (vertices s.found.items) bytes C D (subst (λ (b : List ℕ). IsFoundAs (vertices s.found.items) b (reading D)) e found) (settled is).0.settles)

  -- it is new
  pub reach_new : (t : Search) → IsAdded s t (vertex after bytes D) → (p : Process) → IsSearch p (vertices s.found.items) s.traps.items → IsConfiguration C
      → IsReachedByChoices p (vertex before bytes C) → Goes p s t All (IsFoundSettled (vertices t.found.items) bytes (reading C))
  reach_new t added p h is r = reach_added p s t before after bytes C D h r (settled is) added

-- ---- the opening configuration

starts : (p : Process) → IsReachedByChoices p (vertex [] [] (opening p))
starts p = record { labels = []; runs = at_start; prints = refl }

pub begin_by : (p : Process) (s t : Search) (r : Result Extent AllocError) (cs : List Choice) (bytes : List ℕ) (C : Configuration) → cs ≡ [] → bytes ≡ [] → C ≡ opening p
    → IfOk r (λ extent. (q : Process) → IsSearch q (vertices s.found.items) s.traps.items → IsConfiguration C → IsReachedByChoices q (vertex (map place_of cs) bytes C)
    → Goes q s t extent (IsFoundSettled (vertices t.found.items) bytes (reading C)))
    → IfOk r (λ extent. IsClosed p → IsSearch p (vertices s.found.items) s.traps.items → Goes p s t extent (IsOpened p t))
begin_by p s t (Ok extent) cs bytes C ec eb e reach = λ closed h.
    let there : IsReachedByChoices p (vertex (map place_of cs) bytes C) =
    subst (λ (l : List Choice). IsReachedByChoices p (vertex (map place_of l) bytes C)) (sym ec)
    (subst (λ (b : List ℕ). IsReachedByChoices p (vertex [] b C)) (sym eb) (subst (λ (X : Configuration). IsReachedByChoices p (vertex [] [] X)) (sym e) (starts p))) in
    let is : IsConfiguration C = subst IsConfiguration (sym e) (opening_reached p closed).is in
    goes_as p s t extent (IsFoundSettled (vertices t.found.items) bytes (reading C)) (IsOpened p t) (reach p h is there)
    (λ found. subst (λ (b : List ℕ). IsFoundSettled (vertices t.found.items) b (reading (opening p))) eb (subst (λ (X : Configuration). IsFoundSettled (vertices t.found.items) bytes (reading X)) e found))
begin_by p s t (Err x) cs bytes C ec eb e reach = reach

-- ---- the first vertex

pub none_begins : (s : Search) (bytes : List ℕ) (C : Configuration) → s.found.items ≡ [] → BeginsAt (vertices s.found.items) bytes C
none_begins s bytes C none v e =
    let no : slice_get (vertices []) 0 ≡ Some v = subst (λ (fs : List Found). slice_get (vertices fs) 0 ≡ Some v) none e in
    let never : ⊥ = cc in
    absurd never

pub first_begins : (s t : Search) (before after : List Place) (bytes : List ℕ) (C D : Configuration) → s.found.items ≡ [] → IsAdded s t (vertex after bytes D) → Settles before C after D
    → BeginsAt (vertices t.found.items) bytes C
first_begins s t before after bytes C D none added settled v e =
    let one : slice_get (vertex after bytes D ∷ []) 0 ≡ Some v =
    subst (λ (fs : List Found). slice_get (vertices fs ++ vertex after bytes D ∷ []) 0 ≡ Some v) none (subst (λ (F : List Vertex). slice_get F 0 ≡ Some v) added.found e) in
    let same : vertex after bytes D ≡ v = cc in
    subst (λ (w : Vertex). (w.bytes ≡ bytes) × SettlesTo 0 (reading C) (reading w.configuration)) same (refl, settled.0.settles)

pub opening_begins : (p : Process) (s t : Search) (r : Result Extent AllocError) (cs : List Choice) (bytes : List ℕ) (C : Configuration) → bytes ≡ [] → C ≡ opening p
    → OnOk r (s.found.items ≡ [] → IsConfiguration C → BeginsAt (vertices t.found.items) bytes C)
    → OnOk r (IsClosed p → s.found.items ≡ [] → BeginsAt (vertices t.found.items) [] (opening p))
opening_begins p s t (Ok extent) cs bytes C eb e first = λ closed none.
    let is : IsConfiguration C = subst IsConfiguration (sym e) (opening_reached p closed).is in
    subst (λ (b : List ℕ). BeginsAt (vertices t.found.items) b (opening p)) eb (subst (λ (X : Configuration). BeginsAt (vertices t.found.items) bytes X) e (first none is))
opening_begins p s t (Err x) cs bytes C eb e first = first

-- it stays the first, since there is one
still_begins : (p : Process) (t u : Search) → IsOpened p t → Extends t u → BeginsAt (vertices t.found.items) [] (opening p) → BeginsAt (vertices u.found.items) [] (opening p)
still_begins p t u opened extends first v e =
    let within : opened.is.0 < length (vertices t.found.items) = get_within (vertices t.found.items) opened.is.0 opened.vertex opened.is.1 in
    let many : length (vertices t.found.items) ≡ length t.found.items = length-map t.found.items vertex_of in
    first v (same_vertex t u extends 0 v (omega (arith, within, many)) e)

pub begins_on : (p : Process) (s t u : Search) (extent : Extent) (r : Result Extent AllocError)
    → (IsClosed p → IsSearch p (vertices s.found.items) s.traps.items → Goes p s t extent (IsOpened p t)) → extent ≡ All
    → (IsClosed p → s.found.items ≡ [] → BeginsAt (vertices t.found.items) [] (opening p))
    → IfOk r (λ e. (q : Process) → IsClosed q → IsSearch q (vertices t.found.items) t.traps.items → Goes q t u e (AreExpanded u))
    → OnOk r (IsClosed p → IsSearch p (vertices s.found.items) s.traps.items → s.found.items ≡ [] → BeginsAt (vertices u.found.items) [] (opening p))
begins_on p s t u extent (Ok last) begun all first run = λ closed h none.
    let b = begun closed h in
    let g = run p closed b.is in
    still_begins p t u (b.done all) g.extends (first closed none)
begins_on p s t u extent (Err x) begun all first run = run

-- ---- the whole search

pub whole_by : (p : Process) (s t u : Search) (extent : Extent) (r : Result Extent AllocError)
    → (IsClosed p → IsSearch p (vertices s.found.items) s.traps.items → Goes p s t extent (IsOpened p t)) → extent ≡ All
    → IfOk r (λ e. (q : Process) → IsClosed q → IsSearch q (vertices t.found.items) t.traps.items → Goes q t u e (AreExpanded u))
    → IfOk r (λ e. IsClosed p → IsSearch p (vertices s.found.items) s.traps.items → Goes p s u e (IsWhole p u))
whole_by p s t u extent (Ok last) begun all run = λ closed h.
    let b = begun closed h in
    let g = run p closed b.is in
    record {
      is = g.is;
      extends = extends_then s t u b.extends g.extends;
      done = λ e. record { opened = found_still t u g.extends [] (reading (opening p)) (b.done all); expanded = g.done e };
      full = g.full;
    }
whole_by p s t u extent (Err x) begun all run = run

pub half_by : (p : Process) (s t : Search) (extent : Extent) → Goes p s t extent (IsOpened p t) → (extent ≡ All → ⊥) → Goes p s t extent (IsWhole p t)
half_by p s t extent g ends = record { is = g.is; extends = g.extends; done = λ e. absurd (ends e); full = g.full }

-- ---- what is found in the end

pub all_explored : (p : Process) (s t : Search) (extent : Extent) → Goes p s t extent (IsWhole p t) → extent ≡ All → Explores p (vertices t.found.items)
all_explored p s t extent g all = explores p t g.is (g.done all)

pub all_full : (p : Process) (s t : Search) (extent : Extent) → Goes p s t extent (IsWhole p t) → extent ≡ NoRoom → ComesToFull p
all_full p s t extent g none = g.full none

pub all_traps : (p : Process) (s t : Search) (extent : Extent) → Goes p s t extent (IsWhole p t) → extent ≡ All → ListsTraps (vertices t.found.items) t.traps.items
all_traps p s t extent g all = lists_traps p t (g.done all)
