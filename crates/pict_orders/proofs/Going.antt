-- Searches that go on.
use Rattle.std.proofs.Common.{ℕ, zero, suc, ◌+◌, ◌<◌, ◌≤◌, ◌≡◌, ◌⊎◌, inl, inr, List, [], ◌∷◌, ◌++◌, length, map, max, append-nil, append_assoc, length-append, refl, sym, ap, ◌∙◌, subst, arith, Some, option_map, Result, Ok, Err, IfOk}
use Rattle.std.specs.List.{slice_get}
use Rattle.std.proofs.lemmas.List.{length-map, map-append}
use Rattle.std.proofs.lemmas.Option.{slice_get-map}
use Rattle.std.specs.declared.alloc.AllocError.{AllocError}
use Rattle.pict_core.specs.Term.{Process}
use Rattle.pict_core.specs.Closed.{IsClosed}
use Rattle.pict_core.specs.Configuration.{Configuration, IsConfiguration}
use Rattle.pict_core.specs.Step.{Label, StepOutcome, Steps, Traps, Wrong, Finished}
use Rattle.pict_core.specs.Run.{printed_by}
use Rattle.pict_core.specs.Places.{Place, ready_entries, partners_at, outcome_at}
use Rattle.pict_reduction.specs.Congruence.{symmetric}
use Rattle.pict_reduction.specs.Reading.{reading}
use Rattle.pict_reduction.proofs.Apart.{IsReached}
use Rattle.pict_exploration.specs.Explored.{Vertex, Has, IsReachedByChoices, IsFoundAs, IsFoundSettled}
use Rattle.pict_exploration.specs.Alone.{SettlesTo, at_end}
use Rattle.pict_exploration.proofs.Covering.{reached_prints, prints_reached, settles_then}
use Rattle.pict_orders.specs.Plain.{configuration_of, place, place_of}
use Rattle.pict_orders.specs.Settling.{vertex, IsSettled, Settles, SettlesToFull}
use Rattle.pict_orders.specs.Room.{IsFull, ComesToFull}
use Rattle.pict_orders.specs.declared.choice.Choice.{Choice}
use Rattle.pict_orders.specs.Found.{vertex_of, vertices, IsTrap, IsSearch}
use Rattle.pict_orders.specs.Going.{Extends, Goes, IsAdded, IsThere, IsReadyAt, IsStepFrom, IsFoundBy, IsCovered, IsTried, AreTried, IsExpanded, AreExpanded}
use Rattle.pict_orders.specs.declared.search.Extent.{Extent}
use Rattle.pict_orders.specs.declared.search.Extent.TheVariants.{All, NoRoom}
use Rattle.pict_orders.specs.declared.search.Found.{Found}
use Rattle.pict_orders.specs.declared.search.Search.{Search}
use Rattle.pict_orders.specs.declared.search.Trap.{Trap}
use Rattle.pict_orders.proofs.Lists.{or_last, get_front, get_below, get_last, get_own, get_within}
use Rattle.pict_orders.proofs.Quietly.{reached_more, place_keeps}

-- ---- what was found stays

pub extends_itself : (s : Search) → Extends s s
extends_itself s = record { more = []; more_traps = []; found = sym (append-nil (vertices s.found.items)); traps = sym (append-nil s.traps.items) }

pub extends_then : (s t u : Search) → Extends s t → Extends t u → Extends s u
extends_then s t u h k = record {
  more = h.more ++ k.more;
  more_traps = h.more_traps ++ k.more_traps;
  found = k.found ∙ ap (λ l. l ++ k.more) h.found ∙ append_assoc (vertices s.found.items) h.more k.more;
  traps = k.traps ∙ ap (λ l. l ++ k.more_traps) h.traps ∙ append_assoc s.traps.items h.more_traps k.more_traps;
}

-- the vertex of a number that was there
pub same_vertex : (s t : Search) → Extends s t → (number : ℕ) (v : Vertex) → number < length s.found.items → slice_get (vertices t.found.items) number ≡ Some v → slice_get (vertices s.found.items) number ≡ Some v
same_vertex s t h number v l e =
    let many : length (vertices s.found.items) ≡ length s.found.items = length-map s.found.items vertex_of in
    sym (ap (λ (vs : List Vertex). slice_get vs number) h.found ∙ get_below (vertices s.found.items) h.more number (omega (arith, l, many))) ∙ e

pub still_vertex : (s t : Search) → Extends s t → (number : ℕ) (v : Vertex) → slice_get (vertices s.found.items) number ≡ Some v → slice_get (vertices t.found.items) number ≡ Some v
still_vertex s t h number v e = ap (λ (vs : List Vertex). slice_get vs number) h.found ∙ get_front (vertices s.found.items) h.more number v e

pub found_still : (s t : Search) → Extends s t → (bytes : List ℕ) (q : Process) → IsFoundSettled (vertices s.found.items) bytes q → IsFoundSettled (vertices t.found.items) bytes q
found_still s t h bytes q f = record { vertex = f.vertex; is = (f.is.0, still_vertex s t h f.is.0 f.vertex f.is.1); printed = f.printed; settles = f.settles }

covered_still : (s t : Search) → Extends s t → (number : ℕ) (v : Vertex) (there : Place) (o : StepOutcome) → IsCovered s number v there o → IsCovered t number v there o
covered_still s t h number v there (Steps D label) c = found_still s t h (v.bytes ++ printed_by label) (reading D) c
covered_still s t h number v there (Traps at) c = record {
  index = c.index;
  trap = c.trap;
  listed = ap (λ (ts : List Trap). slice_get ts c.index) h.traps ∙ get_front s.traps.items h.more_traps c.index c.trap c.listed;
  vertex = c.vertex;
  choice = c.choice;
  same = c.same;
}
covered_still s t h number v there Wrong c = tt
covered_still s t h number v there Finished c = tt

pub tried_still : (s t : Search) → Extends s t → (number : ℕ) → number < length s.found.items → (at : Place) → IsTried s number at → IsTried t number at
tried_still s t h number l at c = λ v e. covered_still s t h number v at (outcome_at v.configuration at) (c v (same_vertex s t h number v l e))

pub expanded_still : (s t : Search) → Extends s t → (number : ℕ) → number < length s.found.items → IsExpanded s number → IsExpanded t number
expanded_still s t h number l c = λ v e at there. covered_still s t h number v at (outcome_at v.configuration at) (c v (same_vertex s t h number v l e) at there)

-- ---- one vertex more, one trap more

trap_still : (F : List Vertex) (v : Vertex) (t : Trap) → IsTrap F t → IsTrap (F ++ v ∷ []) t
trap_still F v t h = record { vertex = h.vertex; is = get_front F (v ∷ []) t.vertex h.vertex h.is; there = h.there; traps = h.traps }

one_of : (P : Vertex → Type 0) (F : List Vertex) (v w : Vertex) → ((u : Vertex) → Has F u → P u) → P v → Has (F ++ v ∷ []) w → P w
one_of P F v w f h k = go (get_last F v w k.0 k.1)
  where
    go : (slice_get F k.0 ≡ Some w) ⊎ (v ≡ w) → P w
    go (inl e) = f w (k.0, e)
    go (inr e) = subst P e h

pub search_added : (p : Process) (s t : Search) (v : Vertex) → IsAdded s t v → IsSearch p (vertices s.found.items) s.traps.items → IsReachedByChoices p v → IsSettled v.configuration
    → IsSearch p (vertices t.found.items) t.traps.items × Extends s t
search_added p s t v a h r settled = (
  subst (λ (ts : List Trap). IsSearch p (vertices t.found.items) ts) (sym a.traps) (subst (λ (F : List Vertex). IsSearch p F s.traps.items) (sym a.found) (record {
    reached = λ w k. one_of (IsReachedByChoices p) (vertices s.found.items) v w h.reached r k;
    settled = λ w k. one_of (λ (u : Vertex). IsSettled u.configuration) (vertices s.found.items) v w h.settled settled k;
    trapped = λ i u e. trap_still (vertices s.found.items) v u (h.trapped i u e);
  })),
  record { more = v ∷ []; more_traps = []; found = a.found; traps = a.traps ∙ sym (append-nil s.traps.items) },
)

-- a vertex that is the last one is found
pub added_found : (s t : Search) (v : Vertex) (bytes : List ℕ) (q : Process) → IsAdded s t v → v.bytes ≡ bytes → SettlesTo 0 q (reading v.configuration) → IsFoundSettled (vertices t.found.items) bytes q
added_found s t v bytes q a e c = record {
  vertex = v;
  is = (length (vertices s.found.items), ap (λ (F : List Vertex). slice_get F (length (vertices s.found.items))) a.found ∙ get_own (vertices s.found.items) v);
  printed = e;
  settles = c;
}

pub empty_search : (p : Process) → IsSearch p [] []
empty_search p = record { reached = λ v h. let e = h.1 in cc; settled = λ v h. let e = h.1 in cc; trapped = λ i t e. cc }

-- ---- configurations of vertices

pub vertex_is : (p : Process) (F : List Vertex) (T : List Trap) → IsClosed p → IsSearch p F T → (v : Vertex) → Has F v → IsConfiguration v.configuration
vertex_is p F T u h v k = let r : IsReached v.configuration = prints_reached p u v.bytes v.configuration (reached_prints p u v (h.reached v k)) in r.is

pub after_is : (p : Process) (F : List Vertex) (T : List Trap) (number : ℕ) (at : Place) (D : Configuration) (label : Label) → IsClosed p → IsSearch p F T → IsStepFrom F number at D label → IsConfiguration D
after_is p F T number at D label u h s = place_keeps s.vertex.configuration D at label (vertex_is p F T u h s.vertex (number, s.is)) s.there s.steps

-- ---- how far a search is

pub record TriedSoFar (p : Process) (s t : Search) (number ready partner : ℕ) : Type 0 where
  pub is : IsSearch p (vertices t.found.items) t.traps.items
  pub extends : Extends s t
  pub tried : (j : ℕ) → j < partner → IsTried t number (place ready j)

pub record ExpandedSoFar (p : Process) (s t : Search) (number ready : ℕ) : Type 0 where
  pub is : IsSearch p (vertices t.found.items) t.traps.items
  pub extends : Extends s t
  pub tried : (i : ℕ) → i < ready → AreTried t number i

pub record RunSoFar (p : Process) (s t : Search) (number : ℕ) : Type 0 where
  pub is : IsSearch p (vertices t.found.items) t.traps.items
  pub extends : Extends s t
  pub below : (n : ℕ) → n < number → (n < length t.found.items) × IsExpanded t n

pub grown : (s t : Search) → Extends s t → length s.found.items ≤ length t.found.items
grown s t h =
    let a : length (vertices s.found.items) ≡ length s.found.items = length-map s.found.items vertex_of in
    let b : length (vertices t.found.items) ≡ length t.found.items = length-map t.found.items vertex_of in
    let c : length (vertices t.found.items) ≡ length (vertices s.found.items) + length h.more = ap (λ (F : List Vertex). length F) h.found ∙ length-append (vertices s.found.items) h.more in
    omega (arith, a, b, c)

pub tried_more : (p : Process) (s t u : Search) (number ready partner : ℕ) → number < length s.found.items → TriedSoFar p s t number ready partner → IsSearch p (vertices u.found.items) u.traps.items → Extends t u
    → IsTried u number (place ready partner) → TriedSoFar p s u number ready (partner + 1)
tried_more p s t u number ready partner l h is e new =
    let g : length s.found.items ≤ length t.found.items = grown s t h.extends in
    record {
      is = is;
      extends = extends_then s t u h.extends e;
      tried = λ j k. next j (or_last j partner k) g;
    }
  where
    next : (j : ℕ) → (j < partner) ⊎ (j ≡ partner) → length s.found.items ≤ length t.found.items → IsTried u number (place ready j)
    next j (inl a) g = tried_still t u e number (omega (arith, l, g)) (place ready j) (h.tried j a)
    next j (inr a) g = subst (λ x. IsTried u number (place ready x)) (sym a) new

pub expanded_more : (p : Process) (s t u : Search) (number ready : ℕ) → number < length s.found.items → ExpandedSoFar p s t number ready → IsSearch p (vertices u.found.items) u.traps.items → Extends t u
    → AreTried u number ready → ExpandedSoFar p s u number (ready + 1)
expanded_more p s t u number ready l h is e new =
    let g : length s.found.items ≤ length t.found.items = grown s t h.extends in
    record {
      is = is;
      extends = extends_then s t u h.extends e;
      tried = λ i k. next i (or_last i ready k) g;
    }
  where
    next : (i : ℕ) → (i < ready) ⊎ (i ≡ ready) → length s.found.items ≤ length t.found.items → AreTried u number i
    next i (inl a) g = λ v at j there. covered_still t u e number v (place i j) (outcome_at v.configuration (place i j)) (h.tried i a v (same_vertex t u e number v (omega (arith, l, g)) at) j there)
    next i (inr a) g = subst (AreTried u number) (sym a) new

pub run_more : (p : Process) (s t u : Search) (number : ℕ) → RunSoFar p s t number → number < length t.found.items → IsSearch p (vertices u.found.items) u.traps.items → Extends t u → IsExpanded u number → RunSoFar p s u (number + 1)
run_more p s t u number h l is e new =
    let g : length t.found.items ≤ length u.found.items = grown t u e in
    record { is = is; extends = extends_then s t u h.extends e; below = λ n k. next n (or_last n number k) g }
  where
    next : (n : ℕ) → (n < number) ⊎ (n ≡ number) → length t.found.items ≤ length u.found.items → (n < length u.found.items) × IsExpanded u n
    next n (inl a) g = let b = h.below n a in let c = b.0 in (omega (arith, c, g), expanded_still t u e n c b.1)
    next n (inr a) g = (omega (arith, a, l, g), subst (IsExpanded u) (sym a) new)

-- nothing is left to expand
pub run_through : (p : Process) (s t : Search) (number : ℕ) → RunSoFar p s t number → length t.found.items ≤ number → AreExpanded t
run_through p s t number h l n v e =
    let many : length (vertices t.found.items) ≡ length t.found.items = length-map t.found.items vertex_of in
    let within : n < length (vertices t.found.items) = get_within (vertices t.found.items) n v e in
    (h.below n (omega (arith, l, many, within))).1 v e

-- ---- the search goes on

pub all_has_room : {A : Type 0} → All ≡ NoRoom → A
all_has_room e = let never : ⊥ = cc in absurd never

pub no_room_is_not_all : {A : Type 0} → NoRoom ≡ All → A
no_room_is_not_all e = let never : ⊥ = cc in absurd never

pub goes_no_further : (p : Process) (s : Search) (Done : Type 0) → IsSearch p (vertices s.found.items) s.traps.items → Done → Goes p s s All Done
goes_no_further p s Done h done = record { is = h; extends = extends_itself s; done = λ e. done; full = λ e. all_has_room e }

-- it ends, since the numbers are used up
pub goes_to_full : (p : Process) (s : Search) (Done : Type 0) → IsSearch p (vertices s.found.items) s.traps.items → ComesToFull p → Goes p s s NoRoom Done
goes_to_full p s Done h full = record { is = h; extends = extends_itself s; done = λ e. no_room_is_not_all e; full = λ e. full }

-- what a search says of one fact it says of what follows from it
pub goes_as : (p : Process) (s t : Search) (extent : Extent) (A B : Type 0) → Goes p s t extent A → (A → B) → Goes p s t extent B
goes_as p s t extent A B g f = record { is = g.is; extends = g.extends; done = λ e. f (g.done e); full = g.full }

-- what settles until the numbers are used up
pub settles_to_full : (p : Process) (before after : List Place) (bytes : List ℕ) (C D : Configuration) → IsReachedByChoices p (vertex before bytes C) → SettlesToFull before C after D → ComesToFull p
settles_to_full p before after bytes C D r h = record { vertex = vertex after bytes D; reached = h.0.runs p bytes r; full = h.1 }

-- a vertex that is found, in which they are
pub found_full : (p : Process) (s : Search) (number : ℕ) (f : Found) (C : Configuration) → slice_get s.found.items number ≡ Some f → C ≡ configuration_of f.state → IsFull C
    → IsSearch p (vertices s.found.items) s.traps.items → ComesToFull p
found_full p s number f C kept same full h = record {
  vertex = vertex_of f;
  reached = h.reached (vertex_of f) (number, slice_get-map vertex_of s.found.items number ∙ ap (option_map vertex_of) kept);
  full = subst IsFull same full;
}

pub found_before : (F : List Vertex) (bytes : List ℕ) (C D : Configuration) → IsFoundAs F bytes (reading D) → SettlesTo 0 (reading C) (reading D) → IsFoundSettled F bytes (reading C)
found_before F bytes C D f c = record { vertex = f.vertex; is = f.is; printed = f.printed; settles = settles_then c (at_end (symmetric f.same)) }

pub reach_added : (p : Process) (s t : Search) (before after : List Place) (bytes : List ℕ) (C D : Configuration) → IsSearch p (vertices s.found.items) s.traps.items → IsReachedByChoices p (vertex before bytes C)
    → Settles before C after D → IsAdded s t (vertex after bytes D) → Goes p s t All (IsFoundSettled (vertices t.found.items) bytes (reading C))
reach_added p s t before after bytes C D h r settled added =
    let a = search_added p s t (vertex after bytes D) added h (settled.0.runs p bytes r) settled.1 in
    record { is = a.0; extends = a.1; done = λ e. added_found s t (vertex after bytes D) bytes (reading C) added refl settled.0.settles; full = λ e. all_has_room e }

-- the vertex of a number is that of what is kept under it
pub own_vertex : (fs : List Found) (number : ℕ) (f : Found) (v : Vertex) → slice_get fs number ≡ Some f → slice_get (vertices fs) number ≡ Some v → vertex_of f ≡ v
own_vertex fs number f v e h =
    let k : Some (vertex_of f) ≡ Some v = sym (slice_get-map vertex_of fs number ∙ ap (option_map vertex_of) e) ∙ h in
    cc

pub its_vertex : (fs : List Found) (number : ℕ) (f : Found) → slice_get fs number ≡ Some f → slice_get (vertices fs) number ≡ Some (vertex_of f)
its_vertex fs number f e = slice_get-map vertex_of fs number ∙ ap (option_map vertex_of) e

pub went_on : (p : Process) (s t : Search) (extent : Extent) (number : ℕ) (f : Found) (choice : Choice) (D : Configuration) (label : Label) (choices : List Choice) (bytes : List ℕ)
    → slice_get s.found.items number ≡ Some f → choices ≡ f.choices.items ++ choice ∷ [] → bytes ≡ f.bytes.items ++ printed_by label
    → (IsSearch p (vertices s.found.items) s.traps.items → IsConfiguration D → IsReachedByChoices p (vertex (map place_of choices) bytes D) → Goes p s t extent (IsFoundSettled (vertices t.found.items) bytes (reading D)))
    → IsClosed p → IsSearch p (vertices s.found.items) s.traps.items → IsStepFrom (vertices s.found.items) number (place_of choice) D label → Goes p s t extent (IsFoundBy s t number label D)
went_on p s t extent number f choice D label choices bytes kept cs bs reach u h step =
    let own : vertex_of f ≡ step.vertex = own_vertex s.found.items number f step.vertex kept step.is in
    let reached : IsReachedByChoices p (vertex (step.vertex.choices ++ place_of choice ∷ []) (step.vertex.bytes ++ printed_by label) D) =
    reached_more p step.vertex (place_of choice) D label (h.reached step.vertex (number, step.is)) step.there step.steps in
    let written : map place_of choices ≡ step.vertex.choices ++ place_of choice ∷ [] =
    ap (map place_of) cs ∙ map-append place_of f.choices.items (choice ∷ []) ∙ ap (λ (v : Vertex). v.choices ++ place_of choice ∷ []) own in
    let printed : bytes ≡ step.vertex.bytes ++ printed_by label = bs ∙ ap (λ (v : Vertex). v.bytes ++ printed_by label) own in
    let there : IsReachedByChoices p (vertex (map place_of choices) bytes D) =
    subst (λ (l : List Place). IsReachedByChoices p (vertex l bytes D)) (sym written) (subst (λ (b : List ℕ). IsReachedByChoices p (vertex (step.vertex.choices ++ place_of choice ∷ []) b D)) (sym printed) reached) in
    goes_as p s t extent (IsFoundSettled (vertices t.found.items) bytes (reading D)) (IsFoundBy s t number label D)
    (reach h (after_is p (vertices s.found.items) s.traps.items number (place_of choice) D label u h step) there)
    (λ found v e. subst (λ (b : List ℕ). IsFoundSettled (vertices t.found.items) b (reading D)) (bs ∙ ap (λ (w : Vertex). w.bytes ++ printed_by label) (own_vertex s.found.items number f v kept e)) found)

pub tried_steps : (p : Process) (s t : Search) (extent : Extent) (number : ℕ) (f : Found) (at : Place) (D : Configuration) (label : Label) → slice_get s.found.items number ≡ Some f → number < length s.found.items
    → outcome_at (configuration_of f.state) at ≡ Steps D label → IsThere (vertices s.found.items) number at
    → (IsStepFrom (vertices s.found.items) number at D label → Goes p s t extent (IsFoundBy s t number label D)) → Goes p s t extent (IsTried t number at)
tried_steps p s t extent number f at D label kept within steps there go =
    let is : slice_get (vertices s.found.items) number ≡ Some (vertex_of f) = its_vertex s.found.items number f kept in
    let g : Goes p s t extent (IsFoundBy s t number label D) = go (record { vertex = vertex_of f; is = is; there = there (vertex_of f) is; steps = steps }) in
    goes_as p s t extent (IsFoundBy s t number label D) (IsTried t number at) g
    (λ found v e.
    let before : slice_get (vertices s.found.items) number ≡ Some v = same_vertex s t g.extends number v within e in
    let own : vertex_of f ≡ v = own_vertex s.found.items number f v kept before in
    subst (IsCovered t number v at) (sym (ap (λ (w : Vertex). outcome_at w.configuration at) (sym own) ∙ steps)) (found v before))

pub tried_nothing : (p : Process) (s : Search) (number : ℕ) (f : Found) (at : Place) (o : StepOutcome) → slice_get s.found.items number ≡ Some f → outcome_at (configuration_of f.state) at ≡ o
    → ((v : Vertex) → IsCovered s number v at o) → IsSearch p (vertices s.found.items) s.traps.items → Goes p s s All (IsTried s number at)
tried_nothing p s number f at o kept is covered h =
    goes_no_further p s (IsTried s number at) h
    (λ v e. subst (IsCovered s number v at) (sym (ap (λ (w : Vertex). outcome_at w.configuration at) (sym (own_vertex s.found.items number f v kept e)) ∙ is)) (covered v))

pub tried_trap : (p : Process) (s t : Search) (number : ℕ) (f : Found) (trap : Trap) → slice_get s.found.items number ≡ Some f → t.found ≡ s.found → t.traps.items ≡ s.traps.items ++ trap ∷ [] → trap.vertex ≡ number
    → outcome_at (configuration_of f.state) (place_of trap.choice) ≡ Traps trap.at → IsThere (vertices s.found.items) number (place_of trap.choice) → IsSearch p (vertices s.found.items) s.traps.items
    → Goes p s t All (IsTried t number (place_of trap.choice))
tried_trap p s t number f trap kept same more named traps there h =
    let fs : vertices t.found.items ≡ vertices s.found.items = ap (λ x. vertices x.items) same in
    let is : slice_get (vertices s.found.items) number ≡ Some (vertex_of f) = its_vertex s.found.items number f kept in
    let own : IsTrap (vertices s.found.items) trap = record { vertex = vertex_of f; is = ap (slice_get (vertices s.found.items)) named ∙ is; there = there (vertex_of f) is; traps = traps } in
    let all : IsSearch p (vertices s.found.items) (s.traps.items ++ trap ∷ []) = record { reached = h.reached; settled = h.settled; trapped = λ i u e. one_trap i u own (get_last s.traps.items trap u i e) } in
    record {
      is = subst (λ (F : List Vertex). IsSearch p F t.traps.items) (sym fs) (subst (λ (ts : List Trap). IsSearch p (vertices s.found.items) ts) (sym more) all);
      extends = record { more = []; more_traps = trap ∷ []; found = fs ∙ sym (append-nil (vertices s.found.items)); traps = more };
      done = λ e v k.
          let before : slice_get (vertices s.found.items) number ≡ Some v = ap (λ (F : List Vertex). slice_get F number) (sym fs) ∙ k in
          subst (IsCovered t number v (place_of trap.choice)) (sym (ap (λ (w : Vertex). outcome_at w.configuration (place_of trap.choice)) (sym (own_vertex s.found.items number f v kept before)) ∙ traps))
          (record { index = length s.traps.items; trap = trap; listed = ap (λ (ts : List Trap). slice_get ts (length s.traps.items)) more ∙ get_own s.traps.items trap; vertex = named; choice = refl; same = refl });
      full = λ e. all_has_room e;
    }
  where
    one_trap : (i : ℕ) (u : Trap) → IsTrap (vertices s.found.items) trap → (slice_get s.traps.items i ≡ Some u) ⊎ (trap ≡ u) → IsTrap (vertices s.found.items) u
    one_trap i u own (inl e) = h.trapped i u e
    one_trap i u own (inr e) = subst (IsTrap (vertices s.found.items)) e own

-- ---- all places of a vertex

pub there_at : (s : Search) (number ready j m : ℕ) (f : Found) → slice_get s.found.items number ≡ Some f → m ≡ length (partners_at (configuration_of f.state) ready) → j < max m 1
    → IsReadyAt (vertices s.found.items) number ready → IsThere (vertices s.found.items) number (place ready j)
there_at s number ready j m f kept many below is = λ v e.
    let own : vertex_of f ≡ v = own_vertex s.found.items number f v kept e in
    let same : m ≡ length (partners_at v.configuration ready) = many ∙ ap (λ (w : Vertex). length (partners_at w.configuration ready)) own in
    record { ready = is v e; partner = either m same below }
  where
    either : {n : ℕ} (k : ℕ) → k ≡ n → j < max k 1 → (j < n) ⊎ ((n ≡ 0) × (j ≡ 0))
    either zero e l = inr (sym e, omega (arith, l))
    either (suc k) e l = inl (omega (arith, e, l))

pub tried_all : (p : Process) (s t : Search) (number ready m : ℕ) (f : Found) → slice_get s.found.items number ≡ Some f → number < length s.found.items → m ≡ length (partners_at (configuration_of f.state) ready)
    → TriedSoFar p s t number ready (max m 1) → Goes p s t All (AreTried t number ready)
tried_all p s t number ready m f kept within many h = record {
  is = h.is;
  extends = h.extends;
  done = λ e v k j there.
      let own : vertex_of f ≡ v = own_vertex s.found.items number f v kept (same_vertex s t h.extends number v within k) in
      let same : m ≡ length (partners_at v.configuration ready) = many ∙ ap (λ (w : Vertex). length (partners_at w.configuration ready)) own in
      h.tried j (below j same there.partner) v k;
  full = λ e. all_has_room e;
}
  where
    below : {n : ℕ} (j : ℕ) → m ≡ n → (j < n) ⊎ ((n ≡ 0) × (j ≡ 0)) → j < max m 1
    below j e (inl a) = omega (arith, e, a)
    below j e (inr a) = let z = a.1 in omega (arith, z)

pub ready_at : (s t : Search) (number i n : ℕ) (f : Found) → Extends s t → slice_get s.found.items number ≡ Some f → number < length s.found.items → n ≡ length (ready_entries (configuration_of f.state)) → i < n
    → IsReadyAt (vertices t.found.items) number i
ready_at s t number i n f h kept within many below = λ v e.
    let own : vertex_of f ≡ v = own_vertex s.found.items number f v kept (same_vertex s t h number v within e) in
    let same : n ≡ length (ready_entries v.configuration) = many ∙ ap (λ (w : Vertex). length (ready_entries w.configuration)) own in
    omega (arith, same, below)

pub expanded_all : (p : Process) (s t : Search) (number n : ℕ) (f : Found) → slice_get s.found.items number ≡ Some f → number < length s.found.items → n ≡ length (ready_entries (configuration_of f.state))
    → ExpandedSoFar p s t number n → Goes p s t All (IsExpanded t number)
expanded_all p s t number n f kept within many h = record {
  is = h.is;
  extends = h.extends;
  done = λ e v k at there.
      let own : vertex_of f ≡ v = own_vertex s.found.items number f v kept (same_vertex s t h.extends number v within k) in
      let same : n ≡ length (ready_entries v.configuration) = many ∙ ap (λ (w : Vertex). length (ready_entries w.configuration)) own in
      let below : at.ready < length (ready_entries v.configuration) = there.ready in
      h.tried at.ready (omega (arith, same, below)) v k at.partner there;
  full = λ e. all_has_room e;
}

pub go_by : (s t : Search) (r : Result Extent AllocError) (number : ℕ) (f : Found) (choice : Choice) (D : Configuration) (label : Label) (choices : List Choice) (bytes : List ℕ)
    → slice_get s.found.items number ≡ Some f → choices ≡ f.choices.items ++ choice ∷ [] → bytes ≡ f.bytes.items ++ printed_by label
    → IfOk r (λ extent. (p : Process) → IsSearch p (vertices s.found.items) s.traps.items → IsConfiguration D → IsReachedByChoices p (vertex (map place_of choices) bytes D) → Goes p s t extent (IsFoundSettled (vertices t.found.items) bytes (reading D)))
    → IfOk r (λ extent. (p : Process) → IsClosed p → IsSearch p (vertices s.found.items) s.traps.items → IsStepFrom (vertices s.found.items) number (place_of choice) D label → Goes p s t extent (IsFoundBy s t number label D))
go_by s t (Ok extent) number f choice D label choices bytes kept cs bs k = λ p u h step. went_on p s t extent number f choice D label choices bytes kept cs bs (k p) u h step
go_by s t (Err e) number f choice D label choices bytes kept cs bs k = k
