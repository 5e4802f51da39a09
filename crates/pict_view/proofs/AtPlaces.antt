-- What becomes of a view at a place is what becomes there of each configuration that it stands for.
use Rattle.std.proofs.Common.{ℕ, ◌<◌, ◌≡◌, ◌≢◌, ◌⊎◌, ◌↔◌, inl, inr, Bool, IsTrue, true, false, List, [], ◌∷◌, map, filter, length, refl, sym, ap, ◌∙◌, subst, Option, Some, None, option_map, option_and_then, arith, cond}
use Rattle.std.proofs.lemmas.Option.{slice_get-map}
use Rattle.std.specs.List.{slice_get}
use Rattle.pict_core.specs.Term.{Process}
use Rattle.pict_core.specs.Closed.{IsUnder}
use Rattle.pict_core.specs.Configuration.{Entry, Configuration, IsConfiguration}
use Rattle.pict_core.specs.Step.{Choice, Finished, act_entry, entry_at, step_by, next, least, is_ready, is_partner}
use Rattle.pict_core.specs.Deed.{deed}
use Rattle.pict_core.specs.Placing.{place, stamp_or_none}
use Rattle.pict_core.specs.Places.{ready_entries, partner_entries, choice_by, outcome_at}
use Rattle.pict_core.proofs.Kept.{Keeps, free_step_keeps}
use Rattle.pict_core.proofs.Stamps.{EntryClosed, least_closed}
use Rattle.pict_core.proofs.Placing.{found}
use Rattle.pict_core.proofs.Deeds.{acts_are_placed}
use Rattle.pict_core.proofs.Nexts.{next_acts, next_finished}
use Rattle.pict_core.proofs.Tabled.{never_finished}
use Rattle.pict_view.specs.View.{View, StandsFor, KeepsApart}
use Rattle.pict_view.specs.Placed.{place_at, act_at, next_at, next_view}
use Rattle.pict_view.specs.Laws.{Simulates, PlacesStep, ViewsStep}
use Rattle.pict_view.proofs.Sides.{same_deed}
use Rattle.pict_view.proofs.Placing.{deed_fits, placed}

by_keeps : (C : Configuration) → IsConfiguration C → (o : Option Choice) → Keeps (step_by C o)
by_keeps C is None = tt
by_keeps C is (Some choice) = free_step_keeps C choice is

module _ (C : Configuration) (v : View) (is : IsConfiguration C) (s : StandsFor v C) (k : KeepsApart v) (i j : ℕ) where
  -- the i-th ready process, in both
  ready_at : (x : Option Entry) → slice_get (ready_entries C) i ≡ x → slice_get v.ready i ≡ option_map (λ (u : Entry). u.process) x
  ready_at x e = ap (λ (l : List Process). slice_get l i) (sym s.ready) ∙ slice_get-map (λ (u : Entry). u.process) (ready_entries C) i ∙ ap (option_map (λ (u : Entry). u.process)) e

  module _ (t : Entry) (e : slice_get (ready_entries C) i ≡ Some t) where
    abbrev partner : Option Entry
    partner = slice_get (filter (is_partner t.process) C.entries) j

    stands : entry_at t.stamp C.entries ≡ Some t
    stands = (found is_ready 0 C.entries C.next_stamp i t is.stamps e).1

    partner_stands : (o : Option Entry) → slice_get (filter (is_partner t.process) C.entries) j ≡ o
        → option_and_then (λ r. entry_at r C.entries) (option_map (λ (u : Entry). u.stamp) o) ≡ o
    partner_stands None h = refl
    partner_stands (Some u) h = (found (is_partner t.process) 0 C.entries C.next_stamp j u is.stamps h).1

    outcome_is : outcome_at C (record { ready = i; partner = j }) ≡ place C t.stamp (stamp_or_none partner) (deed C.channels (option_map (λ (u : Entry). u.process) partner) t.process)
    outcome_is =
        ap (λ x. step_by C (option_map (choice_by (partner_entries C x) j) x)) e
        ∙ ap (λ a. act_entry C a (option_and_then (λ r. entry_at r C.entries) (option_map (λ (u : Entry). u.stamp) partner))) stands
        ∙ ap (act_entry C (Some t)) (partner_stands partner refl)
        ∙ acts_are_placed C t.stamp partner t.process

    next_is : next_at i j v ≡ place_at i j v.ready v.channels (deed C.channels (option_map (λ (u : Entry). u.process) partner) t.process)
    next_is =
        ap (act_at i j v.ready v.channels) (ready_at (Some t) e)
        ∙ ap (place_at i j v.ready v.channels) (same_deed C v s is.stamps j (length v.channels) t.process k)
        ∙ ap (λ n. place_at i j v.ready v.channels (deed n (option_map (λ (u : Entry). u.process) partner) t.process)) s.channels

    under : IsUnder 0 C.channels t.process
    under = subst (EntryClosed C.channels) stands (least_closed C.channels _ C.entries is.closed)

    acts_at : (j < length (filter (is_partner t.process) C.entries)) ⊎ ((length (filter (is_partner t.process) C.entries) ≡ 0) × (j ≡ 0))
        → Simulates v (outcome_at C (record { ready = i; partner = j })) (next_at i j v)
    acts_at p =
        subst (λ o. Simulates v o (next_at i j v)) (sym outcome_is)
        (subst (Simulates v (place C t.stamp (stamp_or_none partner) (deed C.channels (option_map (λ (u : Entry). u.process) partner) t.process))) (sym next_is)
        (placed C v is s k i j t e p (deed C.channels (option_map (λ (u : Entry). u.process) partner) t.process)
        (deed_fits C.channels (option_map (λ (u : Entry). u.process) partner) t.process under)
        (subst Keeps outcome_is (by_keeps C is (option_map (choice_by (partner_entries C (slice_get (ready_entries C) i)) j) (slice_get (ready_entries C) i))))))

  steps_at : (x : Option Entry) → slice_get (ready_entries C) i ≡ x → (j < length (partner_entries C x)) ⊎ ((length (partner_entries C x) ≡ 0) × (j ≡ 0))
      → Simulates v (outcome_at C (record { ready = i; partner = j })) (next_at i j v)
  steps_at None e p =
      subst (Simulates v (outcome_at C (record { ready = i; partner = j }))) (sym (ap (act_at i j v.ready v.channels) (ready_at None e)))
      (ap (λ x. step_by C (option_map (choice_by (partner_entries C x) j) x)) e)
  steps_at (Some t) e p = acts_at t e p

pub places_step : PlacesStep
places_step v C place k is s h = steps_at C v is s k place.ready place.partner (slice_get (ready_entries C) place.ready) refl h.partner

-- ---- the oldest-first step is that of the first place

first_cons : (q : Entry → Bool) (d : Entry) (es : List Entry) → least q es ≡ slice_get (filter q es) 0 → (b : Bool) → cond b (Some d) (least q es) ≡ slice_get (cond b (d ∷ filter q es) (filter q es)) 0
first_cons q d es ih true = refl
first_cons q d es ih false = ih

first_least : (q : Entry → Bool) (es : List Entry) → least q es ≡ slice_get (filter q es) 0
first_least q [] = refl
first_least q (d ∷ es) = first_cons q d es (first_least q es) (q d)

abbrev oldest_of : Configuration → Option Entry → Option Choice
oldest_of C x = option_map (λ (e : Entry). record { acting = e.stamp; partner = option_map (λ (u : Entry). u.stamp) (least (is_partner e.process) C.entries) }) x

first_choice : (C : Configuration) (x : Option Entry) → oldest_of C x ≡ option_map (choice_by (partner_entries C x) 0) x
first_choice C None = refl
first_choice C (Some a) = ap (λ o. Some (record { acting = a.stamp; partner = option_map (λ (u : Entry). u.stamp) o })) (first_least (is_partner a.process) C.entries)

oldest_is_first : (C : Configuration) → next C ≡ outcome_at C (record { ready = 0; partner = 0 })
oldest_is_first C = ap (λ x. step_by C (oldest_of C x)) (first_least is_ready C.entries) ∙ ap (step_by C) (first_choice C (slice_get (ready_entries C) 0))

first_partner : (ps : List Entry) (j : ℕ) → j ≡ 0 → (j < length ps) ⊎ ((length ps ≡ 0) × (j ≡ 0))
first_partner [] j e = inr (refl, e)
first_partner (p ∷ ps) j e = inl (omega (arith, e))

pub views_step : ViewsStep
views_step v C k is s =
    subst (λ o. Simulates v o (next_view v)) (sym (oldest_is_first C))
    (steps_at C v is s k 0 0 (slice_get (ready_entries C) 0) refl (first_partner (partner_entries C (slice_get (ready_entries C) 0)) 0 refl))

-- ---- something is ready exactly where the configuration isn't finished

pub ready_is : (v : View) (b : Bool) → IsTrue b ↔ (v.ready ≢ []) → (C : Configuration) → IsConfiguration C → StandsFor v C → IsTrue b ↔ (next C ≢ Finished)
ready_is v b r C is s = go (ready_entries C) refl
  where
    go : (l : List Entry) → ready_entries C ≡ l → IsTrue b ↔ (next C ≢ Finished)
    go [] h =
        let empty : v.ready ≡ [] = sym s.ready ∙ ap (map (λ (u : Entry). u.process)) h in
        let over : next C ≡ Finished = next_finished C (first_least is_ready C.entries ∙ ap (λ (l : List Entry). slice_get l 0) h) in
        (λ t. absurd (r.0 t empty), λ n. absurd (n over))
    go (a ∷ others) h =
        let first : least is_ready C.entries ≡ Some a = first_least is_ready C.entries ∙ ap (λ (l : List Entry). slice_get l 0) h in
        let full : v.ready ≡ a.process ∷ map (λ (u : Entry). u.process) others = sym s.ready ∙ ap (map (λ (u : Entry). u.process)) h in
        (λ t over. never_finished C a.stamp (least (is_partner a.process) C.entries) a.process (sym (next_acts C is a first) ∙ over), λ n. r.1 (λ empty. cc))
