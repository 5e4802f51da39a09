-- Steps at places are free steps.
use Rattle.std.proofs.Common.{ℕ, zero, suc, ◌+◌, ◌<◌, ◌≤◌, ◌≡◌, ◌⊎◌, inl, inr, Bool, true, false, nat_eq, cond, List, [], ◌∷◌, length, refl, sym, ap, ◌∙◌, subst, arith, Option, Some, None, option_map}
use Rattle.std.specs.Prelude.{filter, slice_get}
use Rattle.std.proofs.lemmas.Bool.Decides.{nat_tests}
use Rattle.std.proofs.lemmas.Option.{slice_get_cases, slice_get_past}
use Rattle.pict_core.specs.Configuration.{Entry, Configuration, IsConfiguration, StampsRise}
use Rattle.pict_core.specs.Step.{IsChoice, Finished, NamesPartner, is_ready, is_partner, least, entry_at, step_by}
use Rattle.pict_core.specs.Places.{Place, IsPlace, ready_entries, partner_entries, partners_at, choice_by, choice_at, outcome_at}
use Rattle.pict_core.specs.Laws.{PlacesAreFree, WrongPlacesAreWrong}

-- ---- what a filter finds at a place

-- an entry that passes the test stands at its stamp
abbrev pub FoundAt : (Entry → Bool) → List Entry → Entry → Type 0
FoundAt t es u = (t u ≡ true) × (entry_at u.stamp es ≡ Some u)

above_cons : (t : Entry → Bool) (low : ℕ) (d : Entry) (es : List Entry) (next i : ℕ) (u : Entry) → StampsRise low (d ∷ es) next → ((j : ℕ) → slice_get (filter t es) j ≡ Some u → d.stamp + 1 ≤ u.stamp)
    → (b : Bool) → slice_get (cond b (d ∷ filter t es) (filter t es)) i ≡ Some u → low ≤ u.stamp
above_cons t low d es next zero u r ih true e = let same : d ≡ u = cc in subst (λ (x : Entry). low ≤ x.stamp) same r.0
above_cons t low d es next (suc i) u r ih true e = let h = ih i e in omega (arith, h, r.0)
above_cons t low d es next i u r ih false e = let h = ih i e in omega (arith, h, r.0)

pub above : (t : Entry → Bool) (low : ℕ) (es : List Entry) (next i : ℕ) (u : Entry) → StampsRise low es next → slice_get (filter t es) i ≡ Some u → low ≤ u.stamp
above t low [] next i u r e = cc
above t low (d ∷ es) next i u r e = above_cons t low d es next i u r (λ j k. above t (d.stamp + 1) es next j u r.1 k) (t d) e

later : (t : Entry → Bool) (d u : Entry) (es : List Entry) → d.stamp + 1 ≤ u.stamp → FoundAt t es u → FoundAt t (d ∷ es) u
later t d u es h f = let n : nat_eq u.stamp d.stamp ≡ false = grind (arith, nat_tests, h) in (f.0, ap (λ b. cond b (Some d) (entry_at u.stamp es)) n ∙ f.1)

first : (t : Entry → Bool) (d : Entry) (es : List Entry) → t d ≡ true → FoundAt t (d ∷ es) d
first t d es h = let n : nat_eq d.stamp d.stamp ≡ true = grind (arith, nat_tests) in (h, ap (λ b. cond b (Some d) (entry_at d.stamp es)) n)

found_cons : (t : Entry → Bool) (d u : Entry) (es : List Entry) (next i : ℕ) → StampsRise (d.stamp + 1) es next → ((j : ℕ) → slice_get (filter t es) j ≡ Some u → FoundAt t es u)
    → (b : Bool) → t d ≡ b → slice_get (cond b (d ∷ filter t es) (filter t es)) i ≡ Some u → FoundAt t (d ∷ es) u
found_cons t d u es next zero r ih true h e = let same : d ≡ u = cc in subst (FoundAt t (d ∷ es)) same (first t d es h)
found_cons t d u es next (suc i) r ih true h e = later t d u es (above t (d.stamp + 1) es next i u r e) (ih i e)
found_cons t d u es next i r ih false h e = later t d u es (above t (d.stamp + 1) es next i u r e) (ih i e)

pub found : (t : Entry → Bool) (low : ℕ) (es : List Entry) (next i : ℕ) (u : Entry) → StampsRise low es next → slice_get (filter t es) i ≡ Some u → FoundAt t es u
found t low [] next i u r e = cc
found t low (d ∷ es) next i u r e = found_cons t d u es next i r.1 (λ j k. found t (d.stamp + 1) es next j u r.1 k) (t d) refl e

got : {X : Type 0} (xs : List X) (i : ℕ) → i < length xs → slice_get xs i ≡ None → ⊥
got xs i h e = elim (slice_get_cases xs i).1 [ inl k ↦ let f = k.2 in cc | inr k ↦ omega (arith, h, k.0) ]

empty_cons : (t : Entry → Bool) (d : Entry) (es : List Entry) → (length (filter t es) ≡ 0 → least t es ≡ None) → (b : Bool) → length (cond b (d ∷ filter t es) (filter t es)) ≡ 0 → cond b (Some d) (least t es) ≡ None
empty_cons t d es ih true k = absurd (omega (arith, k))
empty_cons t d es ih false k = ih k

empty_least : (t : Entry → Bool) (es : List Entry) → length (filter t es) ≡ 0 → least t es ≡ None
empty_least t [] h = refl
empty_least t (d ∷ es) h = empty_cons t d es (empty_least t es) (t d) h

-- ---- the choice of a place

-- the entry and the partner of a place
record At (C : Configuration) (place : Place) : Type 0 where
  actor : Entry
  ready : is_ready actor ≡ true
  stands : entry_at actor.stamp C.entries ≡ Some actor
  partner : Option ℕ
  names : NamesPartner C.entries actor.process partner
  is : choice_at C place ≡ Some (record { acting = actor.stamp; partner = partner })

module _ (C : Configuration) (is : IsConfiguration C) where
  partner_found : (j : ℕ) (a : Entry) (o : Option Entry) → slice_get (filter (is_partner a.process) C.entries) j ≡ o
      → (j < length (filter (is_partner a.process) C.entries)) ⊎ ((length (filter (is_partner a.process) C.entries) ≡ 0) × (j ≡ 0)) → NamesPartner C.entries a.process (option_map (λ (u : Entry). u.stamp) o)
  partner_found j a (Some u) e h = let f = found (is_partner a.process) 0 C.entries C.next_stamp j u is.stamps e in (u, f.1, f.0)
  partner_found j a None e (inl h) = absurd (got _ j h e)
  partner_found j a None e (inr h) = empty_least (is_partner a.process) C.entries h.0

  placed : (place : Place) (o : Option Entry) → slice_get (ready_entries C) place.ready ≡ o → place.ready < length (ready_entries C)
      → (place.partner < length (partner_entries C o)) ⊎ ((length (partner_entries C o) ≡ 0) × (place.partner ≡ 0)) → At C place
  placed place None e h k = absurd (got _ place.ready h e)
  placed place (Some a) e h k =
      let f = found is_ready 0 C.entries C.next_stamp place.ready a is.stamps e in
      record {
        actor = a;
        ready = f.0;
        stands = f.1;
        partner = option_map (λ (u : Entry). u.stamp) (slice_get (filter (is_partner a.process) C.entries) place.partner);
        names = partner_found place.partner a (slice_get (filter (is_partner a.process) C.entries) place.partner) refl k;
        is = ap (λ x. option_map (choice_by (partner_entries C x) place.partner) x) e;
      }

  place_at : (place : Place) → IsPlace C place → At C place
  place_at place h = placed place (slice_get (ready_entries C) place.ready) refl h.ready h.partner

  chosen_at : (place : Place) (h : At C place) → IsChoice C (record { acting = h.actor.stamp; partner = h.partner })
  chosen_at place h = record { actor = h.actor; stands = h.stands; ready = h.ready; partner = h.names }

pub places_are_free : PlacesAreFree
places_are_free C D place label is h e =
    let a = place_at C is place h in
    (record { acting = a.actor.stamp; partner = a.partner }, record { chosen = chosen_at C is place a; steps = ap (step_by C) (sym a.is) ∙ e })

pub wrong_places : WrongPlacesAreWrong
wrong_places C place is h e =
    let a = place_at C is place h in
    record { choice = record { acting = a.actor.stamp; partner = a.partner }; chosen = chosen_at C is place a; wrong = ap (step_by C) (sym a.is) ∙ e }

-- where nothing is ready nothing steps at any place
pub nothing_ready : (C : Configuration) (place : Place) → length (ready_entries C) ≡ 0 → outcome_at C place ≡ Finished
nothing_ready C place h =
    let none : slice_get (ready_entries C) place.ready ≡ None = slice_get_past (ready_entries C) place.ready (omega (arith, h)) in
    ap (λ o. step_by C (option_map (choice_by (partners_at C place.ready) place.partner) o)) none
