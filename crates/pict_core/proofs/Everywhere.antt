-- Each choice has a place.
use Rattle.std.proofs.Common.{ℕ, suc, ◌<◌, ◌≡◌, inl, inr, Bool, true, false, nat_eq, cond, List, [], ◌∷◌, length, refl, sym, ap, ◌∙◌, subst, Option, Some, None, option_map}
use Rattle.std.specs.Prelude.{filter, slice_get}
use Rattle.std.proofs.lemmas.Option.{slice_get_within}
use Rattle.pict_core.specs.Configuration.{Entry, Configuration}
use Rattle.pict_core.specs.Step.{NamesPartner, is_ready, is_partner, least}
use Rattle.pict_core.proofs.Stamps.{least_passes}
use Rattle.pict_core.proofs.Partners.{same_channel}
use Rattle.pict_core.specs.Places.{Place, IsPlace, ready_entries, partner_entries, partners_at, choice_by, choice_at}
use Rattle.pict_core.specs.Laws.{ChoicesHavePlaces}

-- ---- where an entry stands among those that pass a test

abbrev Standing : (Entry → Bool) → List Entry → Entry → Type 0
Standing t es u = (i : ℕ) × (slice_get (filter t es) i ≡ Some u)

next_place : {X : Type 0} (x u : X) (xs : List X) (b : Bool) → (i : ℕ) × (slice_get xs i ≡ Some u) → (i : ℕ) × (slice_get (cond b (x ∷ xs) xs) i ≡ Some u)
next_place x u xs true h = (suc h.0, h.1)
next_place x u xs false h = h

place_cons : (t : Entry → Bool) (d u : Entry) (es : List Entry) (rest : Option Entry) → t u ≡ true → (rest ≡ Some u → Standing t es u) → (b : Bool) → cond b (Some d) rest ≡ Some u → Standing t (d ∷ es) u
place_cons t d u es rest h ih true e =
    let same : d ≡ u = cc in
    let p : t d ≡ true = ap t same ∙ h in
    (0, ap (λ b. slice_get (cond b (d ∷ filter t es) (filter t es)) 0) p ∙ ap Some same)
place_cons t d u es rest h ih false e = next_place d u (filter t es) (t d) (ih e)

place_of : (t s : Entry → Bool) (es : List Entry) (u : Entry) → least s es ≡ Some u → t u ≡ true → Standing t es u
place_of t s [] u e h = cc
place_of t s (d ∷ es) u e h = place_cons t d u es (least s es) h (λ k. place_of t s es u k h) (s d) e

none_cons : (t : Entry → Bool) (d : Entry) (es : List Entry) → (least t es ≡ None → filter t es ≡ []) → (b : Bool) → cond b (Some d) (least t es) ≡ None → cond b (d ∷ filter t es) (filter t es) ≡ []
none_cons t d es ih true e = cc
none_cons t d es ih false e = ih e

none_left : (t : Entry → Bool) (es : List Entry) → least t es ≡ None → filter t es ≡ []
none_left t [] e = refl
none_left t (d ∷ es) e = none_cons t d es (none_left t es) (t d) e

-- ---- the place of a choice

module _ (C : Configuration) (a : Entry) (i : ℕ) (here : slice_get (ready_entries C) i ≡ Some a) where
  partners_are : partners_at C i ≡ filter (is_partner a.process) C.entries
  partners_are = ap (partner_entries C) here

  chosen : (j : ℕ) → choice_at C (record { ready = i; partner = j }) ≡ Some (record { acting = a.stamp; partner = option_map (λ (u : Entry). u.stamp) (slice_get (filter (is_partner a.process) C.entries) j) })
  chosen j = ap (λ x. option_map (choice_by (partner_entries C x) j) x) here

  abbrev HasPlace : ℕ → Option ℕ → Type 0
  HasPlace acting partner = (place : Place) × IsPlace C place × (choice_at C place ≡ Some (record { acting = acting; partner = partner }))

  with_partner : (acting : ℕ) → acting ≡ a.stamp → (o : Option ℕ) → NamesPartner C.entries a.process o → HasPlace acting o
  with_partner acting e None h =
      let none : filter (is_partner a.process) C.entries ≡ [] = none_left (is_partner a.process) C.entries h in (
        record { ready = i; partner = 0 },
        record { ready = slice_get_within (ready_entries C) i a here; partner = inr (ap (λ (l : List Entry). length l) (partners_are ∙ none), refl) },
        chosen 0 ∙ ap (λ (l : List Entry). Some (record { acting = a.stamp; partner = option_map (λ (u : Entry). u.stamp) (slice_get l 0) })) none ∙ ap (λ s. Some (record { acting = s; partner = None })) (sym e),
      )
  with_partner acting e (Some r) h =
      let stamp : r ≡ h.0.stamp = same_channel r h.0.stamp (least_passes (λ x. nat_eq r x.stamp) C.entries h.0 h.1) in
      let j = place_of (is_partner a.process) (λ x. nat_eq r x.stamp) C.entries h.0 h.1 h.2 in (
        record { ready = i; partner = j.0 },
        record { ready = slice_get_within (ready_entries C) i a here; partner = inl (subst (λ (l : List Entry). j.0 < length l) (sym partners_are) (slice_get_within (filter (is_partner a.process) C.entries) j.0 h.0 j.1)) },
        chosen j.0 ∙ ap (λ x. Some (record { acting = a.stamp; partner = option_map (λ (u : Entry). u.stamp) x })) j.1 ∙ ap (λ s. Some (record { acting = s; partner = Some h.0.stamp })) (sym e) ∙ ap (λ s. Some (record { acting = acting; partner = Some s })) (sym stamp),
      )

pub choices_have_places : ChoicesHavePlaces
choices_have_places C choice h =
    let i = place_of is_ready (λ x. nat_eq choice.acting x.stamp) C.entries h.actor h.stands h.ready in
    with_partner C h.actor i.0 i.1 choice.acting (same_channel choice.acting h.actor.stamp (least_passes (λ x. nat_eq choice.acting x.stamp) C.entries h.actor h.stands)) choice.partner h.partner
