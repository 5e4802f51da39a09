-- The partners and the places of a configuration, as a view of it shows them.
use Rattle.std.proofs.Common.{ℕ, ◌<◌, ◌≡◌, ◌⊎◌, inl, inr, Bool, true, false, List, [], ◌∷◌, map, filter, length, refl, sym, ap, ◌∙◌, subst, Option, Some, None, option_map, arith, cond}
use Rattle.std.proofs.lemmas.List.{length-map}
use Rattle.std.proofs.lemmas.Option.{slice_get-map, slice_get_within, slice_get_cases}
use Rattle.std.specs.List.{slice_get}
use Rattle.pict_core.specs.Term.{Process, Out, In, Chan}
use Rattle.pict_core.specs.Configuration.{Entry, Configuration}
use Rattle.pict_core.specs.Step.{is_ready, is_partner, is_parked_reader, is_parked_message, reads, sends}
use Rattle.pict_core.specs.Places.{IsPlace, ready_entries, partner_entries, partners_at}
use Rattle.pict_core.proofs.Partners.{and_right}
use Rattle.pict_view.specs.View.{View, StandsFor, KeepsApart, AreOutputs, AreInputs, is_parked_at, list_at}
use Rattle.pict_view.specs.Partners.{is_input, is_output, partners_in, IsPlaceOf}
use Rattle.pict_view.specs.Laws.{PartnersAreSeen, PlacesAreSeen}
use Rattle.pict_view.proofs.Sides.{readers_of, messages_of}

abbrev process_of : Entry → Process
process_of e = e.process

-- ---- tests of processes, among those of entries that pass a test

module _ (f : Process → Bool) (q : Entry → Bool) where
  kept_cons : (e : Entry) (es : List Entry) → filter f (map process_of es) ≡ map process_of es → (b : Bool) → (b ≡ true → f e.process ≡ true)
      → filter f (map process_of (cond b (e ∷ es) es)) ≡ map process_of (cond b (e ∷ es) es)
  kept_cons e es ih true h = ap (λ b. cond b (e.process ∷ filter f (map process_of es)) (filter f (map process_of es))) (h refl) ∙ ap (λ l. e.process ∷ l) ih
  kept_cons e es ih false h = ih

  all_kept : ((u : Entry) → q u ≡ true → f u.process ≡ true) → (es : List Entry) → filter f (map process_of (filter q es)) ≡ map process_of (filter q es)
  all_kept h [] = refl
  all_kept h (e ∷ es) = kept_cons e (filter q es) (all_kept h es) (q e) (h e)

  none_cons : (e : Entry) (es : List Entry) → filter f (map process_of es) ≡ [] → (b : Bool) → (b ≡ true → f e.process ≡ false) → filter f (map process_of (cond b (e ∷ es) es)) ≡ []
  none_cons e es ih true h = ap (λ b. cond b (e.process ∷ filter f (map process_of es)) (filter f (map process_of es))) (h refl) ∙ ih
  none_cons e es ih false h = ih

  none_kept : ((u : Entry) → q u ≡ true → f u.process ≡ false) → (es : List Entry) → filter f (map process_of (filter q es)) ≡ []
  none_kept h [] = refl
  none_kept h (e ∷ es) = none_cons e (filter q es) (none_kept h es) (q e) (h e)

input_read : (c : ℕ) (p : Process) → reads c p ≡ true → is_input p ≡ true
input_read c (In chan replicated pattern body) h = refl
input_read c _ h = cc

input_sent : (c : ℕ) (p : Process) → sends c p ≡ true → is_input p ≡ false
input_sent c (Out chan message at) h = refl
input_sent c _ h = cc

output_sent : (c : ℕ) (p : Process) → sends c p ≡ true → is_output p ≡ true
output_sent c (Out chan message at) h = refl
output_sent c _ h = cc

output_read : (c : ℕ) (p : Process) → reads c p ≡ true → is_output p ≡ false
output_read c (In chan replicated pattern body) h = refl
output_read c _ h = cc

filter_none : (es : List Entry) → filter (λ e. false) es ≡ []
filter_none [] = refl
filter_none (e ∷ es) = filter_none es

-- ---- partners

module _ (C : Configuration) (v : View) (s : StandsFor v C) where
  list_is : (c : ℕ) (q : Entry → Bool) → filter (is_parked_at c) C.entries ≡ filter q C.entries → list_at c v.channels ≡ map process_of (filter q C.entries)
  list_is c q e = sym (s.parked c) ∙ ap (map process_of) e

  readers_seen : (c : ℕ) → AreOutputs c (list_at c v.channels) ⊎ AreInputs c (list_at c v.channels) → map process_of (filter (is_parked_reader c) C.entries) ≡ filter is_input (list_at c v.channels)
  readers_seen c (inl a) =
      let o = messages_of c C.entries (subst (AreOutputs c) (sym (s.parked c)) a) in
      ap (map process_of) o.1
      ∙ sym (ap (filter is_input) (list_is c (is_parked_message c) o.0) ∙ none_kept is_input (is_parked_message c) (λ u h. input_sent c u.process (and_right (is_ready u) (sends c u.process) h)) C.entries)
  readers_seen c (inr a) =
      let o = readers_of c C.entries (subst (AreInputs c) (sym (s.parked c)) a) in
      sym (ap (filter is_input) (list_is c (is_parked_reader c) o.0) ∙ all_kept is_input (is_parked_reader c) (λ u h. input_read c u.process (and_right (is_ready u) (reads c u.process) h)) C.entries)

  messages_seen : (c : ℕ) → AreOutputs c (list_at c v.channels) ⊎ AreInputs c (list_at c v.channels) → map process_of (filter (is_parked_message c) C.entries) ≡ filter is_output (list_at c v.channels)
  messages_seen c (inl a) =
      let o = messages_of c C.entries (subst (AreOutputs c) (sym (s.parked c)) a) in
      sym (ap (filter is_output) (list_is c (is_parked_message c) o.0) ∙ all_kept is_output (is_parked_message c) (λ u h. output_sent c u.process (and_right (is_ready u) (sends c u.process) h)) C.entries)
  messages_seen c (inr a) =
      let o = readers_of c C.entries (subst (AreInputs c) (sym (s.parked c)) a) in
      ap (map process_of) o.1
      ∙ sym (ap (filter is_output) (list_is c (is_parked_reader c) o.0) ∙ none_kept is_output (is_parked_reader c) (λ u h. output_read c u.process (and_right (is_ready u) (reads c u.process) h)) C.entries)

  partners_seen : KeepsApart v → (p : Process) → map process_of (filter (is_partner p) C.entries) ≡ partners_in v.channels p
  partners_seen k (Out (Chan c) message at) = readers_seen c (k.apart c)
  partners_seen k (In (Chan c) replicated pattern body) = messages_seen c (k.apart c)
  partners_seen k _ = ap (map process_of) (filter_none C.entries)

  -- the i-th ready process, in both
  ready_at : (i : ℕ) → slice_get v.ready i ≡ option_map process_of (slice_get (ready_entries C) i)
  ready_at i = ap (λ (l : List Process). slice_get l i) (sym s.ready) ∙ slice_get-map process_of (ready_entries C) i

  seen_at : KeepsApart v → (p : Process) (x : Option Entry) → option_map process_of x ≡ Some p → map process_of (partner_entries C x) ≡ partners_in v.channels p
  seen_at k p None h = cc
  seen_at k p (Some t) h = let same : t.process ≡ p = cc in partners_seen k t.process ∙ ap (partners_in v.channels) same

pub partners_are_seen : PartnersAreSeen
partners_are_seen v C i p k s h = seen_at C v s k p (slice_get (ready_entries C) i) (sym (ready_at C v s i) ∙ h)

-- ---- places

abbrev Counts : ℕ → ℕ → Type 0
Counts j n = (j < n) ⊎ ((n ≡ 0) × (j ≡ 0))

there : (C : Configuration) (i : ℕ) → i < length (ready_entries C) → (t : Entry) × (slice_get (ready_entries C) i ≡ Some t)
there C i h = elim (slice_get_cases (ready_entries C) i).1 [ inl k ↦ (k.0, k.2) | inr k ↦ absurd (omega (arith, h, k.0)) ]

count_is : (C : Configuration) (v : View) (i : ℕ) (p : Process) → KeepsApart v → StandsFor v C → slice_get v.ready i ≡ Some p → length (partners_at C i) ≡ length (partners_in v.channels p)
count_is C v i p k s h = sym (length-map (partners_at C i) process_of) ∙ ap length (partners_are_seen v C i p k s h)

pub places_are_seen : PlacesAreSeen
places_are_seen v C place k s = (to, back)
  where
    to : IsPlaceOf v place.ready place.partner → IsPlace C place
    to p = record {
      ready = omega (arith, slice_get_within v.ready place.ready p.process p.ready, ap length s.ready, length-map (ready_entries C) process_of);
      partner = subst (Counts place.partner) (sym (count_is C v place.ready p.process k s p.ready)) p.partner;
    }

    back : IsPlace C place → IsPlaceOf v place.ready place.partner
    back p =
        let t = there C place.ready p.ready in
        let here : slice_get v.ready place.ready ≡ Some t.0.process = ready_at C v s place.ready ∙ ap (option_map process_of) t.1 in
        record { process = t.0.process; ready = here; partner = subst (Counts place.partner) (count_is C v place.ready t.0.process k s here) p.partner }
