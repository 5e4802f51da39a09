-- At a channel whose list is of outputs, or of inputs, the partners of a process are in the list, at the same places.
use Rattle.std.proofs.Common.{ℕ, ◌≡◌, ◌⊎◌, inl, inr, Bool, true, false, ◌||◌, List, [], ◌∷◌, map, filter, refl, sym, ap, ◌∙◌, subst, Option, Some, None, option_map, cond}
use Rattle.std.specs.List.{slice_get}
use Rattle.std.proofs.lemmas.Option.{slice_get-map}
use Rattle.pict_core.specs.Term.{Process, Out, In, Chan}
use Rattle.pict_core.specs.Configuration.{Entry, Configuration, StampsRise}
use Rattle.pict_core.specs.Step.{is_ready, is_partner, is_parked_reader, is_parked_message, reads, sends}
use Rattle.pict_core.specs.Deed.{deed}
use Rattle.pict_core.proofs.Partners.{and_right}
use Rattle.pict_core.proofs.Placing.{found}
use Rattle.pict_view.specs.View.{View, StandsFor, KeepsApart, AreOutputs, AreInputs, processes, is_parked_at, list_at}
use Rattle.pict_view.specs.Placed.{if_input, if_output, partner_at}

not_both : (c : ℕ) (p : Process) → reads c p ≡ true → sends c p ≡ true → ⊥
not_both c (In chan replicated pattern body) r s = cc
not_both c _ r s = cc

-- no message waits at the channel, or no reader
abbrev pub OnlyReaders : ℕ → List Entry → Type 0
OnlyReaders c es = (filter (is_parked_at c) es ≡ filter (is_parked_reader c) es) × (filter (is_parked_message c) es ≡ [])

abbrev pub OnlyMessages : ℕ → List Entry → Type 0
OnlyMessages c es = (filter (is_parked_at c) es ≡ filter (is_parked_message c) es) × (filter (is_parked_reader c) es ≡ [])

module _ (c : ℕ) (e : Entry) (es : List Entry) where
  abbrev Readers : Bool → Bool → Type 0
  Readers b d = (cond (b || d) (e ∷ filter (is_parked_at c) es) (filter (is_parked_at c) es) ≡ cond b (e ∷ filter (is_parked_reader c) es) (filter (is_parked_reader c) es))
      × (cond d (e ∷ filter (is_parked_message c) es) (filter (is_parked_message c) es) ≡ [])

  readers_cons : (AreInputs c (processes (is_parked_at c) es) → OnlyReaders c es) → (b d : Bool) → is_parked_reader c e ≡ b → is_parked_message c e ≡ d
      → AreInputs c (map (λ (x : Entry). x.process) (cond (b || d) (e ∷ filter (is_parked_at c) es) (filter (is_parked_at c) es))) → Readers b d
  readers_cons ih true true h k a = absurd (not_both c e.process a.0 (and_right (is_ready e) (sends c e.process) k))
  readers_cons ih true false h k a = let r = ih a.1 in (ap (λ l. e ∷ l) r.0, r.1)
  readers_cons ih false true h k a = absurd (not_both c e.process a.0 (and_right (is_ready e) (sends c e.process) k))
  readers_cons ih false false h k a = ih a

  abbrev Messages : Bool → Bool → Type 0
  Messages b d = (cond (b || d) (e ∷ filter (is_parked_at c) es) (filter (is_parked_at c) es) ≡ cond d (e ∷ filter (is_parked_message c) es) (filter (is_parked_message c) es))
      × (cond b (e ∷ filter (is_parked_reader c) es) (filter (is_parked_reader c) es) ≡ [])

  messages_cons : (AreOutputs c (processes (is_parked_at c) es) → OnlyMessages c es) → (b d : Bool) → is_parked_reader c e ≡ b → is_parked_message c e ≡ d
      → AreOutputs c (map (λ (x : Entry). x.process) (cond (b || d) (e ∷ filter (is_parked_at c) es) (filter (is_parked_at c) es))) → Messages b d
  messages_cons ih true d h k a = absurd (not_both c e.process (and_right (is_ready e) (reads c e.process) h) a.0)
  messages_cons ih false true h k a = let r = ih a.1 in (ap (λ l. e ∷ l) r.0, r.1)
  messages_cons ih false false h k a = ih a

pub readers_of : (c : ℕ) (es : List Entry) → AreInputs c (processes (is_parked_at c) es) → OnlyReaders c es
readers_of c [] a = (refl, refl)
readers_of c (e ∷ es) a = readers_cons c e es (readers_of c es) (is_parked_reader c e) (is_parked_message c e) refl refl a

pub messages_of : (c : ℕ) (es : List Entry) → AreOutputs c (processes (is_parked_at c) es) → OnlyMessages c es
messages_of c [] a = (refl, refl)
messages_of c (e ∷ es) a = messages_cons c e es (messages_of c es) (is_parked_reader c e) (is_parked_message c e) refl refl a

-- ---- the partner at a place

input_read : (c : ℕ) (p : Process) → reads c p ≡ true → if_input (Some p) ≡ Some p
input_read c (In chan replicated pattern body) h = refl
input_read c _ h = cc

input_sent : (c : ℕ) (p : Process) → sends c p ≡ true → if_input (Some p) ≡ None
input_sent c (Out chan message at) h = refl
input_sent c _ h = cc

output_sent : (c : ℕ) (p : Process) → sends c p ≡ true → if_output (Some p) ≡ Some p
output_sent c (Out chan message at) h = refl
output_sent c _ h = cc

output_read : (c : ℕ) (p : Process) → reads c p ≡ true → if_output (Some p) ≡ None
output_read c (In chan replicated pattern body) h = refl
output_read c _ h = cc

module _ (C : Configuration) (v : View) (s : StandsFor v C) (rise : StampsRise 0 C.entries C.next_stamp) (j : ℕ) where
  module _ (f : Option Process → Option Process) (q : Entry → Bool) (none : f None ≡ None) where
    each_kept : ((u : Entry) → q u ≡ true → f (Some u.process) ≡ Some u.process) → (o : Option Entry) → slice_get (filter q C.entries) j ≡ o
        → f (option_map (λ (u : Entry). u.process) o) ≡ option_map (λ (u : Entry). u.process) o
    each_kept h None e = none
    each_kept h (Some u) e = h u (found q 0 C.entries C.next_stamp j u rise e).0

    each_dropped : ((u : Entry) → q u ≡ true → f (Some u.process) ≡ None) → (o : Option Entry) → slice_get (filter q C.entries) j ≡ o → f (option_map (λ (u : Entry). u.process) o) ≡ None
    each_dropped h None e = none
    each_dropped h (Some u) e = h u (found q 0 C.entries C.next_stamp j u rise e).0

  -- the list of the channel, as the processes of these entries
  listed_as : (c : ℕ) (q : Entry → Bool) → filter (is_parked_at c) C.entries ≡ filter q C.entries → slice_get (list_at c v.channels) j ≡ option_map (λ (u : Entry). u.process) (slice_get (filter q C.entries) j)
  listed_as c q e =
      ap (λ (l : List Process). slice_get l j) (sym (s.parked c) ∙ ap (map (λ (u : Entry). u.process)) e) ∙ slice_get-map (λ (u : Entry). u.process) (filter q C.entries) j

  reader_at : (c : ℕ) → AreOutputs c (list_at c v.channels) ⊎ AreInputs c (list_at c v.channels)
      → if_input (slice_get (list_at c v.channels) j) ≡ option_map (λ (u : Entry). u.process) (slice_get (filter (is_parked_reader c) C.entries) j)
  reader_at c (inl a) =
      let o = messages_of c C.entries (subst (AreOutputs c) (sym (s.parked c)) a) in
      ap if_input (listed_as c (is_parked_message c) o.0)
      ∙ each_dropped if_input (is_parked_message c) refl (λ u h. input_sent c u.process (and_right (is_ready u) (sends c u.process) h)) (slice_get (filter (is_parked_message c) C.entries) j) refl
      ∙ sym (ap (λ (l : List Entry). option_map (λ (u : Entry). u.process) (slice_get l j)) o.1)
  reader_at c (inr a) =
      let o = readers_of c C.entries (subst (AreInputs c) (sym (s.parked c)) a) in
      ap if_input (listed_as c (is_parked_reader c) o.0)
      ∙ each_kept if_input (is_parked_reader c) refl (λ u h. input_read c u.process (and_right (is_ready u) (reads c u.process) h)) (slice_get (filter (is_parked_reader c) C.entries) j) refl

  message_at : (c : ℕ) → AreOutputs c (list_at c v.channels) ⊎ AreInputs c (list_at c v.channels)
      → if_output (slice_get (list_at c v.channels) j) ≡ option_map (λ (u : Entry). u.process) (slice_get (filter (is_parked_message c) C.entries) j)
  message_at c (inl a) =
      let o = messages_of c C.entries (subst (AreOutputs c) (sym (s.parked c)) a) in
      ap if_output (listed_as c (is_parked_message c) o.0)
      ∙ each_kept if_output (is_parked_message c) refl (λ u h. output_sent c u.process (and_right (is_ready u) (sends c u.process) h)) (slice_get (filter (is_parked_message c) C.entries) j) refl
  message_at c (inr a) =
      let o = readers_of c C.entries (subst (AreInputs c) (sym (s.parked c)) a) in
      ap if_output (listed_as c (is_parked_reader c) o.0)
      ∙ each_dropped if_output (is_parked_reader c) refl (λ u h. output_read c u.process (and_right (is_ready u) (reads c u.process) h)) (slice_get (filter (is_parked_reader c) C.entries) j) refl
      ∙ sym (ap (λ (l : List Entry). option_map (λ (u : Entry). u.process) (slice_get l j)) o.1)

  -- a process does the same with its partner in the list as with the one among the entries
  pub same_deed : (n : ℕ) (p : Process) → KeepsApart v
      → deed n (partner_at j v.channels p) p ≡ deed n (option_map (λ (u : Entry). u.process) (slice_get (filter (is_partner p) C.entries) j)) p
  same_deed n (Out (Chan c) message at) k = ap (λ o. deed n o (Out (Chan c) message at)) (reader_at c (k.apart c))
  same_deed n (In (Chan c) replicated pattern body) k = ap (λ o. deed n o (In (Chan c) replicated pattern body)) (message_at c (k.apart c))
  same_deed n _ k = refl
