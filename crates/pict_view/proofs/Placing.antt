-- A deed that is placed in a view is placed alike in each configuration that the view stands for.
use Rattle.std.proofs.Common.{ℕ, ◌+◌, ◌<◌, ◌≤◌, ◌≡◌, ◌⊎◌, inl, inr, Bool, true, false, ◌||◌, List, [], ◌∷◌, ◌++◌, map, filter, length, refl, sym, ap, ◌∙◌, subst, Option, Some, None, option_map, arith, append-nil, length-set, length-append}
use Rattle.std.proofs.lemmas.List.{set-set}
use Rattle.std.proofs.lemmas.Option.{slice_get_cases}
use Rattle.std.specs.List.{slice_get, slice_set}
use Rattle.pict_syntax.specs.declared.span.Span.{Span}
use Rattle.pict_core.specs.Term.{Val, Pat, Process, Chan, Boolean, PrimitiveVal, Out, In, If}
use Rattle.pict_core.specs.Closed.{IsUnder}
use Rattle.pict_core.specs.Matching.{match_value}
use Rattle.pict_core.specs.Primitives.{Effect, Leaves, Nothing, Answer, Trap, effect_of}
use Rattle.pict_core.specs.Configuration.{Ready, Parked, Entry, Configuration, IsConfiguration, StampsRise}
use Rattle.pict_core.specs.Step.{Label, Quiet, Steps, gone, kept, added, with_channel, served, took, printing, is_ready, is_partner, is_parked_reader, is_parked_message, reads, sends}
use Rattle.pict_core.specs.Deed as deeds
use Rattle.pict_core.specs.Deed.{Deed, Ends, Keeps, Forks, Opens, Parks, Serves, Takes, Misfits, deed}
use Rattle.pict_core.specs.Placing.{place, stamp_or_none}
use Rattle.pict_core.proofs.Kept as kept_by
use Rattle.pict_core.proofs.Kept.{free_step_keeps}
use Rattle.pict_core.proofs.Stamps.{StampsRise-without}
use Rattle.pict_core.proofs.Partners.{own_channel, and_right}
use Rattle.pict_core.proofs.Placing.{found}
use Rattle.pict_view.specs.View.{View, StandsFor, KeepsApart, AreOutputs, AreInputs, is_parked_at, list_at}
use Rattle.pict_view.specs.Moved.{if_replicated}
use Rattle.pict_view.specs.Placed.{without, instead, ready_after, place_at}
use Rattle.pict_view.specs.Laws.{Simulates}
use Rattle.pict_view.proofs.Lists.{all_without, all_pushed, listed, list_set, list_new, each_list}
use Rattle.pict_view.proofs.Standing.{gone_ready, parked_still, kept_ready, gone_parked, added_ready, added_parked, one_more}
use Rattle.pict_view.proofs.Sides.{readers_of, messages_of}

-- ---- what a deed says of its process

abbrev pub Sends : ℕ → Process → Type 0
Sends c p = (sends c p ≡ true) × (is_partner p ≡ is_parked_reader c)

abbrev pub Reads : ℕ → Process → Type 0
Reads c p = (reads c p ≡ true) × (is_partner p ≡ is_parked_message c)

-- where so many channels are there, and the process has this partner
abbrev pub Fits : ℕ → Option Process → Process → Deed → Type 0
Fits n o p (Parks c q) = (c < n) × (q ≡ p) × (o ≡ None) × (Sends c p ⊎ Reads c p)
Fits n o p (Serves c v b reader body) = (c < n) × (o ≡ Some reader) × Sends c p
Fits n o p (Takes c v b body) = (c < n) × ((message : Process) × (o ≡ Some message)) × Reads c p
Fits n o p _ = Unit {0}

module _ (n : ℕ) where
  leaves_fit : (o : Option Process) (p : Process) (at : Span) (label : Label) (l : Leaves) → Fits n o p (deeds.leaves at label l)
  leaves_fit o p at label Nothing = tt
  leaves_fit o p at label (Answer k a) = tt
  leaves_fit o p at label Trap = tt

  performs_fit : (o : Option Process) (p : Process) (at : Span) (e : Option Effect) → Fits n o p (deeds.performs at e)
  performs_fit o p at None = tt
  performs_fit o p at (Some e) = leaves_fit o p at (printing e.printed) e.leaves

  serves_fit : (c : ℕ) (v : Val) (b : Bool) (p reader body : Process) (bound : Option (List Val)) → c < n → Sends c p → Fits n (Some reader) p (deeds.serves c v b reader body bound)
  serves_fit c v b p reader body None h k = tt
  serves_fit c v b p reader body (Some bound) h k = (h, refl, k)

  takes_fit : (c : ℕ) (v : Val) (b : Bool) (p message body : Process) (bound : Option (List Val)) → c < n → Reads c p → Fits n (Some message) p (deeds.takes c v b body bound)
  takes_fit c v b p message body None h k = tt
  takes_fit c v b p message body (Some bound) h k = (h, (message, refl), k)

  offers_fit : (c : ℕ) (v : Val) (at : Span) (o : Option Process) → c < n → Fits n o (Out (Chan c) v at) (deeds.offers c v (Out (Chan c) v at) o)
  offers_fit c v at None h = (h, refl, refl, inl (own_channel c, refl))
  offers_fit c v at (Some (In w b pattern body)) h = serves_fit c v b (Out (Chan c) v at) (In w b pattern body) body (match_value pattern v) h (own_channel c, refl)
  offers_fit c v at (Some _) h = tt

  asks_fit : (c : ℕ) (b : Bool) (pattern : Pat) (body : Process) (o : Option Process) → c < n → Fits n o (In (Chan c) b pattern body) (deeds.asks c b pattern body (In (Chan c) b pattern body) o)
  asks_fit c b pattern body None h = (h, refl, refl, inr (own_channel c, refl))
  asks_fit c b pattern body (Some (Out w v at)) h = takes_fit c v b (In (Chan c) b pattern body) (Out w v at) body (match_value pattern v) h (own_channel c, refl)
  asks_fit c b pattern body (Some _) h = tt

  pub deed_fits : (o : Option Process) (p : Process) → IsUnder 0 n p → Fits n o p (deed n o p)
  deed_fits o (If (Boolean true) p q) u = tt
  deed_fits o (If (Boolean false) p q) u = tt
  deed_fits o (Out (PrimitiveVal f) v at) u = performs_fit o (Out (PrimitiveVal f) v at) at (effect_of f v)
  deed_fits o (Out (Chan c) v at) u = offers_fit c v at o u.0
  deed_fits o (In (Chan c) b pattern body) u = asks_fit c b pattern body o u.0
  deed_fits o _ u = tt

-- ---- lists of one side

abbrev IsOneSided : ℕ → List Process → Type 0
IsOneSided c l = AreOutputs c l ⊎ AreInputs c l

apart_set : (v : View) (ready : List Process) (c : ℕ) (l : List Process) → KeepsApart v → c < length v.channels → IsOneSided c l
    → KeepsApart (record { ready = ready; channels = slice_set v.channels c l })
apart_set v ready c l k h side = record { apart = each_list IsOneSided v.channels c l h side (λ d n. k.apart d) }

one_sided_without : (c j : ℕ) (l : List Process) → IsOneSided c l → IsOneSided c (without j l)
one_sided_without c j l (inl h) = inl (all_without (λ p. sends c p ≡ true) j l h)
one_sided_without c j l (inr h) = inr (all_without (λ p. reads c p ≡ true) j l h)

at_either : (c : ℕ) (p : Process) → Sends c p ⊎ Reads c p → reads c p || sends c p ≡ true
at_either c (In chan b pattern body) (inr r) = ap (λ x. x || false) r.0
at_either c (Out chan v at) (inl s) = s.0
at_either c _ (inl s) = let e = s.0 in cc
at_either c _ (inr r) = let e = r.0 in cc

none_left : {X : Type 0} (xs : List X) (j : ℕ) → slice_get xs j ≡ None → (j < length xs) ⊎ ((length xs ≡ 0) × (j ≡ 0)) → xs ≡ []
none_left [] j h p = refl
none_left (x ∷ xs) j h (inl p) = elim (slice_get_cases (x ∷ xs) j).1 [ inl k ↦ let f = k.2 in cc | inr k ↦ absurd (omega (arith, p, k.0)) ]
none_left (x ∷ xs) j h (inr p) = let z = p.0 in absurd (omega (arith, z))

-- ---- the deed of the i-th ready process, with the j-th of its partners

module _ (C : Configuration) (v : View) (is : IsConfiguration C) (s : StandsFor v C) (k : KeepsApart v) (i j : ℕ) (t : Entry) (e : slice_get (filter is_ready C.entries) i ≡ Some t)
    (p : (j < length (filter (is_partner t.process) C.entries)) ⊎ ((length (filter (is_partner t.process) C.entries) ≡ 0) × (j ≡ 0))) where
  abbrev pub partner : Option Entry
  partner = slice_get (filter (is_partner t.process) C.entries) j

  list_of : (c : ℕ) (q : Entry → Bool) → filter (is_parked_at c) C.entries ≡ filter q C.entries → list_at c v.channels ≡ map (λ (u : Entry). u.process) (filter q C.entries)
  list_of c q h = sym (s.parked c) ∙ ap (map (λ (u : Entry). u.process)) h

  below : (c : ℕ) → c < C.channels → c < length v.channels
  below c h = omega (arith, s.channels, h)

  -- ---- it parks

  none_beside : (q : Entry → Bool) → partner ≡ None → is_partner t.process ≡ q → filter q C.entries ≡ []
  none_beside q none same = ap (λ (f : Entry → Bool). filter f C.entries) (sym same) ∙ none_left (filter (is_partner t.process) C.entries) j none p

  parks_apart : (c : ℕ) → partner ≡ None → Sends c t.process ⊎ Reads c t.process → IsOneSided c (list_at c v.channels) → IsOneSided c (list_at c v.channels ++ t.process ∷ [])
  parks_apart c none (inl out) (inl a) = inl (all_pushed (λ q. sends c q ≡ true) (list_at c v.channels) t.process a out.0)
  parks_apart c none (inl out) (inr a) =
      let o = readers_of c C.entries (subst (AreInputs c) (sym (s.parked c)) a) in
      let nothing : list_at c v.channels ≡ [] = list_of c (is_parked_reader c) o.0 ∙ ap (map (λ (u : Entry). u.process)) (none_beside (is_parked_reader c) none out.1) in
      inl (subst (λ l. AreOutputs c (l ++ t.process ∷ [])) (sym nothing) (out.0, tt))
  parks_apart c none (inr in_) (inr a) = inr (all_pushed (λ q. reads c q ≡ true) (list_at c v.channels) t.process a in_.0)
  parks_apart c none (inr in_) (inl a) =
      let o = messages_of c C.entries (subst (AreOutputs c) (sym (s.parked c)) a) in
      let nothing : list_at c v.channels ≡ [] = list_of c (is_parked_message c) o.0 ∙ ap (map (λ (u : Entry). u.process)) (none_beside (is_parked_message c) none in_.1) in
      inr (subst (λ l. AreInputs c (l ++ t.process ∷ [])) (sym nothing) (in_.0, tt))

  -- ---- it meets its partner

  -- the entry that is the partner stands in the list of the channel at the same place
  record Meets (c : ℕ) (u : Entry) : Type 0 where
    at : slice_get (filter (is_parked_at c) C.entries) j ≡ Some u

  meets_reader : (c : ℕ) (u : Entry) → partner ≡ Some u → Sends c t.process → Meets c u × (reads c u.process ≡ true) × AreInputs c (list_at c v.channels)
  meets_reader c u h out = go (k.apart c)
    where
      here : slice_get (filter (is_parked_reader c) C.entries) j ≡ Some u
      here = ap (λ (f : Entry → Bool). slice_get (filter f C.entries) j) (sym out.1) ∙ h

      go : IsOneSided c (list_at c v.channels) → Meets c u × (reads c u.process ≡ true) × AreInputs c (list_at c v.channels)
      go (inr a) =
          let o = readers_of c C.entries (subst (AreInputs c) (sym (s.parked c)) a) in (
            record { at = ap (λ (l : List Entry). slice_get l j) o.0 ∙ here },
            and_right (is_ready u) (reads c u.process) (found (is_parked_reader c) 0 C.entries C.next_stamp j u is.stamps here).0,
            a,
          )
      go (inl a) =
          let o = messages_of c C.entries (subst (AreOutputs c) (sym (s.parked c)) a) in
          let none : None ≡ Some u = ap (λ (l : List Entry). slice_get l j) (sym o.1) ∙ here in
          cc

  meets_message : (c : ℕ) (u : Entry) → partner ≡ Some u → Reads c t.process → Meets c u
  meets_message c u h in_ = go (k.apart c)
    where
      here : slice_get (filter (is_parked_message c) C.entries) j ≡ Some u
      here = ap (λ (f : Entry → Bool). slice_get (filter f C.entries) j) (sym in_.1) ∙ h

      go : IsOneSided c (list_at c v.channels) → Meets c u
      go (inl a) = let o = messages_of c C.entries (subst (AreOutputs c) (sym (s.parked c)) a) in record { at = ap (λ (l : List Entry). slice_get l j) o.0 ∙ here }
      go (inr a) =
          let o = readers_of c C.entries (subst (AreInputs c) (sym (s.parked c)) a) in
          let none : None ≡ Some u = ap (λ (l : List Entry). slice_get l j) (sym o.1) ∙ here in
          cc

  -- the process that acts is gone, or keeps its turn
  took_stands : (b : Bool) → StandsFor (record { ready = ready_after i b v.ready; channels = v.channels }) (took b t.stamp C)
  took_stands true = s
  took_stands false = gone_ready C v s is.stamps i t e

  took_rises : (b : Bool) → StampsRise 0 (took b t.stamp C).entries (took b t.stamp C).next_stamp
  took_rises true = is.stamps
  took_rises false = StampsRise-without t.stamp 0 C.entries C.next_stamp is.stamps

  took_parked : (b : Bool) (c : ℕ) → filter (is_parked_at c) (took b t.stamp C).entries ≡ filter (is_parked_at c) C.entries
  took_parked true c = refl
  took_parked false c = parked_still C v s is.stamps i t e c

  -- so is its partner, and x is ready behind all
  met : (b : Bool) (c : ℕ) (u : Entry) (x : Process) → c < C.channels → Meets c u
      → StandsFor (record { ready = ready_after i b v.ready ++ x ∷ []; channels = slice_set v.channels c (without j (list_at c v.channels)) }) (added Ready x (gone u.stamp (took b t.stamp C)))
  met b c u x h m =
      added_ready (gone u.stamp (took b t.stamp C)) (record { ready = ready_after i b v.ready; channels = slice_set v.channels c (without j (list_at c v.channels)) })
      (gone_parked (took b t.stamp C) (record { ready = ready_after i b v.ready; channels = v.channels }) (took_stands b) (took_rises b) c j u (ap (λ (l : List Entry). slice_get l j) (took_parked b c) ∙ m.at) (below c h)) x

  -- a replicated reader goes behind the others
  served_stands : (b : Bool) (c : ℕ) (reader x : Process) (l : List Process) (ready : List Process) (D : Configuration) → c < length v.channels → reads c reader || sends c reader ≡ true
      → StandsFor (record { ready = ready; channels = slice_set v.channels c l }) D → StandsFor (record { ready = ready; channels = slice_set v.channels c (l ++ if_replicated b reader) }) (served b reader D)
  served_stands false c reader x l ready D h at d = subst (λ (m : List Process). StandsFor (record { ready = ready; channels = slice_set v.channels c m }) D) (sym (append-nil l)) d
  served_stands true c reader x l ready D h at d =
      subst (λ (lists : List (List Process)). StandsFor (record { ready = ready; channels = lists }) (added Parked reader D))
      (ap (λ (m : List Process). slice_set (slice_set v.channels c l) c (m ++ reader ∷ [])) (list_set v.channels c l h) ∙ set-set v.channels c l (l ++ reader ∷ []))
      (added_parked D (record { ready = ready; channels = slice_set v.channels c l }) d c reader at (omega (arith, h, length-set v.channels c l)))

  served_apart : (b : Bool) (c : ℕ) (reader : Process) (l : List Process) → reads c reader ≡ true → AreInputs c l → AreInputs c (l ++ if_replicated b reader)
  served_apart false c reader l r a = subst (AreInputs c) (sym (append-nil l)) a
  served_apart true c reader l r a = all_pushed (λ q. reads c q ≡ true) l reader a r

  -- ---- by the deed

  abbrev pub Placed : Deed → Type 0
  Placed d = kept_by.Keeps (place C t.stamp (stamp_or_none partner) d) → Simulates v (place C t.stamp (stamp_or_none partner) d) (place_at i j v.ready v.channels d)

  no_more : (c : ℕ) (l : List Process) → length (slice_set v.channels c l) ≤ length v.channels + 1
  no_more c l = omega (arith, length-set v.channels c l)

  placed_serves : (c : ℕ) (w : Val) (b : Bool) (reader body : Process) (o : Option Entry) → partner ≡ o → option_map (λ (u : Entry). u.process) o ≡ Some reader → c < C.channels → Sends c t.process
      → kept_by.Keeps (place C t.stamp (stamp_or_none o) (Serves c w b reader body)) → Simulates v (place C t.stamp (stamp_or_none o) (Serves c w b reader body)) (place_at i j v.ready v.channels (Serves c w b reader body))
  placed_serves c w b reader body None h same low out keeps = cc
  placed_serves c w b reader body (Some u) h same low out keeps =
      let is_reader : u.process ≡ reader = cc in
      let m = meets_reader c u h out in
      let reading : reads c reader ≡ true = ap (reads c) (sym is_reader) ∙ m.1 in
      let at : reads c reader || sends c reader ≡ true = ap (λ x. x || sends c reader) reading in
      let l : List Process = without j (list_at c v.channels) in
      subst (Simulates v (place C t.stamp u.stamp (Serves c w b reader body))) (sym (listed _ v.channels c (below c low))) (
        record { after = served b reader (added Ready body (gone u.stamp (gone t.stamp C))); steps = refl; is = keeps; stands = served_stands b c reader body l _ _ (below c low) at (met false c u body low m.0) },
        apart_set v _ c _ k (below c low) (inr (served_apart b c reader l reading (all_without (λ q. reads c q ≡ true) j (list_at c v.channels) m.2))),
        no_more c _,
      )

  placed_takes : (c : ℕ) (w : Val) (b : Bool) (body message : Process) (o : Option Entry) → partner ≡ o → option_map (λ (u : Entry). u.process) o ≡ Some message → c < C.channels → Reads c t.process
      → kept_by.Keeps (place C t.stamp (stamp_or_none o) (Takes c w b body)) → Simulates v (place C t.stamp (stamp_or_none o) (Takes c w b body)) (place_at i j v.ready v.channels (Takes c w b body))
  placed_takes c w b body message None h same low in_ keeps = cc
  placed_takes c w b body message (Some u) h same low in_ keeps =
      subst (Simulates v (place C t.stamp u.stamp (Takes c w b body))) (sym (listed _ v.channels c (below c low))) (
        record { after = added Ready body (gone u.stamp (took b t.stamp C)); steps = refl; is = keeps; stands = met b c u body low (meets_message c u h in_) },
        apart_set v _ c _ k (below c low) (one_sided_without c j (list_at c v.channels) (k.apart c)),
        no_more c _,
      )

  no_partner : (o : Option Entry) → option_map (λ (u : Entry). u.process) o ≡ None → o ≡ None
  no_partner None h = refl
  no_partner (Some u) h = cc

  pub placed : (d : Deed) → Fits C.channels (option_map (λ (u : Entry). u.process) partner) t.process d → Placed d
  placed (Ends label) f keeps = (record { after = gone t.stamp C; steps = refl; is = keeps; stands = gone_ready C v s is.stamps i t e }, record { apart = k.apart }, omega arith)
  placed (Keeps q label) f keeps = (record { after = kept t.stamp q C; steps = refl; is = keeps; stands = kept_ready C v s is.stamps i t e q }, record { apart = k.apart }, omega arith)
  placed (Forks q q2) f keeps = (
    record { after = added Ready q2 (kept t.stamp q C); steps = refl; is = keeps; stands = added_ready (kept t.stamp q C) (record { ready = instead i q v.ready; channels = v.channels }) (kept_ready C v s is.stamps i t e q) q2 },
    record { apart = k.apart },
    omega arith,
  )
  placed (Opens q) f keeps = (
    record { after = kept t.stamp q (with_channel C); steps = refl; is = keeps; stands = kept_ready (with_channel C) (record { ready = v.ready; channels = v.channels ++ [] ∷ [] }) (one_more C v s) is.stamps i t e q },
    record { apart = λ c. subst (IsOneSided c) (sym (list_new v.channels c)) (k.apart c) },
    omega (arith, length-append v.channels ([] ∷ [])),
  )
  placed (Parks c q) f keeps =
      let none : partner ≡ None = no_partner partner f.2 in
      subst (λ x. Simulates v (Steps (added Parked x (gone t.stamp C)) Quiet) (place_at i j v.ready v.channels (Parks c x))) (sym f.1)
      (subst (Simulates v (Steps (added Parked t.process (gone t.stamp C)) Quiet)) (sym (listed _ v.channels c (below c f.0))) (
        record {
          after = added Parked t.process (gone t.stamp C);
          steps = refl;
          is = subst (λ x. IsConfiguration (added Parked x (gone t.stamp C))) f.1 keeps;
          stands = added_parked (gone t.stamp C) (record { ready = without i v.ready; channels = v.channels }) (gone_ready C v s is.stamps i t e) c t.process (at_either c t.process f.3) (below c f.0);
        },
        apart_set v _ c _ k (below c f.0) (parks_apart c none f.3 (k.apart c)),
        no_more c _,
      ))
  placed (Serves c w b reader body) f keeps = placed_serves c w b reader body partner refl f.1 f.0 f.2 keeps
  placed (Takes c w b body) f keeps = placed_takes c w b body f.1.0 partner refl f.1.1 f.0 f.2 keeps
  placed (deeds.Stops at) f keeps = refl
  placed Misfits f keeps = refl
