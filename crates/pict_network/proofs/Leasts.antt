-- The place of a choice with the least partner.
use Rattle.std.proofs.Common.{ℕ, ◌≡◌, ◌<◌, ◌⊎◌, Bool, true, false, cond, inl, inr, List, [], ◌∷◌, filter, length, refl, sym, ap, ◌∙◌, Option, Some, None, option_map, slice_get, arith}
use Rattle.pict_core.specs.Configuration.{Entry, Configuration, IsConfiguration}
use Rattle.pict_core.specs.Step.{Choice, IsChoice, least, entry_at, is_ready, is_partner}
use Rattle.pict_core.specs.Places.{Place, IsPlace, ready_entries, partner_entries, partners_at, choice_by, choice_at}
use Rattle.pict_core.proofs.Everywhere.{choices_have_places}
use Rattle.pict_core.proofs.Placing.{found}

head_cons : (test : Entry → Bool) (e : Entry) (es : List Entry) → slice_get (filter test es) 0 ≡ least test es → (b : Bool) → slice_get (cond b (e ∷ filter test es) (filter test es)) 0 ≡ cond b (Some e) (least test es)
head_cons test e es h true = refl
head_cons test e es h false = h

-- the first that passes a test is the least
pub head_least : (test : Entry → Bool) (es : List Entry) → slice_get (filter test es) 0 ≡ least test es
head_least test [] = refl
head_least test (e ∷ es) = head_cons test e es (head_least test es) (test e)

some_first : (es : List Entry) (first : ℕ) → first ≡ 0 → (first < length es) ⊎ ((length es ≡ 0) × (first ≡ 0))
some_first [] first h = inr (refl, h)
some_first (e ∷ es) first h = inl (omega (arith, h))

pub record LeastPlace (C : Configuration) (choice : Choice) : Type 0 where
  pub place : Place
  pub first : place.partner ≡ 0
  pub is : IsPlace C place
  pub chooses : choice_at C place ≡ Some choice

abbrev stamp_of : Entry → ℕ
stamp_of u = u.stamp

abbrev choice_of : Entry → Option ℕ → Choice
choice_of e partner = record { acting = e.stamp; partner = partner }

abbrev pub least_of : Configuration → Entry → Choice
least_of C e = record { acting = e.stamp; partner = option_map (λ (u : Entry). u.stamp) (least (is_partner e.process) C.entries) }

abbrev acting_of : Option Choice → ℕ
acting_of None = 0
acting_of (Some choice) = choice.acting

some_entry : (d e : Entry) → Some d ≡ Some e → d ≡ e
some_entry d e h = cc

-- of an entry that stands at the place
at_place : (C : Configuration) (i : ℕ) (e : Entry) → slice_get (ready_entries C) i ≡ Some e → choice_at C (record { ready = i; partner = 0 }) ≡ Some (least_of C e)
at_place C i e h =
    ap (λ o. option_map (choice_by (partner_entries C o) 0) o) h
    ∙ ap (λ (o : Option Entry). Some (choice_of e (option_map stamp_of o))) (head_least (is_partner e.process) C.entries)

module _ (C : Configuration) (is : IsConfiguration C) (e : Entry) (stands : entry_at e.stamp C.entries ≡ Some e) where
  same_entry : (d : Entry) (i : ℕ) → slice_get (ready_entries C) i ≡ Some d → d.stamp ≡ e.stamp → d ≡ e
  same_entry d i g k =
      let f = found is_ready 0 C.entries C.next_stamp i d is.stamps g in
      some_entry d e (sym f.1 ∙ ap (λ s. entry_at s C.entries) k ∙ stands)

  find : (o : Option Entry) (place : Place) → slice_get (ready_entries C) place.ready ≡ o → IsPlace C place → choice_at C place ≡ Some (least_of C e) → LeastPlace C (least_of C e)
  find None place g p k =
      let n : choice_at C place ≡ None = ap (λ o. option_map (choice_by (partner_entries C (slice_get (ready_entries C) place.ready)) place.partner) o) g in
      let z : None ≡ Some (least_of C e) = sym n ∙ k in
      cc z
  find (Some d) place g p k =
      let n : choice_at C place ≡ Some (choice_by (partner_entries C (slice_get (ready_entries C) place.ready)) place.partner d) = ap (λ o. option_map (choice_by (partner_entries C (slice_get (ready_entries C) place.ready)) place.partner) o) g in
      let same : d ≡ e = same_entry d place.ready g (ap acting_of (sym n ∙ k)) in
      record {
        place = record { ready = place.ready; partner = 0 };
        first = refl;
        is = record { ready = p.ready; partner = some_first (partners_at C place.ready) 0 refl };
        chooses = at_place C place.ready d g ∙ ap (λ z. Some (least_of C z)) same;
      }

  pub least_place : IsChoice C (least_of C e) → LeastPlace C (least_of C e)
  least_place c = let h = choices_have_places C (least_of C e) c in find (slice_get (ready_entries C) h.0.ready) h.0 refl h.1 h.2
