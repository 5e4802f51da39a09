-- Finished runs end in what is found.
use Rattle.std.proofs.Common.{ℕ, zero, suc, ◌<◌, ◌≡◌, inl, inr, Bool, true, false, ◌&&◌, cond, List, [], ◌∷◌, refl, sym, ap, ◌∙◌, subst, arith, Option, Some, None, option_map}
use Rattle.pict_core.specs.Term.{Val, Process, Var, Chan, Int, Char, Boolean, Text, PrimitiveVal, Record, Zero, Par, New, Out, In, If}
use Rattle.pict_core.specs.Closed.{IsOver, IsUnder}
use Rattle.pict_core.specs.Configuration.{Entry, Configuration, IsConfiguration}
use Rattle.pict_core.specs.Step.{Finished, next, step_by, is_ready, is_partner, is_parked_reader, is_parked_message, reads, sends, least}
use Rattle.pict_core.proofs.Stamps.{EntryClosed, least_closed, least_passes}
use Rattle.pict_core.proofs.Entries.{Fails, none_passes, each_found}
use Rattle.pict_core.proofs.Partners.{channel_is, and_right}
use Rattle.pict_reduction.specs.Congruence.{Congruent, symmetric}
use Rattle.pict_reduction.specs.Reading.{read, composition, declare, reading}
use Rattle.pict_reduction.specs.Silent.{IsStill, is_silent, acts_silently, parks, has_none}
use Rattle.pict_reduction.proofs.Readings.{read_val}
use Rattle.pict_reduction.proofs.Apart.{IsReached}
use Rattle.pict_reduction.proofs.Inert.{SendsOn, ReadsOn, IsInert, inert_same, inert_irreducible}
use Rattle.pict_reduction.proofs.Finished.{finished_inert}
use Rattle.pict_exploration.specs.Alone.{SettlesTo, at_end, by_reduction}
use Rattle.pict_exploration.specs.Laws.{FinishedRunsAreFound}
use Rattle.pict_exploration.proofs.Covering.{prints_reached, cover_runs, found_reached}

-- ---- what is inert doesn't meet itself

no_meeting : (n : ℕ) (p : Process) → IsInert n p → (x : ℕ) → x < n → SendsOn x p → ReadsOn x p → ⊥
no_meeting n Zero h x l s r = s
no_meeting n (Par p q) h x l (inl s) (inl r) = no_meeting n p h.0 x l s r
no_meeting n (Par p q) h x l (inl s) (inr r) = h.2 x l s r
no_meeting n (Par p q) h x l (inr s) (inl r) = h.3 x l s r
no_meeting n (Par p q) h x l (inr s) (inr r) = no_meeting n q h.1 x l s r
no_meeting n (New p) h x l s r = no_meeting (suc n) p h x (omega (arith, l)) s r
no_meeting n (Out chan v at) h x l s r = r
no_meeting n (In chan b pattern body) h x l s r = s
no_meeting n (If v p q) h x l s r = s

undeclared_inert : (n : ℕ) (p : Process) → IsInert 0 (declare n p) → IsInert n p
undeclared_inert zero p h = h
undeclared_inert (suc n) p h = undeclared_inert n (New p) h

-- ---- entries of a composition

found_cons : (T : Process → Type 0) (d e : Entry) (rest : Option Entry) → (rest ≡ Some e → T e.process → ⊥) → (T d.process → ⊥) → (b : Bool) → cond b (Some d) rest ≡ Some e → T e.process → ⊥
found_cons T d e rest f g true h k = let same : d ≡ e = cc in g (subst (λ (y : Entry). T y.process) (sym same) k)
found_cons T d e rest f g false h k = f h k

-- if the composition doesn't have it none of its entries has
no_sends : (n x : ℕ) (t : Entry → Bool) (es : List Entry) (e : Entry) → least t es ≡ Some e → (SendsOn x (composition n es) → ⊥) → SendsOn x (read n e.process) → ⊥
no_sends n x t [] e h f = cc
no_sends n x t (d ∷ es) e h f = found_cons (λ p. SendsOn x (read n p)) d e (least t es) (λ k. no_sends n x t es e k (λ s. f (inr s))) (λ s. f (inl s)) (t d) h

no_reads : (n x : ℕ) (t : Entry → Bool) (es : List Entry) (e : Entry) → least t es ≡ Some e → (ReadsOn x (composition n es) → ⊥) → ReadsOn x (read n e.process) → ⊥
no_reads n x t [] e h f = cc
no_reads n x t (d ∷ es) e h f = found_cons (λ p. ReadsOn x (read n p)) d e (least t es) (λ k. no_reads n x t es e k (λ s. f (inr s))) (λ s. f (inl s)) (t d) h

inert_cons : (n : ℕ) (d e : Entry) (rest : Option Entry) → (rest ≡ Some e → IsInert n (read n e.process)) → IsInert n (read n d.process) → (b : Bool) → cond b (Some d) rest ≡ Some e → IsInert n (read n e.process)
inert_cons n d e rest f g true h = let same : d ≡ e = cc in subst (λ (y : Entry). IsInert n (read n y.process)) same g
inert_cons n d e rest f g false h = f h

entry_inert : (n : ℕ) (t : Entry → Bool) (es : List Entry) (e : Entry) → least t es ≡ Some e → IsInert n (composition n es) → IsInert n (read n e.process)
entry_inert n t [] e h i = cc
entry_inert n t (d ∷ es) e h i = inert_cons n d e (least t es) (λ k. entry_inert n t es e k i.1) i.0 (t d) h

-- ---- a still configuration whose reading is inert has nothing ready

partner_at : (o : Option Entry) → has_none o ≡ false → (u : Entry) × (o ≡ Some u)
partner_at None h = cc
partner_at (Some u) h = (u, refl)

channel_of : (n x : ℕ) (chan : Val) → IsOver 0 n chan → read_val n chan ≡ Var x → chan ≡ Chan x
channel_of n x (Chan c) u e = let f : c ≡ x = cc in ap Chan f
channel_of n x (Var level) u e = absurd (omega (arith, u))
channel_of n x (Int i) u e = cc
channel_of n x (Char i) u e = cc
channel_of n x (Boolean i) u e = cc
channel_of n x (Text i) u e = cc
channel_of n x (PrimitiveVal i) u e = cc
channel_of n x (Record i j) u e = cc

reader_reads : (n c : ℕ) (p : Process) → reads c p ≡ true → ReadsOn c (read n p)
reader_reads n c (In chan b pattern body) h = ap (read_val n) (channel_is c chan h)
reader_reads n c Zero h = cc
reader_reads n c (Par p q) h = cc
reader_reads n c (New p) h = cc
reader_reads n c (Out chan v at) h = cc
reader_reads n c (If v p q) h = cc

sender_sends : (n c : ℕ) (p : Process) → sends c p ≡ true → SendsOn c (read n p)
sender_sends n c (Out chan v at) h = ap (read_val n) (channel_is c chan h)
sender_sends n c Zero h = cc
sender_sends n c (Par p q) h = cc
sender_sends n c (New p) h = cc
sender_sends n c (In chan b pattern body) h = cc
sender_sends n c (If v p q) h = cc

module _ (V : Configuration) (is : IsConfiguration V) (still : IsStill V) (inert : IsInert V.channels (composition V.channels V.entries)) where
  n : ℕ
  n = V.channels

  unsilent : (t : Entry → Bool) (a : Entry) → least t V.entries ≡ Some a → is_ready a ≡ true → is_silent V.entries a.process ≡ false
  unsilent t a stands ready =
      let f : is_ready a && is_silent V.entries a.process ≡ false = each_found (Fails (acts_silently V.entries)) t V.entries a (none_passes (acts_silently V.entries) V.entries still) stands in
      sym (ap (λ b. b && is_silent V.entries a.process) ready) ∙ f

  none_ready : (a : Entry) → least is_ready V.entries ≡ Some a → (p : Process) → a.process ≡ p → is_silent V.entries p ≡ false → IsInert V.channels (read V.channels p) → IsUnder 0 V.channels p → ⊥
  none_ready a stands Zero e s i u = cc
  none_ready a stands (Par p q) e s i u = cc
  none_ready a stands (New p) e s i u = cc
  none_ready a stands (If v p q) e s i u = i
  none_ready a stands (Out chan v at) e s i u =
      let is_chan_x : chan ≡ Chan i.0 = channel_of V.channels i.0 chan u.0 i.2 in
      let s' : has_none (least (is_partner (Out (Chan i.0) v at)) V.entries) ≡ false = sym (ap (λ y. parks V.entries y (Out y v at)) is_chan_x) ∙ s in
      let partner = partner_at (least (is_partner (Out (Chan i.0) v at)) V.entries) s' in
      let passes : is_parked_reader i.0 partner.0 ≡ true = least_passes (is_parked_reader i.0) V.entries partner.0 partner.1 in
      no_sends V.channels i.0 is_ready V.entries a stands
      (λ sent. no_reads V.channels i.0 (is_parked_reader i.0) V.entries partner.0 partner.1 (λ got. no_meeting V.channels (composition V.channels V.entries) inert i.0 i.1 sent got)
      (reader_reads V.channels i.0 partner.0.process (and_right (is_ready partner.0) (reads i.0 partner.0.process) passes)))
      (subst (λ q. SendsOn i.0 (read V.channels q)) (sym e) i.2)
  none_ready a stands (In chan b pattern body) e s i u =
      let is_chan_x : chan ≡ Chan i.0 = channel_of V.channels i.0 chan u.0 i.2 in
      let s' : has_none (least (is_partner (In (Chan i.0) b pattern body)) V.entries) ≡ false = sym (ap (λ y. parks V.entries y (In y b pattern body)) is_chan_x) ∙ s in
      let partner = partner_at (least (is_partner (In (Chan i.0) b pattern body)) V.entries) s' in
      let passes : is_parked_message i.0 partner.0 ≡ true = least_passes (is_parked_message i.0) V.entries partner.0 partner.1 in
      no_reads V.channels i.0 is_ready V.entries a stands
      (λ got. no_sends V.channels i.0 (is_parked_message i.0) V.entries partner.0 partner.1 (λ sent. no_meeting V.channels (composition V.channels V.entries) inert i.0 i.1 sent got)
      (sender_sends V.channels i.0 partner.0.process (and_right (is_ready partner.0) (sends i.0 partner.0.process) passes)))
      (subst (λ q. ReadsOn i.0 (read V.channels q)) (sym e) i.2)

  finished_by : (o : Option Entry) → least is_ready V.entries ≡ o → next V ≡ Finished
  finished_by None e = ap (λ o. step_by V (option_map (λ (a : Entry). record { acting = a.stamp; partner = option_map (λ (u : Entry). u.stamp) (least (is_partner a.process) V.entries) }) o)) e
  finished_by (Some a) e =
      absurd (none_ready a e a.process refl (unsilent is_ready a e (least_passes is_ready V.entries a e)) (entry_inert V.channels is_ready V.entries a e inert)
      (subst (EntryClosed V.channels) e (least_closed V.channels is_ready V.entries is.closed)))

  pub still_finished : next V ≡ Finished
  still_finished = finished_by (least is_ready V.entries) refl

-- what is inert settles to nothing but itself
inert_settles : (p q : Process) → IsInert 0 p → SettlesTo 0 p q → Congruent 0 p q
inert_settles p q i (at_end c) = c
inert_settles p q i (by_reduction {q = m} h k) = absurd (inert_irreducible 0 [] p m h.reduces i)

pub finished_runs : FinishedRunsAreFound
finished_runs p F u x C bytes h e =
    let f = cover_runs p F u x C bytes h in
    let V = f.vertex.configuration in
    let r : IsReached V = found_reached p F u x f.vertex f.is in
    let finished : IsInert 0 (reading C) = finished_inert C (prints_reached p u bytes C h) e in
    let same : Congruent 0 (reading C) (reading V) = inert_settles (reading C) (reading V) finished f.settles in
    let inert : IsInert 0 (reading V) = (inert_same 0 (reading C) (reading V) same).0 finished in (
      record { vertex = f.vertex; is = f.is; printed = f.printed; same = symmetric same },
      still_finished V r.is (x.still f.vertex f.is) (undeclared_inert V.channels (composition V.channels V.entries) inert),
    )
