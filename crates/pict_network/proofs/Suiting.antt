-- What is known of the deed of a process in a network: the home of its channel, and its partner there.
use Rattle.std.proofs.Common.{ℕ, ◌≡◌, ◌⊎◌, Bool, true, false, cond, inl, inr, List, [], ◌∷◌, ◌++◌, map, length, refl, sym, ap, ◌∙◌, subst, Option, Some, None, option_map, slice_get}
use Rattle.std.specs.List.{AllByRecursion}
use Rattle.std.specs.Option.{unwrap_or}
use Rattle.std.proofs.lemmas.Option.{slice_get-map}
use Rattle.pict_syntax.specs.declared.span.Span.{Span}
use Rattle.pict_core.specs.Term.{Val, Pat, Process, Var, Chan, Int, Char, Boolean, Text, PrimitiveVal, Record, Zero, Par, New, Out, In, If}
use Rattle.pict_core.specs.Matching.{match_value}
use Rattle.pict_core.specs.Primitives.{Effect, Leaves, Nothing, Answer, Trap, effect_of}
use Rattle.pict_core.specs.Closed.{IsOver, IsUnder}
use Rattle.pict_core.specs.Configuration.{Parked, Entry}
use Rattle.pict_core.specs.Step.{Label, least, printing, is_partner, reads, sends}
use Rattle.pict_core.specs.Deed.{Deed, Ends, Keeps, Forks, Opens, Parks, Serves, Takes, Stops, Misfits, leaves, performs, serves, offers, takes, asks, chooses, deed}
use Rattle.pict_core.specs.Placing.{stamp_or_none}
use Rattle.pict_core.proofs.Partners.{own_channel}
use Rattle.pict_view.specs.View.{list_at}
use Rattle.pict_view.specs.Placed.{if_input, if_output}
use Rattle.pict_network.specs.Network.{Item, Home, Network, entry, entries_of, by_stamp}
use Rattle.pict_network.specs.Events.{processes_of, lists_of, deed_in, home_of}
use Rattle.pict_network.specs.Invariant.{ItemsRise, ItemsRead, ItemsSend, IsParked, IsNetwork}
use Rattle.pict_network.proofs.Moving.{there}
use Rattle.pict_network.proofs.Partners.{at_channel_alone, none_there, first_there, others_no_readers, others_no_messages, parked_test, all_no_reads, all_no_sends}

-- the first that is parked at channel c, at this stamp, where p stands
pub record First (N : Network) (p : Process) (c r : ℕ) : Type 0 where
  pub home : Home
  pub there : slice_get N.channels c ≡ Some home
  pub own : home_of N.channels p ≡ Some home.site
  pub partner : Item
  pub others : List Item
  pub parked : home.parked ≡ partner ∷ others
  pub stamp : partner.stamp ≡ r

-- a process may be parked at channel c, where p stands
pub record Waits (N : Network) (p : Process) (c : ℕ) (q : Process) : Type 0 where
  pub home : Home
  pub there : slice_get N.channels c ≡ Some home
  pub own : home_of N.channels p ≡ Some home.site
  pub fits : ((reads c q ≡ true) × ItemsRead c home.parked) ⊎ ((sends c q ≡ true) × ItemsSend c home.parked)

-- of a deed of p, whose partner is at stamp r
abbrev pub Suits : Network → Process → ℕ → Deed → Type 0
Suits N p r (Ends label) = Unit {0}
Suits N p r (Keeps q label) = Unit {0}
Suits N p r (Forks q k) = Unit {0}
Suits N p r (Opens q) = Unit {0}
Suits N p r (Parks c q) = Waits N p c q
Suits N p r (Serves c v replicated reader body) = (f : First N p c r) × (f.partner.process ≡ reader) × (reads c reader ≡ true)
Suits N p r (Takes c v replicated body) = First N p c r
Suits N p r (Stops at) = Unit {0}
Suits N p r Misfits = Unit {0}

abbrev pub process_of : Entry → Process
process_of u = u.process

-- the deed of p with this partner is that in the network
pub record Known (N : Network) (p : Process) (o : Option Entry) : Type 0 where
  pub same : deed (length N.channels) (option_map process_of o) p ≡ deed_in N p
  pub suits : Suits N p (stamp_or_none o) (deed (length N.channels) (option_map process_of o) p)

module _ (N : Network) (p : Process) (r : ℕ) where
  branch_suits : (b : Bool) (q k : Process) (label : Label) → Suits N p r (cond b (Keeps q label) (Keeps k label))
  branch_suits true q k label = tt
  branch_suits false q k label = tt

  chooses_suits : (v : Val) (q k : Process) → Suits N p r (chooses v q k)
  chooses_suits (Var z) q k = tt
  chooses_suits (Chan z) q k = tt
  chooses_suits (Int z) q k = tt
  chooses_suits (Char z) q k = tt
  chooses_suits (Boolean b) q k = branch_suits b q k _
  chooses_suits (Text z) q k = tt
  chooses_suits (PrimitiveVal z) q k = tt
  chooses_suits (Record z w) q k = tt

  leaves_suits : (at : Span) (label : Label) (l : Leaves) → Suits N p r (leaves at label l)
  leaves_suits at label Nothing = tt
  leaves_suits at label (Answer k a) = tt
  leaves_suits at label Trap = tt

  performs_suits : (at : Span) (o : Option Effect) → Suits N p r (performs at o)
  performs_suits at None = tt
  performs_suits at (Some e) = leaves_suits at (printing e.printed) e.leaves

  serves_suits : (c : ℕ) (v : Val) (replicated : Bool) (reader body : Process) (f : First N p c r) → f.partner.process ≡ reader → reads c reader ≡ true → (o : Option (List Val)) → Suits N p r (serves c v replicated reader body o)
  serves_suits c v replicated reader body f g h None = tt
  serves_suits c v replicated reader body f g h (Some bound) = (f, g, h)

  takes_suits : (c : ℕ) (v : Val) (replicated : Bool) (body : Process) → First N p c r → (o : Option (List Val)) → Suits N p r (takes c v replicated body o)
  takes_suits c v replicated body f None = tt
  takes_suits c v replicated body f (Some bound) = f

-- what is parked at the channel, in the lists of the network
pub list_there : (N : Network) (c : ℕ) (h : Home) → slice_get N.channels c ≡ Some h → list_at c (lists_of N) ≡ processes_of h.parked
list_there N c h k =
    ap (λ (o : Option (List Process)). unwrap_or o []) (slice_get-map (λ (g : Home). processes_of g.parked) N.channels c ∙ ap (option_map (λ (g : Home). processes_of g.parked)) k)

-- ---- at a channel

module _ (N : Network) (is : IsNetwork N) (c : ℕ) (h : Home) (k : slice_get N.channels c ≡ Some h) where
  parked_here : IsParked c h
  parked_here = (is.homes c h k).1

  no_reader : AllByRecursion (λ (y : Item). reads c y.process ≡ false) h.parked → least (parked_test (reads c)) (by_stamp (entries_of N)) ≡ None
  no_reader a =
      let o = at_channel_alone (reads c) N c h k (others_no_readers N is c) in
      o.2 ∙ none_there (reads c) h.parked o.0 a o.1

  a_reader : (u : Item) (others : List Item) → h.parked ≡ u ∷ others → reads c u.process ≡ true → least (parked_test (reads c)) (by_stamp (entries_of N)) ≡ Some (entry Parked u)
  a_reader u others e a =
      let o = at_channel_alone (reads c) N c h k (others_no_readers N is c) in
      o.2 ∙ ap (λ z. least (parked_test (reads c)) (by_stamp (map (entry Parked) z ++ o.0))) e ∙ first_there (reads c) u others o.0 a (subst ItemsRise e parked_here.rise) o.1

  no_message : AllByRecursion (λ (y : Item). sends c y.process ≡ false) h.parked → least (parked_test (sends c)) (by_stamp (entries_of N)) ≡ None
  no_message a =
      let o = at_channel_alone (sends c) N c h k (others_no_messages N is c) in
      o.2 ∙ none_there (sends c) h.parked o.0 a o.1

  a_message : (u : Item) (others : List Item) → h.parked ≡ u ∷ others → sends c u.process ≡ true → least (parked_test (sends c)) (by_stamp (entries_of N)) ≡ Some (entry Parked u)
  a_message u others e a =
      let o = at_channel_alone (sends c) N c h k (others_no_messages N is c) in
      o.2 ∙ ap (λ z. least (parked_test (sends c)) (by_stamp (map (entry Parked) z ++ o.0))) e ∙ first_there (sends c) u others o.0 a (subst ItemsRise e parked_here.rise) o.1

  abbrev first : (p : Process) → home_of N.channels p ≡ Some h.site → (u : Item) (others : List Item) → h.parked ≡ u ∷ others → First N p c u.stamp
  first p own u others e = record { home = h; there = k; own = own; partner = u; others = others; parked = e; stamp = refl }

  here : option_map (λ (g : Home). g.site) (slice_get N.channels c) ≡ Some h.site
  here = ap (option_map (λ (g : Home). g.site)) k

  lists : (items : List Item) → h.parked ≡ items → list_at c (lists_of N) ≡ processes_of items
  lists items e = list_there N c h k ∙ ap processes_of e

  -- ---- an output

  module _ (message : Val) (place : Span) where
    abbrev output : Process
    output = Out (Chan c) message place

    abbrev offer : Option Process → Deed
    offer o = offers c message output o

    offer_in : (items : List Item) → h.parked ≡ items → offer (if_input (slice_get (processes_of items) 0)) ≡ deed_in N output
    offer_in items e = ap (λ l. offer (if_input (slice_get l 0))) (sym (lists items e))

    output_waits : ItemsSend c h.parked → Waits N output c output
    output_waits a = record { home = h; there = k; own = here; fits = inr (own_channel c, a) }

    output_alone : (items : List Item) → h.parked ≡ items → offer None ≡ offer (if_input (slice_get (processes_of items) 0)) → ItemsSend c h.parked → Known N output None
    output_alone items e n a = record { same = n ∙ offer_in items e; suits = output_waits a }

    with_reader : (u : Item) (others : List Item) → h.parked ≡ u ∷ others → (q : Process) → u.process ≡ q → reads c q ≡ true → Known N output (Some (entry Parked u))
    with_reader u others e Zero g a = cc
    with_reader u others e (Par q l) g a = cc
    with_reader u others e (New q) g a = cc
    with_reader u others e (Out v w l) g a = cc
    with_reader u others e (If v q l) g a = cc
    with_reader u others e (In chan r pattern body) g a = record {
      same = ap (λ q. offer (Some q)) g ∙ sym (ap (λ q. offer (if_input (Some q))) g) ∙ offer_in (u ∷ others) e;
      suits = subst (λ q. Suits N output u.stamp (offer (Some q))) (sym g) (serves_suits N output u.stamp c message r (In chan r pattern body) body (first output here u others e) g a (match_value pattern message));
    }

    sent_no_input : (q : Process) → sends c q ≡ true → offer None ≡ offer (if_input (Some q))
    sent_no_input Zero a = cc
    sent_no_input (Par q l) a = cc
    sent_no_input (New q) a = cc
    sent_no_input (Out v w l) a = refl
    sent_no_input (If v q l) a = cc
    sent_no_input (In chan r pattern body) a = cc

    output_known : (items : List Item) → h.parked ≡ items → Known N output (least (parked_test (reads c)) (by_stamp (entries_of N)))
    output_known [] e =
        subst (Known N output) (sym (no_reader (subst (AllByRecursion (λ (y : Item). reads c y.process ≡ false)) (sym e) tt)))
        (output_alone [] e refl (subst (ItemsSend c) (sym e) tt))
    output_known (u ∷ others) e = elim (parked_here.one_kind) [
      | inl a ↦
          let reads_u = (subst (ItemsRead c) e a).0 in
          subst (Known N output) (sym (a_reader u others e reads_u)) (with_reader u others e u.process refl reads_u)
      | inr a ↦
          subst (Known N output) (sym (no_reader (all_no_reads c h.parked a)))
          (output_alone (u ∷ others) e (sent_no_input u.process (subst (ItemsSend c) e a).0) a)
    ]

  -- ---- an input

  module _ (r : Bool) (pattern : Pat) (body : Process) where
    abbrev input : Process
    input = In (Chan c) r pattern body

    abbrev ask : Option Process → Deed
    ask o = asks c r pattern body input o

    ask_in : (items : List Item) → h.parked ≡ items → ask (if_output (slice_get (processes_of items) 0)) ≡ deed_in N input
    ask_in items e = ap (λ l. ask (if_output (slice_get l 0))) (sym (lists items e))

    input_waits : ItemsRead c h.parked → Waits N input c input
    input_waits a = record { home = h; there = k; own = here; fits = inl (own_channel c, a) }

    input_alone : (items : List Item) → h.parked ≡ items → ask None ≡ ask (if_output (slice_get (processes_of items) 0)) → ItemsRead c h.parked → Known N input None
    input_alone items e n a = record { same = n ∙ ask_in items e; suits = input_waits a }

    with_message : (u : Item) (others : List Item) → h.parked ≡ u ∷ others → (q : Process) → u.process ≡ q → sends c q ≡ true → Known N input (Some (entry Parked u))
    with_message u others e Zero g a = cc
    with_message u others e (Par q l) g a = cc
    with_message u others e (New q) g a = cc
    with_message u others e (In v b l q) g a = cc
    with_message u others e (If v q l) g a = cc
    with_message u others e (Out chan message place) g a = record {
      same = ap (λ q. ask (Some q)) g ∙ sym (ap (λ q. ask (if_output (Some q))) g) ∙ ask_in (u ∷ others) e;
      suits = subst (λ q. Suits N input u.stamp (ask (Some q))) (sym g) (takes_suits N input u.stamp c message r body (first input here u others e) (match_value pattern message));
    }

    read_no_output : (q : Process) → reads c q ≡ true → ask None ≡ ask (if_output (Some q))
    read_no_output Zero a = cc
    read_no_output (Par q l) a = cc
    read_no_output (New q) a = cc
    read_no_output (Out v w l) a = cc
    read_no_output (If v q l) a = cc
    read_no_output (In v b l q) a = refl

    input_known : (items : List Item) → h.parked ≡ items → Known N input (least (parked_test (sends c)) (by_stamp (entries_of N)))
    input_known [] e =
        subst (Known N input) (sym (no_message (subst (AllByRecursion (λ (y : Item). sends c y.process ≡ false)) (sym e) tt)))
        (input_alone [] e refl (subst (ItemsRead c) (sym e) tt))
    input_known (u ∷ others) e = elim (parked_here.one_kind) [
      | inl a ↦
          subst (Known N input) (sym (no_message (all_no_sends c h.parked a)))
          (input_alone (u ∷ others) e (read_no_output u.process (subst (ItemsRead c) e a).0) a)
      | inr a ↦
          let sends_u = (subst (ItemsSend c) e a).0 in
          subst (Known N input) (sym (a_message u others e sends_u)) (with_message u others e u.process refl sends_u)
    ]

-- ---- any process

module _ (N : Network) (is : IsNetwork N) where
  abbrev partner : Process → Option Entry
  partner p = least (is_partner p) (by_stamp (entries_of N))

  out_known : (chan message : Val) (place : Span) → IsOver 0 (length N.channels) chan → Known N (Out chan message place) (partner (Out chan message place))
  out_known (Var v) message place a = record { same = refl; suits = tt }
  out_known (Chan c) message place a = let f = there N.channels c a in output_known N is c f.0 f.1 message place f.0.parked refl
  out_known (Int v) message place a = record { same = refl; suits = tt }
  out_known (Char v) message place a = record { same = refl; suits = tt }
  out_known (Boolean v) message place a = record { same = refl; suits = tt }
  out_known (Text v) message place a = record { same = refl; suits = tt }
  out_known (PrimitiveVal f) message place a = record { same = refl; suits = performs_suits N (Out (PrimitiveVal f) message place) (stamp_or_none (partner (Out (PrimitiveVal f) message place))) place (effect_of f message) }
  out_known (Record v w) message place a = record { same = refl; suits = tt }

  in_known : (chan : Val) (r : Bool) (pattern : Pat) (body : Process) → IsOver 0 (length N.channels) chan → Known N (In chan r pattern body) (partner (In chan r pattern body))
  in_known (Var v) r pattern body a = record { same = refl; suits = tt }
  in_known (Chan c) r pattern body a = let f = there N.channels c a in input_known N is c f.0 f.1 r pattern body f.0.parked refl
  in_known (Int v) r pattern body a = record { same = refl; suits = tt }
  in_known (Char v) r pattern body a = record { same = refl; suits = tt }
  in_known (Boolean v) r pattern body a = record { same = refl; suits = tt }
  in_known (Text v) r pattern body a = record { same = refl; suits = tt }
  in_known (PrimitiveVal f) r pattern body a = record { same = refl; suits = tt }
  in_known (Record v w) r pattern body a = record { same = refl; suits = tt }

  pub known : (p : Process) → IsUnder 0 (length N.channels) p → Known N p (partner p)
  known Zero a = record { same = refl; suits = tt }
  known (Par p q) a = record { same = refl; suits = tt }
  known (New p) a = record { same = refl; suits = tt }
  known (If test p q) a = record { same = refl; suits = chooses_suits N (If test p q) (stamp_or_none (partner (If test p q))) test p q }
  known (Out chan message place) a = out_known chan message place a.0
  known (In chan r pattern body) a = in_known chan r pattern body a.0
