-- A channel is opened at a site: what the sites are then.
use Rattle.std.proofs.Common.{ℕ, ◌≡◌, ◌<◌, ◌+◌, inl, inr, List, [], ◌∷◌, ◌++◌, map, length, sym, ap, ◌∙◌, subst, Some, Ok, slice_get, slice_set, Vec, Global, arith}
use Rattle.std.specs.List.{AllByRecursion}
use Rattle.std.proofs.lemmas.List.{length-append, with_items_is}
use Rattle.std.specs.Vec.{with_items}
use Rattle.pict_syntax.specs.declared.span.Span.{Span}
use Rattle.pict_core.specs.Step.{Label}
use Rattle.pict_core.specs.Term.{Process, New}
use Rattle.pict_code.specs.Instruction as op
use Rattle.pict_heap.specs.HeapState.{KeepsWords}
use Rattle.pict_queue.specs.QueuesState.{QueuesState}
use Rattle.pict_queue.specs.Contents.{contents, KeepsAllContents}
use Rattle.pict_view.specs.View.{View}
use Rattle.pict_view.specs.Moved.{Stops}
use Rattle.pict_view.specs.Placed.{next_view}
use Rattle.pict_desk.proofs.Making.{all_append}
use Rattle.pict_desk.proofs.MakingRoom.{keeps_words}
use Rattle.pict_desk.proofs.Nodes.{is_new, op_is}
use Rattle.pict_desk.proofs.Parts.{node_with, new_stands}
use Rattle.pict_desk.specs.Known.{known}
use Rattle.pict_picker.specs.declared.did.Did.{Did}
use Rattle.pict_picker.specs.declared.did.Did.TheVariants as did
use Rattle.pict_turns.specs.Acting.{HasActing, ActsBy, IsDone, IsRefused}
use Rattle.pict_turns.specs.Views.{view_with_turn}
use Rattle.pict_turns.specs.declared.store.Store.{Store}
use Rattle.pict_turns.proofs.Numbered.{standing}
use Rattle.pict_turns.proofs.Turns.{nobody_acts}
use Rattle.pict_turns.proofs.Given.{turn_given, refused_view}
use Rattle.pict_network.specs.Network.{Packet, Network}
use Rattle.pict_network.specs.Events.{Stepped, place, deed_in, home_of, act_at}
use Rattle.pict_network.specs.SiteView.{view_at, IsNoFork}
use Rattle.pict_network.proofs.Elsewhere.{Elsewhere}
use Rattle.pict_network.proofs.Viewing.{IsHere}
use Rattle.pict_sites.specs.Happening.{IsDid, IsDidBy}
use Rattle.pict_sites.specs.Passing.{GainsQueue}
use Rattle.pict_sites.specs.Views.{heap_in, count_channels, processes_in}
use Rattle.pict_sites.specs.Working.{acting_process, StandWhile, AreWorking}
use Rattle.pict_sites.specs.declared.sites.Sites.{Sites}
use Rattle.pict_sites.proofs.Acts.{turn_here, view_count, homes_count}
use Rattle.pict_sites.proofs.Lists.{set_cases}
use Rattle.pict_sites.proofs.Seen.{Turn, act_steps, act_stops, act_stays, opens_one, grown_elsewhere}
use Rattle.pict_sites.proofs.Stores.{site_stays, view_stays, view_grows, processes_stay}

-- a restriction is one
pub new_shape : (core : Process) (s : Store) (level part : ℕ) → ActsBy core s (op.New level part) → (q : Process) × (acting_process core s ≡ New q)
new_shape core s level part a =
    let st = standing core s (op.New level part) a in
    let n = st.part.around in
    let form = is_new a.number n level part st.part.process (op_is core a.number a.node st.part (op.New level part) st.at a.op_is) in
    (_, st.is ∙ ap (node_with n (known s.desk.heap s.desk.values.items)) form.is ∙ new_stands n (known s.desk.heap s.desk.values.items) form.p)

-- room for a queue more was made at each site, and nothing else changed there
abbrev pub Reserved : List QueuesState → List QueuesState → Type 0
Reserved before mid = (t : ℕ) (q : QueuesState) → slice_get mid t ≡ Some q → (p : QueuesState) × (slice_get before t ≡ Some p) × (q ≡ record p { spare_queues = q.spare_queues })

reserved_contents : (p q : QueuesState) → q ≡ record p { spare_queues = q.spare_queues } → KeepsAllContents p q
reserved_contents p q e queue = ap (λ (x : QueuesState). contents x queue) e

reserved_count : (p q : QueuesState) → q ≡ record p { spare_queues = q.spare_queues } → length q.queues ≡ length p.queues
reserved_count p q e = ap (λ (x : QueuesState). length x.queues) e

-- one site more
pub reserved_set : (before mid : List QueuesState) (s : ℕ) (new old : QueuesState) → Reserved before mid → slice_get mid s ≡ Some old → new ≡ record old { spare_queues = new.spare_queues } → Reserved before (slice_set mid s new)
reserved_set before mid s new old reserved at is t q got = elim (set_cases mid s t q new got) [
  | inl here ↦
      let x = reserved s old at in (
        x.0,
        ap (slice_get before) here.0 ∙ x.1,
        here.1 ∙ is ∙ ap (λ (y : QueuesState). record y { spare_queues = new.spare_queues }) x.2 ∙ ap (λ (k : ℕ). record x.0 { spare_queues = k }) (ap (λ (y : QueuesState). y.spare_queues) (sym here.1)),
      )
  | inr there ↦ reserved t q there.1
]

-- ---- a vector that was lent as a slice

module _ (v : Vec QueuesState Global) (lent mid : List QueuesState) (value : lent ≡ v.items) (count : length mid ≡ length lent) where
  pub kept_items : (with_items v mid).items ≡ mid
  kept_items = with_items_is v mid (count ∙ ap length value ∙ sym v.ok.0)

  pub kept_many : length (with_items v mid).items ≡ length v.items
  kept_many = ap length kept_items ∙ count ∙ ap length value

  pub kept_reserved : Reserved lent mid → Reserved v.items (with_items v mid).items
  kept_reserved same = subst (Reserved v.items) (sym kept_items) (subst (λ (xs : List QueuesState). Reserved xs mid) value same)

-- ---- a step that isn't made

module _ (core : Process) (s : ℕ) (n m : Sites) (w : AreWorking core s n) (acting : HasActing core n.store) (r : IsRefused core n.store m.store) (reserved : Reserved n.queues.items m.queues.items)
    (many : length m.queues.items ≡ length n.queues.items) (post : m.post ≡ n.post) (to : m.to.items ≡ n.to.items) (homes : m.homes.items ≡ n.homes.items) where
  keeps : KeepsWords (heap_in n) (heap_in m)
  keeps = keeps_words (heap_in n) (heap_in m) r.heap

  pub unopened_working : AreWorking core s m
  unopened_working = record {
    there = let low = w.there in omega (arith, low, many);
    store = r.store;
    channels = let e = ap length homes in let h = w.channels in let same = r.queues in omega (arith, e, h, same);
    others = λ t q apart at.
        let x = reserved t q at in
        let o = w.others t x.0 apart x.1 in (
          site_stays core n.store.desk m.store.desk x.0 o.0 keeps q (reserved_contents x.0 q x.2) (let e = reserved_count x.0 q x.2 in omega (arith, e)) r.store.pairs (ap length r.values),
          let e = ap length homes in let h = o.1 in let same = reserved_count x.0 q x.2 in omega (arith, e, h, same),
        );
    post = site_stays core n.store.desk m.store.desk n.post w.post keeps m.post (λ queue. ap (λ (x : QueuesState). contents x queue) post)
        (let e = ap (λ (x : QueuesState). length x.queues) post in omega (arith, e)) r.store.pairs (ap length r.values);
    directions = record {
      to = ap length to ∙ w.directions.to ∙ ap (λ (x : QueuesState). length (contents x 0)) (sym post);
      destinations = subst (λ (i : ℕ). AllByRecursion (λ d. d < i) m.to.items) (sym many) (subst (AllByRecursion (λ d. d < length n.queues.items)) (sym to) w.directions.destinations);
      homes = subst (λ (i : ℕ). AllByRecursion (λ d. d < i) m.homes.items) (sym many) (subst (AllByRecursion (λ d. d < length n.queues.items)) (sym homes) w.directions.homes);
      few = let few = w.directions.few in omega (arith, few, many);
    };
  }

  pub unopened_stand : (N : Network) → StandWhile core s n N → StandWhile core s m N
  unopened_stand N st = record {
    count = many ∙ st.count;
    own = refused_view core n.store n.store (turn_given core n.store acting.store (nobody_acts core n.store acting)) m.store r ∙ st.own;
    others = λ t q apart at.
        let x = reserved t q at in
        view_stays core n.store.desk m.store.desk x.0 (w.others t x.0 apart x.1).0 keeps q (reserved_contents x.0 q x.2) (reserved_count x.0 q x.2) ∙ st.others t x.0 apart x.1;
    packets = processes_stay core n.store.desk m.store.desk n.post w.post keeps m.post (ap (λ (x : QueuesState). contents x 0) post) ∙ st.packets;
    to = to ∙ st.to;
    homes = homes ∙ st.homes;
  }

-- ---- a step that is

-- a queue more, behind room for it
gained : (before mid last : List QueuesState) → Reserved before mid → ((t : ℕ) (q : QueuesState) → slice_get last t ≡ Some q → (p : QueuesState) × (slice_get mid t ≡ Some p) × GainsQueue p q)
    → (t : ℕ) (q : QueuesState) → slice_get last t ≡ Some q → (p : QueuesState) × (slice_get before t ≡ Some p) × GainsQueue p q
gained before mid last reserved gains t q at =
    let x = gains t q at in
    let y = reserved t x.0 x.1 in (
      y.0,
      y.1,
      record {
        contents = λ queue. x.2.contents queue ∙ reserved_contents y.0 x.0 y.2 queue;
        queues = let e = x.2.queues in let f = reserved_count y.0 x.0 y.2 in omega (arith, e, f);
      },
    )

module _ (core : Process) (s : ℕ) (n m : Sites) (w : AreWorking core s n) (acting : HasActing core n.store) (mid : List QueuesState) (reserved : Reserved n.queues.items mid)
    (gains : (t : ℕ) (q : QueuesState) → slice_get m.queues.items t ≡ Some q → (p : QueuesState) × (slice_get mid t ≡ Some p) × GainsQueue p q)
    (many : length m.queues.items ≡ length n.queues.items) (post : m.post ≡ n.post) (to : m.to.items ≡ n.to.items) (homes : m.homes.items ≡ n.homes.items ++ s ∷ [])
    (body : Process) (shape : acting_process core n.store ≡ New body) (N : Network) (st : StandWhile core s n N) where
  abbrev p : Process
  p = acting_process core n.store

  abbrev rest : List Process
  rest = processes_in core (heap_in n) n.store.queues

  abbrev turn : Turn s N p rest
  turn = turn_here core s n acting N st

  no_fork : IsNoFork p
  no_fork = subst IsNoFork (sym shape) tt

  here : IsHere s (home_of N.channels p)
  here = subst (λ x. IsHere s (home_of N.channels x)) (sym shape) tt

  -- it doesn't trap
  never : (at : Span) → next_view (view_with_turn core n.store) ≡ Stops at → ⊥
  never at e =
      let stops = act_stops s N p rest turn (inl no_fork) here at (ap next_view (sym st.own) ∙ e) in
      let steps = act_stays s N p rest turn here ∙ ap (λ x. place N s turn.first turn.others (deed_in N x)) (turn.is ∙ shape) in
      let same = sym stops ∙ steps in
      cc

  module _ (label : Label) (d : IsDone core n.store m.store label) where
    record Opens : Type 0 where
      last : Network
      happens : act_at N s ≡ Stepped last label
      own : view_with_turn core m.store ≡ view_at s last
      elsewhere : Elsewhere s (record { site = s; parked = [] } ∷ []) N last

    opens : Opens
    opens =
        let x = act_steps s N p rest turn (inl no_fork) here (view_with_turn core m.store) label (ap next_view (sym st.own) ∙ d.moves) in
        record {
          last = x.after;
          happens = x.happens;
          own = x.view_is;
          elsewhere = subst (λ ms. Elsewhere s ms N x.after) (opens_one s N p rest turn body shape) x.rest_is;
        }

    own_count : length m.store.queues.queues ≡ length n.store.queues.queues + 1
    own_count =
        let a = view_count core s m.store opens.last opens.own in
        let b = view_count core s n.store N st.own in
        let c = homes_count s N opens.last (record { site = s; parked = [] } ∷ []) opens.elsewhere in
        let low = d.store.ready in
        let first = acting.store.ready in
        omega (arith, a, b, c, low, first)

    one_channel : count_channels m ≡ count_channels n + 1
    one_channel = ap length homes ∙ length-append n.homes.items (s ∷ [])

    there : s < length m.queues.items
    there = let low = w.there in omega (arith, low, many)

    opened_working : AreWorking core s m
    opened_working = record {
      there = there;
      store = d.store;
      channels = let e = one_channel in let h = w.channels in let c = own_count in omega (arith, e, h, c);
      others = λ t q apart at.
          let x = gained n.queues.items mid m.queues.items reserved gains t q at in
          let o = w.others t x.0 apart x.1 in
          let more = x.2.queues in (
            site_stays core n.store.desk m.store.desk x.0 o.0 d.keeps q x.2.contents (omega (arith, more)) d.store.pairs d.levels,
            let e = one_channel in let h = o.1 in omega (arith, e, h, more),
          );
      post = site_stays core n.store.desk m.store.desk n.post w.post d.keeps m.post (λ queue. ap (λ (x : QueuesState). contents x queue) post)
          (let e = ap (λ (x : QueuesState). length x.queues) post in omega (arith, e)) d.store.pairs d.levels;
      directions = record {
        to = ap length to ∙ w.directions.to ∙ ap (λ (x : QueuesState). length (contents x 0)) (sym post);
        destinations = subst (λ (i : ℕ). AllByRecursion (λ g. g < i) m.to.items) (sym many) (subst (AllByRecursion (λ g. g < length n.queues.items)) (sym to) w.directions.destinations);
        homes = subst (AllByRecursion (λ g. g < length m.queues.items)) (sym homes)
            (all_append (λ g. g < length m.queues.items) n.homes.items (s ∷ []) (subst (λ (i : ℕ). AllByRecursion (λ g. g < i) n.homes.items) (sym many) w.directions.homes) (there, tt));
        few = let few = w.directions.few in omega (arith, few, many);
      };
    }

    opened_stand : StandWhile core s m opens.last
    opened_stand = record {
      count = many ∙ st.count ∙ sym opens.elsewhere.count;
      own = opens.own;
      others = λ t q apart at.
          let x = gained n.queues.items mid m.queues.items reserved gains t q at in
          view_grows core n.store.desk m.store.desk x.0 (w.others t x.0 apart x.1).0 d.keeps q x.2.contents x.2.queues
          ∙ ap (λ (v : View). record v { channels = v.channels ++ [] ∷ [] }) (st.others t x.0 apart x.1) ∙ sym (grown_elsewhere s N opens.last opens.elsewhere t apart);
      packets = processes_stay core n.store.desk m.store.desk n.post w.post d.keeps m.post (ap (λ (x : QueuesState). contents x 0) post) ∙ st.packets
          ∙ ap (map (λ (y : Packet). y.item.process)) (sym opens.elsewhere.packets);
      to = to ∙ st.to ∙ ap (map (λ (y : Packet). y.to)) (sym opens.elsewhere.packets);
      homes = homes ∙ ap (λ (hs : List ℕ). hs ++ s ∷ []) st.homes ∙ sym opens.elsewhere.homes;
    }

    opened_happens : (M : Network) × (act_at N s ≡ Stepped M label) × StandWhile core s m M
    opened_happens = (opens.last, opens.happens, opened_stand)

  pub did_opened : (d : Did) → IsDidBy core n.store m.store (Ok d) → AreWorking core s m
  did_opened did.Quiet is = opened_working _ is.0
  did_opened (did.Comm channel value) is = opened_working _ is.0
  did_opened (did.Print word) is = opened_working _ is.0
  did_opened (did.Trapped at) is = absurd (never at is.0)

  pub did_opens : (d : Did) → IsDidBy core n.store m.store (Ok d) → IsDid (heap_in m) (StandWhile core s m) N d (act_at N s)
  did_opens did.Quiet is = opened_happens _ is.0
  did_opens (did.Comm channel value) is = opened_happens _ is.0
  did_opens (did.Print word) is = opened_happens _ is.0
  did_opens (did.Trapped at) is = absurd (never at is.0)
