-- What the step of who has the turn makes of the sites.
use Rattle.std.proofs.Common.{ℕ, ◌≡◌, ◌≢◌, ◌<◌, ◌+◌, ◌-◌, false, true, nat_eq, ◌⊎◌, inl, inr, List, [], ◌∷◌, ◌++◌, map, length, refl, sym, ap, ◌∙◌, subst, Option, Some, None, Result, Ok, Err, IsErr, arith}
use Rattle.std.specs.List.{AllByRecursion}
use Rattle.std.proofs.lemmas.Bool.{false≢true}
use Rattle.std.specs.declared.alloc.AllocError.{AllocError}
use Rattle.std.specs.Prelude.{◌%◌}
use Rattle.std.proofs.lemmas.List.{length-append, length-map, length-set, append-nil}
use Rattle.std.proofs.lemmas.Nat.{mod_below}
use Rattle.std.proofs.lemmas.Bool.Decides.{nat_tests}
use Rattle.pict_core.specs.Step.{Label, Quiet}
use Rattle.pict_core.specs.Term.{Process}
use Rattle.pict_heap.specs.HeapState.{HeapState, KeepsWords}
use Rattle.pict_queue.specs.Contents.{contents}
use Rattle.pict_view.specs.View.{View}
use Rattle.pict_view.specs.Placed.{next_view}
use Rattle.pict_blocks.specs.Blocks.{process_of}
use Rattle.pict_desk.specs.Known.{value_in}
use Rattle.pict_desk.proofs.Making.{keeps_all}
use Rattle.pict_desk.proofs.MakingRoom.{keeps_words}
use Rattle.pict_picker.specs.declared.did.Did.{Did}
use Rattle.pict_picker.specs.declared.did.Did.TheVariants as did
use Rattle.pict_turns.specs.Acting.{IsStore, HasActing, IsRight, IsDone, IsRefused}
use Rattle.pict_turns.specs.Views.{channel_lists, acting_words, view_with_turn}
use Rattle.pict_turns.specs.declared.store.Store.{Store}
use Rattle.pict_turns.proofs.Rows.{length_lists}
use Rattle.pict_turns.proofs.Turns.{nobody_acts, view_is, set_aside, acting_block}
use Rattle.pict_turns.proofs.Given.{turn_given, refused_view}
use Rattle.pict_network.specs.Network.{Home, Network}
use Rattle.pict_network.specs.Events as events
use Rattle.pict_network.specs.Events.{Happening, Stepped, Stopped, Moved, sent, deed_in, home_of, act_at}
use Rattle.pict_network.specs.SiteView.{list_for, view_at, IsNoFork, IsNoOpening}
use Rattle.pict_network.proofs.Viewing.{IsHere, site_of}
use Rattle.pict_network.proofs.Elsewhere.{Elsewhere, no_opening}
use Rattle.pict_network.proofs.Moving.{each}
use Rattle.pict_sites.specs.Happening.{IsDid, IsDidBy, Happens}
use Rattle.pict_sites.specs.declared.happened.Happened.{Happened}
use Rattle.pict_sites.specs.Passing.{HoldsTheSame, Splits, Sends}
use Rattle.pict_sites.specs.Standing.{channel_at, other_home, home_in}
use Rattle.pict_sites.specs.Views.{heap_in, processes_in, IsSite}
use Rattle.pict_sites.specs.Working.{acting_process, StandWhile, AreWorking}
use Rattle.pict_sites.specs.declared.sites.Sites.{Sites}
use Rattle.pict_sites.proofs.Seen.{Turn, turn_of, home_same, here_of, away_of, act_goes, left_view, other_view, left, act_right, act_steps, act_stops, none_more, same_elsewhere, forked_to, act_forks, held_many, forked_view, forked_other}
use Rattle.pict_sites.proofs.Standings.{KeepsOthers, working_on, stand_on, working_more, stand_more}
use Rattle.pict_sites.proofs.Stores.{site_gains, processes_gain}

-- ---- who acts

module _ (core : Process) (s : ℕ) (n : Sites) (acting : HasActing core n.store) (N : Network) (st : StandWhile core s n N) where
  pub turn_here : Turn s N (acting_process core n.store) (processes_in core (heap_in n) n.store.queues)
  turn_here =
      turn_of s N (acting_process core n.store) (processes_in core (heap_in n) n.store.queues)
      (ap (λ (v : View). v.ready) (sym (view_is core n.store (acting_words core n.store) acting.has) ∙ st.own))

  pub stays_here : other_home s (home_in n.homes.items (channel_at (acting_process core n.store))) ≡ None → IsHere s (home_of N.channels (acting_process core n.store))
  stays_here e =
      subst (IsHere s) (sym (home_same N.channels (acting_process core n.store)))
      (here_of s (home_in (map site_of N.channels) (channel_at (acting_process core n.store)))
      (subst (λ (hs : List ℕ). other_home s (home_in hs (channel_at (acting_process core n.store))) ≡ None) st.homes e))

  one_site : length n.queues.items ≡ 1 → nat_eq (length N.sites) 1 ≡ true
  one_site one = let same : length N.sites ≡ 1 = sym st.count ∙ one in ap (λ i. nat_eq i 1) same

  pub forks_none : IsNoFork (acting_process core n.store) ⊎ (length n.queues.items ≡ 1) → IsNoFork (acting_process core n.store) ⊎ (nat_eq (length N.sites) 1 ≡ true)
  forks_none (inl a) = inl a
  forks_none (inr one) = inr (one_site one)

  pub step_right : IsNoFork (acting_process core n.store) ⊎ (length n.queues.items ≡ 1) → other_home s (home_in n.homes.items (channel_at (acting_process core n.store))) ≡ None
      → act_at N s ≢ events.Misshapen → IsRight core n.store
  step_right fork here right wrong =
      act_right s N (acting_process core n.store) (processes_in core (heap_in n) n.store.queues) turn_here (forks_none fork) (stays_here here) right
      (ap next_view (sym st.own) ∙ wrong)

-- ---- a refused step

pub refused_happens : (heap : HeapState) (Before After : Network → Type 0) (event : Network → Happening) (x : Result Happened AllocError) → IsErr x
    → ((N : Network) → Before N → After N) → Happens heap Before After event x
refused_happens heap Before After event (Ok v) is f = absurd (false≢true is)
refused_happens heap Before After event (Err y) is f = f

module _ (core : Process) (s : ℕ) (n m : Sites) (w : AreWorking core s n) (acting : HasActing core n.store) (r : IsRefused core n.store m.store)
    (queues : m.queues.items ≡ n.queues.items) (homes : m.homes.items ≡ n.homes.items) (same : HoldsTheSame n.post m.post) (to : m.to.items ≡ n.to.items) where
  refused_keeps : KeepsOthers n m
  refused_keeps = record {
    queues = queues;
    homes = homes;
    keeps = keeps_words (heap_in n) (heap_in m) r.heap;
    levels = ap length r.values;
    pairs = r.store.pairs;
  }

  pub refused_working : AreWorking core s m
  refused_working = working_on core s n m w refused_keeps r.store r.queues same to

  pub refused_stand : (N : Network) → StandWhile core s n N → StandWhile core s m N
  refused_stand N st =
      stand_on core s n m w refused_keeps r.store r.queues same to N N st
      (refused_view core n.store n.store (turn_given core n.store acting.store (nobody_acts core n.store acting)) m.store r ∙ st.own) (λ t apart. refl) refl refl refl

-- ---- a step at the site alone

-- as many channels are seen as there are queues for them
pub view_count : (core : Process) (s : ℕ) (x : Store) (N : Network) → view_with_turn core x ≡ view_at s N → length x.queues.queues - 1 ≡ length N.channels
view_count core s x N e =
    let f = process_of core (value_in x.desk.heap) in
    sym (length-map (channel_lists x.queues) (map f) ∙ length_lists x.queues 1 (length x.queues.queues - 1))
    ∙ ap (λ (v : View). length v.channels) e ∙ length-map N.channels (list_for s)

pub homes_count : (s : ℕ) (N M : Network) (more : List Home) → Elsewhere s more N M → length M.channels ≡ length N.channels + length more
homes_count s N M more e =
    sym (length-map M.channels site_of) ∙ ap length e.homes ∙ length-append (map site_of N.channels) (map site_of more)
    ∙ ap (λ i. i + length (map site_of more)) (length-map N.channels site_of) ∙ ap (λ i. length N.channels + i) (length-map more site_of)

module _ (core : Process) (s : ℕ) (n : Sites) (w : AreWorking core s n) (acting : HasActing core n.store) (new : Store) where
  abbrev after : Sites
  after = record n { store = new }

  module _ (label : Label) (d : IsDone core n.store new label) (N M : Network) (st : StandWhile core s n N) (own : view_with_turn core new ≡ view_at s M) (e : Elsewhere s [] N M) where
    done_count : length new.queues.queues ≡ length n.store.queues.queues
    done_count =
        let a = view_count core s new M own in
        let b = view_count core s n.store N st.own in
        let c = homes_count s N M [] e in
        let low = d.store.ready in
        let first = acting.store.ready in
        omega (arith, a, b, c, low, first)

    done_keeps : KeepsOthers n after
    done_keeps = record { queues = refl; homes = refl; keeps = d.keeps; levels = d.levels; pairs = d.store.pairs }

    no_change : HoldsTheSame n.post n.post
    no_change = record { contents = λ queue. refl; queues = refl }

    done_working : AreWorking core s after
    done_working = working_on core s n after w done_keeps d.store done_count no_change refl

    done_stand : StandWhile core s after M
    done_stand =
        stand_on core s n after w done_keeps d.store done_count no_change refl N M st own (same_elsewhere s N M e) e.count e.packets (e.homes ∙ append-nil (map site_of N.channels))

  module _ (fork : IsNoFork (acting_process core n.store) ⊎ (length n.queues.items ≡ 1)) (opening : IsNoOpening (acting_process core n.store))
      (here : other_home s (home_in n.homes.items (channel_at (acting_process core n.store))) ≡ None) (N : Network) (st : StandWhile core s n N) where
    abbrev p : Process
    p = acting_process core n.store

    abbrev rest : List Process
    rest = processes_in core (heap_in n) n.store.queues

    abbrev turn : Turn s N p rest
    turn = turn_here core s n acting N st

    -- what a step that is done comes to
    record Comes (label : Label) : Type 0 where
      last : Network
      happens : act_at N s ≡ Stepped last label
      own : view_with_turn core new ≡ view_at s last
      elsewhere : Elsewhere s [] N last

    comes : (label : Label) → IsDone core n.store new label → Comes label
    comes label d =
        let x = act_steps s N p rest turn (forks_none core s n acting N st fork) (stays_here core s n acting N st here) (view_with_turn core new) label (ap next_view (sym st.own) ∙ d.moves) in
        record {
          last = x.after;
          happens = x.happens;
          own = x.view_is;
          elsewhere = subst (λ ms. Elsewhere s ms N x.after) (none_more s N p rest turn (no_opening s N p opening)) x.rest_is;
        }

    refused_here : IsRefused core n.store new → AreWorking core s after
    refused_here r = refused_working core s n after w acting r refl refl (record { contents = λ queue. refl; queues = refl }) refl

    working_by : (label : Label) → IsDone core n.store new label → AreWorking core s after
    working_by label d = let x = comes label d in done_working label d N x.last st x.own x.elsewhere

    pub did_working : (d : Did) → IsDidBy core n.store new (Ok d) → AreWorking core s after
    did_working did.Quiet is = working_by _ is.0
    did_working (did.Comm channel value) is = working_by _ is.0
    did_working (did.Print word) is = working_by _ is.0
    did_working (did.Trapped at) is = refused_here is.1

    happens_by : (label : Label) → IsDone core n.store new label → (M : Network) × (act_at N s ≡ Stepped M label) × StandWhile core s after M
    happens_by label d = let x = comes label d in (x.last, x.happens, done_stand label d N x.last st x.own x.elsewhere)

    pub did_happens : (d : Did) → IsDidBy core n.store new (Ok d) → IsDid (heap_in after) (StandWhile core s after) N d (act_at N s)
    did_happens did.Quiet is = happens_by _ is.0
    did_happens (did.Comm channel value) is = happens_by _ is.0
    did_happens (did.Print word) is = happens_by _ is.0
    did_happens (did.Trapped at) is = (
      act_stops s N p rest turn (forks_none core s n acting N st fork) (stays_here core s n acting N st here) at (ap next_view (sym st.own) ∙ is.0),
      refused_stand core s n after w acting is.1 refl refl (record { contents = λ queue. refl; queues = refl }) refl N st,
    )

-- ---- a process that goes to another site

pub home_below : (homes : List ℕ) (o : Option ℕ) (g k : ℕ) → home_in homes o ≡ Some g → AllByRecursion (λ h. h < k) homes → g < k
home_below homes None g k e all = cc
home_below homes (Some c) g k e all = each (λ h. h < k) homes c g all e

module _ (core : Process) (s : ℕ) (n m : Sites) (w : AreWorking core s n) (acting : HasActing core n.store) (g : ℕ)
    (goes : other_home s (home_in n.homes.items (channel_at (acting_process core n.store))) ≡ Some g) (x : Sends core n m g) where
  sent_store : IsStore core m.store
  sent_store = subst (IsStore core) (sym x.store) (set_aside core n.store acting.store)

  sent_keeps : KeepsOthers n m
  sent_keeps = record {
    queues = ap (λ q. q.items) x.queues;
    homes = ap (λ h. h.items) x.homes;
    keeps = subst (λ (y : Store). KeepsWords (heap_in n) y.desk.heap) (sym x.store) (keeps_all (heap_in n));
    levels = ap (λ (y : Store). length y.desk.values.items) x.store;
    pairs = sent_store.pairs;
  }

  sent_count : length m.store.queues.queues ≡ length n.store.queues.queues
  sent_count = ap (λ (y : Store). length y.queues.queues) x.store

  sent_site : IsSite core m.store.desk m.post
  sent_site =
      subst (λ (y : Store). IsSite core y.desk m.post) (sym x.store)
      (site_gains core n.store.desk n.store.desk n.post w.post (keeps_all (heap_in n)) m.post (acting_words core n.store) x.post (acting_block core n.store acting) acting.store.pairs refl)

  sent_more : length (contents m.post 0) ≡ length (contents n.post 0) + 1
  sent_more = ap length x.post.last ∙ length-append (contents n.post 0) (acting_words core n.store ∷ [])

  below : g < length n.queues.items
  below =
      home_below n.homes.items (channel_at (acting_process core n.store)) g (length n.queues.items)
      (away_of s g (home_in n.homes.items (channel_at (acting_process core n.store))) goes).0 w.directions.homes

  pub sent_working : AreWorking core s m
  sent_working = working_more core s n m w sent_keeps sent_store sent_count sent_site sent_more g below x.destinations

  module _ (N : Network) (st : StandWhile core s n N) where
    abbrev q : Process
    q = acting_process core n.store

    abbrev others : List Process
    others = processes_in core (heap_in n) n.store.queues

    abbrev first : Turn s N q others
    first = turn_here core s n acting N st

    home_away : (home_of N.channels q ≡ Some g) × (nat_eq g s ≡ false)
    home_away =
        let a = away_of s g (home_in n.homes.items (channel_at q)) goes in
        (home_same N.channels q ∙ ap (λ (hs : List ℕ). home_in hs (channel_at q)) (sym st.homes) ∙ a.0, a.1)

    sent_own : view_with_turn core m.store ≡ view_at s (left s N q others first)
    sent_own =
        ap (view_with_turn core) x.store ∙ ap (λ (v : View). record v { ready = others }) st.own ∙ sym (left_view s N q others first)

    sent_last : processes_in core (heap_in m) m.post ≡ processes_in core (heap_in n) n.post ++ first.first.process ∷ []
    sent_last =
        ap (λ (y : Store). processes_in core y.desk.heap m.post) x.store
        ∙ processes_gain core n.store.desk n.store.desk n.post w.post (keeps_all (heap_in n)) m.post (acting_words core n.store) x.post.last
        ∙ ap (λ (r : Process). processes_in core (heap_in n) n.post ++ r ∷ []) (sym first.is)

    pub sent_moves : (M : Network) × (act_at N s ≡ Moved M) × StandWhile core s m M
    sent_moves =
        let M = sent g first.first (left s N q others first) in (
          M,
          act_goes s N q others first g home_away.0 home_away.1,
          stand_more core s n m w sent_keeps sent_store sent_count sent_site sent_more g below x.destinations N M first.first st sent_own
              (λ t apart. other_view s N q others first t first.others apart) (left_many) refl refl sent_last,
        )
      where
        left_many : length (left s N q others first).sites ≡ length N.sites
        left_many = length-set N.sites s first.others

-- ---- a fork

module _ (core : Process) (s : ℕ) (n m : Sites) (w : AreWorking core s n) (acting : HasActing core n.store) (x : Splits core n.store m.store n.post m.post)
    (queues : m.queues.items ≡ n.queues.items) (homes : m.homes.items ≡ n.homes.items) (to : m.to.items ≡ n.to.items ++ ((s + 1) % length n.queues.items) ∷ []) where
  split_keeps : KeepsOthers n m
  split_keeps = record { queues = queues; homes = homes; keeps = x.keeps; levels = x.levels; pairs = x.store.pairs }

  next_below : (s + 1) % length n.queues.items < length n.queues.items
  next_below = let low = w.there in mod_below (s + 1) (length n.queues.items) (omega (arith, low))

  pub split_working : AreWorking core s m
  split_working = working_more core s n m w split_keeps x.store x.queues x.site x.more ((s + 1) % length n.queues.items) next_below to

  module _ (several : length n.queues.items ≢ 1) (N : Network) (st : StandWhile core s n N) where
    abbrev forker : Process
    forker = acting_process core n.store

    abbrev behind : List Process
    behind = processes_in core (heap_in n) n.store.queues

    abbrev before : Turn s N forker behind
    before = turn_here core s n acting N st

    not_one : nat_eq (length N.sites) 1 ≡ false
    not_one = let same = st.count in let apart : length N.sites ≢ 1 = λ one. several (same ∙ one) in grind (arith, nat_tests)

    abbrev M : Network
    M = forked_to s N forker behind before x.left x.right x.was not_one

    split_own : view_with_turn core m.store ≡ view_at s M
    split_own =
        x.ready ∙ ap (λ (v : View). record v { ready = x.left ∷ behind }) st.own ∙ sym (forked_view s N forker behind before x.left x.right x.was not_one)

    pub split_happens : (K : Network) × (act_at N s ≡ Stepped K Quiet) × StandWhile core s m K
    split_happens =
        let many = held_many s N forker behind before x.left x.right x.was not_one in (
          M,
          act_forks s N forker behind before x.left x.right x.was not_one,
          stand_more core s n m w split_keeps x.store x.queues x.site x.more ((s + 1) % length n.queues.items) next_below to N M
              (record { stamp = N.next_stamp; process = x.right }) st split_own (forked_other s N forker behind before x.left x.right x.was not_one) many
              (ap (λ (i : ℕ). N.packets ++ record { to = (s + 1) % i; item = record { stamp = N.next_stamp; process = x.right } } ∷ []) (many ∙ sym st.count)) refl x.last,
        )
