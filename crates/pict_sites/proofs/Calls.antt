-- A call of a primitive at the only site: five steps of its view are five events.
use Rattle.std.proofs.Common.{ℕ, ◌≡◌, ◌<◌, ◌+◌, true, nat_eq, inr, List, [], ◌∷◌, ◌++◌, map, length, refl, sym, ap, ◌∙◌, subst, Option, Some, None, Result, Ok, Err, IsErr, slice_get, arith}
use Rattle.std.specs.List.{AllByRecursion}
use Rattle.std.proofs.lemmas.Bool.{false≢true}
use Rattle.std.specs.declared.alloc.AllocError.{AllocError}
use Rattle.std.proofs.lemmas.List.{length-append, length-map}
use Rattle.std.proofs.lemmas.Option.{slice_get_within}
use Rattle.rand_pcg.specs.Lcg.{Lcg}
use Rattle.pict_core.specs.Deed.{Deed, Ends, Keeps, Forks, Opens, Parks, Serves, Takes, Stops, Misfits}
use Rattle.pict_core.specs.Step.{Label, Quiet, Comm}
use Rattle.pict_core.specs.Term.{Process}
use Rattle.pict_heap.specs.HeapState.{value_of}
use Rattle.pict_heap.specs.declared.word.Word.{Word}
use Rattle.pict_queue.specs.QueuesState.{QueuesState}
use Rattle.pict_queue.specs.Contents.{contents}
use Rattle.pict_view.specs.View.{View}
use Rattle.pict_view.specs.Moved as view
use Rattle.pict_view.specs.Placed.{next_view}
use Rattle.pict_desk.specs.Known.{value_in}
use Rattle.pict_desk.proofs.Making.{all_append}
use Rattle.pict_desk.proofs.MakingRoom.{keeps_words}
use Rattle.pict_picker.specs.declared.did.Did.{Did}
use Rattle.pict_picker.specs.declared.did.Did.TheVariants as did
use Rattle.pict_turns.specs.Reserving.{OnlyReserves}
use Rattle.pict_turns.specs.Views.{view_with_turn}
use Rattle.pict_turns.proofs.Room.{store_still, view_still}
use Rattle.pict_acting.specs.Chain.{MakesCall}
use Rattle.pict_acting.specs.declared.chain.Received.{Received}
use Rattle.pict_network.specs.Network.{Item, Packet, Network}
use Rattle.pict_network.specs.Events.{Stepped, processes_of, deed_in, home_of, act_at}
use Rattle.pict_network.specs.Runs.{Chooses, at_start, by_step, choice, next_happening}
use Rattle.pict_network.specs.SiteView.{view_at}
use Rattle.pict_network.proofs.Elsewhere.{more_of}
use Rattle.pict_network.proofs.Viewing.{IsHere, site_of, one_viewed}
use Rattle.pict_sites.specs.Alone.{IsCalled}
use Rattle.pict_sites.specs.Passing.{HoldsTheSame}
use Rattle.pict_sites.specs.Runs.{AreNext}
use Rattle.pict_sites.specs.Standing.{channel_at, home_in}
use Rattle.pict_sites.specs.Views.{heap_in, count_channels}
use Rattle.pict_sites.specs.Working.{StandWhile, AreWorking}
use Rattle.pict_sites.specs.declared.happened.Happened.TheVariants as happened
use Rattle.pict_sites.specs.declared.sites.Sites.{Sites}
use Rattle.pict_sites.proofs.Acts.{home_below, view_count}
use Rattle.pict_sites.proofs.Lists.{one_of}
use Rattle.pict_sites.proofs.Only.{no_packet, at_home, act_is_next, draws_none}
use Rattle.pict_sites.proofs.Seen.{Turn, home_same, here_of, act_steps}
use Rattle.pict_sites.proofs.Standings.{KeepsOthers, working_on, stand_on}
use Rattle.pict_sites.proofs.Stores.{site_stays, processes_stay}

-- ---- networks of one site

-- There is one site, at which all channels are at home, and nothing is on its way.
record IsOnly (N : Network) : Type 0 where
  one : length N.sites ≡ 1
  none : N.packets ≡ []
  homes : AllByRecursion (λ h. h < 1) (map site_of N.channels)

more_here : (d : Deed) → AllByRecursion (λ h. h < 1) (map site_of (more_of 0 d))
more_here (Ends label) = tt
more_here (Keeps p label) = tt
more_here (Forks p q) = tt
more_here (Opens p) = (omega arith, tt)
more_here (Parks c p) = tt
more_here (Serves c v replicated reader body) = tt
more_here (Takes c v replicated body) = tt
more_here (Stops at) = tt
more_here Misfits = tt

-- what a step of the site's view comes to
record Comes (N : Network) (v : View) (label : Label) : Type 0 where
  last : Network
  happens : act_at N 0 ≡ Stepped last label
  own : v ≡ view_at 0 last
  only : IsOnly last

module _ (N : Network) (k : IsOnly N) where
  one_site : nat_eq (length N.sites) 1 ≡ true
  one_site = ap (λ (i : ℕ). nat_eq i 1) k.one

  stays : (p : Process) → IsHere 0 (home_of N.channels p)
  stays p =
      let homes = map site_of N.channels in
      subst (IsHere 0) (sym (home_same N.channels p))
      (here_of 0 (home_in homes (channel_at p)) (at_home (home_in homes (channel_at p)) (λ g e. home_below homes (channel_at p) g 1 e k.homes)))

  comes_by : (v : View) (label : Label) → next_view (view_at 0 N) ≡ view.Moves v label → (o : Option (List Item)) → slice_get N.sites 0 ≡ o → Comes N v label
  comes_by v label moves None at = let over : next_view (view_at 0 N) ≡ view.Over = one_viewed N one_site 0 None at in let same = sym over ∙ moves in cc
  comes_by v label moves (Some []) at = let over : next_view (view_at 0 N) ≡ view.Over = one_viewed N one_site 0 (Some []) at in let same = sym over ∙ moves in cc
  comes_by v label moves (Some (x ∷ rest)) at =
      let turn : Turn 0 N x.process (processes_of rest) = record { first = x; others = rest; at = at; is = refl; are = refl } in
      let s = act_steps 0 N x.process (processes_of rest) turn (inr one_site) (stays x.process) v label moves in
      record {
        last = s.after;
        happens = s.happens;
        own = s.view_is;
        only = record {
          one = s.rest_is.count ∙ k.one;
          none = s.rest_is.packets ∙ k.none;
          homes = subst (AllByRecursion (λ h. h < 1)) (sym s.rest_is.homes)
              (all_append (λ h. h < 1) (map site_of N.channels) (map site_of (more_of 0 (deed_in N x.process))) k.homes (more_here (deed_in N x.process)));
        };
      }

  comes : (v : View) (label : Label) → next_view (view_at 0 N) ≡ view.Moves v label → Comes N v label
  comes v label moves = comes_by v label moves (slice_get N.sites 0) refl

  -- its act is the event that is chosen, without a word
  chosen_act : (g : Lcg) → next_happening N g ≡ act_at N 0
  chosen_act g = let s = one_of N.sites k.one in act_is_next N s.0 s.1 k.none g

  draws_no_word : (g : Lcg) → (choice N g).1 ≡ g
  draws_no_word g = let s = one_of N.sites k.one in ap (λ (z : ℕ × Lcg). z.1) (draws_none N s.0 s.1 k.none g)

-- one quiet step more
quiet_more : (N M : Network) (g : Lcg) (n : ℕ) → IsOnly M → (v : View) (c : Comes M v Quiet) → Chooses N g n n [] M g → Chooses N g (n + 1) (n + 1) [] c.last g
quiet_more N M g n k v c chooses =
    subst (Chooses N g (n + 1) (n + 1) [] c.last) (draws_no_word M k g) (by_step chooses (chosen_act M k g ∙ c.happens))

-- ---- homes of the only site

same_homes : (xs ys : List ℕ) → AllByRecursion (λ h. h < 1) xs → AllByRecursion (λ h. h < 1) ys → length xs ≡ length ys → xs ≡ ys
same_homes [] [] a b e = refl
same_homes [] (y ∷ ys) a b e = absurd (omega (arith, e))
same_homes (x ∷ xs) [] a b e = absurd (omega (arith, e))
same_homes (x ∷ xs) (y ∷ ys) a b e =
    let low = a.0 in
    let also = b.0 in
    let head : x ≡ y = omega (arith, low, also) in
    ap (λ z. z ∷ xs) head ∙ ap (λ zs. y ∷ zs) (same_homes xs ys a.1 b.1 (omega (arith, e)))

-- ---- the call is made

module _ (core : Process) (n m : Sites) (w : AreWorking core 0 n) (one : length n.queues.items ≡ 1) (none : length n.to.items ≡ 0) (r : Received) (c : MakesCall core n.store m.store r)
    (queues : m.queues ≡ n.queues) (post : m.post ≡ n.post) (to : m.to ≡ n.to) (homes : m.homes.items ≡ n.homes.items ++ 0 ∷ []) where
  count : length m.queues.items ≡ 1
  count = ap (λ qs. length qs.items) queues ∙ one

  channels : count_channels m ≡ count_channels n + 1
  channels = ap length homes ∙ length-append n.homes.items (0 ∷ [])

  homes_here : AllByRecursion (λ h. h < 1) m.homes.items
  homes_here =
      subst (AllByRecursion (λ h. h < 1)) (sym homes)
      (all_append (λ h. h < 1) n.homes.items (0 ∷ []) (subst (λ (k : ℕ). AllByRecursion (λ h. h < k) n.homes.items) one w.directions.homes) (omega arith, tt))

  alone : {P : Type 0} (t : ℕ) (q : QueuesState) → ¬ (t ≡ 0) → slice_get m.queues.items t ≡ Some q → P
  alone t q apart at = let low = slice_get_within m.queues.items t q at in let e = count in absurd (apart (omega (arith, low, e)))

  pub called_working : AreWorking core 0 m
  called_working = record {
    there = let e = count in omega (arith, e);
    store = c.store;
    channels = let more = c.queues in let e = channels in let own = w.channels in omega (arith, more, e, own);
    others = λ t q apart at. alone t q apart at;
    post = site_stays core n.store.desk m.store.desk n.post w.post c.keeps m.post (λ queue. ap (λ (q : QueuesState). contents q queue) post)
        (let e = ap (λ (q : QueuesState). length q.queues) post in omega (arith, e)) c.store.pairs c.levels;
    directions = record {
      to = ap (λ ts. length ts.items) to ∙ w.directions.to ∙ ap (λ (q : QueuesState). length (contents q 0)) (sym post);
      destinations = subst (λ (k : ℕ). AllByRecursion (λ t. t < k) m.to.items) (one ∙ sym count)
          (subst (λ ts. AllByRecursion (λ t. t < length n.queues.items) ts.items) (sym to) w.directions.destinations);
      homes = subst (λ (k : ℕ). AllByRecursion (λ h. h < k) m.homes.items) (sym count) homes_here;
      few = let e = count in omega (arith, e);
    };
  }

  module _ (N : Network) (st : StandWhile core 0 n N) where
    first : IsOnly N
    first = record {
      one = sym st.count ∙ one;
      none = no_packet core n one none N st;
      homes = subst (AllByRecursion (λ h. h < 1)) st.homes (subst (λ (k : ℕ). AllByRecursion (λ h. h < k) n.homes.items) one w.directions.homes);
    }

    opens : Comes N c.opened Quiet
    opens = comes N first c.opened Quiet (ap next_view (sym st.own) ∙ c.opens)

    forks : Comes opens.last c.forked Quiet
    forks = comes opens.last opens.only c.forked Quiet (ap next_view (sym opens.own) ∙ c.forks)

    waits : Comes forks.last c.waiting Quiet
    waits = comes forks.last forks.only c.waiting Quiet (ap next_view (sym forks.own) ∙ c.waits)

    answers : Comes waits.last c.answered Quiet
    answers = comes waits.last waits.only c.answered Quiet (ap next_view (sym waits.own) ∙ c.answers)

    receives : Comes answers.last (view_with_turn core m.store) (Comm r.channel (value_in (heap_in m) r.value.0 r.value.1))
    receives = comes answers.last answers.only (view_with_turn core m.store) _ (ap next_view (sym answers.own) ∙ c.receives)

    quietly : (g : Lcg) → Chooses N g 4 4 [] answers.last g
    quietly g =
        quiet_more N waits.last g 3 waits.only c.answered answers
        (quiet_more N forks.last g 2 forks.only c.waiting waits (quiet_more N opens.last g 1 opens.only c.forked forks (quiet_more N N g 0 first c.opened opens at_start)))

    last_homes : m.homes.items ≡ map site_of receives.last.channels
    last_homes =
        same_homes m.homes.items (map site_of receives.last.channels) homes_here receives.only.homes
        (let many = view_count core 0 m.store receives.last receives.own in
        let more = called_working.channels in
        let e = length-map receives.last.channels site_of in
        omega (arith, many, more, e))

    called_stand : StandWhile core 0 m receives.last
    called_stand = record {
      count = count ∙ sym receives.only.one;
      own = receives.own;
      others = λ t q apart at. alone t q apart at;
      packets = processes_stay core n.store.desk m.store.desk n.post w.post c.keeps m.post (ap (λ (q : QueuesState). contents q 0) post) ∙ st.packets
          ∙ ap (map (λ (p : Packet). p.item.process)) (first.none ∙ sym receives.only.none);
      to = ap (λ ts. ts.items) to ∙ st.to ∙ ap (map (λ (p : Packet). p.to)) (first.none ∙ sym receives.only.none);
      homes = last_homes;
    }

    pub called_next : (g : Lcg) (word : Word) → value_of (heap_in m) word ≡ value_in (heap_in m) r.value.0 r.value.1
        → AreNext (heap_in m) (StandWhile core 0 m) N g g (record { quiet = 4; last = Some (happened.Stepped (did.Comm r.channel word)) })
    called_next g word is = (
      record { network = answers.last; generator = g; chooses = quietly g },
      (
        (receives.last, chosen_act answers.last answers.only g ∙ receives.happens ∙ ap (λ v. Stepped receives.last (Comm r.channel v)) (sym is), called_stand),
        sym (draws_no_word answers.last answers.only g),
      ),
    )

-- ---- it isn't made

pub still_called : (core : Process) (n m : Sites) (most : ℕ) (x : Result (Option Did) AllocError) → IsErr x → ((N : Network) → StandWhile core 0 n N → StandWhile core 0 m N) → IsCalled core n m most x
still_called core n m most (Ok d) is f = absurd (false≢true is)
still_called core n m most (Err e) is f = f

-- what the answer says in each case
pub some_called : (core : Process) (n m : Sites) (most : ℕ) (x : Result (Option Did) AllocError) (d : Did) → x ≡ Ok (Some d) → IsCalled core n m most x → IsCalled core n m most (Ok (Some d))
some_called core n m most x d e is = subst (IsCalled core n m most) e is

pub none_called : (core : Process) (n m : Sites) (most : ℕ) (x : Result (Option Did) AllocError) → x ≡ Ok None → IsCalled core n m most x → (N : Network) → StandWhile core 0 n N → StandWhile core 0 m N
none_called core n m most x e is = subst (IsCalled core n m most) e is

module _ (core : Process) (n m : Sites) (w : AreWorking core 0 n) (only : OnlyReserves n.store m.store) (queues : m.queues ≡ n.queues) (post : m.post ≡ n.post) (to : m.to ≡ n.to)
    (homes : m.homes.items ≡ n.homes.items) where
  reserved_keeps : KeepsOthers n m
  reserved_keeps = record {
    queues = ap (λ qs. qs.items) queues;
    homes = homes;
    keeps = keeps_words (heap_in n) (heap_in m) only.heap;
    levels = ap length only.values;
    pairs = (store_still core n.store m.store only w.store).pairs;
  }

  same_post : HoldsTheSame n.post m.post
  same_post = record { contents = λ queue. ap (λ (q : QueuesState). contents q queue) post; queues = ap (λ (q : QueuesState). length q.queues) post }

  pub reserved_working : AreWorking core 0 m
  reserved_working = working_on core 0 n m w reserved_keeps (store_still core n.store m.store only w.store) (ap length only.queues) same_post (ap (λ ts. ts.items) to)

  pub reserved_stand : (N : Network) → StandWhile core 0 n N → StandWhile core 0 m N
  reserved_stand N st =
      stand_on core 0 n m w reserved_keeps (store_still core n.store m.store only w.store) (ap length only.queues) same_post (ap (λ ts. ts.items) to) N N st
      (view_still core n.store m.store only ∙ st.own) (λ t apart. refl) refl refl refl
