-- The only site: what happens there is the next event, whatever is chosen.
use Rattle.std.proofs.Common.{ℕ, zero, suc, ◌≡◌, ◌≢◌, ◌≤◌, ◌<◌, ◌↔◌, Bool, true, false, not, IsTrue, List, [], ◌∷◌, ◌++◌, length, map, refl, sym, ap, ◌∙◌, subst, Option, Some, None, slice_get, arith}
use Rattle.std.proofs.lemmas.Bool.{false≢true}
use Rattle.std.proofs.lemmas.List.{length-map}
use Rattle.rand_pcg.specs.Lcg.{Lcg}
use Rattle.pict_core.specs.Term.{Process}
use Rattle.pict_code.specs.Plain.{plain_code}
use Rattle.pict_code.specs.declared.instruction.Node.{Node}
use Rattle.pict_heap.specs.HeapState.{HeapState, KeepsWords}
use Rattle.pict_queue.specs.Contents.{contents}
use Rattle.pict_view.specs.View.{View}
use Rattle.pict_blocks.specs.Blocks.{process_of}
use Rattle.pict_desk.specs.Code as code
use Rattle.pict_desk.specs.Constants.{AreConstants}
use Rattle.pict_desk.specs.Known.{value_in}
use Rattle.pict_desk.proofs.MadeOnce.{constants_keep}
use Rattle.pict_desk.proofs.Making.{keeps_all}
use Rattle.pict_turns.specs.Views.{view_with_turn}
use Rattle.pict_turns.specs.declared.store.Store.{Store}
use Rattle.pict_turns.specs.declared.turn.Turn.TheVariants.{Nobody}
use Rattle.pict_turns.proofs.Turns.{words_nobody, view_nobody}
use Rattle.pict_turns.specs.Stepping.{GivesTurn}
use Rattle.pict_turns.proofs.Given.{some_ready, given_view}
use Rattle.pict_seed.specs.Stream.{chosen}
use Rattle.pict_seed.proofs.Choosing.{chosen_few}
use Rattle.pict_network.specs.Network.{Item, Packet, Network}
use Rattle.pict_network.specs.Events.{Event, items_in, processes_of, act_of, act_at, acts_from, deliveries_from, events, happening_of, happening_at}
use Rattle.pict_network.specs.Runs.{choice, next_happening}
use Rattle.pict_sites.specs.Alone.{IsAlone}
use Rattle.pict_sites.specs.Happening.{IsHappened, IsNext}
use Rattle.pict_sites.specs.Network.{heap_of}
use Rattle.pict_sites.specs.declared.happened.Happened.{Happened}
use Rattle.pict_sites.specs.Passing.{HoldsTheSame}
use Rattle.pict_sites.specs.Standing.{other_home, home_in}
use Rattle.pict_sites.specs.Views.{heap_in}
use Rattle.pict_sites.specs.Working.{StandWhile, AreWorking}
use Rattle.pict_sites.specs.declared.network.Network.{Network as Blocks}
use Rattle.pict_sites.specs.declared.sites.Sites.{Sites}
use Rattle.pict_sites.proofs.Acts.{home_below}
use Rattle.pict_sites.proofs.Lists.{none_of, one_of}
use Rattle.pict_sites.proofs.Standings.{KeepsOthers, working_on, stand_on}

-- ---- the only event

at_most_one : (items : List Item) → length (acts_from 0 (items ∷ []) ++ []) ≤ 1
at_most_one [] = omega arith
at_most_one (x ∷ items) = omega arith

acts_first : (N : Network) (items : List Item) → N.sites ≡ items ∷ [] → happening_of N (slice_get (acts_from 0 (items ∷ []) ++ []) 0) ≡ act_at N 0
acts_first N [] sites = sym (ap (λ (z : List (List Item)). act_of N 0 (slice_get z 0)) sites)
acts_first N (x ∷ items) sites = refl

module _ (N : Network) (items : List Item) (sites : N.sites ≡ items ∷ []) (packets : N.packets ≡ []) where
  only : events N ≡ acts_from 0 (items ∷ []) ++ []
  only =
      ap (λ (z : List (List Item)). acts_from 0 z ++ deliveries_from 0 N.packets) sites
      ∙ ap (λ (z : List Packet). acts_from 0 (items ∷ []) ++ deliveries_from 0 z) packets

  pub draws_none : (g : Lcg) → choice N g ≡ (0, g)
  draws_none g = ap (λ (z : List Event). chosen (length z) g) only ∙ chosen_few (length (acts_from 0 (items ∷ []) ++ [])) g (at_most_one items)

  pub act_is_next : (g : Lcg) → next_happening N g ≡ act_at N 0
  act_is_next g =
      ap (λ (z : ℕ × Lcg). happening_at N z.0) (draws_none g) ∙ ap (λ (z : List Event). happening_of N (slice_get z 0)) only ∙ acts_first N items sites

over_by : (b : Bool) (items : List Item) → IsTrue b ↔ (processes_of items ≢ []) → IsTrue (not b) ↔ (length (acts_from 0 (items ∷ []) ++ []) ≡ 0)
over_by true [] e = absurd (e.0 refl refl)
over_by false [] e = (λ t. refl, λ t. refl)
over_by true (x ∷ items) e = (λ t. absurd (false≢true t), λ t. absurd (omega (arith, t)))
over_by false (x ∷ items) e = absurd (false≢true (e.1 (λ none. cc)))

module _ (core : Process) (n : Sites) (one : length n.queues.items ≡ 1) (none : length n.to.items ≡ 0) (N : Network) (st : StandWhile core 0 n N) where
  only_site : (items : List Item) × (N.sites ≡ items ∷ [])
  only_site = one_of N.sites (sym st.count ∙ one)

  pub no_packet : N.packets ≡ []
  no_packet = none_of N.packets (sym (length-map N.packets (λ (p : Packet). p.to)) ∙ sym (ap length st.to) ∙ none)

  pub acts_next : (g : Lcg) → next_happening N g ≡ act_at N 0
  acts_next g = act_is_next N only_site.0 only_site.1 no_packet g

  -- what happens at the site is the event that is chosen, without a word
  pub is_next : (heap : HeapState) (After : Network → Type 0) (x : Happened) (g : Lcg) → IsHappened heap After N x (act_at N 0) → IsNext heap After N g g (Some x)
  is_next heap After x g h = (
    subst (IsHappened heap After N x) (sym (acts_next g)) h,
    sym (ap (λ (z : ℕ × Lcg). z.1) (draws_none N only_site.0 only_site.1 no_packet g)),
  )

  ready_items : (view_with_turn core n.store).ready ≡ processes_of only_site.0
  ready_items =
      ap (λ (v : View). v.ready) st.own ∙ ap (λ (z : List (List Item)). processes_of (items_in (slice_get z 0))) only_site.1

  -- no event is possible exactly where nobody is ready
  pub over : (b : Bool) → IsTrue b ↔ ((view_with_turn core n.store).ready ≢ []) → IsTrue (not b) ↔ (length (events N) ≡ 0)
  over b e =
      subst (λ (es : List Event). IsTrue (not b) ↔ (length es ≡ 0)) (sym (only N only_site.0 only_site.1 no_packet))
      (over_by b only_site.0 (subst (λ (ps : List Process). IsTrue b ↔ (ps ≢ [])) ready_items e))

  pub none_next : (b : Bool) → IsTrue b ↔ ((view_with_turn core n.store).ready ≢ []) → b ≡ false → events N ≡ []
  none_next b e f = none_of (events N) ((over b e).0 (ap not f))

-- ---- homes

pub at_home : (o : Option ℕ) → ((g : ℕ) → o ≡ Some g → g < 1) → other_home 0 o ≡ None
at_home None low = refl
at_home (Some zero) low = refl
at_home (Some (suc g)) low = let l = low (suc g) refl in absurd (omega (arith, l))

-- each channel is at home at the only site
pub stays_home : (core : Process) (n : Sites) → AreWorking core 0 n → length n.queues.items ≡ 1 → (o : Option ℕ) → other_home 0 (home_in n.homes.items o) ≡ None
stays_home core n w one o =
    at_home (home_in n.homes.items o) (λ g e. subst (λ (k : ℕ). g < k) one (home_below n.homes.items o g (length n.queues.items) e w.directions.homes))

-- ---- somebody has the turn

ready_map : {X Y : Type 0} (f : X → Y) (xs : List X) → map f xs ≡ [] → xs ≡ []
ready_map f [] e = refl
ready_map f (x ∷ xs) e = cc

-- where nobody has the turn, somebody is ready where queue 0 has a block
pub ready_idle : (core : Process) (s : Store) → s.turn ≡ Nobody → (b : Bool) → IsTrue b ↔ (contents s.queues 0 ≢ []) → IsTrue b ↔ ((view_with_turn core s).ready ≢ [])
ready_idle core s idle b e = (
  λ t none. e.0 t (ready_map (process_of core (value_in s.desk.heap)) (contents s.queues 0) (sym (ap (λ (v : View). v.ready) (view_nobody core s (words_nobody core s idle))) ∙ none)),
  λ some. e.1 (some_ready core s idle some),
)

-- sites where somebody has the turn that was the first there
module _ (core : Process) (s : ℕ) (n : Sites) (w : AreWorking core s n) (new : Store) (g : GivesTurn core n.store new) (levels : length new.desk.values.items ≡ length n.store.desk.values.items) where
  abbrev pub given : Sites
  given = record n { store = new }

  given_keeps : KeepsOthers n given
  given_keeps = record {
    queues = refl;
    homes = refl;
    keeps = subst (KeepsWords (heap_in n)) (sym g.heap) (keeps_all (heap_in n));
    levels = levels;
    pairs = g.acting.store.pairs;
  }

  post_same : HoldsTheSame n.post n.post
  post_same = record { contents = λ queue. refl; queues = refl }

  pub given_working : AreWorking core s given
  given_working = working_on core s n given w given_keeps g.acting.store g.queues post_same refl

  pub given_stand : (N : Network) → StandWhile core s n N → StandWhile core s given N
  given_stand N st =
      stand_on core s n given w given_keeps g.acting.store g.queues post_same refl N N st (given_view core n.store new g ∙ st.own) (λ t apart. refl) refl refl refl

-- what holds of the only site holds after an act, whether it was refused or not
pub alone_still : (n : Blocks) → IsAlone n → (given : HeapState) → given ≡ heap_of n → (m : Sites) → KeepsWords given (heap_in m) → (nodes : List Node) → nodes ≡ n.code.nodes.items
    → AreWorking (code.core_in nodes) 0 m → length m.queues.items ≡ length n.sites.queues.items → m.to.items ≡ n.sites.to.items → IsAlone (record n { sites = m })
alone_still n k given heap m keeps nodes is working count to = record {
  code = k.code;
  constants = constants_keep given (heap_in m) keeps (plain_code n.code) n.constants.items
      (subst (λ (h : HeapState). AreConstants h (plain_code n.code) n.constants.items) (sym heap) k.constants);
  sites = subst (λ (xs : List Node). AreWorking (code.core_in xs) 0 m) is working;
  one = count ∙ k.one;
  none = ap length to ∙ k.none;
}
