-- What a machine stands for before its first step.
use Rattle.std.proofs.Common.{ℕ, ◌+◌, ◌-◌, ◌≤◌, ◌≡◌, ◌≢◌, false, cond, nat_lt, inl, List, [], ◌∷◌, length, replicate, refl, sym, ap, ◌∙◌, subst, arith, Some, ⊎_elim}
use Rattle.std.proofs.lemmas.Bool.{cases_eq}
use Rattle.std.proofs.lemmas.List.{length-replicate}
use Rattle.std.proofs.lemmas.Bool.Decides.{nat_tests}
use Rattle.std.specs.List.{AllByRecursion, slice_get}
use Rattle.pict_core.specs.Term.{Val, Process, Zero, Par, New, Out, In, If, Var}
use Rattle.pict_core.specs.Configuration.{opening}
use Rattle.pict_core.specs.Substitution.{replace, substitution}
use Rattle.pict_core.proofs.Substituting.{substitute-none}
use Rattle.pict_code.specs.Instruction.{Node}
use Rattle.pict_code.specs.Nodes.{Place, place, places, node_of, nodes_from, nodes_of}
use Rattle.pict_code.specs.Standing.{closing}
use Rattle.pict_code.proofs.Agreeing.{agree}
use Rattle.pict_code.proofs.Framed.{frame_is_enough}
use Rattle.pict_queue.specs.QueuesState.{QueuesState}
use Rattle.pict_queue.specs.Contents.{contents}
use Rattle.pict_desk.specs.Known.{value_in}
use Rattle.pict_heap.specs.HeapState.{HeapState}
use Rattle.std.specs.FinMap.{FinMap, get, empty, get-empty}
use Rattle.std.specs.Ordering.{nat_cmp}
use Rattle.pict_region.specs.RegionState.{RegionState, IsLive}
use Rattle.pict_region.proofs.Uses.{none_live as none_there}
use Rattle.pict_blocks.specs.Blocks.{node_process, process_of, view_of_contents}
use Rattle.pict_desk.proofs.Pairs.{zeros_are_pairs}
use Rattle.pict_view.specs.View.{StandsFor, KeepsApart}
use Rattle.pict_turns.specs.Acting.{IsStore}
use Rattle.pict_turns.specs.Views.{lists_from, channel_lists, IsBlock, CanWait}
use Rattle.pict_turns.specs.declared.store.Store.{Store}
use Rattle.pict_turns.specs.declared.turn.Turn.TheVariants.{Nobody}
use Rattle.pict_turns.proofs.Turns.{nobody_turn, nobody_room}
use Rattle.pict_desk.specs.Levels.{levels_in}
use Rattle.pict_machine.specs.Opening.{AreOpening}
use Rattle.pict_desk.proofs.Counting.{places_enough}

-- ---- node 0

first_place : (n : ℕ) (p : Process) → slice_get (places n p) 0 ≡ Some (place n p)
first_place n Zero = refl
first_place n (Par p q) = refl
first_place n (New p) = refl
first_place n (Out chan message at) = refl
first_place n (In chan replicated pattern body) = refl
first_place n (If test p q) = refl

first_node : (n number : ℕ) (p : Process) → slice_get (nodes_from number (places n p)) 0 ≡ Some (node_of number (place n p))
first_node n number Zero = refl
first_node n number (Par p q) = refl
first_node n number (New p) = refl
first_node n number (Out chan message at) = refl
first_node n number (In chan replicated pattern body) = refl
first_node n number (If test p q) = refl

-- where no variable is bound around, no value is put in
none_put : (values : ℕ → Val) (p : Process) → replace (closing 0 values) p ≡ p
none_put values p = agree (closing 0 values) (substitution 0 []) (λ _. refl) p (λ level _. same level) ∙ substitute-none p
  where
    same : (level : ℕ) → cond (nat_lt level 0) (values level) (Var (level - 0)) ≡ cond (nat_lt level 0) (Var level) (Var (level - 0))
    same level = let test : nat_lt level 0 ≡ false = grind (arith, nat_tests) in rw test refl

module _ (core : Process) (h : HeapState) where
  -- the block of node 0 stands for the whole process
  first_stands : process_of core (value_in h) (1 ∷ []) ≡ core
  first_stands =
      ap (node_process (value_in h) []) (first_place 0 core) ∙ frame_is_enough 0 (λ level. Var level) core ∙ none_put (λ level. Var level) core

  first_is_block : IsBlock core h (1 ∷ [])
  first_is_block = inl (record {
    number = 0;
    node = node_of 0 (place 0 core);
    at = first_node 0 0 core;
    held = [];
    is = refl;
    narrow = λ _. tt;
    wide = λ many. absurd (omega (arith, many));
  })

  module _ (s : QueuesState) (o : AreOpening s) where
    blocks_by : (queue : ℕ) → AllByRecursion (IsBlock core h) (contents s queue)
    blocks_by queue = ⊎_elim
        (λ (same : queue ≡ 0). subst (λ q. AllByRecursion (IsBlock core h) (contents s q)) (sym same) (subst (AllByRecursion (IsBlock core h)) (sym o.ready) (first_is_block, tt)))
        (λ (apart : queue ≢ 0). subst (AllByRecursion (IsBlock core h)) (sym (o.others queue apart)) tt)
        (cases_eq queue 0)

    no_channels : channel_lists s ≡ []
    no_channels = let e : length s.queues - 1 ≡ 0 = omega (arith, o.queues) in ap (lists_from s 1) e

    pub view_is : view_of_contents core (value_in h) (contents s 0) (channel_lists s) ≡ record { ready = core ∷ []; channels = [] }
    view_is =
        ap (λ ready. view_of_contents core (value_in h) ready (channel_lists s)) o.ready
        ∙ ap (view_of_contents core (value_in h) ((1 ∷ []) ∷ [])) no_channels
        ∙ ap (λ p. record { ready = p ∷ []; channels = [] }) first_stands

    pub opening_apart : KeepsApart (view_of_contents core (value_in h) (contents s 0) (channel_lists s))
    opening_apart = subst KeepsApart (sym view_is) (record { apart = λ c. inl tt })

    pub opening_stands : StandsFor (view_of_contents core (value_in h) (contents s 0) (channel_lists s)) (opening core)
    opening_stands = subst (λ v. StandsFor v (opening core)) (sym view_is) (record { channels = refl; ready = refl; parked = λ c. refl })

    pub opening_blocks : (queue : ℕ) → AllByRecursion (IsBlock core h) (contents s queue)
    opening_blocks = blocks_by

-- ---- no block

-- a region without live blocks has none
pub none_live : (r : RegionState) → r.live ≡ empty → (block : ℕ) → ¬ IsLive r block
none_live r none block = none_there (get r.live block) (ap (λ (m : FinMap nat_cmp (List ℕ)). get m block) none ∙ get-empty nat_cmp block)

-- ---- the store

module _ (core : Process) (s : Store) (nodes : List Node) (count : ℕ) (is : nodes_of core ≡ nodes) (o : AreOpening s.queues) (values : s.desk.values.items ≡ replicate count (0, 0)) (many : count ≡ levels_in nodes)
    (idle : s.turn ≡ Nobody) where
  places_there : AllByRecursion (λ (p : Place). p.around ≤ length s.desk.values.items) (places 0 core)
  places_there =
      let zeros : List (ℕ × ℕ) = replicate count (0, 0) in
      let as_many : length zeros ≡ count = length-replicate {A = ℕ × ℕ} count (0, 0) in
      let counted : length s.desk.values.items ≡ count = ap length values ∙ as_many in
      subst (λ n. AllByRecursion (λ (p : Place). p.around ≤ n) (places 0 core)) (sym counted) (places_enough core nodes count is many)

  pub opening_store : IsStore core s
  opening_store = record {
    ready = omega (arith, o.queues);
    blocks = opening_blocks core s.desk.heap s.queues o;
    waiting = λ channel. subst (AllByRecursion (CanWait core)) (sym (o.others (channel + 1) (λ same. omega (arith, same)))) tt;
    pairs = zeros_are_pairs s.desk.heap s.desk.values.items count values;
    levels = places_there;
    turn = nobody_turn core s.desk.heap s.desk.values.items s.turn idle;
    room = nobody_room core s s.queues.region idle;
  }
