-- What a picker stands for before its first step.
use Rattle.std.proofs.Common.{ℕ, ◌-◌, ◌≤◌, ◌≡◌, false, cond, nat_lt, inl, List, [], ◌∷◌, length, map, replicate, refl, sym, ap, ◌∙◌, subst, arith, Some}
use Rattle.std.proofs.lemmas.Bool.Decides.{nat_tests}
use Rattle.std.proofs.lemmas.List.{length-replicate}
use Rattle.std.specs.List.{AllByRecursion, slice_get}
use Rattle.pict_core.specs.Term.{Val, Process, Var, Zero, Par, New, Out, In, If}
use Rattle.pict_core.specs.Configuration.{opening}
use Rattle.pict_core.specs.Substitution.{replace, substitution}
use Rattle.pict_core.proofs.Substituting.{substitute-none}
use Rattle.pict_code.specs.Instruction.{Node}
use Rattle.pict_code.specs.Nodes.{Place, place, places, node_of, nodes_from, nodes_of}
use Rattle.pict_code.specs.Standing.{closing}
use Rattle.pict_code.proofs.Agreeing.{agree}
use Rattle.pict_code.proofs.Framed.{frame_is_enough}
use Rattle.pict_heap.specs.HeapState.{HeapState}
use Rattle.pict_view.specs.View.{StandsFor, KeepsApart}
use Rattle.pict_desk.specs.Levels.{levels_in}
use Rattle.pict_desk.specs.declared.desk.Desk.{Desk}
use Rattle.pict_desk.proofs.Counting.{places_enough}
use Rattle.pict_desk.proofs.Pairs.{zeros_are_pairs}
use Rattle.pict_picker.specs.Picker.{items_of, channel_items, channel_processes, view_of_lists, IsDesk, AreLists}
use Rattle.pict_picker.specs.Waiting.{node_process, processes_of, IsNode, AreWaiting, AreParked}
use Rattle.pict_picker.specs.declared.lists.Lists.{Lists}
use Rattle.pict_picker.specs.declared.waiting.Waiting.{Waiting}
use Rattle.pict_picker.specs.declared.waiting.Waiting.TheVariants as waiting

-- ---- node 0

first_place : (n : ℕ) (p : Process) → slice_get (places n p) 0 ≡ Some (place n p)
first_place n Zero = refl
first_place n (Par p q) = refl
first_place n (New p) = refl
first_place n (Out chan message at) = refl
first_place n (In chan replicated pattern body) = refl
first_place n (If test p q) = refl

first_node : (n number : ℕ) (p : Process) → slice_get (nodes_from number (places n p)) 0 ≡ Some (node_of number (place n p))
first_node n number Zero = refl
first_node n number (Par p q) = refl
first_node n number (New p) = refl
first_node n number (Out chan message at) = refl
first_node n number (In chan replicated pattern body) = refl
first_node n number (If test p q) = refl

-- where no variable is bound around, no value is put in
none_put : (values : ℕ → Val) (p : Process) → replace (closing 0 values) p ≡ p
none_put values p = agree (closing 0 values) (substitution 0 []) (λ _. refl) p (λ level _. same level) ∙ substitute-none p
  where
    same : (level : ℕ) → cond (nat_lt level 0) (values level) (Var (level - 0)) ≡ cond (nat_lt level 0) (Var level) (Var (level - 0))
    same level = let test : nat_lt level 0 ≡ false = grind (arith, nat_tests) in rw test refl

module _ (core : Process) (h : HeapState) where
  -- node 0 without values stands for the whole process
  first_stands : node_process h [] (slice_get (places 0 core) 0) ≡ core
  first_stands = ap (node_process h []) (first_place 0 core) ∙ frame_is_enough 0 (λ level. Var level) core ∙ none_put (λ level. Var level) core

  first_is_node : IsNode core h 0 []
  first_is_node = record { node = node_of 0 (place 0 core); at = first_node 0 0 core; many = refl; pairs = tt }

  -- the first waiting process, by its frame
  abbrev pub IsFirst : Waiting → Type 0
  IsFirst (waiting.Node number frame) = (number ≡ 0) × (frame.items ≡ [])
  IsFirst (waiting.Output kept) = ⊥

  first_process : (w : Waiting) → IsFirst w → processes_of core h (w ∷ []) ≡ core ∷ []
  first_process (waiting.Node number frame) f =
      ap (λ fs. node_process h fs (slice_get (places 0 core) number) ∷ []) f.1
      ∙ ap (λ n. node_process h [] (slice_get (places 0 core) n) ∷ []) f.0 ∙ ap (λ p. p ∷ []) first_stands
  first_process (waiting.Output kept) f = absurd f

  first_waits : (w : Waiting) → IsFirst w → AreWaiting core h (w ∷ [])
  first_waits (waiting.Node number frame) f = (subst (λ fs. IsNode core h number fs) (sym f.1) (subst (λ n. IsNode core h n []) (sym f.0) first_is_node), tt)
  first_waits (waiting.Output kept) f = absurd f

  module _ (lists : Lists) (w : Waiting) (first : IsFirst w) (ready : lists.ready.items ≡ w ∷ []) (channels : lists.channels.items ≡ []) where
    no_channels : channel_items lists ≡ []
    no_channels = ap items_of channels

    view_is : view_of_lists core h lists ≡ record { ready = core ∷ []; channels = [] }
    view_is =
        ap (λ ps. record { ready = ps; channels = channel_processes core h lists }) (ap (processes_of core h) ready ∙ first_process w first)
        ∙ ap (λ ls. record { ready = core ∷ []; channels = ls }) (ap (map (processes_of core h)) no_channels)

    pub opening_apart : KeepsApart (view_of_lists core h lists)
    opening_apart = subst KeepsApart (sym view_is) (record { apart = λ c. inl tt })

    pub opening_stands : StandsFor (view_of_lists core h lists) (opening core)
    opening_stands = subst (λ v. StandsFor v (opening core)) (sym view_is) (record { channels = refl; ready = refl; parked = λ c. refl })

    pub opening_lists : AreLists core h lists
    opening_lists = record {
      ready = subst (AreWaiting core h) (sym ready) (first_waits w first);
      parked = subst (AllByRecursion (AreParked core h)) (sym no_channels) tt;
    }

-- ---- the desk

pub opening_desk : (core : Process) (d : Desk) (nodes : List Node) (count : ℕ) → nodes_of core ≡ nodes → d.values.items ≡ replicate count (0, 0) → count ≡ levels_in nodes → IsDesk core d
opening_desk core d nodes count is values many =
    let zeros : List (ℕ × ℕ) = replicate count (0, 0) in
    let as_many : length zeros ≡ count = length-replicate {A = ℕ × ℕ} count (0, 0) in
    let counted : length d.values.items ≡ count = ap length values ∙ as_many in
    record {
      pairs = zeros_are_pairs d.heap d.values.items count values;
      levels = subst (λ n. AllByRecursion (λ (p : Place). p.around ≤ n) (places 0 core)) (sym counted) (places_enough core nodes count is many);
    }
