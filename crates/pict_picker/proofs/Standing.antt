-- What waiting processes stand for, and that it stays where the heap grows.
use Rattle.std.proofs.Common.{ℕ, ◌≡◌, List, [], ◌∷◌, length, map, refl, sym, ap, ◌∙◌, subst, Option, Some, None}
use Rattle.std.proofs.lemmas.List.{length-map}
use Rattle.std.specs.List.{AllByRecursion, slice_get}
use Rattle.pict_core.specs.Term.{Process, Out}
use Rattle.pict_code.specs.Frames.{frame_of}
use Rattle.pict_code.specs.Instruction.{Node}
use Rattle.pict_code.specs.Nodes.{Place, place, places}
use Rattle.pict_code.specs.Standing.{with_frame}
use Rattle.pict_code.proofs.Numbering.{PlacedAt}
use Rattle.pict_heap.specs.HeapState.{HeapState, KeepsWords}
use Rattle.pict_view.specs.Partners.{is_input}
use Rattle.pict_desk.specs.Known.{pair_at, known}
use Rattle.pict_desk.specs.Pairs.{IsPair, ArePairs}
use Rattle.pict_desk.specs.declared.kept.Kept.{Kept}
use Rattle.pict_desk.proofs.Nodes.{part_of}
use Rattle.pict_desk.proofs.Pairs.{value_packed}
use Rattle.pict_desk.proofs.Parts.{node_with, placed_at}
use Rattle.pict_picker.specs.Parts.{IsFrameOf, IsPart}
use Rattle.pict_picker.specs.Picker.{channel_items, channel_processes, view_of_lists, AreLists}
use Rattle.pict_picker.specs.Waiting.{pair_value, node_process, kept_process, process_of, processes_of, IsNode, IsKept, IsWaiting, CanPark, IsParked, AreWaiting, AreParked}
use Rattle.pict_picker.specs.declared.lists.Lists.{Lists}
use Rattle.pict_picker.specs.declared.waiting.Waiting.{Waiting}
use Rattle.pict_picker.specs.declared.waiting.Waiting.TheVariants as waiting

-- ---- where the heap grows

module _ (core : Process) (old new : HeapState) (keeps : KeepsWords old new) where
  pub pair_stays : (pair : ℕ × ℕ) → IsPair old pair → IsPair new pair
  pair_stays pair p = record { word = p.word; is = keeps.words p.word p.is; fits = p.fits; packs = p.packs }

  pub value_stays : (pair : ℕ × ℕ) → IsPair old pair → pair_value new pair ≡ pair_value old pair
  value_stays pair p = value_packed new p.word pair p.fits p.packs ∙ keeps.values p.word p.is ∙ sym (value_packed old p.word pair p.fits p.packs)

  pub pairs_stay : (frame : List (ℕ × ℕ)) → AllByRecursion (IsPair old) frame → AllByRecursion (IsPair new) frame
  pairs_stay [] a = tt
  pairs_stay (x ∷ xs) a = (pair_stays x a.0, pairs_stay xs a.1)

  pub values_stay : (frame : List (ℕ × ℕ)) → AllByRecursion (IsPair old) frame → map (pair_value new) frame ≡ map (pair_value old) frame
  values_stay [] a = refl
  values_stay (x ∷ xs) a = cc (value_stays x a.0, values_stay xs a.1)

  node_same : (frame : List (ℕ × ℕ)) (o : Option Place) → map (pair_value new) frame ≡ map (pair_value old) frame → node_process new frame o ≡ node_process old frame o
  node_same frame None e = refl
  node_same frame (Some p) e = ap (with_frame p) e

  pub node_stays : (number : ℕ) (frame : List (ℕ × ℕ)) → IsNode core old number frame
      → node_process new frame (slice_get (places 0 core) number) ≡ node_process old frame (slice_get (places 0 core) number)
  node_stays number frame n = node_same frame (slice_get (places 0 core) number) (values_stay frame n.pairs)

  pub is_node_stays : (number : ℕ) (frame : List (ℕ × ℕ)) → IsNode core old number frame → IsNode core new number frame
  is_node_stays number frame n = record { node = n.node; at = n.at; many = n.many; pairs = pairs_stay frame n.pairs }

  pub kept_stays : (kept : Kept) → IsKept old kept → kept_process new kept ≡ kept_process old kept
  kept_stays kept k = ap (λ v. Out v (pair_value new kept.message) kept.at) (value_stays kept.to k.to) ∙ ap (λ v. Out (pair_value old kept.to) v kept.at) (value_stays kept.message k.message)

  pub process_stays : (w : Waiting) → IsWaiting core old w → process_of core new w ≡ process_of core old w
  process_stays (waiting.Node number frame) n = node_stays number frame.items n
  process_stays (waiting.Output kept) k = kept_stays kept k

  pub waiting_stays : (w : Waiting) → IsWaiting core old w → IsWaiting core new w
  waiting_stays (waiting.Node number frame) n = is_node_stays number frame.items n
  waiting_stays (waiting.Output kept) k = record { to = pair_stays kept.to k.to; message = pair_stays kept.message k.message }

  can_stay : (w : Waiting) → IsWaiting core old w → CanPark core old w → CanPark core new w
  can_stay (waiting.Node number frame) n c = ap is_input (node_stays number frame.items n) ∙ c
  can_stay (waiting.Output kept) k c = tt

  pub parked_stays : (w : Waiting) → IsParked core old w → IsParked core new w
  parked_stays w p = (waiting_stays w p.0, can_stay w p.0 p.1)

  pub processes_stay : (ws : List Waiting) → AreWaiting core old ws → processes_of core new ws ≡ processes_of core old ws
  processes_stay [] a = refl
  processes_stay (w ∷ ws) a = cc (process_stays w a.0, processes_stay ws a.1)

  pub are_waiting_stay : (ws : List Waiting) → AreWaiting core old ws → AreWaiting core new ws
  are_waiting_stay [] a = tt
  are_waiting_stay (w ∷ ws) a = (waiting_stays w a.0, are_waiting_stay ws a.1)

  pub are_parked_stay : (ws : List Waiting) → AreParked core old ws → AreParked core new ws
  are_parked_stay [] a = tt
  are_parked_stay (w ∷ ws) a = (parked_stays w a.0, are_parked_stay ws a.1)

  pub parked_wait : (ws : List Waiting) → AreParked core old ws → AreWaiting core old ws
  parked_wait [] a = tt
  parked_wait (w ∷ ws) a = (a.0.0, parked_wait ws a.1)

  channels_stay : (items : List (List Waiting)) → AllByRecursion (AreParked core old) items → map (processes_of core new) items ≡ map (processes_of core old) items
  channels_stay [] a = refl
  channels_stay (ws ∷ items) a = cc (processes_stay ws (parked_wait ws a.0), channels_stay items a.1)

  channels_parked : (items : List (List Waiting)) → AllByRecursion (AreParked core old) items → AllByRecursion (AreParked core new) items
  channels_parked [] a = tt
  channels_parked (ws ∷ items) a = (are_parked_stay ws a.0, channels_parked items a.1)

  module _ (lists : Lists) (are : AreLists core old lists) where
    pub lists_stay : AreLists core new lists
    lists_stay = record { ready = are_waiting_stay lists.ready.items are.ready; parked = channels_parked (channel_items lists) are.parked }

    pub ready_stays : processes_of core new lists.ready.items ≡ processes_of core old lists.ready.items
    ready_stays = processes_stay lists.ready.items are.ready

    pub waits_stay : channel_processes core new lists ≡ channel_processes core old lists
    waits_stay = channels_stay (channel_items lists) are.parked

    pub view_stays : view_of_lists core new lists ≡ view_of_lists core old lists
    view_stays =
        ap (λ ps. record { ready = ps; channels = channel_processes core new lists }) ready_stays
        ∙ ap (λ ls. record { ready = processes_of core old lists.ready.items; channels = ls }) waits_stay

-- ---- parts of nodes

module _ (h : HeapState) (values : List (ℕ × ℕ)) where
  pub known_pairs : (ls : List ℕ) → map (pair_value h) (map (pair_at values) ls) ≡ map (known h values) ls
  known_pairs [] = refl
  known_pairs (l ∷ ls) = ap (λ vs. known h values l ∷ vs) (known_pairs ls)

  pairs_there : ArePairs h values → (ls : List ℕ) → AllByRecursion (IsPair h) (map (pair_at values) ls)
  pairs_there pairs [] = tt
  pairs_there pairs (l ∷ ls) = (pairs l, pairs_there pairs ls)

  module _ (core : Process) where
    -- a node whose frame has the values of levels, at the number of a part
    pub frame_stands : (number i n : ℕ) (q : Process) (frame : List (ℕ × ℕ)) → number ≡ i → PlacedAt core i n q → IsFrameOf core values number frame
        → node_process h frame (slice_get (places 0 core) number) ≡ node_with n (known h values) q
    frame_stands number i n q frame e placed f =
        let p = part_of core number f.node f.at in
        let there : slice_get (places 0 core) number ≡ Some (place n q) = ap (slice_get (places 0 core)) e ∙ placed_at core i n q placed in
        let one : Some p.0 ≡ Some (place n q) = sym p.1.at ∙ there in
        let same : p.0 ≡ place n q = cc in
        let levels : f.node.frame ≡ frame_of n q = sym (ap (λ (x : Node). x.frame) p.1.node_is) ∙ ap (λ (x : Place). frame_of x.around x.process) same in
        ap (node_process h frame) there
        ∙ ap (with_frame (place n q)) (ap (map (pair_value h)) (f.is ∙ ap (map (pair_at values)) levels) ∙ known_pairs (frame_of n q))

    pub frame_is_node : ArePairs h values → (number : ℕ) (frame : List (ℕ × ℕ)) → IsFrameOf core values number frame → IsNode core h number frame
    frame_is_node pairs number frame f = record {
      node = f.node;
      at = f.at;
      many = ap length f.is ∙ length-map f.node.frame (pair_at values);
      pairs = subst (AllByRecursion (IsPair h)) (sym f.is) (pairs_there pairs f.node.frame);
    }

    pub part_stands : (number i n : ℕ) (q : Process) (w : Waiting) → number ≡ i → PlacedAt core i n q → IsPart core values number w
        → process_of core h w ≡ node_with n (known h values) q
    part_stands number i n q (waiting.Node k frame) e placed p = frame_stands k i n q frame.items (p.0 ∙ e) placed (subst (λ (x : ℕ). IsFrameOf core values x frame.items) (sym p.0) p.1)
    part_stands number i n q (waiting.Output kept) e placed p = absurd p

    pub part_waits : ArePairs h values → (number : ℕ) (w : Waiting) → IsPart core values number w → IsWaiting core h w
    part_waits pairs number (waiting.Node k frame) p = frame_is_node pairs k frame.items (subst (λ (x : ℕ). IsFrameOf core values x frame.items) (sym p.0) p.1)
    part_waits pairs number (waiting.Output kept) p = absurd p
