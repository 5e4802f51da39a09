-- The ready process at a place, as what is kept of it.
use Rattle.std.proofs.Common.{ℕ, ◌<◌, ◌≡◌, List, length, sym, ap, ◌∙◌, subst, Some, option_map, Result, IfOk, Vec, Global, arith}
use Rattle.std.proofs.lemmas.List.{length-map}
use Rattle.std.proofs.lemmas.Option.{slice_get-map, slice_get_within}
use Rattle.std.specs.List.{slice_get}
use Rattle.pict_core.specs.Term.{Process}
use Rattle.pict_code.specs.Nodes.{places}
use Rattle.pict_code.specs.declared.instruction.Node as written
use Rattle.pict_heap.specs.HeapState.{HeapState}
use Rattle.pict_desk.specs.Code.{core_in}
use Rattle.pict_desk.specs.declared.desk.Desk.{Desk}
use Rattle.pict_desk.specs.declared.kept.Kept.{Kept}
use Rattle.pict_picker.specs.Acting.{MayAct}
use Rattle.pict_picker.specs.Deeds.{IsDeed}
use Rattle.pict_picker.specs.Picker.{channel_processes, AreLists}
use Rattle.pict_picker.specs.Waiting.{node_process, kept_process, process_of, processes_of, IsNode, IsKept, IsWaiting}
use Rattle.pict_picker.specs.declared.deed.Deed.{Deed}
use Rattle.pict_picker.specs.declared.lists.Lists.{Lists}
use Rattle.pict_picker.specs.declared.waiting.Waiting.{Waiting}
use Rattle.pict_picker.specs.declared.waiting.Waiting.TheVariants as waiting
use Rattle.pict_picker.proofs.Acts.{all_at}

pub there_low : (core : Process) (h : HeapState) (lists : Lists) (i : ℕ) (own : Process) → slice_get (processes_of core h lists.ready.items) i ≡ Some own → i < length lists.ready.items
there_low core h lists i own e =
    let low = slice_get_within (processes_of core h lists.ready.items) i own e in
    omega (arith, low, length-map lists.ready.items (process_of core h))

-- what is kept of the process at a place stands for it
pub stands_there : (core : Process) (h : HeapState) (ws : List Waiting) (i : ℕ) (w : Waiting) (own : Process) → slice_get ws i ≡ Some w → slice_get (processes_of core h ws) i ≡ Some own → process_of core h w ≡ own
stands_there core h ws i w own e f =
    let there : Some (process_of core h w) ≡ Some own = sym (slice_get-map (process_of core h) ws i ∙ ap (option_map (process_of core h)) e) ∙ f in
    cc

module _ (code : List written.Node) (d : Desk) (lists : Lists) (are : AreLists (core_in code) d.heap lists) (i : ℕ) (w : Waiting) (there : slice_get lists.ready.items i ≡ Some w) where
  waits : IsWaiting (core_in code) d.heap w
  waits = all_at (IsWaiting (core_in code) d.heap) lists.ready.items i w are.ready there

  module _ (number : ℕ) (held : Vec (ℕ × ℕ) Global) (is : w ≡ waiting.Node number held) (frame : List (ℕ × ℕ)) (frame_is : frame ≡ held.items) where
    pub node_taken : IsNode (core_in code) d.heap number frame
    node_taken = subst (IsNode (core_in code) d.heap number) (sym frame_is) (subst (IsWaiting (core_in code) d.heap) is waits)

    own_node : (own : Process) → slice_get (processes_of (core_in code) d.heap lists.ready.items) i ≡ Some own → own ≡ node_process d.heap frame (slice_get (places 0 (core_in code)) number)
    own_node own here =
        sym (stands_there (core_in code) d.heap lists.ready.items i w own there here) ∙ ap (process_of (core_in code) d.heap) is
        ∙ ap (λ (fs : List (ℕ × ℕ)). node_process d.heap fs (slice_get (places 0 (core_in code)) number)) (sym frame_is)

    module _ (j : ℕ) (own : Process) (here : slice_get (processes_of (core_in code) d.heap lists.ready.items) i ≡ Some own) where
      pub node_may : MayAct code d (channel_processes (core_in code) d.heap lists) j own
          → MayAct code d (channel_processes (core_in code) d.heap lists) j (node_process d.heap frame (slice_get (places 0 (core_in code)) number))
      node_may may = subst (MayAct code d (channel_processes (core_in code) d.heap lists) j) (own_node own here) may

      pub node_done : {E : Type 0} (h : HeapState) (r : Result Deed E)
          → IfOk r (IsDeed (core_in code) h (channel_processes (core_in code) d.heap lists) j (node_process d.heap frame (slice_get (places 0 (core_in code)) number)))
          → IfOk r (IsDeed (core_in code) h (channel_processes (core_in code) d.heap lists) j own)
      node_done h r done = subst (λ p. IfOk r (IsDeed (core_in code) h (channel_processes (core_in code) d.heap lists) j p)) (sym (own_node own here)) done

  module _ (kept : Kept) (is : w ≡ waiting.Output kept) where
    pub kept_taken : IsKept d.heap kept
    kept_taken = subst (IsWaiting (core_in code) d.heap) is waits

    own_kept : (own : Process) → slice_get (processes_of (core_in code) d.heap lists.ready.items) i ≡ Some own → own ≡ kept_process d.heap kept
    own_kept own here = sym (stands_there (core_in code) d.heap lists.ready.items i w own there here) ∙ ap (process_of (core_in code) d.heap) is

    module _ (j : ℕ) (own : Process) (here : slice_get (processes_of (core_in code) d.heap lists.ready.items) i ≡ Some own) where
      pub kept_may : MayAct code d (channel_processes (core_in code) d.heap lists) j own → MayAct code d (channel_processes (core_in code) d.heap lists) j (kept_process d.heap kept)
      kept_may may = subst (MayAct code d (channel_processes (core_in code) d.heap lists) j) (own_kept own here) may

      pub kept_done : {E : Type 0} (h : HeapState) (r : Result Deed E) → IfOk r (IsDeed (core_in code) h (channel_processes (core_in code) d.heap lists) j (kept_process d.heap kept))
          → IfOk r (IsDeed (core_in code) h (channel_processes (core_in code) d.heap lists) j own)
      kept_done h r done = subst (λ p. IfOk r (IsDeed (core_in code) h (channel_processes (core_in code) d.heap lists) j p)) (sym (own_kept own here)) done
