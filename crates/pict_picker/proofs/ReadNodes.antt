-- A node acts, once its frame is read.
use Rattle.std.proofs.Common.{ℕ, ◌≡◌, List, length, map, get_or, sym, subst, Result, IfOk}
use Rattle.std.proofs.lemmas.List.Elements.{All-from_recursion}
use Rattle.std.specs.List.{All, slice_get}
use Rattle.pict_core.specs.Term.{Process}
use Rattle.pict_code.specs.Nodes.{places}
use Rattle.pict_code.specs.Plain.{plain_node, plain_op}
use Rattle.pict_code.specs.declared.instruction.Node as written
use Rattle.pict_heap.specs.HeapState.{HeapState, KeepsWords}
use Rattle.pict_desk.specs.Code.{core_in}
use Rattle.pict_desk.specs.Known.{pair_at, known}
use Rattle.pict_desk.specs.Pairs.{IsPair, ArePairs}
use Rattle.pict_desk.specs.declared.desk.Desk.{Desk}
use Rattle.pict_picker.specs.Acting.{IsProcessOf, MayAct, ActsBy}
use Rattle.pict_picker.specs.Deeds.{IsDeed}
use Rattle.pict_picker.specs.Parts.{KeepsDesk}
use Rattle.pict_picker.specs.Picker.{channel_processes, AreLists}
use Rattle.pict_picker.specs.Waiting.{node_process, IsNode}
use Rattle.pict_picker.specs.declared.deed.Deed.{Deed}
use Rattle.pict_picker.specs.declared.lists.Lists.{Lists}
use Rattle.pict_picker.proofs.Acts.{node_at, node_acts}
use Rattle.pict_picker.proofs.Deeds.{values_desk}

module _ (code : List written.Node) (d : Desk) (lists : Lists) where
  pub node_lists : (read : Desk) → read.heap ≡ d.heap → AreLists (core_in code) d.heap lists → AreLists (core_in code) read.heap lists
  node_lists read heap are = subst (λ h. AreLists (core_in code) h lists) (sym heap) are

  pub node_acts_by : (j number : ℕ) (frame : List (ℕ × ℕ)) (n : IsNode (core_in code) d.heap number frame)
      → MayAct code d (channel_processes (core_in code) d.heap lists) j (node_process d.heap frame (slice_get (places 0 (core_in code)) number))
      → (node : written.Node) → node ≡ get_or code number node → (read : Desk) (heap : read.heap ≡ d.heap) → length read.values.items ≡ length d.values.items
      → ((h : HeapState) → ArePairs h d.values.items → All (IsPair h) frame → ArePairs h read.values.items) → map (pair_at read.values.items) node.frame.value.items ≡ frame
      → ActsBy code read (channel_processes (core_in code) read.heap lists) j (plain_op node.op) (node_process d.heap frame (slice_get (places 0 (core_in code)) number))
  node_acts_by j number frame n may node there read heap len pairs is =
      let own = node_process d.heap frame (slice_get (places 0 (core_in code)) number) in
      let acts = node_acts (core_in code) d.heap read.values.items number (plain_node node) frame (node_at code may.code_is d.heap number frame n node there) is in
      record {
        may = subst (λ h. MayAct code read (channel_processes (core_in code) h lists) j own) (sym heap) (record {
          code_is = may.code_is;
          desk = (values_desk (core_in code) d read heap (pairs d.heap may.desk.pairs (All-from_recursion (IsPair d.heap) frame n.pairs)) len may.desk).desk;
          under = may.under;
          right = may.right;
        });
        node = subst (λ h. IsProcessOf (core_in code) (known h read.values.items) (plain_op node.op) own) (sym heap) acts;
      }

  pub node_deed : {E : Type 0} (j : ℕ) (own : Process) (read : Desk) → read.heap ≡ d.heap → (h : HeapState) (r : Result Deed E) → IfOk r (IsDeed (core_in code) h (channel_processes (core_in code) read.heap lists) j own)
      → IfOk r (IsDeed (core_in code) h (channel_processes (core_in code) d.heap lists) j own)
  node_deed j own read heap h r is = subst (λ x. IfOk r (IsDeed (core_in code) h (channel_processes (core_in code) x lists) j own)) heap is

pub node_keeps : (code : List written.Node) (d read : Desk) → read.heap ≡ d.heap → (new : Desk) → KeepsDesk (core_in code) read new → KeepsDesk (core_in code) d new
node_keeps code d read heap new k = record { words = subst (λ h. KeepsWords h new.heap) heap k.words; desk = k.desk }
