-- One step, from the picker before it to the picker after it.
use Rattle.std.proofs.Common.{ℕ, ◌<◌, ◌≡◌, List, length, map, refl, sym, ap, ◌∙◌, subst, Option, Some, Result, Ok, arith}
use Rattle.std.specs.declared.alloc.AllocError.{AllocError}
use Rattle.std.specs.List.{slice_get}
use Rattle.pict_syntax.specs.declared.span.Span.{Span}
use Rattle.pict_core.specs.Configuration.{Configuration, IsConfiguration}
use Rattle.pict_core.specs.Term.{Process}
use Rattle.pict_code.specs.declared.instruction.Node.{Node}
use Rattle.pict_heap.specs.HeapState.{HeapState}
use Rattle.pict_view.specs.Placed.{next_at}
use Rattle.pict_view.specs.View.{StandsFor, KeepsApart}
use Rattle.pict_desk.specs.Code as codes
use Rattle.pict_desk.specs.Room.{KeepsHeap}
use Rattle.pict_desk.specs.declared.desk.Desk.{Desk}
use Rattle.pict_desk.proofs.Making.{keeps_all}
use Rattle.pict_picker.specs.Acting.{MayAct}
use Rattle.pict_picker.specs.Deeds.{IsDeed}
use Rattle.pict_picker.specs.Events.{label_of, trap_of}
use Rattle.pict_picker.specs.Lists.{SameItems, HasRoomIn, grows_at, MayPlace, outcome_of, IsDeedPlaced}
use Rattle.pict_picker.specs.Partners.{stands_at, channel_in}
use Rattle.pict_picker.specs.Parts.{KeepsDesk}
use Rattle.pict_picker.specs.Picker.{core_in, view_of, heap_of, channel_processes, view_of_lists, AreLists, IsPicker, IsUnchanged}
use Rattle.pict_picker.specs.Stepping.{place, IsRightAt, IsStepAt}
use Rattle.pict_picker.specs.Waiting.{process_of, processes_of, IsWaiting}
use Rattle.pict_picker.specs.declared.deed.Deed.{Deed}
use Rattle.pict_picker.specs.declared.did.Did.{Did}
use Rattle.pict_picker.specs.declared.did.Did.TheVariants as did
use Rattle.pict_picker.specs.declared.lists.Lists.{Lists}
use Rattle.pict_picker.specs.declared.picker.Picker.{Picker}
use Rattle.pict_picker.specs.declared.waiting.Waiting.{Waiting}
use Rattle.pict_picker.proofs.Acts.{all_at, channels_many}
use Rattle.pict_picker.proofs.Taken.{stands_there}
use Rattle.pict_picker.proofs.Waits.{grows_own, stands_low}
use Rattle.pict_picker.proofs.Steps.{there, may_act, is_step, stays_apart, view_same, are_same, may_place, stepped}

module _ (old : Picker) (kept : IsPicker old) (i j : ℕ) (right : IsRightAt (view_of old) i j) where
  abbrev pub own : Process
  own = (there (view_of old) i j kept.apart right).process

  pub own_here : slice_get (processes_of (core_in old) (heap_of old) old.lists.ready.items) i ≡ Some own
  own_here = (there (view_of old) i j kept.apart right).ready

  pub own_may : MayAct old.code.nodes.items old.desk (channel_processes (core_in old) (heap_of old) old.lists) j own
  own_may = may_act (view_of old) i j kept.apart right old.code.nodes.items old.desk kept.code kept.desk own own_here

  -- what is left once the deed is known, and room is made
  module _ (desk : Desk) (keeps : KeepsDesk (core_in old) old.desk desk) (made : Lists) (same : SameItems old.lists made) where
    still_view : view_of (record old { desk = desk; lists = made }) ≡ view_of old
    still_view = view_same (core_in old) (heap_of old) desk.heap keeps.words old.lists made kept.lists same

    pub still_kept : IsPicker (record old { desk = desk; lists = made })
    still_kept = record {
      code = kept.code;
      desk = keeps.desk;
      lists = are_same (core_in old) (heap_of old) desk.heap keeps.words old.lists made kept.lists same;
      apart = subst KeepsApart (sym still_view) kept.apart;
    }

    pub still_unchanged : KeepsHeap (heap_of old) desk.heap → IsUnchanged old (record old { desk = desk; lists = made })
    still_unchanged heap = record { code = refl; ready = same.ready; parked = same.parked; heap = heap; view = still_view }

    module _ (d : Deed) (is : IsDeed (core_in old) desk.heap (channel_processes (core_in old) (heap_of old) old.lists) j own d) where
      abbrev pub whole_place : MayPlace (core_in old) desk.heap made i j d
      whole_place = may_place (core_in old) (heap_of old) desk.heap keeps.words old.lists made kept.lists same i j own own_here d is

      module _ (last : Lists) (answer : Did) (placed : IsDeedPlaced (core_in old) desk.heap made last i j own d answer) (trapped : (at : Span) → answer ≡ did.Trapped at → last ≡ made) where
        whole_next : next_at i j (view_of old) ≡ outcome_of desk.heap (view_of_lists (core_in old) desk.heap last) answer
        whole_next = stepped (core_in old) (heap_of old) desk.heap keeps.words old.lists made kept.lists same i j own own_here d is last answer placed

        whole_same : (at : Span) → answer ≡ did.Trapped at → view_of_lists (core_in old) desk.heap last ≡ view_of old
        whole_same at e = ap (view_of_lists (core_in old) desk.heap) (trapped at e) ∙ still_view

        pub whole_kept : IsPicker (record old { desk = desk; lists = last })
        whole_kept = record {
          code = kept.code;
          desk = keeps.desk;
          lists = placed.lists;
          apart = stays_apart (view_of old) i j kept.apart right desk.heap (view_of_lists (core_in old) desk.heap last) answer whole_next whole_same;
        }

        pub whole_ok : (C : Configuration) → IsConfiguration C → StandsFor (view_of old) C
            → IsStepAt C (place i j) (label_of desk.heap answer) (trap_of answer) (view_of (record old { desk = desk; lists = last }))
        whole_ok = is_step (view_of old) i j kept.apart right desk.heap (view_of_lists (core_in old) desk.heap last) answer whole_next whole_same

        pub whole_trapped : (at : Span) → answer ≡ did.Trapped at → KeepsHeap (heap_of old) desk.heap → IsUnchanged old (record old { desk = desk; lists = last })
        whole_trapped at e heap = subst (λ l. IsUnchanged old (record old { desk = desk; lists = l })) (sym (trapped at e)) (still_unchanged heap)

  -- ---- room at the channel where the process stands

  module _ (channel : Option ℕ) (side : channel ≡ channel_in (stands_at own)) where
    pub stands_inside : (c : ℕ) → channel ≡ Some c → c < length old.lists.channels.items
    stands_inside c e =
        let low = stands_low own (length (channel_processes (core_in old) (heap_of old) old.lists)) c (sym side ∙ e) own_may.under in
        omega (arith, low, channels_many old.lists (core_in old) (heap_of old))

    pub room_for : (made : Lists) → HasRoomIn made channel → (h : HeapState) (d : Deed) → IsDeed (core_in old) h (channel_processes (core_in old) (heap_of old) old.lists) j own d
        → HasRoomIn made (grows_at d)
    room_for made room h d is = record {
      ready = room.ready;
      channels = room.channels;
      parked = λ c e. room.parked c (side ∙ grows_own (core_in old) h (channel_processes (core_in old) (heap_of old) old.lists) j own d is c e);
    }

  -- ---- the nodes of the code are lent

  module _ (lent : List Node) (is : lent ≡ old.code.nodes.items) where
    module _ (w : Waiting) (there : slice_get old.lists.ready.items i ≡ Some w) where
      pub lent_waits : IsWaiting (codes.core_in lent) (heap_of old) w
      lent_waits =
          subst (λ (ns : List Node). IsWaiting (codes.core_in ns) (heap_of old) w) (sym is)
          (all_at (IsWaiting (core_in old) (heap_of old)) old.lists.ready.items i w kept.lists.ready there)

      pub lent_side : (channel : Option ℕ) → channel ≡ channel_in (stands_at (process_of (codes.core_in lent) (heap_of old) w)) → channel ≡ channel_in (stands_at own)
      lent_side channel e =
          e ∙ ap (λ (ns : List Node). channel_in (stands_at (process_of (codes.core_in ns) (heap_of old) w))) is
          ∙ ap (λ (p : Process). channel_in (stands_at p)) (stands_there (core_in old) (heap_of old) old.lists.ready.items i w own there own_here)

    pub lent_keeps : (desk : Desk) → KeepsDesk (codes.core_in lent) old.desk desk → KeepsDesk (core_in old) old.desk desk
    lent_keeps desk k = subst (λ (ns : List Node). KeepsDesk (codes.core_in ns) old.desk desk) is k

    -- once room is made
    module _ (made : Lists) (same : SameItems old.lists made) where
      pub lent_lists : AreLists (codes.core_in lent) (heap_of old) made
      lent_lists =
          subst (λ (ns : List Node). AreLists (codes.core_in ns) (heap_of old) made) (sym is)
          (are_same (core_in old) (heap_of old) (heap_of old) (keeps_all (heap_of old)) old.lists made kept.lists same)

      pub lent_here : slice_get (processes_of (codes.core_in lent) (heap_of old) made.ready.items) i ≡ Some own
      lent_here =
          subst (λ (ns : List Node). slice_get (processes_of (codes.core_in ns) (heap_of old) made.ready.items) i ≡ Some own) (sym is)
          (subst (λ (ws : List Waiting). slice_get (processes_of (core_in old) (heap_of old) ws) i ≡ Some own) (sym same.ready) own_here)

      pub lent_may : MayAct lent old.desk (channel_processes (codes.core_in lent) (heap_of old) made) j own
      lent_may =
          subst (λ (ns : List Node). MayAct ns old.desk (channel_processes (codes.core_in ns) (heap_of old) made) j own) (sym is)
          (subst (λ (wss : List (List Waiting)). MayAct old.code.nodes.items old.desk (map (processes_of (core_in old) (heap_of old)) wss) j own) (sym same.parked) own_may)

      pub lent_deed : (h : HeapState) (d : Deed) → IsDeed (codes.core_in lent) h (channel_processes (codes.core_in lent) (heap_of old) made) j own d
          → IsDeed (core_in old) h (channel_processes (core_in old) (heap_of old) old.lists) j own d
      lent_deed h d x =
          subst (λ (wss : List (List Waiting)). IsDeed (core_in old) h (map (processes_of (core_in old) (heap_of old)) wss) j own d) same.parked
          (subst (λ (ns : List Node). IsDeed (codes.core_in ns) h (channel_processes (codes.core_in ns) (heap_of old) made) j own d) is x)

-- an answer is read
pub answer_is : (a b : Did) (r : Result Did AllocError) → r ≡ Ok a → r ≡ Ok b → a ≡ b
answer_is a b r e f = cc
