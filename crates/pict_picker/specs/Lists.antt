-- Lists of processes: room for a step, and how a deed is placed in them.
use Rattle.std.specs.Prelude.{◌≡◌, ◌≤◌, ◌+◌, ℕ, Bool, true, false, List, [], length, slice_index_or, Option, Some, None, option_map, unwrap_or, vec_capacity}
use Rattle.std.specs.List.{slice_get}
use Rattle.pict_core.specs.Term.{Process}
use Rattle.pict_heap.specs.HeapState.{HeapState}
use Rattle.pict_ranked.specs.Ranking.{Ranking}
use Rattle.pict_view.specs.Moved.{Moved, Moves, Stops}
use Rattle.pict_view.specs.Placed.{without, place_at}
use Rattle.pict_view.specs.View.{View}
use Rattle.pict_picker.specs.Deeds.{deed_of, FitsDeed}
use Rattle.pict_picker.specs.Events.{label_of, IsDidOf}
use Rattle.pict_picker.specs.Picker.{items_of, channel_items, view_of_lists, AreLists}
use Rattle.pict_picker.specs.Waiting.{processes_of}
use Rattle.pict_picker.specs.declared.deed.Deed.{Deed}
use Rattle.pict_picker.specs.declared.deed.Deed.TheVariants as deed
use Rattle.pict_picker.specs.declared.did.Did.{Did}
use Rattle.pict_picker.specs.declared.did.Did.TheVariants as did
use Rattle.pict_picker.specs.declared.lists.Lists.{Lists}
use Rattle.pict_picker.specs.declared.waiting.Waiting.{Waiting}

-- what waits at this channel
abbrev pub items_at : ℕ → List (Ranking Waiting) → List Waiting
items_at c channels = slice_index_or (items_of channels) c []

-- how many more may wait at this channel before room has to be made
abbrev pub room_at : ℕ → List (Ranking Waiting) → ℕ
room_at c channels = unwrap_or (option_map (λ (r : Ranking Waiting). r.room) (slice_get channels c)) 0

-- the same stand everywhere
pub record SameItems (old new : Lists) : Type 0 where
  pub ready : new.ready.items ≡ old.ready.items
  pub parked : channel_items new ≡ channel_items old

-- the channel at which one more may wait after the deed
abbrev pub grows_at : Deed → Option ℕ
grows_at (deed.Waits c) = Some c
grows_at (deed.Parks c kept) = Some c
grows_at (deed.Serves c message replicated body) = Some c
grows_at _ = None

-- there is room for one more that is ready, for one more channel, and for one more at this channel, if one is told
pub record HasRoomIn (lists : Lists) (channel : Option ℕ) : Type 0 where
  pub ready : 1 ≤ lists.ready.room
  pub channels : length lists.channels.items + 1 ≤ vec_capacity lists.channels
  pub parked : (c : ℕ) → channel ≡ Some c → 1 ≤ room_at c lists.channels.items

-- who is ready once the i-th ready process has acted, which stays or leaves
abbrev pub left_ready : ℕ → List Waiting → Bool → List Waiting
left_ready i ready true = ready
left_ready i ready false = without i ready

-- The words of the deed fit these lists, in which this is the i-th ready process.
pub record MayPlace (core : Process) (h : HeapState) (lists : Lists) (i j : ℕ) (d : Deed) : Type 0 where
  pub are : AreLists core h lists
  pub own : Process
  pub here : slice_get (processes_of core h lists.ready.items) i ≡ Some own
  pub fits : FitsDeed core h (view_of_lists core h lists).channels j own d

abbrev pub outcome_of : HeapState → View → Did → Moved View
outcome_of h v (did.Trapped at) = Stops at
outcome_of h v d = Moves v (label_of h d)

-- The deed is placed, as the answer says.
pub record IsDeedPlaced (core : Process) (h : HeapState) (old new : Lists) (i j : ℕ) (own : Process) (d : Deed) (answer : Did) : Type 0 where
  pub is : place_at i j (view_of_lists core h old).ready (view_of_lists core h old).channels (deed_of core h (view_of_lists core h old).channels j own d)
      ≡ outcome_of h (view_of_lists core h new) answer
  pub lists : AreLists core h new
  pub event : IsDidOf h answer
