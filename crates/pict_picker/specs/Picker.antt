-- What a picker stands for, and what it keeps from call to call.
use Rattle.std.specs.Prelude.{◌≡◌, ◌≤◌, ℕ, List, map, length}
use Rattle.std.specs.List.{AllByRecursion}
use Rattle.pict_core.specs.Term.{Process}
use Rattle.pict_code.specs.Nodes.{Place, places}
use Rattle.pict_code.specs.Plain.{plain_code}
use Rattle.pict_code.specs.ReadBack.{core_of}
use Rattle.pict_heap.specs.HeapState.{HeapState}
use Rattle.pict_ranked.specs.Ranking.{Ranking}
use Rattle.pict_view.specs.View.{View, KeepsApart}
use Rattle.pict_desk.specs.Code.{IsCode}
use Rattle.pict_desk.specs.Pairs.{ArePairs}
use Rattle.pict_desk.specs.Room.{KeepsHeap}
use Rattle.pict_desk.specs.declared.desk.Desk.{Desk}
use Rattle.pict_picker.specs.Waiting.{processes_of, AreWaiting, AreParked}
use Rattle.pict_picker.specs.declared.lists.Lists.{Lists}
use Rattle.pict_picker.specs.declared.picker.Picker.{Picker}
use Rattle.pict_picker.specs.declared.waiting.Waiting.{Waiting}

-- what waits at each channel, in order
abbrev pub items_of : List (Ranking Waiting) → List (List Waiting)
items_of channels = map (λ (r : Ranking Waiting). r.items) channels

abbrev pub channel_items : Lists → List (List Waiting)
channel_items lists = items_of lists.channels.items

-- what waits at each channel, as processes
abbrev pub channel_processes : Process → HeapState → Lists → List (List Process)
channel_processes core h lists = map (processes_of core h) (channel_items lists)

-- the view of lists of waiting processes: the ready ones, and those that wait at each channel
abbrev pub view_of_lists : Process → HeapState → Lists → View
view_of_lists core h lists = record {
  ready = processes_of core h lists.ready.items;
  channels = channel_processes core h lists;
}

-- the process whose code the picker has
abbrev pub core_in : Picker → Process
core_in p = core_of (plain_code p.code)

-- the texts and records of a picker
abbrev pub heap_of : Picker → HeapState
heap_of p = p.desk.heap

-- how many channels are made: each has a list
abbrev pub channels_of : Picker → ℕ
channels_of p = length p.lists.channels.items

-- the view of a picker
abbrev pub view_of : Picker → View
view_of p = view_of_lists (core_in p) (heap_of p) p.lists

-- each level has the words of a value, and there is a place for each level of the code
pub record IsDesk (core : Process) (d : Desk) : Type 0 where
  pub pairs : ArePairs d.heap d.values.items
  pub levels : AllByRecursion (λ (p : Place). p.around ≤ length d.values.items) (places 0 core)

-- the ready ones are of the code, and so are those at channels, where outputs of kept values wait and inputs alone
pub record AreLists (core : Process) (h : HeapState) (lists : Lists) : Type 0 where
  pub ready : AreWaiting core h lists.ready.items
  pub parked : AllByRecursion (AreParked core h) (channel_items lists)

-- What holds of a picker between two calls. Its code is that of a closed process, and its processes are of this code. At each
-- channel messages wait, or readers, and never both.
pub record IsPicker (p : Picker) : Type 0 where
  pub code : IsCode (plain_code p.code)
  pub desk : IsDesk (core_in p) p.desk
  pub lists : AreLists (core_in p) (heap_of p) p.lists
  pub apart : KeepsApart (view_of p)

-- Nothing has changed but room, and the values of levels, which count only while a process acts.
pub record IsUnchanged (old new : Picker) : Type 0 where
  pub code : new.code ≡ old.code
  pub ready : new.lists.ready.items ≡ old.lists.ready.items
  pub parked : channel_items new.lists ≡ channel_items old.lists
  pub heap : KeepsHeap (heap_of old) (heap_of new)
  pub view : view_of new ≡ view_of old
