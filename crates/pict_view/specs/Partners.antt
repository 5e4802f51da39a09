-- The parked partners of a process, in the lists of a view.
use Rattle.std.specs.Prelude.{ℕ, Bool, true, false, ◌≡◌, ◌<◌, ◌⊎◌, List, [], length, filter, Some, slice_get}
use Rattle.pict_core.specs.Term.{Val, Process, Chan, Out, In}
use Rattle.pict_view.specs.View.{View, list_at}

abbrev pub is_output : Process → Bool
is_output (Out chan message at) = true
is_output _ = false

abbrev pub is_input : Process → Bool
is_input (In chan replicated pattern body) = true
is_input _ = false

-- the list of the channel that a value is
abbrev pub channel_list : Val → List (List Process) → List Process
channel_list (Chan c) lists = list_at c lists
channel_list _ lists = []

-- the parked partners of a process; one that stands at no channel has none
abbrev pub partners_in : List (List Process) → Process → List Process
partners_in lists (Out chan message at) = filter is_input (channel_list chan lists)
partners_in lists (In chan replicated pattern body) = filter is_output (channel_list chan lists)
partners_in lists _ = []

-- A place of the view: a ready process is there, and so is the partner; or it has none, and the second number is 0.
pub record IsPlaceOf (v : View) (i j : ℕ) : Type 0 where
  pub process : Process
  pub ready : slice_get v.ready i ≡ Some process
  pub partner : (j < length (partners_in v.channels process)) ⊎ ((length (partners_in v.channels process) ≡ 0) × (j ≡ 0))
