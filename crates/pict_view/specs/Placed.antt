-- A deed, placed in a view: of the i-th of the ready processes, with the j-th of those that wait at its channel.
use Rattle.std.specs.Prelude.{ℕ, ◌+◌, Bool, true, false, List, [], ◌∷◌, ◌++◌, take, drop, length, slice_get, slice_set, Option, Some, None}
use Rattle.pict_core.specs.Term.{Val, Process, Chan, Out, In}
use Rattle.pict_core.specs.Deed.{Deed, Ends, Keeps, Forks, Opens, Parks, Serves, Takes, Misfits, deed}
use Rattle.pict_core.specs.Deed as deeds
use Rattle.pict_core.specs.Step.{Label, Quiet, Comm}
use Rattle.pict_view.specs.View.{View, list_at}
use Rattle.pict_view.specs.Moved.{Moved, Moves, Stops, Misshapen, Over, if_replicated}

-- the list without its i-th
abbrev pub without : {A : Type 0} → ℕ → List A → List A
without i xs = take i xs ++ drop (i + 1) xs

-- the list with this in place of its i-th
abbrev pub instead : {A : Type 0} → ℕ → A → List A → List A
instead i x xs = take i xs ++ (x ∷ drop (i + 1) xs)

-- the ready processes and the lists of the channels afterwards
abbrev pub moves : List Process → List (List Process) → Label → Moved View
moves ready lists label = Moves (record { ready = ready; channels = lists }) label

abbrev pub at_list : (List Process → Moved View) → Option (List Process) → Moved View
at_list go None = Misshapen
at_list go (Some parked) = go parked

-- a replicated input keeps its turn, a plain one ends
abbrev pub ready_after : ℕ → Bool → List Process → List Process
ready_after i true ready = ready
ready_after i false ready = without i ready

-- the deed of the i-th ready process, whose partner, if it has one, is the j-th in the list of its channel
abbrev pub place_at : ℕ → ℕ → List Process → List (List Process) → Deed → Moved View
place_at i j ready lists (Ends label) = moves (without i ready) lists label
place_at i j ready lists (Keeps p label) = moves (instead i p ready) lists label
place_at i j ready lists (Forks p q) = moves (instead i p ready ++ q ∷ []) lists Quiet
place_at i j ready lists (Opens p) = moves (instead i p ready) (lists ++ [] ∷ []) Quiet
place_at i j ready lists (Parks c p) =
    at_list (λ parked. moves (without i ready) (slice_set lists c (parked ++ p ∷ [])) Quiet) (slice_get lists c)
place_at i j ready lists (Serves c v replicated reader body) =
    at_list
    (λ parked.
    moves (without i ready ++ body ∷ []) (slice_set lists c (without j parked ++ if_replicated replicated reader)) (Comm c v))
    (slice_get lists c)
place_at i j ready lists (Takes c v replicated body) =
    at_list
    (λ parked. moves (ready_after i replicated ready ++ body ∷ []) (slice_set lists c (without j parked)) (Comm c v))
    (slice_get lists c)
place_at i j ready lists (deeds.Stops at) = Stops at
place_at i j ready lists Misfits = Misshapen

abbrev pub if_input : Option Process → Option Process
if_input (Some (In chan replicated pattern body)) = Some (In chan replicated pattern body)
if_input _ = None

abbrev pub if_output : Option Process → Option Process
if_output (Some (Out chan message at)) = Some (Out chan message at)
if_output _ = None

abbrev pub parked_at : ℕ → List (List Process) → Val → Option Process
parked_at j lists (Chan c) = slice_get (list_at c lists) j
parked_at j lists _ = None

-- the j-th process in the list of its channel: an input for an output, and an output for an input
abbrev pub partner_at : ℕ → List (List Process) → Process → Option Process
partner_at j lists (Out chan message at) = if_input (parked_at j lists chan)
partner_at j lists (In chan replicated pattern body) = if_output (parked_at j lists chan)
partner_at j lists _ = None

abbrev pub act_at : ℕ → ℕ → List Process → List (List Process) → Option Process → Moved View
act_at i j ready lists None = Over
act_at i j ready lists (Some p) = place_at i j ready lists (deed (length lists) (partner_at j lists p) p)

-- the step of the i-th ready process, with the j-th of its parked partners, if it has one
abbrev pub next_at : ℕ → ℕ → View → Moved View
next_at i j v = act_at i j v.ready v.channels (slice_get v.ready i)

-- the oldest-first step: of the first, with the first of its partners
abbrev pub next_view : View → Moved View
next_view v = next_at 0 0 v
