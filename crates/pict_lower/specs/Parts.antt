-- The parts of a part, one nesting below it.
use Rattle.std.specs.Prelude.{ℕ, ◌+◌, ◌||◌, Bool, false, List, [], ◌∷◌, map, reverse, slice_get, Option, None, Some}
use Rattle.std.specs.List.{flat_map}
use Rattle.pict_core.specs.Term.{Process, Zero, Par, New, Out, In, If}
use Rattle.pict_core.specs.Closed.{binds}
use Rattle.pict_core.specs.Plain.{plain_core}
use Rattle.pict_code.specs.Frames.{frame_of, in_value}
use Rattle.pict_code.specs.Nodes.{Place, place, places, size}
use Rattle.pict_lower.specs.declared.places.Place as code

abbrev pub plain_place : code.Place → Place
plain_place p = place p.around (plain_core p.process.now)

abbrev pub parts : ℕ → Process → List Place
parts n Zero = []
parts n (Par p q) = place n p ∷ place n q ∷ []
parts n (New p) = place (n + 1) p ∷ []
parts n (Out chan message at) = []
parts n (In chan replicated pattern body) = place (n + binds pattern) body ∷ []
parts n (If test p q) = place n p ∷ place n q ∷ []

abbrev pub parts_of : Place → List Place
parts_of p = parts p.around p.process

-- these places, each with all that are nested in it, in preorder
abbrev pub all_places : List Place → List Place
all_places ps = flat_map (λ (p : Place). places p.around p.process) ps

-- what waits on a pile, from its top on
abbrev pub waiting : List code.Place → List Place
waiting pile = map plain_place (reverse pile)

abbrev pub frame_of_option : Option Place → List ℕ
frame_of_option None = []
frame_of_option (Some p) = frame_of p.around p.process

abbrev pub size_of_option : Option Place → ℕ
size_of_option None = 0
size_of_option (Some p) = size p.process

-- the frame and the size of the part at an index, if there is one
abbrev pub frame_at : List Place → ℕ → List ℕ
frame_at ps i = frame_of_option (slice_get ps i)

abbrev pub size_at : List Place → ℕ → ℕ
size_at ps i = size_of_option (slice_get ps i)

-- whether a variable occurs in a process' own operands
abbrev pub in_operands : ℕ → Process → Bool
in_operands level Zero = false
in_operands level (Par p q) = false
in_operands level (New p) = false
in_operands level (Out chan message at) = in_value level chan || in_value level message
in_operands level (In chan replicated pattern body) = in_value level chan
in_operands level (If test p q) = in_value level test
