-- The nodes of a process, in the order in which it is read.
use Rattle.std.specs.Prelude.{Bool, true, false, List, [], ◌∷◌, ◌++◌, Option, Some, None}
use Rattle.pict_syntax.specs.declared.span.Span.{Span}
use Rattle.pict_core.specs.Term.{Process, Zero, Par, New, Out, In, If}
use Rattle.pict_places.specs.declared.origin.NodeKind.{NodeKind}
use Rattle.pict_places.specs.declared.origin.NodeKind.TheVariants as kind
use Rattle.pict_places.specs.declared.origin.Node.{Node}
use Rattle.pict_places.specs.declared.origin.Origin.{Origin}

-- a node that has no place in the code
abbrev pub without_place : NodeKind → Node
without_place k = record { kind = k; place = None }

abbrev pub input_kind : Bool → NodeKind
input_kind true = kind.Serve
input_kind false = kind.In

-- the process itself, and then those in it, from left to right
abbrev pub nodes_of : Process → List Node
nodes_of Zero = without_place kind.Zero ∷ []
nodes_of (Par p q) = without_place kind.Par ∷ (nodes_of p ++ nodes_of q)
nodes_of (New p) = without_place kind.New ∷ nodes_of p
nodes_of (Out chan message at) = record { kind = kind.Out; place = Some at } ∷ []
nodes_of (In chan replicated pattern body) = without_place (input_kind replicated) ∷ nodes_of body
nodes_of (If test p q) = without_place kind.If ∷ (nodes_of p ++ nodes_of q)

-- outputs alone have a place in the code
abbrev pub place_of : NodeKind → Span → Option Span
place_of kind.Out span = Some span
place_of _ span = None

-- the node that comes from here
abbrev pub node_from : Origin → Node
node_from o = record { kind = o.kind; place = place_of o.kind o.span }
