-- The worked row: new c. (c!1 | (c?n = printi!n | 0)).
use Rattle.std.proofs.Common.{◌≡◌, ℕ, List, [], ◌∷◌, refl, pos, false, codes}
use Rattle.pict_syntax.specs.declared.span.Span.{Span}
use Rattle.pict_syntax.specs.declared.primitive.Primitive.TheVariants as primitive
use Rattle.pict_core.specs.Term.{Var, Int, PrimitiveVal, Bind, Process, Zero, Par, New, Out, In}
use Rattle.pict_code.specs.Instruction as code
use Rattle.pict_code.specs.Instruction.{Node}
use Rattle.pict_code.specs.Nodes.{nodes_of}

here : Span
here = record { text = 1; start = 0; end = 0 }

row : Process
row = New (Par (Out (Var 0) (Int (pos 1)) here) (Par (In (Var 0) false Bind (Out (PrimitiveVal primitive.Printi) (Var 1) here)) Zero))

node : List ℕ → code.Op → Node
node frame op = record { frame = frame; op = op }

row_nodes : nodes_of row ≡
    node [] (code.New 0 1)
    ∷ node (0 ∷ []) (code.Par 2 3)
    ∷ node (0 ∷ []) (code.Out (Var 0) (Int (pos 1)) here)
    ∷ node (0 ∷ []) (code.Par 4 6)
    ∷ node (0 ∷ []) (code.In (Var 0) (code.Bind 1) 5)
    ∷ node (1 ∷ []) (code.Out (PrimitiveVal primitive.Printi) (Var 1) here)
    ∷ node [] code.Zero
    ∷ []
unfolding row node
row_nodes = refl
