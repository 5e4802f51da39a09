-- What the types of instructions stand for: their plain values.
use Rattle.std.specs.Prelude.{ℕ, List, [], ◌∷◌, map}
use Rattle.pict_syntax.specs.declared.name.Name.{Name}
use Rattle.pict_core.specs.Plain.{plain_val}
use Rattle.pict_code.specs.Instruction as plain
use Rattle.pict_code.specs.declared.pattern.CodePat.{CodePat, fold-CodePat}
use Rattle.pict_code.specs.declared.pattern.CodePat.TheOpen.{CodePat-F}
use Rattle.pict_code.specs.declared.instruction.Op.{Op}
use Rattle.pict_code.specs.declared.instruction.Op.TheVariants as op
use Rattle.pict_code.specs.declared.instruction.Node.{Node}
use Rattle.pict_code.specs.declared.instruction.Code.{Code}

abbrev pub pats_of : List plain.CodePat → plain.CodePats
pats_of [] = plain.no_pats
pats_of (p ∷ ps) = plain.more_pats p (pats_of ps)

abbrev pub labelled_pats_of : List (Name × plain.CodePat) → plain.LabelledCodePats
labelled_pats_of [] = plain.no_labelled_pats
labelled_pats_of (e ∷ es) = plain.more_labelled_pats e.0.0 e.1 (labelled_pats_of es)

-- one level of a pattern, whose parts are plain already
abbrev pub pat_step : CodePat-F plain.CodePat → plain.CodePat
pat_step (CodePat-F.Bind level) = plain.Bind level
pat_step CodePat-F.Any = plain.Any
pat_step (CodePat-F.Fields positional labelled) = plain.RecordPat (pats_of positional.items) (labelled_pats_of labelled.items)

abbrev pub plain_pat : CodePat → plain.CodePat
plain_pat = fold-CodePat plain.CodePat pat_step

abbrev pub plain_pat_field : Name × CodePat → Name × plain.CodePat
plain_pat_field e = (e.0, plain_pat e.1)

abbrev pub plain_op : Op → plain.Op
plain_op op.Zero = plain.Zero
plain_op (op.Par left right) = plain.Par left right
plain_op (op.New level part) = plain.New level part
plain_op (op.Out chan message at) = plain.Out (plain_val chan) (plain_val message) at
plain_op (op.In chan pattern part) = plain.In (plain_val chan) (plain_pat pattern) part
plain_op (op.Serve chan pattern part) = plain.Serve (plain_val chan) (plain_pat pattern) part
plain_op (op.If test left right) = plain.If (plain_val test) left right

abbrev pub plain_node : Node → plain.Node
plain_node node = record { frame = node.frame.value.items; op = plain_op node.op }

abbrev pub plain_code : Code → List plain.Node
plain_code code = map plain_node code.nodes.items
