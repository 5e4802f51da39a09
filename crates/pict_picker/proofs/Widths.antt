-- The frames of nodes, and of the parts of inputs.
use Rattle.std.proofs.Common.{ℕ, ◌<◌, ◌≤◌, ◌≡◌, Bool, true, false, List, length, map, get_or, refl, ap, ◌∙◌, Some, None, option_map}
use Rattle.std.proofs.lemmas.Option.{slice_get-map, slice_get_read, slice_get_past}
use Rattle.std.specs.List.{slice_get}
use Rattle.pict_core.specs.Term.{Val}
use Rattle.pict_code.specs.Instruction.{Node, CodePat}
use Rattle.pict_code.specs.Nodes.{input_op}
use Rattle.pict_code.specs.Plain.{plain_node, plain_op}
use Rattle.pict_code.specs.declared.instruction.Node as written
use Rattle.pict_code.specs.declared.instruction.Op.{Op as WrittenOp}
use Rattle.pict_code.specs.declared.instruction.Op.TheVariants as written_op
use Rattle.pict_code.specs.declared.pattern.CodePat as written_pattern
use Rattle.pict_core.specs.declared.value.CoreVal.{CoreVal}
use Rattle.pict_picker.specs.Parts.{frame_width, part_width, reader_width}
use Rattle.pict_picker.specs.declared.waiting.Waiting.{Waiting}

pub node_there : (code : List written.Node) (number : ℕ) (node : written.Node) → slice_get code number ≡ Some node → slice_get (map plain_node code) number ≡ Some (plain_node node)
node_there code number node e = slice_get-map plain_node code number ∙ ap (option_map plain_node) e

pub node_missing : (code : List written.Node) (number : ℕ) → slice_get code number ≡ None → slice_get (map plain_node code) number ≡ None
node_missing code number e = slice_get-map plain_node code number ∙ ap (option_map plain_node) e

-- an instruction, as it is written, that is neither of the two is no input
pub no_width : (nodes : List Node) (o : WrittenOp) → ((x : CoreVal) (y : written_pattern.CodePat) (z : ℕ) → ¬ (o ≡ written_op.In x y z))
    → ((x : CoreVal) (y : written_pattern.CodePat) (z : ℕ) → ¬ (o ≡ written_op.Serve x y z)) → 0 ≡ part_width nodes (plain_op o)
no_width nodes written_op.Zero n m = refl
no_width nodes (written_op.Par l r) n m = refl
no_width nodes (written_op.New l r) n m = refl
no_width nodes (written_op.Out x y at) n m = refl
no_width nodes (written_op.If t l r) n m = refl
no_width nodes (written_op.In x y z) n m = absurd (n x y z refl)
no_width nodes (written_op.Serve x y z) n m = absurd (m x y z refl)

-- there is none past the end
pub none_past : (items : List Waiting) (j : ℕ) (w : Waiting) → length items ≤ j → slice_get items j ≡ Some w → ⊥
none_past items j w past e = let none = slice_get_past items j past in cc

input_width : (nodes : List Node) (b : Bool) (chan : Val) (pattern : CodePat) (part : ℕ) → part_width nodes (input_op b chan pattern part) ≡ frame_width (slice_get nodes part)
input_width nodes true chan pattern part = refl
input_width nodes false chan pattern part = refl

pub read_there : (code : List written.Node) (number : ℕ) (node : written.Node) → number < length code → node ≡ get_or code number node → slice_get code number ≡ Some node
read_there code number node low read = slice_get_read code (length code) number node refl low read

-- the width of the part of an input that is read at a number
pub read_width : (code : List written.Node) (number : ℕ) (node : written.Node) → number < length code → node ≡ get_or code number node
    → (b : Bool) (chan : Val) (pattern : CodePat) (part : ℕ) → plain_op node.op ≡ input_op b chan pattern part
    → reader_width (map plain_node code) (slice_get (map plain_node code) number) ≡ frame_width (slice_get (map plain_node code) part)
read_width code number node low read b chan pattern part is =
    ap (reader_width (map plain_node code)) (node_there code number node (read_there code number node low read))
    ∙ ap (part_width (map plain_node code)) is ∙ input_width (map plain_node code) b chan pattern part
