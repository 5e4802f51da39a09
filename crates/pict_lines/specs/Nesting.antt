-- Forms from the right and from the left, as the code has them.
use Rattle.std.specs.Prelude.{◌≡◌, suc, List, length, drop, take, Option}
use Rattle.pict_syntax.specs.declared.tree.Val.{Val as RVal}
use Rattle.pict_syntax.specs.Trees.{Val}
use Rattle.pict_types.specs.declared.types.Ty.{Ty}
use Rattle.pict_types.specs.Types.{PlainType}
use Rattle.pict_match.specs.declared.found.Found.{Found}
use Rattle.pict_rules.specs.Environments.{Environment}
use Rattle.pict_lines.specs.declared.operators.Applied.{Applied}
use Rattle.pict_lines.specs.Chains.{AreBegun, AreEntered, IsHead, nested, nested_left, wanted_inside, wanted_within}
use Rattle.pict_lines.specs.Judging.{IsAskedFor}
use Rattle.pict_lines.specs.Operators.{frames_by, operator_of, type_if, vals_of}

-- FROM THE RIGHT

-- the nested applications that the form stands for, and what is inside those that are entered
abbrev pub right_form : Applied → List RVal → Val
right_form o vs = nested o.span o.name (vals_of vs)

abbrev pub right_inside : Applied → List RVal → List Found → Val
right_inside o vs fs = nested o.span o.name (drop (length (frames_by o fs)) (vals_of vs))

abbrev pub wanted_right : Applied → Option Ty → List Found → Option PlainType
wanted_right o x fs = wanted_inside (operator_of o) (type_if x) (frames_by o fs)

-- so many applications are entered, with what the first field of each found
abbrev pub AreEnteredSoFar : Environment → Applied → List RVal → Option Ty → List Found → Type 0
AreEnteredSoFar e o vs x fs = AreEntered e o.span (operator_of o) (vals_of vs) (type_if x) (frames_by o fs)

-- the operator may be applied, and it may be asked whether the form has the type that is expected, or what it gives
pub record IsRightForm (e : Environment) (o : Applied) (vs : List RVal) (x : Option Ty) : Type 0 where
  pub head : IsHead e o.name (operator_of o)
  pub asked : IsAskedFor e (right_form o vs) (type_if x)

-- all applications are entered
pub record AreAllEntered (e : Environment) (o : Applied) (vs : List RVal) (x : Option Ty) (fs : List Found) : Type 0 where
  pub entered : AreEnteredSoFar e o vs x fs
  pub count : suc (length fs) ≡ length vs

-- FROM THE LEFT

abbrev pub left_form : Applied → List RVal → Val
left_form o vs = nested_left o.span o.name (vals_of vs)

abbrev pub left_first : Applied → List RVal → Val
left_first o vs = nested_left o.span o.name (take 1 (vals_of vs))

abbrev pub wanted_left : Applied → Option Ty → List Found → Option PlainType
wanted_left o x fs = wanted_within (operator_of o) (type_if x) (frames_by o fs)

-- so many applications are begun, with what is found before the fields of each
abbrev pub AreBegunSoFar : Environment → Applied → Option Ty → List Found → Type 0
AreBegunSoFar e o x fs = AreBegun e o.span (operator_of o) (type_if x) (frames_by o fs)

pub record IsLeftForm (e : Environment) (o : Applied) (vs : List RVal) (x : Option Ty) : Type 0 where
  pub head : IsHead e o.name (operator_of o)
  pub asked : IsAskedFor e (left_form o vs) (type_if x)

-- all applications are begun
pub record AreAllBegun (e : Environment) (o : Applied) (vs : List RVal) (x : Option Ty) (fs : List Found) : Type 0 where
  pub begun : AreBegunSoFar e o x fs
  pub count : suc (length fs) ≡ length vs
