-- The operator of a form from the right or from the left, as the rules see it; and what is well formed there.
use Rattle.std.specs.Prelude.{◌≡◌, List, [], ◌∷◌, map, Option, Some, None}
use Rattle.pict_syntax.specs.declared.tree.Val.{Val as RVal}
use Rattle.pict_syntax.specs.declared.span.Span.{Span}
use Rattle.pict_syntax.specs.PlainTrees.{val_of}
use Rattle.pict_syntax.specs.Trees.{Val}
use Rattle.pict_types.specs.declared.types.Ty.{Ty}
use Rattle.pict_types.specs.Types.{PlainType, PlainBounds}
use Rattle.pict_types.specs.Plain.{plain, plain_bounds, plain_types}
use Rattle.pict_match.specs.declared.found.Found.{Found}
use Rattle.pict_rules.specs.Environments.{Environment}
use Rattle.pict_rules.specs.Found as rules
use Rattle.pict_rules.specs.Regular.{FoundFits, kinds_found, kinds_of_fields}
use Rattle.pict_rules.specs.Shapes.{nth_type}
use Rattle.pict_lines.specs.declared.operators.Applied.{Applied}
use Rattle.pict_lines.specs.Chains as chains
use Rattle.pict_lines.specs.Chains.{as_function, room_stop, wanted_at}
use Rattle.pict_lines.specs.Functions.{FunctionIsFormed}
use Rattle.pict_lines.specs.Reading.{found_for}

abbrev pub operator_of : Applied → chains.Applied
operator_of o = record {
  binders = plain_bounds o.function.fields.binders.items;
  first = nth_type 0 (plain_types o.function.fields.positional.items);
  second = nth_type 1 (plain_types o.function.fields.positional.items);
  answer = plain o.function.answer;
}

-- what it takes and answers is well formed
abbrev pub IsOperatorIn : Environment → Applied → Type 0
IsOperatorIn e o = FunctionIsFormed e (as_function (operator_of o))

-- what is found for its type fields
abbrev pub found_by : Applied → Found → rules.Found
found_by o g = found_for o.function.fields.binders.items g

abbrev pub frames_by : Applied → List Found → List rules.Found
frames_by o gs = map (found_by o) gs

-- the values of a form
abbrev pub vals_of : List RVal → List Val
vals_of vs = map val_of vs

-- a type that is wanted or given, if any is
abbrev pub type_if : Option Ty → Option PlainType
type_if None = None
type_if (Some t) = Some (plain t)

-- what is found is of the kinds of the type fields, and well formed
pub record IsFoundFor (e : Environment) (bs : PlainBounds) (g : rules.Found) : Type 0 where
  pub kinds_ : kinds_found g ≡ kinds_of_fields bs
  pub fits : FoundFits e g

abbrev pub AreFoundFor : Environment → PlainBounds → List rules.Found → Type 0
AreFoundFor e bs [] = Unit {0}
AreFoundFor e bs (g ∷ gs) = IsFoundFor e bs g × AreFoundFor e bs gs

-- the types that are wanted inside each of these are within the limits
abbrev pub HaveRoom : Environment → Span → PlainType → List rules.Found → Type 0
HaveRoom e s t [] = Unit {0}
HaveRoom e s t (g ∷ gs) = (room_stop e s (wanted_at t g) ≡ None) × HaveRoom e s t gs
