-- What is applied, as the rules see it.
use Rattle.std.specs.Prelude.{Option}
use Rattle.pict_syntax.specs.declared.code.Code.TheVariants.{Y8}
use Rattle.pict_syntax.specs.declared.span.Span.{Span}
use Rattle.pict_types.specs.declared.types.Record.{Record}
use Rattle.pict_types.specs.Plain.{plain, plain_bounds, plain_types, plain_labels, plain_record}
use Rattle.pict_rules.specs.Shapes.{function_by, respond_or_write}
use Rattle.pict_rules.specs.Shapes as rules
use Rattle.pict_types.specs.Kinds.{IsWellFormed, kinds_under}
use Rattle.pict_rules.specs.Environments.{Environment}
use Rattle.pict_rules.specs.Regular.{AreFieldsIn, kinds_in}
use Rattle.pict_rules.specs.Rules.{nothing_}
use Rattle.pict_rules.specs.Clauses.{done, need_function}
use Rattle.pict_infer.specs.declared.error.InferError.{InferError}
use Rattle.pict_infer.specs.Answering.{IsRefused}
use Rattle.pict_lines.specs.declared.functions.Function.{Function}

abbrev pub function_of : Function → rules.Function
function_of f = record {
  binders = plain_bounds f.fields.binders.items;
  positional = plain_types f.fields.positional.items;
  labelled = plain_labels f.fields.labelled.items;
  answer = plain f.answer;
}

-- the function that takes the fields of this record
abbrev pub function_in : Record → Option rules.Function
function_in r = function_by (λ bs. respond_or_write) (plain_record r)

-- there is no function, which is refused at this place; or memory is wanted
abbrev pub IsNoFunction : Option rules.Function → Span → InferError → Type 0
IsNoFunction o at y = IsRefused {s = nothing_} (need_function o Y8 at (λ f. done)) y

-- what is applied is well formed: the fields and the answer under the type fields
pub record FunctionIsFormed (e : Environment) (f : rules.Function) : Type 0 where
  pub fields : AreFieldsIn e f.binders f.positional f.labelled
  pub answer_ : IsWellFormed e.names (kinds_under (kinds_in e) f.binders) f.answer
