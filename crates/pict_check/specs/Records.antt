-- The fields of a record or an application, as what values fit.
use Rattle.std.specs.Prelude.{Option}
use Rattle.pict_syntax.specs.declared.span.Span.{Span}
use Rattle.pict_syntax.specs.Trees.{FieldVals, Val, Vals, field_vals, LabelledVals}
use Rattle.pict_syntax.specs.declared.code.Code.TheVariants.{Y8}
use Rattle.pict_syntax.specs.declared.id.Id.{Id}
use Rattle.pict_types.specs.declared.types.Record.{Record}
use Rattle.pict_types.specs.Plain.{plain_bounds, plain_labels, plain_types}
use Rattle.pict_types.specs.Types.{PlainType, PlainLabels, type_at}
use Rattle.pict_sub.specs.Exposing.{exposure}
use Rattle.pict_rules.specs.Environments.{Environment, context_of}
use Rattle.pict_rules.specs.Found.{Found}
use Rattle.pict_rules.specs.Rules.{Rule, arguments_, found_, Judgement, fields_fit, give, type_, part, gives, value_fits}
use Rattle.pict_rules.specs.Clauses.{in_order, found_first, if_labelled, need_function}
use Rattle.pict_rules.specs.Shapes.{applicable}
use Rattle.pict_lines.specs.Lines.{application_end}

abbrev pub fits_record : Span → FieldVals → Record → Found → Judgement arguments_
fits_record s f r g = fields_fit s f (plain_bounds r.binders.items) (plain_types r.positional.items) (plain_labels r.labelled.items) g

-- the values of fields
abbrev pub positional_of : FieldVals → Vals
positional_of (field_vals ts vs ls) = vs

abbrev pub labelled_of : FieldVals → LabelledVals
labelled_of (field_vals ts vs ls) = ls

-- the values alone, in written order
abbrev pub values_in_order : Environment → Span → FieldVals → Record → Found → Rule found_
values_in_order e s f r g = in_order e s (positional_of f) (labelled_of f) (plain_types r.positional.items) (plain_labels r.labelled.items) g give

-- a labelled value fits the type at its label, if there is one
abbrev pub labelled_value_fits : Environment → Span → Id → Val → PlainLabels → Found → Rule found_
labelled_value_fits e s l v ms g =
    if_labelled (type_at l.name.0 ms) (λ t. part e (value_fits s v t g) give) (
    part e (gives v) (λ _. give g))

-- an application, once its head, at this place, gave a type
abbrev pub application_of : Environment → Span → Span → PlainType → FieldVals → Option PlainType → Rule type_
application_of e s at t vs x =
    need_function (applicable (exposure (context_of e) t)) Y8 at (λ r.
    part e (fields_fit s vs r.binders r.positional r.labelled (found_first e vs r x)) (λ args.
    application_end e s r.answer args x))
