-- Parts of the rules of patterns against a type, each as a rule of its own.
use Rattle.std.specs.Prelude.{ℕ}
use Rattle.pict_syntax.specs.declared.code.Code.TheVariants.{Y6}
use Rattle.pict_syntax.specs.declared.span.Span.{Span}
use Rattle.pict_syntax.specs.Grammar.{pat_span}
use Rattle.pict_syntax.specs.Trees.{FieldPats, Pat}
use Rattle.pict_types.specs.declared.types.Record.{Record}
use Rattle.pict_types.specs.Types.{PlainLabels, type_at}
use Rattle.pict_rules.specs.Environments.{Environment, within}
use Rattle.pict_rules.specs.Rules.{extension_, opened_, Judgement, Rule, give, part, pattern_against, refuse}
use Rattle.pict_rules.specs.Clauses.{if_labelled}
use Rattle.pict_rules.specs.Typing.{rule}
use Rattle.pict_infer.specs.Opening.{against_fields}

-- the fields of a pattern that stands at this place, against those of a record
abbrev pub against_record : Span → FieldPats → Record → Judgement opened_
against_record s f r = against_fields s f r.binders.items r.positional.items r.labelled.items

-- fields, and what they add within their own type variables
abbrev pub closed_fields : Environment → Judgement opened_ → Rule extension_
closed_fields e j = part e j (λ x. give (within x.own x.adds))

-- a pattern at a label: against the type there, or Y6 at it
abbrev pub at_label : Environment → ℕ → Pat → PlainLabels → Rule extension_
at_label e l p ms = if_labelled (type_at l ms) (λ t. rule e (pattern_against p t)) (refuse Y6 (pat_span p))
