-- What patterns that give a type answer.
use Rattle.std.specs.Prelude.{Result, Ok, Err}
use Rattle.pict_syntax.specs.Trees.{FieldPats}
use Rattle.pict_types.specs.Plain.{plain, plain_types, plain_labels, plain_record}
use Rattle.pict_rules.specs.Environments.{Environment}
use Rattle.pict_rules.specs.Rules.{TypedPattern, TypedPatterns, TypedLabels, fields_give}
use Rattle.pict_rules.specs.Typing.{rule}
use Rattle.pict_infer.specs.declared.error.InferError.{InferError}
use Rattle.pict_infer.specs.declared.giving.Typed.{Typed}
use Rattle.pict_infer.specs.declared.giving.TypedAll.{TypedAll}
use Rattle.pict_infer.specs.declared.giving.TypedLabelled.{TypedLabelled}
use Rattle.pict_infer.specs.declared.giving.TypedFields.{TypedFields}
use Rattle.pict_infer.specs.Adding.{extension_of}
use Rattle.pict_infer.specs.Answering.{IsRefused}
use Rattle.pict_infer.specs.Opening.{HasFields}

abbrev pub typed_pattern : Typed → TypedPattern
typed_pattern x = record { has = plain x.has; adds = extension_of x.adds }

abbrev pub typed_all : TypedAll → TypedPatterns
typed_all x = record { have = plain_types x.have.items; adds = extension_of x.adds }

abbrev pub typed_labelled : TypedLabelled → TypedLabels
typed_labelled x = record { have = plain_labels x.have.items; adds = extension_of x.adds }

abbrev pub OpensFields : Environment → Environment → FieldPats → Result TypedFields InferError → Type 0
OpensFields e d f (Ok x) = HasFields e d f (plain_record x.has) x.adds
OpensFields e d f (Err y) = IsRefused (rule e (fields_give f)) y
