-- A use of a name: its nearest binder, or else the primitive.
use Rattle.std.proofs.Common.{rules, ◌≡◌, ◌∙◌, Some, None, true, sym, ap, option_map}
use Rattle.std.specs.Prelude.{unwrap_or}
use Rattle.pict_core.specs.Term.{Var, PrimitiveVal}
use Rattle.pict_syntax.specs.Names.{text_of}
use Rattle.pict_binders.specs.Numbered.{nearest}
use Rattle.pict_scope.specs.PrimitiveNames.{primitive_named}
use Rattle.pict_translation.specs.Simple.{or_primitive, nothing}
use Rattle.pict_derive.proofs.LevelLemmas.{value_nearest}
use Rattle.pict_derive.proofs.Surrounding.{plain_var, plain_primitive, plain_bool}
use Rattle.pict_derive.proofs.simple.use_core.Goals as goal

pub returns-in-Some : goal.returns-in-Some
returns-in-Some c =
    let n = c.args.name.0 in
    let h : nearest c.args.scope.now n ≡ Some c.in-Some.level = search rules in
    plain_var c.in-Some.level ∙ sym (ap (or_primitive (text_of c.args.names.now n)) (value_nearest c.args.scope.now n ∙ ap (option_map Var) h))

pub returns-in-Some-primitive_named : goal.returns-in-Some-primitive_named
returns-in-Some-primitive_named c =
    let n = c.args.name.0 in
    let h : nearest c.args.scope.now n ≡ None = search rules in
    let p : primitive_named (text_of c.args.names.now n) ≡ Some c.in-Some-primitive_named.primitive = search rules in
    plain_primitive c.in-Some-primitive_named.primitive
    ∙ sym (ap (or_primitive (text_of c.args.names.now n)) (value_nearest c.args.scope.now n ∙ ap (option_map Var) h) ∙ ap (λ o. unwrap_or (option_map PrimitiveVal o) nothing) p)

pub returns-in-None-primitive_named : goal.returns-in-None-primitive_named
returns-in-None-primitive_named c =
    let n = c.args.name.0 in
    let h : nearest c.args.scope.now n ≡ None = search rules in
    let p : primitive_named (text_of c.args.names.now n) ≡ None = search rules in
    plain_bool true
    ∙ sym (ap (or_primitive (text_of c.args.names.now n)) (value_nearest c.args.scope.now n ∙ ap (option_map Var) h) ∙ ap (λ o. unwrap_or (option_map PrimitiveVal o) nothing) p)
