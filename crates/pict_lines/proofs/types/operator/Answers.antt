-- The type is expanded where the parameters are known, and then the operator is known where they aren't.
use Rattle.std.proofs.Common.{◌≡◌, ◌-◌, ◌∙◌, length, ap₂, arith, rules}
use Rattle.pict_syntax.specs.PlainTrees.{type_of}
use Rattle.pict_types.specs.Plain.{plain}
use Rattle.pict_types.specs.Types.{Op}
use Rattle.pict_rules.specs.Environments.{defined}
use Rattle.pict_infer.specs.Environments.{environment_of}
use Rattle.pict_lines.proofs.TypeEnds.{operator_done, operator_fits, operator_formed, operator_refused, parameters_opened}
use Rattle.pict_lines.proofs.types.operator.Goals as goal

pub overflow_sub-count : goal.overflow_sub-count
overflow_sub-count c =
    omega (arith, c.variables-around.ensures, c.variables.ensures, parameters_opened (environment_of c.args.env.now) (environment_of c.open_parameters.new.env) c.args.params.now c.in_ok-open_parameters.ensures.entries)

pub returns-in_err-body-clause-answer : goal.returns-in_err-body-clause-answer
returns-in_err-body-clause-answer c =
    let e = environment_of c.args.env.now in
    let d = environment_of c.open_parameters.new.env in
    let h = operator_refused e d c.args.id.span c.args.id c.args.params.now (type_of c.args.t.now) c.in_err-body.field-0.0 c.in_ok-open_parameters.ensures.names c.in_ok-open_parameters.ensures.entries c.in_err-body.ensures.answer in
    search (rules, h)

pub define-requires : goal.define-requires
define-requires c =
    let e = environment_of c.args.env.now in
    let d = environment_of c.open_parameters.new.env in
    let xs = c.args.params.now in
    let u = plain c.in_ok-body.body in
    let same = (c.cut.ensures c.args.env.now c.place-outer.ensures c.in_ok-open_parameters.ensures.grew).known in
    let count : c.variables.result - c.variables-around.result ≡ length xs = omega (arith, c.variables-around.ensures, c.variables.ensures, parameters_opened e d xs c.in_ok-open_parameters.ensures.entries) in
    record {
      formed = operator_fits e (environment_of c.cut.new.self) (c.variables.result - c.variables-around.result) (length xs) u same count
          (operator_formed e d c.args.id.span c.args.id xs (type_of c.args.t.now) u c.requires.right c.in_ok-open_parameters.ensures.names c.in_ok-open_parameters.ensures.entries c.in_ok-body.ensures.answer);
    }

pub returns-clause-answer : goal.returns-clause-answer
returns-clause-answer c =
    let e = environment_of c.args.env.now in
    let d = environment_of c.open_parameters.new.env in
    let x = c.args.id in
    let xs = c.args.params.now in
    let u = plain c.in_ok-body.body in
    let same = (c.cut.ensures c.args.env.now c.place-outer.ensures c.in_ok-open_parameters.ensures.grew).known in
    let count : c.variables.result - c.variables-around.result ≡ length xs = omega (arith, c.variables-around.ensures, c.variables.ensures, parameters_opened e d xs c.in_ok-open_parameters.ensures.entries) in
    operator_done e d (environment_of c.define.new.self) x.span x xs (type_of c.args.t.now) u c.in_ok-open_parameters.ensures.names c.in_ok-open_parameters.ensures.entries c.in_ok-body.ensures.answer
    (c.in_ok-define.ensures.known ∙ ap₂ (λ z n. defined z x (Op n u)) same count)
