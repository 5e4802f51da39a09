-- The declarations of the program, where nothing is declared before.
use Rattle.std.proofs.Common.{sym, subst}
use Rattle.pict_syntax.specs.PlainTrees.{decs_on, declarations_of}
use Rattle.pict_syntax.specs.Trees.{no_decs}
use Rattle.pict_rules.specs.Environments.{Environment, no_environment}
use Rattle.pict_rules.specs.Rules.{declarations, environment_, ok}
use Rattle.pict_rules.specs.Typing.{rule}
use Rattle.pict_rules.specs.Derivations.{Runs}
use Rattle.pict_infer.specs.Answering.{IsRefused}
use Rattle.pict_infer.specs.Asking.{IsWellAsked}
use Rattle.pict_infer.specs.Environments.{environment_of}
use Rattle.pict_check.specs.Refused.{IsTypeStop}
use Rattle.pict_check.proofs.ProgramEnds.{program_asked, program_stuck, program_typed}
use Rattle.pict_check.proofs.whole.check_in.Goals as goal

pub declarations-requires : goal.declarations-requires
declarations-requires c =
    let names = c.args.names.now in
    let asked = program_asked names (declarations_of c.args.scoped.now.program) c.requires.scoped in
    record {
      right = subst (λ (e : Environment). IsWellAsked environment_ e (declarations (decs_on no_decs c.deref.result.now))) (sym c.requires.empty)
          (subst (λ xs. IsWellAsked environment_ (no_environment names) (declarations (decs_on no_decs xs))) (sym c.deref.ensures.value) asked);
    }

pub returns-in-Ok-clause-typed : goal.returns-in-Ok-clause-typed
returns-in-Ok-clause-typed c =
    let names = c.args.names.now in
    let e = environment_of c.declarations.new.env in
    program_typed names (declarations_of c.args.scoped.now.program) e c.requires.scoped
    (subst (λ xs. Runs (rule (no_environment names) (declarations (decs_on no_decs xs))) (ok e)) c.deref.ensures.value
    (subst (λ (d : Environment). Runs (rule d (declarations (decs_on no_decs c.deref.result.now))) (ok e)) c.requires.empty c.in-Ok.ensures.answer))

pub returns-in-Err-clause-stuck : goal.returns-in-Err-clause-stuck
returns-in-Err-clause-stuck c =
    let names = c.args.names.now in
    let p = declarations_of c.args.scoped.now.program in
    let refused =
    subst (λ xs. IsRefused (rule (no_environment names) (declarations (decs_on no_decs xs))) c.in-Err.e) c.deref.ensures.value
    (subst (λ (d : Environment). IsRefused (rule d (declarations (decs_on no_decs c.deref.result.now))) c.in-Err.e) c.requires.empty c.in-Err.ensures.answer) in
    subst (IsTypeStop names p) (sym c.refusal.ensures) (program_stuck names p c.in-Err.e refused)
