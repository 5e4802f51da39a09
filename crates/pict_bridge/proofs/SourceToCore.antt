-- From source to core: all that the rules reach from a program holds of its core, and so the core is typed.
use Rattle.std.proofs.Common.{◌≡◌, ℕ, List, [], None, refl}
use Rattle.pict_syntax.specs.Trees.{Decs}
use Rattle.pict_core.specs.Term as core
use Rattle.pict_scope.specs.Scopes.{scope_stop}
use Rattle.pict_rules.specs.Environments.{Environment, no_environment}
use Rattle.pict_rules.specs.Rules.{Sort, Judgement, gives, has, is_condition, values_give, labelled_values_give, application, fields_fit, written_arguments, values_fit, labelled_values_fit, value_fits, given_fits, abstraction_gives, abstraction_against, pattern_gives, fields_give, binders_give, patterns_give, labelled_patterns_give, pattern_against, fields_against, binders_against, patterns_against, labelled_patterns_against, declaration, declarations, signatures, signature, bodies, body, process, processes, receives}
use Rattle.pict_rules.specs.Reached.{whole}
use Rattle.pict_translation.specs.Translation.{decs_core}
use Rattle.pict_typing.specs.Worlds.{over}
use Rattle.pict_typing.specs.Processes as typed
use Rattle.pict_bridge.proofs.Opened.{embeds_same}
use Rattle.pict_bridge.proofs.Reaching.{any_lines, by_steps}
use Rattle.pict_bridge.specs.Laws.{OpensWellTyped, SourceToCore}
use Rattle.pict_bridge.specs.Realising.{Realises}
use Rattle.pict_bridge.proofs.Judged.{Declares, IsSound, Step}
use Rattle.pict_bridge.proofs.ValueSteps.{condition_step, gives_step, has_step}
use Rattle.pict_bridge.proofs.FieldSteps.{positional_step, labelled_step, written_step, given_step, value_fits_step, values_fit_step, labels_fit_step, fields_fit_step, application_step}
use Rattle.pict_bridge.proofs.AbstractionSteps.{abstraction_step, against_step, signature_step, signatures_step, bodies_step, body_step}
use Rattle.pict_bridge.proofs.ProcessSteps.{declaration_step, declarations_step, process_step, processes_step, receives_step}

module _ (names : List (List ℕ)) (program : Decs) (clean : scope_stop names program ≡ None) where
  step : (s : Sort) (e : Environment) (j : Judgement s) → Step names program s e j
  step s e (gives v) r = gives_step names program clean e v r
  step s e (has v t) r = has_step names program clean e v t r
  step s e (is_condition v) r = condition_step names program clean e v r
  step s e (values_give vs) r = positional_step names program clean e vs r
  step s e (labelled_values_give ls) r = labelled_step names program clean e ls r
  step s e (application i v us t) r = application_step names program clean e i v us t r
  step s e (fields_fit i us bs ps ms g) r = fields_fit_step names program clean e i us bs ps ms g r
  step s e (written_arguments i ts bs) r = written_step names program clean e i ts bs r
  step s e (values_fit i us ps g) r = values_fit_step names program clean e i us ps g r
  step s e (labelled_values_fit i ls ms g) r = labels_fit_step names program clean e i ls ms g r
  step s e (value_fits i v t g) r = value_fits_step names program clean e i v t g r
  step s e (given_fits i v t u g) r = given_step names program clean e i v t u g r
  step s e (abstraction_gives a) r = abstraction_step names program clean e a r
  step s e (abstraction_against a t) r = against_step names program clean e a t r
  step s e (declaration d) r = declaration_step names program clean e d r
  step s e (declarations ds) r = declarations_step names program clean e ds r
  step s e (signatures ds) r = signatures_step names program clean e ds r
  step s e (signature x a) r = signature_step names program clean e x a r
  step s e (bodies ss) r = bodies_step names program clean e ss r
  step s e (body b) r = body_step names program clean e b r
  step s e (process p) r = process_step names program clean e p r
  step s e (processes ps) r = processes_step names program clean e ps r
  step s e (receives c a) r = receives_step names program clean e c a r
  step s e (pattern_gives p) r = any_lines names program IsSound _
  step s e (fields_give f) r = any_lines names program IsSound _
  step s e (binders_give bs) r = any_lines names program IsSound _
  step s e (patterns_give ps) r = any_lines names program IsSound _
  step s e (labelled_patterns_give ls) r = any_lines names program IsSound _
  step s e (pattern_against p t) r = any_lines names program IsSound _
  step s e (fields_against i f bs ps ms) r = any_lines names program IsSound _
  step s e (binders_against bs rs) r = any_lines names program IsSound _
  step s e (patterns_against ps ts) r = any_lines names program IsSound _
  step s e (labelled_patterns_against ls ms) r = any_lines names program IsSound _

-- before anything is declared
nothing_realised : (names : List (List ℕ)) → Realises (no_environment names) [] (λ i. i) (over names [])
nothing_realised names = record {
  world_names = refl;
  closed = tt;
  embeds = embeds_same [];
  known = λ n t q. absurd (cc);
  unknown = λ n q. refl;
}

pub source_to_core : SourceToCore
source_to_core names program t =
    let d : Declares (no_environment names) (λ a rest. decs_core a program rest) t.1.0 = by_steps names program IsSound (step names program t.0) (no_environment names) (declarations program) t.1.0 whole t.1.1 in
    d [] (λ i. i) (over names []) (nothing_realised names) (λ a n. core.Zero) (λ vs g u fo r. typed.inert)

pub opens_well_typed : OpensWellTyped
opens_well_typed names program t = record { messages = []; closed = tt; one_each = refl; typed = (source_to_core names program t, tt) }
