-- Whole programs: before anything is declared all is regular, and a program in which no rule of scopes fails has no label
-- twice.
use Rattle.std.proofs.Common.{◌≡◌, ℕ, List, None}
use Rattle.pict_syntax.specs.Trees.{Decs}
use Rattle.pict_scope.specs.Scopes.{scope_stop}
use Rattle.pict_scope.proofs.LabelsScoped.{scoped_distinct}
use Rattle.pict_rules.specs.Environments.{Environment, no_environment}
use Rattle.pict_rules.specs.Rules.{environment_, declarations, ok}
use Rattle.pict_rules.specs.Typing.{rule}
use Rattle.pict_rules.specs.Derivations.{IsTyped, Runs}
use Rattle.pict_infer.specs.declared.error.InferError.{InferError}
use Rattle.pict_infer.specs.declared.error.InferError.TheVariants.{Named, Memory}
use Rattle.pict_infer.specs.Answering.{IsRefused}
use Rattle.pict_infer.specs.Asking.{IsWellAsked}
use Rattle.pict_check.specs.Refused.{IsTypeStop, of_infer_error}

pub program_asked : (names : List (List ℕ)) (p : Decs) → scope_stop names p ≡ None → IsWellAsked environment_ (no_environment names) (declarations p)
program_asked names p h = record { labels = scoped_distinct names p h; regular = record { entries = tt; known = tt }; asked = tt }

pub program_typed : (names : List (List ℕ)) (p : Decs) (e : Environment) → scope_stop names p ≡ None → Runs (rule (no_environment names) (declarations p)) (ok e) → IsTyped names p
program_typed names p e h r = (h, (e, r))

pub program_stuck : (names : List (List ℕ)) (p : Decs) (y : InferError) → IsRefused (rule (no_environment names) (declarations p)) y → IsTypeStop names p (of_infer_error y)
program_stuck names p (Named c i told) h = h
program_stuck names p Memory h = tt
