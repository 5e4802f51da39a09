-- What the calls on patterns answer, and what is known after them.
use Rattle.std.specs.Prelude.{◌≡◌, Result, Ok, Err}
use Rattle.pict_rules.specs.Environments.{Extension, extended}
use Rattle.pict_rules.specs.Rules.{extension_, opened_, Judgement, OpenedFields, ok}
use Rattle.pict_rules.specs.Clauses.{with_own}
use Rattle.pict_rules.specs.Typing.{rule}
use Rattle.pict_rules.specs.Derivations.{Runs}
use Rattle.pict_infer.specs.declared.env.Env.{Env}
use Rattle.pict_infer.specs.declared.error.InferError.{InferError}
use Rattle.pict_infer.specs.declared.added.Added.{Added}
use Rattle.pict_infer.specs.Adding.{extension_of}
use Rattle.pict_infer.specs.Answering.{IsRefused}
use Rattle.pict_infer.specs.Environments.{environment_of, GrewFrom, MayBeAdded}

-- what the judgement on a pattern adds is known
pub record IsKnown (old new : Env) (j : Judgement extension_) : Type 0 where
  pub adds : Extension
  pub holds : Runs (rule (environment_of old) j) (ok adds)
  pub known : environment_of new ≡ extended (environment_of old) adds
  pub grew : GrewFrom old new

-- the judgement on a pattern holds, and what it adds is known; or it is refused
abbrev pub GoesAgainst : Env → Env → Judgement extension_ → Result (Unit {0}) InferError → Type 0
GoesAgainst old new j (Ok x) = IsKnown old new j
GoesAgainst old new j (Err y) = IsRefused (rule (environment_of old) j) y

-- the own type variables of fields are known; this is what their parts add within them, and it may be added
pub record AreOpen (old new : Env) (j : Judgement opened_) (x : Added) : Type 0 where
  pub fields : OpenedFields
  pub holds : Runs (rule (environment_of old) j) (ok fields)
  pub known : environment_of new ≡ with_own (environment_of old) fields.own
  pub adds : extension_of x ≡ fields.adds
  pub may : MayBeAdded new x
  pub grew : GrewFrom old new

abbrev pub FieldsOpenAgainst : Env → Env → Judgement opened_ → Result Added InferError → Type 0
FieldsOpenAgainst old new j (Ok x) = AreOpen old new j x
FieldsOpenAgainst old new j (Err y) = IsRefused (rule (environment_of old) j) y
