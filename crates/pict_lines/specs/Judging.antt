-- What a call answers on a value that has a type which is wanted, or gives one where none is.
use Rattle.std.specs.Prelude.{Option, Some, None, Result, Ok, Err}
use Rattle.pict_syntax.specs.Trees.{Val}
use Rattle.pict_types.specs.Types.{PlainType}
use Rattle.pict_rules.specs.Environments.{Environment}
use Rattle.pict_rules.specs.Rules.{nothing_, type_, ok, gives, has}
use Rattle.pict_rules.specs.Typing.{rule}
use Rattle.pict_rules.specs.Derivations.{Runs}
use Rattle.pict_infer.specs.declared.error.InferError.{InferError}
use Rattle.pict_infer.specs.Answering.{IsRefused}
use Rattle.pict_infer.specs.Asking.{IsWellAsked}

-- the value has the type that is wanted; where none is, it gives this one
abbrev pub IsFor : Environment → Val → Option PlainType → Option PlainType → Type 0
IsFor e v (Some u) t = Runs (rule e (has v u)) (ok tt)
IsFor e v None (Some t) = Runs (rule e (gives v)) (ok t)
IsFor e v None None = ⊥

abbrev pub IsRefusedFor : Environment → Val → Option PlainType → InferError → Type 0
IsRefusedFor e v (Some u) x = IsRefused (rule e (has v u)) x
IsRefusedFor e v None x = IsRefused (rule e (gives v)) x

abbrev pub IsAnswerFor : {T : Type 0} → Environment → Val → Option PlainType → (T → Option PlainType) → Result T InferError → Type 0
IsAnswerFor e v w f (Ok t) = IsFor e v w (f t)
IsAnswerFor e v w f (Err x) = IsRefusedFor e v w x

-- it may be asked whether the value has the type that is wanted, or what it gives
abbrev pub IsAskedFor : Environment → Val → Option PlainType → Type 0
IsAskedFor e v (Some u) = IsWellAsked nothing_ e (has v u)
IsAskedFor e v None = IsWellAsked type_ e (gives v)
