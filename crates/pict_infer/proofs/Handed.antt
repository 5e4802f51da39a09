-- Errors that are handed on.
use Rattle.std.proofs.Common.{◌≡◌, Result, Ok, Err, sym, subst}
use Rattle.std.specs.Result.{IsErrAnd}
use Rattle.pict_syntax.specs.Trees.{FieldPats}
use Rattle.pict_types.specs.Types.{PlainBounds}
use Rattle.pict_rules.specs.Environments.{Environment}
use Rattle.pict_rules.specs.Rules.{Sort, binders_, fields_give, opened_, Result as Given, Judgement, Rule}
use Rattle.pict_rules.specs.Typing.{rule}
use Rattle.pict_infer.specs.declared.added.Added.{Added}
use Rattle.pict_infer.specs.declared.error.InferError.{InferError}
use Rattle.pict_infer.specs.declared.giving.TypedFields.{TypedFields}
use Rattle.pict_infer.specs.Giving.{OpensFields}
use Rattle.pict_infer.specs.Answering.{IsAnswer, IsRefused}
use Rattle.pict_infer.specs.Opening.{Opens, OpensAgainst}

pub answer_err : {s : Sort} {T : Type 0} (r : Rule s) (f : T → Given s) (x : Result T InferError) (e : InferError) → IsErrAnd x (λ y. y ≡ e) → IsRefused r e → IsAnswer r f x
answer_err r f (Ok v) e is h = absurd is
answer_err r f (Err y) e is h = subst (λ z. IsRefused r z) (sym is) h

pub opens_err : {T : Type 0} (e d : Environment) (r : Rule binders_) (f : T → PlainBounds) (x : Result T InferError) (y : InferError) → IsErrAnd x (λ z. z ≡ y) → IsRefused r y → Opens e d r f x
opens_err e d r f (Ok v) y is h = absurd is
opens_err e d r f (Err z) y is h = subst (λ w. IsRefused r w) (sym is) h

pub against_err : (e d : Environment) (j : Judgement opened_) (x : Result Added InferError) (y : InferError) → IsErrAnd x (λ z. z ≡ y) → IsRefused (rule e j) y → OpensAgainst e d j x
against_err e d j (Ok v) y is h = absurd is
against_err e d j (Err z) y is h = subst (λ w. IsRefused (rule e j) w) (sym is) h

pub fields_err : (e d : Environment) (f : FieldPats) (x : Result TypedFields InferError) (y : InferError) → IsErrAnd x (λ z. z ≡ y) → IsRefused (rule e (fields_give f)) y → OpensFields e d f x
fields_err e d f (Ok v) y is h = absurd is
fields_err e d f (Err z) y is h = subst (λ w. IsRefused (rule e (fields_give f)) w) (sym is) h
