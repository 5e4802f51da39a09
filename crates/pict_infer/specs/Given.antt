-- What the calls on patterns that give their type answer, and what is known after them.
use Rattle.std.specs.Prelude.{◌≡◌, List, Result, Ok, Err}
use Rattle.pict_syntax.specs.Trees.{Pat, FieldPats}
use Rattle.pict_types.specs.Types.{PlainType, Fields}
use Rattle.pict_types.specs.declared.types.Ty.{Ty}
use Rattle.pict_types.specs.Plain.{plain, plain_record}
use Rattle.pict_rules.specs.Environments.{Extension, KnownType, bounds_of, extended, within}
use Rattle.pict_rules.specs.Rules.{ok, pattern_gives, fields_give, TypedFields}
use Rattle.pict_rules.specs.Clauses.{with_own}
use Rattle.pict_rules.specs.Typing.{rule}
use Rattle.pict_rules.specs.Derivations.{Runs}
use Rattle.pict_infer.specs.declared.env.Env.{Env}
use Rattle.pict_infer.specs.declared.env.Place.{Place}
use Rattle.pict_infer.specs.declared.error.InferError.{InferError}
use Rattle.pict_infer.specs.declared.added.Added.{Added}
use Rattle.pict_infer.specs.declared.giving.Typed.{Typed}
use Rattle.pict_infer.specs.declared.giving.TypedFields.{TypedFields as GivenFields}
use Rattle.pict_infer.specs.Adding.{extension_of}
use Rattle.pict_infer.specs.Answering.{IsRefused}
use Rattle.pict_infer.specs.Environments.{environment_of, GrewFrom, IsAsBefore, IsPlaceOf, MayBeAdded}
use Rattle.pict_infer.specs.Giving.{typed_pattern}

-- the pattern gives this type and adds this, which may be added; as much is known as before
pub record IsTyped (old new : Env) (p : Pat) (x : Typed) : Type 0 where
  pub holds : Runs (rule (environment_of old) (pattern_gives p)) (ok (typed_pattern x))
  pub same : IsAsBefore old new
  pub may : MayBeAdded new x.adds

abbrev pub GivesType : Env → Env → Pat → Result Typed InferError → Type 0
GivesType old new p (Ok x) = IsTyped old new p x
GivesType old new p (Err y) = IsRefused (rule (environment_of old) (pattern_gives p)) y

-- the pattern gives this type, and what it adds is known
pub record IsGiven (old new : Env) (p : Pat) (t : Ty) : Type 0 where
  pub adds : Extension
  pub holds : Runs (rule (environment_of old) (pattern_gives p)) (ok (record { has = plain t; adds = adds }))
  pub known : environment_of new ≡ extended (environment_of old) adds
  pub grew : GrewFrom old new

abbrev pub GivesKnown : Env → Env → Pat → Result Ty InferError → Type 0
GivesKnown old new p (Ok t) = IsGiven old new p t
GivesKnown old new p (Err y) = IsRefused (rule (environment_of old) (pattern_gives p)) y

-- these type variables are known too, and no more
pub record IsUnderOwn (old new : Env) (own : List KnownType) : Type 0 where
  pub known : environment_of new ≡ with_own (environment_of old) own
  pub items : new.values.items ≡ old.values.items

-- the record type that fields give
abbrev pub record_given : TypedFields → PlainType
record_given g = Fields (bounds_of g.own) g.positional g.labelled

-- the own type variables of the fields are known; this is their record, and what their parts add within them, which may be
-- added
pub record AreGivenOpen (old new : Env) (f : FieldPats) (x : GivenFields) : Type 0 where
  pub fields : TypedFields
  pub holds : Runs (rule (environment_of old) (fields_give f)) (ok fields)
  pub under : IsUnderOwn old new fields.own
  pub record_ : plain_record x.has ≡ record_given fields
  pub adds : extension_of x.adds ≡ fields.adds
  pub may : MayBeAdded new x.adds
  pub grew : GrewFrom old new

abbrev pub FieldsOpen : Env → Env → FieldPats → Result GivenFields InferError → Type 0
FieldsOpen old new f (Ok x) = AreGivenOpen old new f x
FieldsOpen old new f (Err y) = IsRefused (rule (environment_of old) (fields_give f)) y

-- since this place type variables alone became known
pub record HasOpenedOwn (p : Place) (now : Env) : Type 0 where
  pub before : Env
  pub own : List KnownType
  pub place : IsPlaceOf p before
  pub under : IsUnderOwn before now own

-- what is added within these type variables, and they themselves; as much is known as before them
pub record IsClosed (old new : Env) (own : List KnownType) (inner x : Added) : Type 0 where
  pub adds : extension_of x ≡ within own (extension_of inner)
  pub same : IsAsBefore old new
  pub may : MayBeAdded new x
