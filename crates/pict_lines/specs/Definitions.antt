-- Abstractions and the definitions of a `def`, as the rules see them.
use Rattle.std.specs.Prelude.{◌≡◌, ℕ, ◌-◌, List, [], ◌∷◌, length, take, Option, Some, None, Result, Ok, Err, Vec}
use Rattle.std.specs.Global.{Global}
use Rattle.pict_syntax.specs.declared.code.Code.TheVariants.{Y4}
use Rattle.pict_syntax.specs.declared.id.Id.{Id}
use Rattle.pict_syntax.specs.declared.span.Span.{Span}
use Rattle.pict_syntax.specs.declared.pattern.FieldPats.{FieldPats as RFieldPats}
use Rattle.pict_syntax.specs.declared.tree.Val.{Val as RVal}
use Rattle.pict_syntax.specs.declared.tree.Definition.{Definition as RDefinition}
use Rattle.pict_syntax.specs.Grammar.{type_span}
use Rattle.pict_syntax.specs.PlainTrees.{abs_of, definitions_on, field_pats_of, val_of}
use Rattle.pict_syntax.specs.Trees.{Abs, process_abs, function_abs, no_definitions, RType}
use Rattle.pict_types.specs.declared.types.Record.{Record}
use Rattle.pict_types.specs.Types.{PlainType, Chan, Fields, Respond, under}
use Rattle.pict_types.specs.Plain.{plain, plain_bounds, plain_labels, plain_record, plain_types}
use Rattle.pict_normal.specs.Normal.{and_type}
use Rattle.pict_sub.specs.Exposing.{exposure}
use Rattle.pict_rules.specs.Shapes.{Function, function_by, sendable}
use Rattle.pict_rules.specs.Environments.{Environment, context_of, extended}
use Rattle.pict_rules.specs.Rules.{nothing_, type_, Body, process_body, value_body, Signature, Rule, give, need, ok, is_subtype, expand, bodies, body, signature, signatures}
use Rattle.pict_rules.specs.Clauses.{with_signatures}
use Rattle.pict_rules.specs.Typing.{rule}
use Rattle.pict_rules.specs.Derivations.{Runs}
use Rattle.pict_infer.specs.declared.env.Env.{Env}
use Rattle.pict_infer.specs.declared.error.InferError.{InferError}
use Rattle.pict_infer.specs.Adding.{extension_of}
use Rattle.pict_infer.specs.Answering.{IsRefused}
use Rattle.pict_infer.specs.Asking.{IsWellAsked}
use Rattle.pict_infer.specs.Environments.{environment_of, GrewFrom}
use Rattle.pict_lines.specs.declared.signatures.Inside.{Inside}
use Rattle.pict_lines.specs.declared.signatures.Signature.{Signature as TheSignature}
use Rattle.pict_lines.specs.Operators.{type_if}

-- a function abstraction, by the trees of its parts
abbrev pub function_tree : Span → RFieldPats → RType → RVal → Abs
function_tree s f a v = function_abs s (field_pats_of f) a (val_of v)

-- the fields of a function, and the channel of its answer in the last positional place
abbrev pub answering_record : Record → PlainType → PlainType
answering_record r t = Fields (plain_bounds r.binders.items) (and_type (plain_types r.positional.items) (Chan Respond t)) (plain_labels r.labelled.items)

-- a record as what a function takes, with this answer: the channel for it is the last positional field
abbrev pub function_with : Record → PlainType → Function
function_with r u = record {
  binders = plain_bounds r.binders.items;
  positional = plain_types (take (length r.positional.items - 1) r.positional.items);
  labelled = plain_labels r.labelled.items;
  answer = u;
}

-- the function that an abstraction goes against, whose argument is a record
abbrev pub record_answers : Environment → Record → Option Function
record_answers e r = function_by (λ bs last. sendable (exposure (under (context_of e) bs) last)) (plain_record r)

-- the type that the body of a function has against a type: that of the answer there, or the result type that is written, which
-- is below it
abbrev pub body_type : Environment → RType → PlainType → Rule type_
body_type e None u = give u
body_type e (Some a) u = expand e a (λ t. need (is_subtype (context_of e) t u) Y4 (type_span a) (give t))

-- this is the body of the abstraction: a process, or a value with the type that it has
abbrev pub IsBody : Abs → Option PlainType → Body → Type 0
IsBody (process_abs s p q) None b = b ≡ process_body q
IsBody (process_abs s p q) (Some t) b = ⊥
IsBody (function_abs s f a v) None b = ⊥
IsBody (function_abs s f a v) (Some t) b = b ≡ value_body v t

-- a signature as the body sees it: what is known inside, and what the body is. So many type variables are known around it
pub record IsInside (n : ℕ) (a : Abs) (x : Inside) (s : Signature) : Type 0 where
  pub base : x.adds.base ≡ n
  pub adds : extension_of x.adds ≡ s.adds
  pub body_ : IsBody a (type_if x.answer) s.body

-- the signature of a name
pub record IsSigned (e : Environment) (x : Id) (a : Abs) (y : TheSignature) : Type 0 where
  pub given : Signature
  pub holds : Runs (rule e (signature x a)) (ok given)
  pub name : given.name ≡ x
  pub has : plain y.has ≡ given.has
  pub inside : IsInside (length (context_of e)) a y.inside given

abbrev pub Signs : Environment → Id → Abs → Result TheSignature InferError → Type 0
Signs e x a (Ok y) = IsSigned e x a y
Signs e x a (Err z) = IsRefused (rule e (signature x a)) z

-- the signatures of definitions, each as its body sees it
abbrev pub AreInside : ℕ → List RDefinition → List Inside → List Signature → Type 0
AreInside n [] [] [] = Unit {0}
AreInside n (d ∷ ds) (x ∷ xs) (s ∷ ss) = IsInside n (abs_of d.abs) x s × AreInside n ds xs ss
AreInside n _ _ _ = ⊥

-- the names of a `def` are known with their types
pub record AreSigned (old new : Env) (ds : List RDefinition) (xs : List Inside) : Type 0 where
  pub given : List Signature
  pub holds : Runs (rule (environment_of old) (signatures (definitions_on no_definitions ds))) (ok given)
  pub known : environment_of new ≡ with_signatures (environment_of old) given
  pub inside : AreInside (length (context_of (environment_of old))) ds xs given
  pub grew : GrewFrom old new

abbrev pub SignAll : Env → Env → List RDefinition → Result (Vec Inside Global) InferError → Type 0
SignAll old new ds (Ok xs) = AreSigned old new ds xs.items
SignAll old new ds (Err y) = IsRefused (rule (environment_of old) (signatures (definitions_on no_definitions ds))) y

-- it may be asked of the body of the abstraction; of the body, once what is known inside is known; and of all bodies of a `def`
pub record IsAskedOfBody (e : Environment) (a : Abs) (t : Option PlainType) : Type 0 where
  pub given : Body
  pub is : IsBody a t given
  pub asked : IsWellAsked nothing_ e (body given)

pub record IsAskedInside (e : Environment) (a : Abs) (x : Inside) : Type 0 where
  pub given : Signature
  pub inside : IsInside (length (context_of e)) a x given
  pub asked : IsWellAsked nothing_ (extended e given.adds) (body given.body)

pub record AreAskedInside (e : Environment) (ds : List RDefinition) (xs : List Inside) : Type 0 where
  pub given : List Signature
  pub inside : AreInside (length (context_of e)) ds xs given
  pub asked : IsWellAsked nothing_ e (bodies given)
