-- Environments that are as before, that grew, and that are cut back; and what is answered in them.
use Rattle.std.proofs.Common.{◌≡◌, ℕ, ◌+◌, ◌-◌, ◌≤◌, List, [], ◌∷◌, ◌++◌, length, refl, ap, sym, ◌∙◌, subst, arith, Result, Ok, Err, OnOk}
use Rattle.pict_syntax.specs.Trees.{Val}
use Rattle.pict_types.specs.Types.{PlainBound, PlainType}
use Rattle.pict_types.specs.Entries.{PlainContext, PlainWhat, Variable, Definition, variables, with_variable}
use Rattle.pict_rules.specs.Environments.{Environment, opened_since}
use Rattle.pict_rules.specs.Regular.{IsTypeIn}
use Rattle.pict_rules.specs.Rules.{Sort, type_, Judgement, gives, ok}
use Rattle.pict_rules.specs.Rules as rules
use Rattle.pict_rules.specs.Typing.{rule}
use Rattle.pict_rules.specs.Derivations.{Runs}
use Rattle.pict_infer.specs.declared.env.Env.{Env}
use Rattle.pict_infer.specs.declared.env.Place.{Place}
use Rattle.pict_infer.specs.declared.error.InferError.{InferError}
use Rattle.pict_infer.specs.Answering.{IsAnswer}
use Rattle.pict_infer.specs.Asking.{IsWellAsked}
use Rattle.pict_infer.specs.Environments.{environment_of, GrewFrom, HasGrownFrom, IsAsBefore, IsPlaceOf}
use Rattle.pict_lines.specs.Lines as lines
use Rattle.pict_lines.proofs.Ends.{good_of}

pub kept_twice : (a b c : Env) → IsAsBefore a b → IsAsBefore b c → IsAsBefore a c
kept_twice a b c h k = record { known = k.known ∙ h.known; items = k.items ∙ h.items }

pub kept_on : {T E : Type 0} (a b c : Env) (r : Result T E) → IsAsBefore a b → OnOk r (IsAsBefore b c) → OnOk r (IsAsBefore a c)
kept_on a b c (Ok x) h k = kept_twice a b c h k
kept_on a b c (Err y) h k = tt

pub kept_any : {T E : Type 0} (a b : Env) (r : Result T E) → IsAsBefore a b → OnOk r (IsAsBefore a b)
kept_any a b (Ok x) h = h
kept_any a b (Err y) h = tt

pub answer_in : {s : Sort} {T : Type 0} (j : Judgement s) (f : T → rules.Result s) (r : Result T InferError) (d e : Environment) → d ≡ e → IsAnswer (rule d j) f r → IsAnswer (rule e j) f r
answer_in j f r d e h = subst (λ x. IsAnswer (rule x j) f r) h

-- an environment that grew, and is as it was since
pub grew_kept : (old mid new : Env) → GrewFrom old mid → IsAsBefore mid new → GrewFrom old new
grew_kept old mid new g k = record {
  texts = ap (λ (e : Environment). e.names) k.known ∙ g.texts;
  inner = g.inner;
  entries = ap (λ (e : Environment). e.context) k.known ∙ g.entries;
  nearer = g.nearer;
  values = k.items ∙ g.values;
}

pub grown_from : (p : Place) (old new : Env) → IsPlaceOf p old → GrewFrom old new → HasGrownFrom p new
grown_from p old new i g = record { before = old; place = i; grew = g }

one_more : (w : PlainWhat) (c d : List PlainBound) → length d ≤ length c → length d ≤ length (with_variable w c)
one_more (Variable b) c d h = omega (arith, h)
one_more (Definition a) c d h = h

more_inside : (c d : PlainContext) → length (variables d) ≤ length (variables (c ++ d))
more_inside [] d = omega arith
more_inside (e ∷ c) d = one_more e.what (variables (c ++ d)) (variables d) (more_inside c d)

-- no variable is lost
pub more_variables : (old new : Env) → GrewFrom old new → lines.variables (environment_of old) ≤ lines.variables (environment_of new)
more_variables old new g = subst (λ c. lines.variables (environment_of old) ≤ length (variables c)) (sym g.entries) (more_inside g.inner (environment_of old).context)

pub opened_count : (old new : Env) (a b n : ℕ) → a ≡ lines.variables (environment_of old) → b ≡ lines.variables (environment_of new) → n ≡ b - a → n ≡ opened_since (environment_of old) (environment_of new)
opened_count old new a b n p q h = omega (arith, p, q, h)

-- what is well formed there
pub type_there : (d e : Environment) (t : PlainType) → d ≡ e → IsTypeIn e t → IsTypeIn d t
type_there d e t h = subst (λ x. IsTypeIn x t) (sym h)

pub given_there : (d e : Environment) (v : Val) (t : PlainType) → d ≡ e → IsWellAsked type_ e (gives v) → Runs (rule e (gives v)) (ok t) → IsTypeIn d t
given_there d e v t h w p = type_there d e t h (good_of {j = gives v} w p)

pub kept_here : (a : Env) → IsAsBefore a a
kept_here a = record { known = refl; items = refl }
