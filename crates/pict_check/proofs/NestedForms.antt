-- The forms from the right and from the left stand for nested applications: what is asked of these, and what they answer.
use Rattle.std.proofs.Common.{◌≡◌, refl, sym, ◌∙◌, subst, List, [], ◌∷◌, ◌++◌, map, length, ◌<◌, Option, Some, None, arith}
use Rattle.std.proofs.lemmas.List.{append-nil}
use Rattle.pict_syntax.specs.declared.span.Span.{Span}
use Rattle.pict_syntax.specs.declared.id.Id.{Id}
use Rattle.pict_syntax.specs.declared.tree.Val.{Val as RVal}
use Rattle.pict_syntax.specs.Trees.{Val, Vals, no_vals, more_vals, of_chan, right_chan, left_chan}
use Rattle.pict_syntax.specs.PlainTrees.{val_of, vals_on}
use Rattle.pict_types.specs.Types.{PlainType}
use Rattle.pict_rules.specs.Shapes.{vals_onto, right_nested, left_nested, from_first}
use Rattle.pict_rules.specs.Environments.{Environment}
use Rattle.pict_rules.specs.Rules.{nothing_, type_, gives, has, ok}
use Rattle.pict_rules.specs.Derivations.{Runs, give_, part_ok, part_stuck}
use Rattle.pict_rules.specs.Typing.{rule}
use Rattle.pict_rules.specs.Reached.{this_part}
use Rattle.pict_infer.specs.declared.error.InferError.{InferError}
use Rattle.pict_infer.specs.declared.error.InferError.TheVariants.{Named, Memory}
use Rattle.pict_infer.specs.Answering.{IsRefused}
use Rattle.pict_infer.specs.Asking.{IsWellAsked}
use Rattle.pict_infer.proofs.Asked.{asked_of}
use Rattle.pict_lines.specs.Judging.{IsAskedFor, IsFor, IsRefusedFor}
use Rattle.pict_lines.specs.Chains.{alone, nested, nested_left}
use Rattle.pict_lines.specs.Operators.{vals_of}

onto_on : (us : Vals) (vs : List RVal) (ws : List Val) → vals_onto (vals_on us vs) ws ≡ vals_onto us (map val_of vs ++ ws)
unfolding vals_on
onto_on us [] ws = refl
onto_on us (v ∷ vs) ws = onto_on (more_vals us (val_of v)) vs ws

pub values_are : (vs : List RVal) → vals_onto (vals_on no_vals vs) [] ≡ vals_of vs
values_are vs = onto_on no_vals vs [] ∙ append-nil (map val_of vs)

abbrev Right : Span → Id → List RVal → Val
Right s f vs = of_chan (right_chan s f (vals_on no_vals vs))

abbrev Left : Span → Id → List RVal → Val
Left s f vs = of_chan (left_chan s f (vals_on no_vals vs))

-- a form of less than two values is its value
pub right_alone : (s : Span) (f : Id) (vs : List Val) → length vs < 2 → nested s f vs ≡ alone s vs
right_alone s f [] h = refl
right_alone s f (v ∷ []) h = refl
right_alone s f (v ∷ w ∷ vs) h = absurd (omega arith)

pub left_alone : (s : Span) (f : Id) (vs : List Val) → length vs < 2 → nested_left s f vs ≡ alone s vs
left_alone s f [] h = refl
left_alone s f (v ∷ []) h = refl
left_alone s f (v ∷ w ∷ vs) h = absurd (omega arith)

-- what is asked
pub right_gives_asked : (e : Environment) (s : Span) (f : Id) (vs : List RVal) → IsWellAsked type_ e (gives (Right s f vs)) → IsAskedFor e (nested s f (vals_of vs)) None
right_gives_asked e s f vs h = subst (λ z. IsAskedFor e (from_first (right_nested s f) s z) None) (values_are vs) (asked_of (gives (Right s f vs)) h this_part)

pub right_has_asked : (e : Environment) (s : Span) (f : Id) (vs : List RVal) (t : PlainType) → IsWellAsked nothing_ e (has (Right s f vs) t) → IsAskedFor e (nested s f (vals_of vs)) (Some t)
right_has_asked e s f vs t h = subst (λ z. IsAskedFor e (from_first (right_nested s f) s z) (Some t)) (values_are vs) (asked_of (has (Right s f vs) t) h this_part)

pub left_gives_asked : (e : Environment) (s : Span) (f : Id) (vs : List RVal) → IsWellAsked type_ e (gives (Left s f vs)) → IsAskedFor e (nested_left s f (vals_of vs)) None
left_gives_asked e s f vs h = subst (λ z. IsAskedFor e (from_first (left_nested s f) s z) None) (values_are vs) (asked_of (gives (Left s f vs)) h this_part)

pub left_has_asked : (e : Environment) (s : Span) (f : Id) (vs : List RVal) (t : PlainType) → IsWellAsked nothing_ e (has (Left s f vs) t) → IsAskedFor e (nested_left s f (vals_of vs)) (Some t)
left_has_asked e s f vs t h = subst (λ z. IsAskedFor e (from_first (left_nested s f) s z) (Some t)) (values_are vs) (asked_of (has (Left s f vs) t) h this_part)

-- what is answered
pub right_gives : (e : Environment) (s : Span) (f : Id) (vs : List RVal) (t : PlainType) → IsFor e (nested s f (vals_of vs)) None (Some t) → Runs (rule e (gives (Right s f vs))) (ok t)
right_gives e s f vs t h = part_ok (subst (λ z. IsFor e (from_first (right_nested s f) s z) None (Some t)) (sym (values_are vs)) h) give_

pub right_has : (e : Environment) (s : Span) (f : Id) (vs : List RVal) (t : PlainType) (u : Option PlainType) → IsFor e (nested s f (vals_of vs)) (Some t) u → Runs (rule e (has (Right s f vs) t)) (ok tt)
right_has e s f vs t u h = part_ok (subst (λ z. IsFor e (from_first (right_nested s f) s z) (Some t) u) (sym (values_are vs)) h) give_

pub left_gives : (e : Environment) (s : Span) (f : Id) (vs : List RVal) (t : PlainType) → IsFor e (nested_left s f (vals_of vs)) None (Some t) → Runs (rule e (gives (Left s f vs))) (ok t)
left_gives e s f vs t h = part_ok (subst (λ z. IsFor e (from_first (left_nested s f) s z) None (Some t)) (sym (values_are vs)) h) give_

pub left_has : (e : Environment) (s : Span) (f : Id) (vs : List RVal) (t : PlainType) (u : Option PlainType) → IsFor e (nested_left s f (vals_of vs)) (Some t) u → Runs (rule e (has (Left s f vs) t)) (ok tt)
left_has e s f vs t u h = part_ok (subst (λ z. IsFor e (from_first (left_nested s f) s z) (Some t) u) (sym (values_are vs)) h) give_

-- and refused
gives_refused : (e : Environment) (s : Span) (f : Id) (vs : List RVal) (y : InferError) → IsRefusedFor e (from_first (right_nested s f) s (vals_onto (vals_on no_vals vs) [])) None y → IsRefused (rule e (gives (Right s f vs))) y
gives_refused e s f vs (Named c i told) h = part_stuck h
gives_refused e s f vs Memory h = tt

has_refused : (e : Environment) (s : Span) (f : Id) (vs : List RVal) (t : PlainType) (y : InferError) → IsRefusedFor e (from_first (right_nested s f) s (vals_onto (vals_on no_vals vs) [])) (Some t) y → IsRefused (rule e (has (Right s f vs) t)) y
has_refused e s f vs t (Named c i told) h = part_stuck h
has_refused e s f vs t Memory h = tt

gives_refused_left : (e : Environment) (s : Span) (f : Id) (vs : List RVal) (y : InferError) → IsRefusedFor e (from_first (left_nested s f) s (vals_onto (vals_on no_vals vs) [])) None y → IsRefused (rule e (gives (Left s f vs))) y
gives_refused_left e s f vs (Named c i told) h = part_stuck h
gives_refused_left e s f vs Memory h = tt

has_refused_left : (e : Environment) (s : Span) (f : Id) (vs : List RVal) (t : PlainType) (y : InferError) → IsRefusedFor e (from_first (left_nested s f) s (vals_onto (vals_on no_vals vs) [])) (Some t) y → IsRefused (rule e (has (Left s f vs) t)) y
has_refused_left e s f vs t (Named c i told) h = part_stuck h
has_refused_left e s f vs t Memory h = tt

pub right_gives_refused : (e : Environment) (s : Span) (f : Id) (vs : List RVal) (y : InferError) → IsRefusedFor e (nested s f (vals_of vs)) None y → IsRefused (rule e (gives (Right s f vs))) y
right_gives_refused e s f vs y h = gives_refused e s f vs y (subst (λ z. IsRefusedFor e (from_first (right_nested s f) s z) None y) (sym (values_are vs)) h)

pub right_has_refused : (e : Environment) (s : Span) (f : Id) (vs : List RVal) (t : PlainType) (y : InferError) → IsRefusedFor e (nested s f (vals_of vs)) (Some t) y → IsRefused (rule e (has (Right s f vs) t)) y
right_has_refused e s f vs t y h = has_refused e s f vs t y (subst (λ z. IsRefusedFor e (from_first (right_nested s f) s z) (Some t) y) (sym (values_are vs)) h)

pub left_gives_refused : (e : Environment) (s : Span) (f : Id) (vs : List RVal) (y : InferError) → IsRefusedFor e (nested_left s f (vals_of vs)) None y → IsRefused (rule e (gives (Left s f vs))) y
left_gives_refused e s f vs y h = gives_refused_left e s f vs y (subst (λ z. IsRefusedFor e (from_first (left_nested s f) s z) None y) (sym (values_are vs)) h)

pub left_has_refused : (e : Environment) (s : Span) (f : Id) (vs : List RVal) (t : PlainType) (y : InferError) → IsRefusedFor e (nested_left s f (vals_of vs)) (Some t) y → IsRefused (rule e (has (Left s f vs) t)) y
left_has_refused e s f vs t y h = has_refused_left e s f vs t y (subst (λ z. IsRefusedFor e (from_first (left_nested s f) s z) (Some t) y) (sym (values_are vs)) h)
