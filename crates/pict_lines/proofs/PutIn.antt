-- Types with what is found put in for the type fields, as the code forms them.
use Rattle.std.proofs.Common.{◌≡◌, ◌<◌, ℕ, List, [], ◌∷◌, map, length, refl, sym, ◌∙◌, ap, subst, arith, Option, Result, Bool, true, false, not}
use Rattle.pict_syntax.specs.declared.code.Code.TheVariants.{Y4, Y10}
use Rattle.pict_syntax.specs.declared.span.Span.{Span}
use Rattle.pict_types.specs.declared.types.Ty.{Ty}
use Rattle.pict_types.specs.Types.{PlainType, Free, Below, Operator, PlainBounds, PlainArg, Plain, Op, no_bound, bounds, count_bounds}
use Rattle.pict_types.specs.Kinds.{Kind, kind_by, IsWellFormed, BoundIsWellFormed, BoundsAreWellFormed}
use Rattle.pict_types.specs.Instances.{ArgsAreWellFormed}
use Rattle.pict_normal.specs.Written.{kind_of_arg, kinds_with}
use Rattle.pict_normal.proofs.Instances.{kind_fits}
use Rattle.pict_rules.specs.Environments.{Environment, context_of}
use Rattle.pict_rules.specs.Found.{Slot, open_slot, filled, Found, argument_in, mentions_missing, with_found}
use Rattle.pict_rules.specs.Regular.{kind_of_slot, kinds_in, kinds_within, FoundFits, FitFirst}
use Rattle.pict_rules.specs.Rules.{found_, Rule, ensure, give, is_subtype, need, within_limits, ok, stuck}
use Rattle.pict_rules.specs.Shapes.{nth_bound}
use Rattle.pict_rules.specs.Derivations.{Runs, give_, refuse_}
use Rattle.pict_rules.proofs.RegularArguments.{found_formed}
use Rattle.pict_match.specs.PlainFound.{slots}
use Rattle.pict_infer.specs.declared.error.InferError.{InferError}
use Rattle.pict_infer.specs.Answering.{IsAnswer, IsRefused, nothing}
use Rattle.pict_infer.specs.Steps.{below, limited}
use Rattle.pict_infer.proofs.Through.{refused_on}
use Rattle.pict_lines.specs.Lines.{formed, given_lines}
use Rattle.pict_lines.proofs.Ends.{answer_end, answer_past, belows, formed_is, formed_on}
use Rattle.pict_lines.proofs.Stepping.{limited_ok, limited_refused}
use Rattle.pict_lines.proofs.Written.{nothing_put}

-- the kinds of what is put in are those of what is found
kind_put : (x : Slot) → kind_of_arg (argument_in x) ≡ kind_of_slot x
kind_put (open_slot Free) = refl
kind_put (open_slot (Below t)) = refl
kind_put (open_slot (Operator ms)) = refl
kind_put (filled (Plain t)) = refl
kind_put (filled (Op n t)) = refl

kinds_put : (ks : List Kind) (f : Found) → kinds_with (map argument_in f) ks ≡ kinds_within ks f
kinds_put ks [] = refl
kinds_put ks (x ∷ f) = kinds_put (kind_of_arg (argument_in x) ∷ ks) f ∙ ap (λ k. kinds_within (k ∷ ks) f) (kind_put x)

pub put_under : (e : Environment) (f : Found) (args : List PlainArg) (t : PlainType) → args ≡ map argument_in f → IsWellFormed e.names (kinds_within (kinds_in e) f) t → IsWellFormed e.names (kinds_with args (kinds_in e)) t
put_under e f args t is w = subst (λ ks. IsWellFormed e.names ks t) (sym (ap (λ (z : List PlainArg). kinds_with z (kinds_in e)) is ∙ kinds_put (kinds_in e) f)) w

pub put_formed : (e : Environment) (f : Found) (args : List PlainArg) → args ≡ map argument_in f → FoundFits e f → ArgsAreWellFormed e.names (kinds_in e) args
put_formed e f args is h = subst (ArgsAreWellFormed e.names (kinds_in e)) (sym is) (found_formed e f h)

-- without type fields it is the type itself
unput : (e : Environment) (bs : PlainBounds) (xs : List (Option Ty)) (t : PlainType) → length xs ≡ 0 → IsWellFormed e.names (kinds_within (kinds_in e) (slots bs xs)) t → with_found (slots bs xs) t ≡ t
unput e bs [] t h w = nothing_put e.names (kinds_in e) t w
unput e bs (x ∷ xs) t h w = absurd (omega (arith, h))

pub unput_ok : (e : Environment) (bs : PlainBounds) (xs : List (Option Ty)) (t : PlainType) (at : Span) → length xs ≡ 0 → IsWellFormed e.names (kinds_within (kinds_in e) (slots bs xs)) t → Runs (limited e t at) (ok tt) → Runs (formed e (with_found (slots bs xs) t) at) (ok t)
unput_ok e bs xs t at h w p = subst (λ z. Runs (formed e z at) (ok t)) (sym (unput e bs xs t h w)) (limited_ok e t at p)

pub unput_refused : (e : Environment) (bs : PlainBounds) (xs : List (Option Ty)) (t : PlainType) (at : Span) (y : InferError) → length xs ≡ 0 → IsWellFormed e.names (kinds_within (kinds_in e) (slots bs xs)) t → IsRefused (limited e t at) y → IsRefused (formed e (with_found (slots bs xs) t) at) y
unput_refused e bs xs t at y h w p = subst (λ z. IsRefused (formed e z at) y) (sym (unput e bs xs t h w)) (limited_refused e t at y p)

-- A VALUE THAT GAVE A TYPE

abbrev Below_it : Environment → Span → PlainType → PlainType → Found → Rule found_
Below_it e at g u f = need (is_subtype (context_of e) g u) Y4 at (give f)

given_rule : (e : Environment) (s at : Span) (t g : PlainType) (f : Found) (b : Bool) → mentions_missing f t ≡ b → given_lines e s at t g f ≡ ensure (not b) Y10 at (within_limits e (with_found f t) s (Below_it e at g (with_found f t) f))
given_rule e s at t g f b h = ap (λ (z : Bool). ensure (not z) Y10 at (within_limits e (with_found f t) s (Below_it e at g (with_found f t) f))) h

pub given_missing : (e : Environment) (s at : Span) (t g : PlainType) (f : Found) → mentions_missing f t ≡ true → Runs (given_lines e s at t g f) (stuck Y10 at)
given_missing e s at t g f h = subst (λ r. Runs r (stuck Y10 at)) (sym (given_rule e s at t g f true h)) refuse_

pub given_limits : (e : Environment) (s at : Span) (t g : PlainType) (f : Found) (y : InferError) → mentions_missing f t ≡ false → IsRefused (formed e (with_found f t) s) y → IsRefused (given_lines e s at t g f) y
given_limits e s at t g f y h p =
    subst (λ r. IsRefused r y) (sym (given_rule e s at t g f false h)) (refused_on y (formed_on e (with_found f t) s (Below_it e at g (with_found f t) f)) p)

pub given_end : (e : Environment) (s at : Span) (t g u : PlainType) (f : Found) (r : Result (Unit {0}) InferError) → mentions_missing f t ≡ false → Runs (formed e (with_found f t) s) (ok u) → IsAnswer (below e g u Y4 at) nothing r → IsAnswer (given_lines e s at t g f) (λ x. f) r
given_end e s at t g u f r h p q =
    let k = formed_is e (with_found f t) u s p in
    subst (λ z. IsAnswer z (λ x. f) r) (sym (given_rule e s at t g f false h))
    (answer_past (λ x. f) u r (formed_on e (with_found f t) s (Below_it e at g (with_found f t) f)) p
    (answer_end nothing (λ x. f) r (belows e g (with_found f t) Y4 at (give f)) (λ x. give_)
    (subst (λ w. IsAnswer (below e g w Y4 at) nothing r) k.1 q)))

-- ARGUMENTS UNDER BOUNDS

-- the bound of a type field is well formed under the arguments before it
pub bound_under : (ns : List (List ℕ)) (ks : List Kind) (bs : PlainBounds) (args : List PlainArg) → BoundsAreWellFormed ns ks bs → FitFirst args bs → length args < count_bounds bs → BoundIsWellFormed ns (kinds_with args ks) (nth_bound (length args) bs)
bound_under ns ks no_bound args w h n = absurd (omega (arith, n))
bound_under ns ks (bounds b bs) [] w h n = w.0
bound_under ns ks (bounds b bs) (a ∷ args) w h n =
    subst (λ k. BoundIsWellFormed ns (kinds_with args (k ∷ ks)) (nth_bound (length args) bs)) (kind_fits a b h.0) (bound_under ns (kind_by b ∷ ks) bs args w.1 h.1 (omega (arith, n)))
