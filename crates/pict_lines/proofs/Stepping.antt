-- The steps of the checker, by what the calls below answer.
use Rattle.std.proofs.Common.{◌≡◌, ◌-◌, ℕ, true, false, [], ◌∷◌, sym, ◌∙◌, ap, subst, arith, Result, Option, None}
use Rattle.pict_syntax.specs.declared.code.Code.{Code}
use Rattle.pict_syntax.specs.declared.code.Code.TheVariants.{Y11, Y13, Y14}
use Rattle.pict_syntax.specs.declared.span.Span.{Span}
use Rattle.pict_types.specs.Types.{PlainType, no_type, types, Top, Int, Char, Str, Boolean, Var, Apply, Chan, Fields, Rec, PlainArg}
use Rattle.pict_types.specs.Recursion.{IsRecursive}
use Rattle.pict_types.specs.Mentions.{lowered, mentions_innermost}
use Rattle.pict_types.proofs.Renamed.{rename_same}
use Rattle.pict_types.specs.Entries.{PlainContext, variables}
use Rattle.pict_types.specs.WithinLimits.{IsTooHeavy, IsTooHigh, IsWithinLimits}
use Rattle.pict_types.specs.declared.limits.Measure.TheVariants.{Weight, Height}
use Rattle.pict_types.specs.declared.limits.SizeError.{SizeError}
use Rattle.pict_types.specs.declared.limits.SizeError.TheVariants.{TooBig}
use Rattle.pict_normal.specs.Normal.{size_stop}
use Rattle.pict_rules.specs.Environments.{Environment, context_of}
use Rattle.pict_syntax.specs.Grammar.{type_span}
use Rattle.pict_syntax.specs.Trees.{TypeTree}
use Rattle.pict_syntax.specs.Stops.{Stop}
use Rattle.pict_rules.specs.Rules.{Sort, nothing_, type_, types_, arguments_, Rule, give, refuse, ok, stuck, unless_stopped, within_limits}
use Rattle.pict_rules.specs.Rules as rules
use Rattle.pict_rules.specs.Clauses.{need_recursive}
use Rattle.pict_rules.specs.Derivations.{Runs, give_, refuse_, yes, no}
use Rattle.pict_sub.specs.Subtyping.{IsSubtype}
use Rattle.pict_infer.specs.declared.error.InferError.{InferError}
use Rattle.pict_infer.specs.declared.error.InferError.TheVariants.{Named, Memory}
use Rattle.pict_infer.specs.Answering.{IsAnswer, IsRefused, of_kind_error, of_size_error}
use Rattle.pict_infer.specs.Steps.{expanded, limited, recursive, unfolded}
use Rattle.pict_normal.specs.declared.stops.KindError.{KindError}
use Rattle.pict_normal.specs.Refusals.{IsRefusal}
use Rattle.pict_infer.proofs.Forming.{clear, expanded_ok, stopped, stopped_by, unfolded_err}
use Rattle.pict_infer.proofs.Through.{GoesOn, cased_recursive, given, refused_on, refused_past, unstopped}
use Rattle.pict_lines.specs.Lines.{either_type, fold_from, fold_written, formed, outside}
use Rattle.pict_lines.proofs.Ends.{expands, limits}
use Rattle.pict_normal.proofs.Expanded.{size_clear}

-- a type within the limits is formed
pub limited_ok : (e : Environment) (w : PlainType) (s : Span) → Runs (limited e w s) (ok tt) → Runs (formed e w s) (ok w)
limited_ok e w s h = (limits e w s (give w)).on_ok tt (ok w) h give_

pub limited_refused : (e : Environment) (w : PlainType) (s : Span) (y : InferError) → IsRefused (limited e w s) y → IsRefused (formed e w s) y
limited_refused e w s y h = refused_on y (limits e w s (give w)) h

-- an instance
pub instance_ok : (c : PlainContext) (w u : PlainType) (s : Span) → u ≡ w → IsWithinLimits (variables c) u → Runs {s = type_} (unless_stopped (size_stop c w s) (give w)) (ok u)
instance_ok c w u s h l = expanded_ok (size_stop c w s) w u (subst (λ z. size_stop c z s ≡ None) h (size_clear c u s l.0 l.1)) h

pub instance_err : (c : PlainContext) (w : PlainType) (s : Span) (x : SizeError) (y : InferError) → y ≡ of_size_error s x → (x ≡ TooBig Weight → IsTooHeavy (variables c) w) → (x ≡ TooBig Height → IsTooHigh (variables c) w) → IsRefused {s = type_} (unless_stopped (size_stop c w s) (give w)) y
instance_err c w s x y h p q = subst (IsRefused {s = type_} (unless_stopped (size_stop c w s) (give w))) (sym h) (unfolded_err c w s x p q)

-- recursive types
given_never : (s t : Sort) (x : rules.Result s) (r : Rule t) (y : InferError) → IsRefused {s = s} (give x) y → IsRefused r y
given_never s t x r (Named c i told) h = elim h [ ]
given_never s t x r Memory h = tt

refuse_on : (s t : Sort) (d : Code) (j : Span) (y : InferError) → IsRefused {s = s} (refuse d j) y → IsRefused {s = t} (refuse d j) y
refuse_on s t d j (Named c i told) refuse_ = refuse_
refuse_on s t d j Memory h = tt

pub recursive_refused : {t : Sort} (u : PlainType) (s : Span) (l : PlainType → Rule t) (y : InferError) → IsRefused (recursive u s) y → IsRefused (need_recursive u Y13 s l) y
recursive_refused {t = t} Top s l y h = refuse_on nothing_ t Y13 s y h
recursive_refused {t = t} Int s l y h = refuse_on nothing_ t Y13 s y h
recursive_refused {t = t} Char s l y h = refuse_on nothing_ t Y13 s y h
recursive_refused {t = t} Str s l y h = refuse_on nothing_ t Y13 s y h
recursive_refused {t = t} Boolean s l y h = refuse_on nothing_ t Y13 s y h
recursive_refused {t = t} (Var i) s l y h = refuse_on nothing_ t Y13 s y h
recursive_refused {t = t} (Apply i ts) s l y h = refuse_on nothing_ t Y13 s y h
recursive_refused {t = t} (Chan m u) s l y h = refuse_on nothing_ t Y13 s y h
recursive_refused {t = t} (Fields bs ps ls) s l y h = refuse_on nothing_ t Y13 s y h
recursive_refused {t = t} (Rec u) s l y h = given_never nothing_ t tt (l _) y h

never_given : {s : Sort} {P : Type 0} {x : rules.Result s} {c : Code} {i : Span} → Runs {s = s} (refuse c i) (ok x) → P
never_given h = elim h [ ]

pub recursive_is : (u : PlainType) (s : Span) → Runs (recursive u s) (ok tt) → IsRecursive u
recursive_is Top s h = never_given h
recursive_is Int s h = never_given h
recursive_is Char s h = never_given h
recursive_is Str s h = never_given h
recursive_is Boolean s h = never_given h
recursive_is (Var i) s h = never_given h
recursive_is (Apply i ts) s h = never_given h
recursive_is (Chan m u) s h = never_given h
recursive_is (Fields bs ps ls) s h = never_given h
recursive_is (Rec u) s h = tt

pub fold_unfolds : {T : Type 0} (f : T → PlainType) (e : Environment) (u : PlainType) (at s : Span) (r : Result T InferError) → IsRecursive u → IsAnswer (unfolded e u s) f r → IsAnswer (fold_from e u at s) f r
fold_unfolds f e Top at s r k h = absurd k
fold_unfolds f e Int at s r k h = absurd k
fold_unfolds f e Char at s r k h = absurd k
fold_unfolds f e Str at s r k h = absurd k
fold_unfolds f e Boolean at s r k h = absurd k
fold_unfolds f e (Var i) at s r k h = absurd k
fold_unfolds f e (Apply i ts) at s r k h = absurd k
fold_unfolds f e (Chan m u) at s r k h = absurd k
fold_unfolds f e (Fields bs ps ls) at s r k h = absurd k
fold_unfolds f e (Rec u) at s r k h = h

-- a written type, and then its unfolding
abbrev Pair : Environment → Span → PlainType → Span → Rule types_
Pair e at t s = need_recursive t Y13 at (λ u. within_limits e u s (give (types t (types u no_type))))

folded : (e : Environment) (a : TypeTree) (s : Span) → GoesOn type_ types_ (expanded e a) (fold_written e a s) (λ t. Pair e (type_span a) t s)
folded e a s = expands e a (λ t. Pair e (type_span a) t s)

pair : (e : Environment) (at : Span) (t : PlainType) (s : Span) → GoesOn type_ types_ (fold_from e t at s) (Pair e at t s) (λ u. give (types t (types u no_type)))
pair e at t s = cased_recursive t Y13 at (λ u. unstopped (size_stop e.context u s) given)

pub fold_expands : (e : Environment) (a : TypeTree) (s : Span) (y : InferError) → IsRefused (expanded e a) y → IsRefused (fold_written e a s) y
fold_expands e a s y h = refused_on y (folded e a s) h

pub fold_stuck : (e : Environment) (a : TypeTree) (s : Span) (t : PlainType) (y : InferError) → Runs (expanded e a) (ok t) → IsRefused (fold_from e t (type_span a) s) y → IsRefused (fold_written e a s) y
fold_stuck e a s t y p h = refused_past t y (folded e a s) p (refused_on y (pair e (type_span a) t s) h)

pub fold_formed : (e : Environment) (a : TypeTree) (s : Span) (t u : PlainType) → Runs (expanded e a) (ok t) → Runs (fold_from e t (type_span a) s) (ok u) → Runs (fold_written e a s) (ok (types t (types u no_type)))
fold_formed e a s t u p h = (folded e a s).on_ok t (ok (types t (types u no_type))) p ((pair e (type_span a) t s).on_ok u (ok (types t (types u no_type))) h give_)

-- types outside some variables
pub outside_no : (n : ℕ) (t : PlainType) (s : Span) → mentions_innermost n t ≡ true → Runs (outside n t s) (stuck Y14 s)
outside_no n t s h = rw h refuse_

pub outside_yes : (n : ℕ) (t u : PlainType) (s : Span) → mentions_innermost n t ≡ false → u ≡ lowered n t → Runs (outside n t s) (ok u)
outside_yes n t u s h k = rw (h, k) give_

less_none : (i : ℕ) → i - 0 ≡ i
less_none i = omega arith

pub lowered_none : (n : ℕ) (t : PlainType) → n ≡ 0 → t ≡ lowered n t
lowered_none n t h = sym (ap (λ m. lowered m t) h ∙ rename_same {f = λ i. i - 0} t (record { each = less_none }))

-- the greater of two types
pub either_second : (e : Environment) (s t : PlainType) (at : Span) → IsSubtype (context_of e) s t → Runs (either_type e s t at) (ok t)
either_second e s t at h = yes h give_

pub either_first : (e : Environment) (s t : PlainType) (at : Span) → (IsSubtype (context_of e) s t → ⊥) → IsSubtype (context_of e) t s → Runs (either_type e s t at) (ok s)
either_first e s t at n h = no n (yes h give_)

pub either_none : (e : Environment) (s t : PlainType) (at : Span) → (IsSubtype (context_of e) s t → ⊥) → (IsSubtype (context_of e) t s → ⊥) → Runs (either_type e s t at) (stuck Y11 at)
either_none e s t at n m = no n (no m refuse_)

-- a written type argument
pub argument_ok : (o : Option Stop) (n a : PlainArg) → o ≡ None → a ≡ n → Runs {s = arguments_} (unless_stopped o (give (n ∷ []))) (ok (a ∷ []))
argument_ok o n a h k = clear {s = arguments_} o h (rw k give_)

pub argument_err : (o : Option Stop) (n : PlainArg) (e : KindError) (y : InferError) → y ≡ of_kind_error e → IsRefusal o e → IsRefused {s = arguments_} (unless_stopped o (give (n ∷ []))) y
argument_err o n e y h k = subst (IsRefused {s = arguments_} (unless_stopped o (give (n ∷ [])))) (sym h) (stopped {s = arguments_} o (give (n ∷ [])) (of_kind_error e) (stopped_by o e k))
