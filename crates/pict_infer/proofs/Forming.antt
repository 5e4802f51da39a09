-- Steps that form types: expansion, limits, subtypes and unfoldings.
use Rattle.std.proofs.Common.{◌≡◌, ◌≤◌, ◌<◌, ℕ, Bool, true, false, Option, Some, None, refl, sym, ◌∙◌, ap, subst, arith, ◌≢◌, ◌↔◌}
use Rattle.std.specs.Prelude.{IfNone, IfSome}
use borrow.Author.Tests.{ltb-true}
use Rattle.pict_syntax.specs.declared.limits.TheConstants.{HEIGHT_LIMIT, WEIGHT_LIMIT}
use Rattle.pict_syntax.specs.declared.code.Code.TheVariants.{K4, Y13}
use Rattle.pict_syntax.specs.declared.span.Span.{Span}
use Rattle.pict_syntax.specs.Stops.{Stop}
use Rattle.pict_types.specs.Types.{PlainType, Top, Int, Char, Str, Boolean, Var, Apply, Chan, Fields, Rec, TypeContext}
use Rattle.pict_types.specs.declared.types.Ty.{Ty}
use Rattle.pict_types.specs.Plain.{plain}
use Rattle.pict_types.specs.declared.limits.Measure.{Measure}
use Rattle.pict_types.specs.declared.limits.SizeError.{SizeError}
use Rattle.pict_types.specs.declared.limits.SizeError.TheVariants.{TooBig, Memory as SizeMemory}
use Rattle.pict_types.specs.declared.limits.Measure.TheVariants.{Weight, Height}
use Rattle.pict_types.specs.Recursion.{IsRecursive}
use Rattle.pict_types.specs.Measures.{weight_of, height_of}
use Rattle.pict_types.specs.Entries.{PlainContext, variables}
use Rattle.pict_normal.specs.declared.stops.KindError.{KindError}
use Rattle.pict_normal.specs.declared.stops.KindError.TheVariants.{Named as KindNamed, Memory as KindMemory}
use Rattle.pict_normal.specs.Normal.{size_stop}
use Rattle.pict_normal.specs.Refusals.{IsRefusal}
use Rattle.pict_normal.proofs.Expanded.{too_big}
use Rattle.pict_sub.specs.Exposing.{exposure}
use Rattle.pict_sub.specs.Shapes.{shape_of, variable}
use Rattle.pict_sub.proofs.Followed.{not_variable}
use Rattle.pict_rules.specs.Rules.{Sort, type_, Rule, Answer, give, ok, stuck, unless_stopped}
use Rattle.pict_rules.specs.Clauses.{done, need_recursive}
use Rattle.pict_rules.specs.Derivations.{Runs, give_, refuse_}
use Rattle.pict_infer.specs.declared.error.InferError.{InferError}
use Rattle.pict_infer.specs.declared.error.InferError.TheVariants.{Named, Memory}
use Rattle.pict_infer.specs.declared.error.Told.TheVariants.{Nothing}
use Rattle.pict_infer.specs.Answering.{IsRefused, IsStopped, of_kind_error, of_size_error}
use Rattle.pict_infer.specs.Shaping.{is_recursive, is_variable}
use Rattle.pict_infer.specs.Steps.{changed_or_same}

-- a rule behind a stop
pub clear : {s : Sort} (o : Option Stop) {r : Rule s} {a : Answer s} → o ≡ None → Runs r a → Runs (unless_stopped o r) a
clear o h p = rw h p

pub stopped : {s : Sort} (o : Option Stop) (r : Rule s) (y : InferError) → IsStopped o y → IsRefused (unless_stopped o r) y
stopped o r (Named c i told) h = rw h refuse_
stopped o r Memory h = tt

pub stopped_by : (o : Option Stop) (e : KindError) → IsRefusal o e → IsStopped o (of_kind_error e)
stopped_by o (KindNamed c i) h = h
stopped_by o KindMemory h = tt

-- a type that was expanded, and one that wasn't
pub expanded_ok : (o : Option Stop) (n u : PlainType) → o ≡ None → u ≡ n → Runs {s = type_} (unless_stopped o (give n)) (ok u)
expanded_ok o n u h e = clear {s = type_} o h (subst (λ (v : PlainType). Runs {s = type_} (give n) (ok v)) (sym e) give_)

pub expanded_err : (o : Option Stop) (n : PlainType) (e : KindError) → IsRefusal o e → IsRefused {s = type_} (unless_stopped o (give n)) (of_kind_error e)
expanded_err o n e h = stopped {s = type_} o (give n) (of_kind_error e) (stopped_by o e h)

pub size_past : (c : PlainContext) (t : PlainType) (s : Span) → (weight_of (variables c) t ≤ WEIGHT_LIMIT → height_of (variables c) t ≤ HEIGHT_LIMIT → ⊥) → IsStopped (size_stop c t s) (Named K4 s Nothing)
size_past c t s h = too_big c t s h

-- recursive types
pub recursive_yes : (t : PlainType) (s : Span) → is_recursive t ≡ true → Runs (need_recursive t Y13 s (λ u. done)) (ok tt)
recursive_yes Top s h = absurd (cc)
recursive_yes Int s h = absurd (cc)
recursive_yes Char s h = absurd (cc)
recursive_yes Str s h = absurd (cc)
recursive_yes Boolean s h = absurd (cc)
recursive_yes (Var i) s h = absurd (cc)
recursive_yes (Apply i ts) s h = absurd (cc)
recursive_yes (Chan m t) s h = absurd (cc)
recursive_yes (Fields bs ps ls) s h = absurd (cc)
recursive_yes (Rec t) s h = give_

pub recursive_no : (t : PlainType) (s : Span) → is_recursive t ≡ false → Runs (need_recursive t Y13 s (λ u. done)) (stuck Y13 s)
recursive_no Top s h = refuse_
recursive_no Int s h = refuse_
recursive_no Char s h = refuse_
recursive_no Str s h = refuse_
recursive_no Boolean s h = refuse_
recursive_no (Var i) s h = refuse_
recursive_no (Apply i ts) s h = refuse_
recursive_no (Chan m t) s h = refuse_
recursive_no (Fields bs ps ls) s h = refuse_
recursive_no (Rec t) s h = absurd (cc)

pub recursive_is : (t : PlainType) (s : Span) → Runs (need_recursive t Y13 s (λ u. done)) (ok tt) → IsRecursive t
recursive_is Top s h = elim h [ ]
recursive_is Int s h = elim h [ ]
recursive_is Char s h = elim h [ ]
recursive_is Str s h = elim h [ ]
recursive_is Boolean s h = elim h [ ]
recursive_is (Var i) s h = elim h [ ]
recursive_is (Apply i ts) s h = elim h [ ]
recursive_is (Chan m t) s h = elim h [ ]
recursive_is (Fields bs ps ls) s h = elim h [ ]
recursive_is (Rec t) s h = tt

-- a type that is no variable is its own exposure
no_variable : (t : PlainType) → is_variable t ≡ false → shape_of t ≢ variable
no_variable Top h e = cc
no_variable Int h e = cc
no_variable Char h e = cc
no_variable Str h e = cc
no_variable Boolean h e = cc
no_variable (Var i) h e = absurd (cc)
no_variable (Apply i ts) h e = cc
no_variable (Chan m t) h e = cc
no_variable (Fields bs ps ls) h e = cc
no_variable (Rec t) h e = cc

pub exposed_itself : (c : TypeContext) (t : PlainType) → is_variable t ≡ false → exposure c t ≡ t
exposed_itself c t h = not_variable c t (no_variable t h)

-- a measure that passes its limit
pub past_limit : (m : Measure) (w h : ℕ) → (m ≡ Weight → WEIGHT_LIMIT < w) → (m ≡ Height → HEIGHT_LIMIT < h) → w ≤ WEIGHT_LIMIT → h ≤ HEIGHT_LIMIT → ⊥
past_limit Weight w h p q a b = let x : WEIGHT_LIMIT < w = p refl in omega (arith, x, a)
past_limit Height w h p q a b = let x : HEIGHT_LIMIT < h = q refl in omega (arith, x, b)

pub unfolded_err : (c : PlainContext) (t : PlainType) (s : Span) (e : SizeError) → (e ≡ TooBig Weight → WEIGHT_LIMIT < weight_of (variables c) t) → (e ≡ TooBig Height → (weight_of (variables c) t ≤ WEIGHT_LIMIT) × (HEIGHT_LIMIT < height_of (variables c) t)) → IsRefused {s = type_} (unless_stopped (size_stop c t s) (give t)) (of_size_error s e)
unfolded_err c t s (TooBig m) p q =
    stopped {s = type_} (size_stop c t s) (give t) (Named K4 s Nothing) (size_past c t s (λ a b. past_limit m (weight_of (variables c) t) (height_of (variables c) t) (λ e. p (ap TooBig e)) (λ e. (q (ap TooBig e)).1) a b))
unfolded_err c t s SizeMemory p q = tt

-- a condition that was tested
pub holds : {P : Type 0} (b : Bool) → b ≡ true → (b ≡ true ↔ P) → P
holds b h f = f.0 h

pub fails : {P : Type 0} (b : Bool) → b ≡ false → (b ≡ true ↔ P) → P → ⊥
fails b h f p = let e : true ≡ false = sym (f.1 p) ∙ h in cc

-- what an expansion answered
pub expanded_is : (o : Option Stop) (n u : PlainType) → Runs {s = type_} (unless_stopped o (give n)) (ok u) → (o ≡ None) × (u ≡ n)
expanded_is None n u give_ = (refl, refl)
expanded_is (Some x) n u h = elim h [ ]

pub refused_is : (o : Option Stop) (n : PlainType) (y : InferError) → IsRefused {s = type_} (unless_stopped o (give n)) y → IsStopped o y
refused_is None n (Named c i told) h = elim h [ ]
refused_is (Some x) n (Named c i told) refuse_ = refl
refused_is o n Memory h = tt

-- what is exposed
pub changed_or_same_is : (x : PlainType) (o : Option Ty) (t : Ty) → IfNone o (x ≡ plain t) → IfSome o (λ u. plain u ≡ x) → changed_or_same o t ≡ x
changed_or_same_is x None t n s = sym n
changed_or_same_is x (Some u) t n s = s

pub changed_or_same_formed : (P : PlainType → Type 0) (o : Option Ty) (t : Ty) → P (plain t) → IfSome o (λ u. P (plain t) → P (plain u)) → P (changed_or_same o t)
changed_or_same_formed P None t h s = h
changed_or_same_formed P (Some u) t h s = s h
