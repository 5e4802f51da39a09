-- Every program is typed or has exactly one refusal.
use Rattle.std.proofs.Common.{◌≡◌, ℕ, List, Option, Some, None, refl, sym, ◌∙◌, ap, ◌⊎◌, inl, inr}
use Rattle.pict_syntax.specs.declared.code.Code.{Code}
use Rattle.pict_syntax.specs.declared.span.Span.{Span}
use Rattle.pict_syntax.specs.Trees.{Decs}
use Rattle.pict_syntax.specs.Stops.{Stop}
use Rattle.pict_scope.specs.Scopes.{scope_stop}
use Rattle.pict_rules.specs.Environments.{no_environment}
use Rattle.pict_rules.specs.Rules.{environment_, Condition, is_subtype, is_same, IsMet, Answer, ok, stuck, Result, declarations}
use Rattle.pict_rules.specs.Typing.{rule}
use Rattle.pict_rules.specs.Derivations.{Runs, IsTyped}
use Rattle.pict_rules.specs.Laws.{SomeAnswer, IsRefusedAt, Refusal, TypedOrStuck, TypedOrRefused}
use Rattle.pict_sub.proofs.Decidable.{decided, same_bound}
use Rattle.pict_rules.proofs.Answered.{Answered}
use Rattle.pict_rules.proofs.OneAnswer.{one_answer}
use Rattle.pict_rules.proofs.EveryAnswered.{every_answered}

decides : (q : Condition) → IsMet q ⊎ (IsMet q → ⊥)
decides (is_subtype c s t) = decided c s t
decides (is_same b d) = same_bound b d

abbrev stuck_ : Code → Span → Answer environment_
stuck_ c i = stuck c i

same_stuck : {c d : Code} {i j : Span} → stuck_ c i ≡ stuck_ d j → (c ≡ d) × (i ≡ j)
same_stuck e = (cc, cc)

abbrev ok_ : Result environment_ → Answer environment_
ok_ x = ok x

not_both : {x : Result environment_} {c : Code} {i : Span} → ok_ x ≡ stuck_ c i → ⊥
not_both e = cc

abbrev some : Stop → Option Stop
some x = Some x

abbrev none : Option Stop
none = None

same_some : {x y : Stop} → some x ≡ some y → x ≡ y
same_some e = cc

some_none : {x : Stop} {o : Option Stop} → o ≡ some x → o ≡ none → ⊥
some_none p q = cc

same_stop : {c d : Code} {i j : Span} {o : Option Stop} → o ≡ some (c, i) → o ≡ some (d, j) → (c ≡ d) × (i ≡ j)
same_stop p q = let e = same_some (sym p ∙ q) in (ap (λ x. x.0) e, ap (λ x. x.1) e)

pub some_answer : SomeAnswer
some_answer s e j = let x = every_answered decides e j in (x.answer, x.runs)

answered : (names : List (List ℕ)) (p : Decs) → Answered environment_ (rule (no_environment names) (declarations p))
answered names p = every_answered decides (no_environment names) (declarations p)

abbrev OneOrOther : List (List ℕ) → Decs → Type 0
OneOrOther names p = IsTyped names p ⊎ Refusal names p

scoped : (names : List (List ℕ)) (p : Decs) → scope_stop names p ≡ None → OneOrOther names p
scoped names p s = one (answered names p).answer (answered names p).runs
  where
    one : (x : Answer environment_) → Runs (rule (no_environment names) (declarations p)) x → OneOrOther names p
    one (ok e) h = inl (s, (e, h))
    one (stuck c i) h = inr (record { code = c; place = i; stuck = h })

pub typed_or_stuck : TypedOrStuck
typed_or_stuck names p s = record {
  one = scoped names p s;
  never_both = λ t r. not_both (one_answer t.1.1 r.stuck);
  same_refusal = λ r q. same_stuck (one_answer r.stuck q.stuck);
}

same_refusal : (names : List (List ℕ)) (p : Decs) {c d : Code} {i j : Span} → IsRefusedAt names p c i → IsRefusedAt names p d j → (c ≡ d) × (i ≡ j)
same_refusal names p (inl s) (inl t) = same_stop s t
same_refusal names p (inl s) (inr t) = absurd (some_none s t.0)
same_refusal names p (inr s) (inl t) = absurd (some_none t s.0)
same_refusal names p (inr s) (inr t) = same_stuck (one_answer s.1 t.1)

never_both : (names : List (List ℕ)) (p : Decs) {c : Code} {i : Span} → IsTyped names p → IsRefusedAt names p c i → ⊥
never_both names p t (inl s) = some_none s t.0
never_both names p t (inr s) = not_both (one_answer t.1.1 s.1)

pub typed_or_refused : TypedOrRefused
typed_or_refused names p = record {
  one = one (scope_stop names p) refl;
  never_both = λ c i t r. never_both names p t r;
  same_refusal = λ c d i j r q. same_refusal names p r q;
}
  where
    unscoped : scope_stop names p ≡ None → OneOrOther names p → IsTyped names p ⊎ ((c : Code) × (i : Span) × IsRefusedAt names p c i)
    unscoped s (inl t) = inl t
    unscoped s (inr r) = inr (r.code, r.place, inr (s, r.stuck))

    one : (o : Option Stop) → scope_stop names p ≡ o → IsTyped names p ⊎ ((c : Code) × (i : Span) × IsRefusedAt names p c i)
    one None s = unscoped s (scoped names p s)
    one (Some x) s = inr (x.0, x.1, inl s)
