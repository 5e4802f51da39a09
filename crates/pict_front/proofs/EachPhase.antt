-- Each phase has exactly one answer, by its own laws, and so has a file over a shelf that tells its texts.
use Rattle.std.proofs.Common.{◌≡◌, inl, inr, ℕ, ◌<◌, ◌≤◌, refl, sym, ◌∙◌, ap, List, Option, Some, None, arith}
use Rattle.std.proofs.lemmas.Bool.{cases_lt}
use Rattle.pict_syntax.specs.declared.limits.TheConstants.{DEPTH_LIMIT}
use Rattle.pict_syntax.specs.declared.code.Code.{Code}
use Rattle.pict_syntax.specs.declared.code.Code.TheVariants.{C1}
use Rattle.pict_syntax.specs.declared.span.Span.{Span}
use Rattle.pict_syntax.specs.Trees.{Decs}
use Rattle.pict_syntax.specs.Stops.{Stop}
use Rattle.pict_outside.specs.Texts.{Texts}
use Rattle.pict_gather.specs.Phases.{Phase, accepts, refuses, Then, Exactly}
use Rattle.pict_gather.specs.Fetching.{Fetch, MayGive}
use Rattle.pict_gather.specs.Gathered.{Gathered, EarlyEnd}
use Rattle.pict_gather.specs.Reached.{Reached, Absent, Gathering, Reaches}
use Rattle.pict_gather.proofs.OneAfterAnother.{one_then}
use Rattle.pict_gather.proofs.OneReached.{one_reached}
use Rattle.pict_scope.specs.Scopes.{scope_stop}
use Rattle.pict_rules.specs.Laws.{Refusal, IsTypedOrStuck}
use Rattle.pict_rules.specs.Derivations.{IsTyped}
use Rattle.pict_rules.proofs.TypedOrStuck.{typed_or_stuck}
use Rattle.pict_core.specs.Term.{depth_of}
use Rattle.pict_translation.specs.Translation.{program_core}
use Rattle.pict_front.specs.Front.{Front, Accepted, stopped_by, Checks, Translates, Judges, with_texts, JudgesTexts, IsFront, first_place}
use Rattle.pict_front.specs.Laws.{OneFront}

same_refusal : {A : Type 0} (c d : Code) (i j : Span) → c ≡ d → i ≡ j → let refused : Code → Span → Phase Stop A = λ c i. refuses (c, i) in refused c i ≡ refused d j
same_refusal c d i j e f = cc

one_checks : (names : List (List ℕ)) (p : Decs) → scope_stop names p ≡ None → Exactly (Checks names p)
one_checks names p scoped = let t = typed_or_stuck names p scoped in elim t.one [
  | inl typed ↦ (accepts tt, (refl, typed), against_typed t typed)
  | inr r ↦ (refuses (r.code, r.place), r.stuck, against_stuck t r)
]
  where
    against_typed : IsTypedOrStuck names p → IsTyped names p → (other : Phase Stop (Unit {0})) → Checks names p other → other ≡ accepts tt
    against_typed t typed (accepts x) also = ap accepts also.0
    against_typed t typed (refuses (c, i)) also = absurd (t.never_both typed (record { code = c; place = i; stuck = also }))

    against_stuck : IsTypedOrStuck names p → (r : Refusal names p) → (other : Phase Stop (Unit {0})) → Checks names p other → other ≡ refuses (r.code, r.place)
    against_stuck t r (accepts x) also = absurd (t.never_both also.1 r)
    against_stuck t r (refuses (c, i)) also = let both = t.same_refusal (record { code = c; place = i; stuck = also }) r in same_refusal c r.code i r.place both.0 both.1

one_translates : (names : List (List ℕ)) (p : Decs) → Exactly (Translates names p)
one_translates names p = elim (cases_lt DEPTH_LIMIT (depth_of (program_core names p))) [
  | inl deep ↦ (refuses (C1, first_place), inl (deep, refl), against_deep deep)
  | inr fits ↦ (accepts (record { names = names; core = program_core names p }), inr (fits, refl), against_fitting fits)
]
  where
    against_deep : DEPTH_LIMIT < depth_of (program_core names p) → (other : Phase Stop Front) → Translates names p other → other ≡ refuses (C1, first_place)
    against_deep deep other (inl (d, e)) = e
    against_deep deep other (inr (f, e)) = absurd (omega (arith, f, deep))

    against_fitting : depth_of (program_core names p) ≤ DEPTH_LIMIT → (other : Phase Stop Front) → Translates names p other → other ≡ accepts (record { names = names; core = program_core names p })
    against_fitting fits other (inl (d, e)) = absurd (omega (arith, d, fits))
    against_fitting fits other (inr (f, e)) = e

-- the phases behind the scopes
abbrev Typed : List (List ℕ) → Decs → Unit {0} → Phase Stop Front → Type 0
Typed names p scoped = Then (Checks names p) (λ typed. Translates names p)

-- types and the translation where no rule of scopes fails, else its refusal
one_judges : (names : List (List ℕ)) (p : Decs) → Exactly (Judges names p)
one_judges names p = by_scopes (scope_stop names p) refl
  where
    refused : (stop : Stop) → scope_stop names p ≡ Some stop → (other : Phase Stop Front) → Judges names p other → other ≡ refuses stop
    refused stop is other (accepts x, said, next) = absurd (let e = ap stopped_by is in cc)
    refused stop is other (refuses s, said, next) = let e = ap stopped_by is in cc

    by_scopes : (s : Option Stop) → scope_stop names p ≡ s → Exactly (Judges names p)
    by_scopes (Some stop) is = (refuses stop, (refuses stop, sym (ap stopped_by is), refl), refused stop is)
    by_scopes None is =
        one_then (λ said. said ≡ stopped_by (scope_stop names p)) (Typed names p) (stopped_by (scope_stop names p), refl, λ s e. e) (λ scoped.
        one_then (Checks names p) (λ typed. Translates names p) (one_checks names p is) (λ typed. one_translates names p))

-- ---- all phases, over a file

one_judges_texts : (g : Gathered) → Exactly (JudgesTexts g)
one_judges_texts g =
    let one = one_judges g.names g.decs in
    (with_texts g.sources one.0, (one.0, one.1, refl), λ answer (said, also, is). is ∙ ap (with_texts g.sources) (one.2 said also))

same_gathering : (a b : Phase EarlyEnd Gathered) → Gathering a ≡ Gathering b → a ≡ b
same_gathering a b e = cc

module _ (texts : Texts) (prelude : Option (List ℕ)) (file : List ℕ) where
  abbrev G : List ℕ → Fetch → Type 0
  G = MayGive (Some texts)

  by_reached : (r : Reached) → Reaches G prelude file r → ((other : Reached) → Reaches G prelude file other → other ≡ r) → Exactly (IsFront G prelude file)
  by_reached Absent is only = (None, is, against)
    where
      against : (other : Option (Phase EarlyEnd Accepted)) → IsFront G prelude file other → other ≡ None
      against None also = refl
      against (Some answer) (said, also, next) = let e = only (Gathering said) also in absurd cc
  by_reached (Gathering said) is only = (Some one.0, one.1, against)
    where
      First : Phase EarlyEnd Gathered → Type 0
      First said = Reaches G prelude file (Gathering said)

      one : Exactly (Then First JudgesTexts)
      one = one_then First JudgesTexts (said, is, λ other also. same_gathering other said (only (Gathering other) also)) one_judges_texts

      against : (other : Option (Phase EarlyEnd Accepted)) → IsFront G prelude file other → other ≡ Some one.0
      against None also = let e = only Absent also in absurd cc
      against (Some answer) also = ap Some (one.2 answer also)

pub one_front : OneFront
one_front texts prelude file = let r = one_reached texts prelude file in by_reached texts prelude file r.0 r.1 r.2
