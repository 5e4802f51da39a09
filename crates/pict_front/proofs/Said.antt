-- What the answers of the calls say of the phases behind the grammar.
use Rattle.std.proofs.Common.{◌≡◌, ℕ, ◌≤◌, ◌<◌, List, Option, Some, None, Err, IfSome, refl, sym, subst, inl, inr}
use Rattle.pict_syntax.specs.declared.limits.TheConstants.{DEPTH_LIMIT}
use Rattle.pict_syntax.specs.Trees.{Decs}
use Rattle.pict_syntax.specs.declared.tree.Program.{Program}
use Rattle.pict_syntax.specs.PlainTrees.{declarations_of}
use Rattle.pict_syntax.specs.Stops.{Stop}
use Rattle.pict_scope.specs.Scopes.{scope_stop}
use Rattle.pict_rules.specs.Derivations.{IsTyped}
use Rattle.pict_check.specs.declared.error.TypeError.{TypeError}
use Rattle.pict_check.specs.declared.error.TypeError.TheVariants as check
use Rattle.pict_check.specs.Refused.{IsTypeStop}
use Rattle.pict_derive.specs.declared.whole.DeriveError.{DeriveError}
use Rattle.pict_derive.specs.declared.whole.DeriveError.TheVariants as derive
use Rattle.pict_core.specs.Term.{Process, depth_of}
use Rattle.pict_translation.specs.Translation.{program_core}
use Rattle.pict_front.specs.declared.refusal.Refusal.{Refusal}
use Rattle.pict_gather.specs.Phases.{Phase, accepts, refuses, Then}
use Rattle.pict_front.specs.Front.{Front, Checks, Translates, Judges, stopped_by}
use Rattle.pict_front.specs.Answers.{said_by, of_derive_error, of_type_error}

-- a core process within the limit of depth
pub translated : (names : List (List ℕ)) (p : Decs) (core : Process) → core ≡ program_core names p → depth_of core ≤ DEPTH_LIMIT
    → Translates names p (accepts (record { names = names; core = core }))
translated names p core is shallow =
    inr (subst (λ c. depth_of c ≤ DEPTH_LIMIT) is shallow, subst (λ c. made c ≡ made (program_core names p)) (sym is) refl)
  where
    made : Process → Phase Stop Front
    made c = accepts (record { names = names; core = c })

-- no rule of scopes fails, and this is what the types and the translation say
pub scoped : (names : List (List ℕ)) (p : Decs) → scope_stop names p ≡ None → (answer : Phase Stop Front) → Then (Checks names p) (λ typed. Translates names p) answer → Judges names p answer
scoped names p none answer next = (accepts tt, subst (λ o. accepts tt ≡ stopped_by o) (sym none) refl, next)

-- a core process that is too deep
pub too_deep : {A : Type 0} (f : A → Front) (names : List (List ℕ)) (p : Decs) (error : DeriveError) (r : Refusal) → r ≡ of_derive_error error
    → ((depth : ℕ) → error ≡ derive.TooDeep depth → DEPTH_LIMIT < depth_of (program_core names p)) → IfSome (said_by f (Err r)) (Translates names p)
too_deep f names p (derive.TooDeep depth) r is deep = subst (λ s. IfSome (said_by f (Err s)) (Translates names p)) (sym is) (inl (deep depth refl, refl))
too_deep f names p derive.Memory r is deep = subst (λ s. IfSome (said_by f (Err s)) (Translates names p)) (sym is) tt

-- the program is typed, and this is what the translation says
pub typed : (names : List (List ℕ)) (q p : Program) → q ≡ p → scope_stop names (declarations_of p) ≡ None → IsTyped names (declarations_of q) → (o : Option (Phase Stop Front))
    → IfSome o (Translates names (declarations_of q)) → IfSome o (Judges names (declarations_of p))
typed names q p same none is None h = h
typed names q p same none is (Some answer) h =
    scoped names (declarations_of p) none answer
    (subst (λ r. Then (Checks names (declarations_of r)) (λ typed. Translates names (declarations_of r)) answer) same (accepts tt, (refl, is), h))

-- the typing rules refuse the program
pub stuck : {A : Type 0} (f : A → Front) (names : List (List ℕ)) (q p : Program) → q ≡ p → scope_stop names (declarations_of p) ≡ None → (error : TypeError) → IsTypeStop names (declarations_of q) error
    → (r : Refusal) → r ≡ of_type_error error → IfSome (said_by f (Err r)) (Judges names (declarations_of p))
stuck f names q p same none (check.Named code span told) stop r is =
    subst (λ s. IfSome (said_by f (Err s)) (Judges names (declarations_of p))) (sym is)
    (scoped names (declarations_of p) none (refuses (code, span))
    (subst (λ r. Then (Checks names (declarations_of r)) (λ typed. Translates names (declarations_of r)) (refuses (code, span))) same (refuses (code, span), stop, refl)))
stuck f names q p same none check.Memory stop r is = subst (λ s. IfSome (said_by f (Err s)) (Judges names (declarations_of p))) (sym is) tt
