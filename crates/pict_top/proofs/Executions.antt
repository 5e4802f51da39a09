-- The file of an object comes to one answer.
use Rattle.std.proofs.Common.{◌≡◌, ℕ, zero, suc, ◌^◌, ◌<◌, ◌≤◌, inl, inr, List, [], ◌∷◌, length, Option, Some, None, refl, sym, ◌∙◌, ap, subst, arith}
use Rattle.std.proofs.lemmas.Bool.{cases_lt}
use Rattle.pict_syntax.specs.declared.limits.TheConstants.{OBJECT_LIMIT}
use Rattle.pict_outside.specs.Texts.{Texts, text_of}
use Rattle.pict_core.specs.Term.{Process}
use Rattle.pict_core.specs.Configuration.{opening}
use Rattle.pict_core.specs.Run.{Runs, bytes_of}
use Rattle.pict_core.proofs.OneRun.{one_run}
use Rattle.pict_gather.specs.Fetching.{Fetch, text, missing, MayGive}
use Rattle.pict_object.specs.Decoded.{IsNoObject, IsDecoded}
use Rattle.pict_built.specs.Laws.{AreBytes}
use Rattle.pict_built.proofs.Choices.{Decided, less_or_not}
use Rattle.pict_built.proofs.Labels.{decoded_once}
use Rattle.pict_built.proofs.Deciding.{decided}
use Rattle.pict_exec.specs.Ends.{end_of}
use Rattle.pict_exec.specs.declared.guarded.ExecEnd.{ExecEnd}
use Rattle.pict_top.specs.Answer.{Answer, Absent, Executed, RunsObject, IsExecuted, none_there, over_limit, no_object, executed}
use Rattle.pict_top.proofs.Beyond.{goes_on_from}
use Rattle.pict_top.proofs.GuardedEnds.{guarded_end, end_again, known_end}

-- ---- one

one_ran : (t : List ℕ) (fuel : ℕ) (e g : ExecEnd) (a b : List ℕ) → RunsObject t fuel e a → RunsObject t fuel g b → (e ≡ g) × (a ≡ b)
one_ran t fuel e g a b x y =
    let same = decoded_once t x.names y.names x.process y.process x.is y.is in
    let one = one_run (opening y.process) fuel (end_of e) (end_of g) x.labels y.labels (subst (λ p. Runs p fuel (end_of e) x.labels) same x.runs) y.runs in
    (sym (known_end e) ∙ ap guarded_end one.0 ∙ known_end g, x.prints ∙ ap bytes_of one.1 ∙ sym y.prints)

module _ (texts : Texts) (object : List ℕ) (fuel : ℕ) where
  abbrev Given : Fetch → Type 0
  Given f = MayGive (Some texts) object f

  one_text : (s t : List ℕ) → Given (text s) → Given (text t) → s ≡ t
  one_text s t x y = let e : Some s ≡ Some t = sym x ∙ y in cc

  there_or_not : (t : List ℕ) → Given missing → Given (text t) → ⊥
  there_or_not t x y = let e : None ≡ Some t = sym x ∙ y in cc

  long_or_not : (s t : List ℕ) → Given (text s) → Given (text t) → OBJECT_LIMIT < length s → length t ≤ OBJECT_LIMIT → ⊥
  long_or_not s t x y l m = let e = ap length (one_text s t x y) in omega (arith, e, l, m)

  none_or_run : (s t : List ℕ) (e : ExecEnd) (bytes : List ℕ) → Given (text s) → Given (text t) → (AreBytes s → IsNoObject s) → AreBytes t → RunsObject t fuel e bytes → ⊥
  none_or_run s t e bytes x y none fits r = subst (λ u. AreBytes u → IsNoObject u) (one_text s t x y) none fits r.names r.process r.is.object

  one_end : (s t : List ℕ) (e g : ExecEnd) (a b : List ℕ) → Given (text s) → Given (text t) → RunsObject s fuel e a → RunsObject t fuel g b → Executed object e a ≡ Executed object g b
  one_end s t e g a b x y r q = let one = one_ran t fuel e g a b (subst (λ u. RunsObject u fuel e a) (one_text s t x y) r) q in λ i. Executed object (one.0 i) (one.1 i)

  pub one_executed : (a b : Answer) → IsExecuted (MayGive (Some texts)) object fuel a → IsExecuted (MayGive (Some texts)) object fuel b → a ≡ b
  one_executed a b (none_there m) (none_there n) = refl
  one_executed a b (none_there m) (over_limit {t = t} n l) = absurd (there_or_not t m n)
  one_executed a b (none_there m) (no_object {t = t} n l x) = absurd (there_or_not t m n)
  one_executed a b (none_there m) (executed {t = t} n l f r) = absurd (there_or_not t m n)
  one_executed a b (over_limit {t = t} m l) (none_there n) = absurd (there_or_not t n m)
  one_executed a b (over_limit m l) (over_limit n k) = refl
  one_executed a b (over_limit {t = s} m l) (no_object {t = t} n k x) = absurd (long_or_not s t m n l k)
  one_executed a b (over_limit {t = s} m l) (executed {t = t} n k f r) = absurd (long_or_not s t m n l k)
  one_executed a b (no_object {t = t} m l x) (none_there n) = absurd (there_or_not t n m)
  one_executed a b (no_object {t = t} m l x) (over_limit {t = s} n k) = absurd (long_or_not s t n m k l)
  one_executed a b (no_object m l x) (no_object n k y) = refl
  one_executed a b (no_object {t = s} m l x) (executed {t = t} {bytes = bytes} {end = e} n k f r) = absurd (none_or_run s t e bytes m n x f r)
  one_executed a b (executed {t = t} m l f r) (none_there n) = absurd (there_or_not t n m)
  one_executed a b (executed {t = t} m l f r) (over_limit {t = s} n k) = absurd (long_or_not s t n m k l)
  one_executed a b (executed {t = t} {bytes = bytes} {end = e} m l f r) (no_object {t = s} n k x) = absurd (none_or_run s t e bytes n m x f r)
  one_executed a b (executed {t = s} {bytes = xs} {end = e} m l f r) (executed {t = t} {bytes = ys} {end = g} n k h q) = one_end s t e g xs ys m n r q

-- ---- some

bytes_or_not : (t : List ℕ) → Decided (AreBytes t)
bytes_or_not [] = inl (λ i. omega arith)
bytes_or_not (b ∷ bs) = by (less_or_not b (2 ^ 8)) (bytes_or_not bs)
  where
    each : b < 2 ^ 8 → AreBytes bs → AreBytes (b ∷ bs)
    each h k zero = h
    each h k (suc i) = k i

    by : Decided (b < 2 ^ 8) → Decided (AreBytes bs) → Decided (AreBytes (b ∷ bs))
    by (inl h) (inl k) = inl (each h k)
    by (inr never) k = inr (λ f. never (f 0))
    by (inl h) (inr never) = inr (λ f. never (λ i. f (suc i)))

module _ (texts : Texts) (object : List ℕ) (fuel : ℕ) where
  abbrev SomeAnswer : Type 0
  SomeAnswer = (a : Answer) × IsExecuted (MayGive (Some texts)) object fuel a

  ran : (t : List ℕ) (names : List (List ℕ)) (p : Process) → MayGive (Some texts) object (text t) → length t ≤ OBJECT_LIMIT → AreBytes t → IsDecoded [] names t p → SomeAnswer
  ran t names p m few fits is =
      let on = goes_on_from 0 (opening p) fuel [] (opening p) (omega arith) (refl, refl) in (
        _,
        executed m few fits (record {
          names = names;
          process = p;
          is = is;
          labels = on.rest;
          runs = subst (λ e. Runs p fuel e on.rest) (sym (end_again on.end)) on.runs;
          prints = refl;
        }),
      )

  of_bytes : (t : List ℕ) → MayGive (Some texts) object (text t) → length t ≤ OBJECT_LIMIT → Decided (AreBytes t) → SomeAnswer
  of_bytes t m few (inr never) = (_, no_object m few (λ fits. absurd (never fits)))
  of_bytes t m few (inl fits) = elim (decided t fits) [
    | inl f ↦ ran t f.0 f.1 m few fits f.2
    | inr none ↦ (_, no_object m few (λ bytes. none))
  ]

  by_given : (f : Option (List ℕ)) → text_of texts object ≡ f → SomeAnswer
  by_given None e = (Absent object, none_there e)
  by_given (Some t) e = elim (cases_lt OBJECT_LIMIT (length t)) [
    | inl long ↦ (_, over_limit e long)
    | inr few ↦ of_bytes t e few (bytes_or_not t)
  ]

  pub some_executed : SomeAnswer
  some_executed = by_given (text_of texts object) refl
