-- The replay of a text over an accepted program comes to one answer.
use Rattle.std.proofs.Common.{◌≡◌, ℕ, ◌≤◌, ◌<◌, inl, inr, List, ◌++◌, length, Option, Some, None, refl, sym, ◌∙◌, ap, subst, arith}
use Rattle.std.proofs.lemmas.Bool.{cases_lt}
use Rattle.std.proofs.lemmas.List.{length-append}
use Rattle.pict_syntax.specs.declared.limits.TheConstants.{TEXT_LIMIT}
use Rattle.pict_syntax.specs.declared.code.Code.TheVariants.{V1}
use Rattle.pict_syntax.specs.Names.{HasNoRepeats}
use Rattle.pict_outside.specs.Texts.{Texts, text_of}
use Rattle.pict_core.specs.Term.{Process}
use Rattle.pict_core.specs.Closed.{IsClosed}
use Rattle.pict_core.specs.Places.{Place}
use Rattle.pict_reduction.specs.Reached.{NoFreeRunIsWrong}
use Rattle.pict_gather.specs.Fetching.{Fetch, text, missing, MayGive}
use Rattle.pict_front.specs.Front.{Front}
use Rattle.pict_trace.specs.Lines.{lines_text}
use Rattle.pict_replay.specs.Replayed.{Line}
use Rattle.pict_replay.specs.Files.{choices_text, trace_line, IsFileFor, IsNoFile, ends, no_choice, no_line}
use Rattle.pict_replay.specs.Verdicts.{IsVerdict}
use Rattle.pict_replay.specs.declared.judging.Verdict.{Verdict}
use Rattle.pict_replay.specs.declared.judging.Verdict.TheVariants.{Yes, No}
use Rattle.pict_replay.proofs.Filing.{files_are_read_once}
use Rattle.pict_replay.proofs.SomeFile.{one_file_for, some_file}
use Rattle.pict_replay.proofs.Replaying.{verdicts_are_one}
use Rattle.pict_replay.proofs.Verdicts.{some_verdict}
use Rattle.pict_top.specs.Answer.{Answer, Absent, Refusal, Judged, alone, byte_at, IsReplayed, not_there, too_long, no_file, judged}

-- where a text is none, that is said of a byte of it or of its end
pub no_file_within : (t : List ℕ) (at : ℕ) → IsNoFile t at → at ≤ length t
no_file_within t at (ends x) = omega arith
no_file_within t at (no_choice {places = places} {rest = rest} x more none other) =
    let e = ap length x.whole in let l = length-append (choices_text places) rest in omega (arith, e, l)
no_file_within t at (no_line {places = places} {trace = trace} x bad) =
    let front = lines_text bad.names bad.lines in
    let a = ap length x.whole in
    let b = length-append (choices_text places) (trace_line ++ trace) in
    let c = length-append trace_line trace in
    let d = ap length bad.before.whole in
    let e = length-append front bad.rest in
    let f = length-append (choices_text places) (trace_line ++ front) in
    let g = length-append trace_line front in
    omega (arith, a, b, c, d, e, f, g)

-- ---- one

verdict_once : (p : Process) (choices : List Place) (lines : List Line) (v w : Verdict) → IsVerdict p choices lines v → IsVerdict p choices lines w → v ≡ w
verdict_once p choices lines Yes Yes x y = refl
verdict_once p choices lines Yes (No k) x y = absurd ((verdicts_are_one p choices lines).apart k x y)
verdict_once p choices lines (No k) Yes x y = absurd ((verdicts_are_one p choices lines).apart k y x)
verdict_once p choices lines (No k) (No m) x y = ap No ((verdicts_are_one p choices lines).one k m x y)

module _ (texts : Texts) (trace : List ℕ) where
  abbrev Given : Fetch → Type 0
  Given f = MayGive (Some texts) trace f

  one_text : (s t : List ℕ) → Given (text s) → Given (text t) → s ≡ t
  one_text s t x y = let e : Some s ≡ Some t = sym x ∙ y in cc

  there_or_not : (t : List ℕ) → Given missing → Given (text t) → ⊥
  there_or_not t x y = let e : None ≡ Some t = sym x ∙ y in cc

  long_or_not : (s t : List ℕ) → Given (text s) → Given (text t) → TEXT_LIMIT < length s → length t ≤ TEXT_LIMIT → ⊥
  long_or_not s t x y l m = let e = ap length (one_text s t x y) in omega (arith, e, l, m)

  one_place : (s t : List ℕ) (k m : ℕ) → s ≡ t → IsNoFile s k → IsNoFile t m → k ≡ m
  one_place s t k m e x y = (files_are_read_once t).one_place k m (subst (λ u. IsNoFile u k) e x) y

  file_or_not : (base names : List (List ℕ)) (s t : List ℕ) (places : List Place) (lines : List Line) (k : ℕ) → s ≡ t → IsFileFor base names s places lines → IsNoFile t k → ⊥
  file_or_not base names s t places lines k e x y = (files_are_read_once t).never_both names places lines k (subst (λ u. IsFileFor base names u places lines) e x).file y

  module _ (front : Front) where
    one_verdict : (s t : List ℕ) (names others : List (List ℕ)) (places more : List Place) (lines further : List Line) (v w : Verdict) → HasNoRepeats front.names → s ≡ t
        → IsFileFor front.names names s places lines → IsFileFor front.names others t more further → IsVerdict front.core places lines v → IsVerdict front.core more further w → v ≡ w
    one_verdict s t names others places more lines further v w distinct e x y a b =
        let same = one_file_for front.names names others t places more lines further distinct (subst (λ u. IsFileFor front.names names u places lines) e x) y in
        let here : IsVerdict front.core more further v = subst (λ ls. IsVerdict front.core more ls v) same.2 (subst (λ ps. IsVerdict front.core ps lines v) same.1 a) in
        verdict_once front.core more further v w here b

    pub one_replayed : (a b : Answer) → HasNoRepeats front.names → IsReplayed (MayGive (Some texts)) trace front a → IsReplayed (MayGive (Some texts)) trace front b → a ≡ b
    one_replayed a b distinct (not_there m) (not_there n) = refl
    one_replayed a b distinct (not_there m) (too_long {t = t} n l) = absurd (there_or_not t m n)
    one_replayed a b distinct (not_there m) (no_file {t = t} n l x) = absurd (there_or_not t m n)
    one_replayed a b distinct (not_there m) (judged {t = t} n l x v) = absurd (there_or_not t m n)
    one_replayed a b distinct (too_long {t = t} m l) (not_there n) = absurd (there_or_not t n m)
    one_replayed a b distinct (too_long m l) (too_long n k) = refl
    one_replayed a b distinct (too_long {t = s} m l) (no_file {t = t} n k x) = absurd (long_or_not s t m n l k)
    one_replayed a b distinct (too_long {t = s} m l) (judged {t = t} n k x v) = absurd (long_or_not s t m n l k)
    one_replayed a b distinct (no_file {t = t} m l x) (not_there n) = absurd (there_or_not t n m)
    one_replayed a b distinct (no_file {t = t} m l x) (too_long {t = s} n k) = absurd (long_or_not s t n m k l)
    one_replayed a b distinct (no_file {t = s} {at = i} m l x) (no_file {t = t} {at = j} n k y) =
        let e = one_text s t m n in let f = one_place s t i j e x y in λ z. Refusal (alone trace (e z)) V1 (byte_at (f z))
    one_replayed a b distinct (no_file {t = s} {at = i} m l x) (judged {t = t} {names = names} {places = places} {lines = lines} n k y v) =
        absurd (file_or_not front.names names t s places lines i (one_text t s n m) y x)
    one_replayed a b distinct (judged {t = t} m l x v) (not_there n) = absurd (there_or_not t n m)
    one_replayed a b distinct (judged {t = t} m l x v) (too_long {t = s} n k) = absurd (long_or_not s t n m k l)
    one_replayed a b distinct (judged {t = t} {names = names} {places = places} {lines = lines} m l x v) (no_file {t = s} {at = i} n k y) =
        absurd (file_or_not front.names names t s places lines i (one_text t s m n) x y)
    one_replayed a b distinct (judged {t = s} {names = names} {places = places} {lines = lines} {verdict = v} m l x d)
        (judged {t = t} {names = others} {places = more} {lines = further} {verdict = w} n k y f) =
        ap Judged (one_verdict s t names others places more lines further v w distinct (one_text s t m n) x y d f)

    -- ---- some

    verdict_some : (places : List Place) (lines : List Line) → IsClosed front.core → NoFreeRunIsWrong front.core → (v : Verdict) × IsVerdict front.core places lines v
    verdict_some places lines closed right = elim (some_verdict front.core places lines closed right) [
      | inl agrees ↦ (Yes, agrees)
      | inr fault ↦ (No fault.0, fault.1)
    ]

    abbrev SomeAnswer : Type 0
    SomeAnswer = (a : Answer) × IsReplayed (MayGive (Some texts)) trace front a

    of_short : (t : List ℕ) → Given (text t) → length t ≤ TEXT_LIMIT → IsClosed front.core → NoFreeRunIsWrong front.core → SomeAnswer
    of_short t m few closed right = elim (some_file front.names t) [
      | inl f ↦ let v = verdict_some f.places f.lines closed right in (Judged v.0, judged m few f.is v.1)
      | inr n ↦ (Refusal (alone trace t) V1 (byte_at n.0), no_file m few n.1)
    ]

    of_text : (t : List ℕ) → Given (text t) → IsClosed front.core → NoFreeRunIsWrong front.core → SomeAnswer
    of_text t m closed right = elim (cases_lt TEXT_LIMIT (length t)) [
      | inl long ↦ (_, too_long m long)
      | inr few ↦ of_short t m few closed right
    ]

    by_given : (f : Option (List ℕ)) → text_of texts trace ≡ f → IsClosed front.core → NoFreeRunIsWrong front.core → SomeAnswer
    by_given None e closed right = (Absent trace, not_there e)
    by_given (Some t) e closed right = of_text t e closed right

    pub some_replayed : IsClosed front.core → NoFreeRunIsWrong front.core → SomeAnswer
    some_replayed = by_given (text_of texts trace) refl
