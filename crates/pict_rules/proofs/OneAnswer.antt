-- A rule has at most one answer.
use Rattle.std.proofs.Common.{◌≡◌, refl, sym, subst}
use Rattle.pict_syntax.specs.declared.code.Code.{Code}
use Rattle.pict_syntax.specs.declared.span.Span.{Span}
use Rattle.pict_rules.specs.Rules.{Sort, Result, Rule, Answer, ok, stuck}
use Rattle.pict_rules.specs.Derivations.{Runs, give_, refuse_, met, failed, yes, no, part_ok, part_stuck}

abbrev given : (s : Sort) → Result s → Answer s
given s x = ok x

abbrev refused : (s : Sort) → Code → Span → Answer s
refused s c i = stuck c i

ok-same : {s : Sort} {x y : Result s} → given s x ≡ ok y → x ≡ y
ok-same e = cc

ok-stuck : {s : Sort} {x : Result s} {c : Code} {i : Span} → given s x ≡ stuck c i → ⊥
ok-stuck e = cc

retell : {s t : Sort} {c d : Code} {i j : Span} → refused s c i ≡ stuck d j → refused t c i ≡ stuck d j
retell e = cc

pub one_answer : {s : Sort} {r : Rule s} {a b : Answer s} → Runs r a → Runs r b → a ≡ b
one_answer give_ give_ = refl
one_answer refuse_ refuse_ = refl
one_answer (met h p) (met h' q) = one_answer p q
one_answer (met h p) (failed f) = absurd (f h)
one_answer (failed f) (met h q) = absurd (f h)
one_answer (failed f) (failed g) = refl
one_answer (yes h p) (yes h' q) = one_answer p q
one_answer (yes h p) (no f q) = absurd (f h)
one_answer (no f p) (yes h q) = absurd (f h)
one_answer (no f p) (no g q) = one_answer p q
one_answer (part_ok {k = k} {a = a} p q) (part_ok {a = b} p' q') =
    one_answer q (subst (λ x. Runs (k x) b) (sym (ok-same (one_answer p p'))) q')
one_answer (part_ok p q) (part_stuck p') = absurd (ok-stuck (one_answer p p'))
one_answer (part_stuck p) (part_ok p' q') = absurd (ok-stuck (sym (one_answer p p')))
one_answer (part_stuck p) (part_stuck p') = retell (one_answer p p')
