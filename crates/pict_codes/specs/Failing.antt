-- Where a rule is refused by a line of its own.
use Rattle.pict_syntax.specs.declared.code.Code.{Code}
use Rattle.pict_syntax.specs.declared.span.Span.{Span}
use Rattle.pict_rules.specs.Environments.{Environment}
use Rattle.pict_rules.specs.Rules.{Sort, Result, Judgement, Condition, IsMet, Rule, refuse, need, either, part, ok}
use Rattle.pict_rules.specs.Typing.{rule}
use Rattle.pict_rules.specs.Derivations.{Runs}

-- the lines before hold, and this line of the rule itself is false, with this code at this place: what the rule asks is not refused
pub data Fails : (s : Sort) → Rule s → Code → Span → Type 0 where
  refused : {s : Sort} {c : Code} {i : Span} → Fails s (refuse c i) c i
  unmet : {s : Sort} {q : Condition} {c : Code} {i : Span} {r : Rule s} → (IsMet q → ⊥) → Fails s (need q c i r) c i
  past_met : {s : Sort} {q : Condition} {c d : Code} {i j : Span} {r : Rule s} → IsMet q → Fails s r c i → Fails s (need q d j r) c i
  past_yes : {s : Sort} {q : Condition} {c : Code} {i : Span} {r l : Rule s} → IsMet q → Fails s r c i → Fails s (either q r l) c i
  past_no : {s : Sort} {q : Condition} {c : Code} {i : Span} {r l : Rule s} → (IsMet q → ⊥) → Fails s l c i → Fails s (either q r l) c i
  past_part : {s t : Sort} {e : Environment} {j : Judgement t} {k : Result t → Rule s} {x : Result t} {c : Code} {i : Span}
      → Runs (rule e j) (ok x) → Fails s (k x) c i → Fails s (part e j k) c i
