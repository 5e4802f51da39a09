-- The judgements that the rules reach from a program.
use Rattle.std.specs.Prelude.{ℕ, List}
use Rattle.pict_syntax.specs.declared.code.Code.{Code}
use Rattle.pict_syntax.specs.declared.span.Span.{Span}
use Rattle.pict_syntax.specs.Trees.{Decs}
use Rattle.pict_rules.specs.Environments.{Environment, no_environment}
use Rattle.pict_rules.specs.Rules.{Sort, environment_, Result, Judgement, declarations, Condition, IsMet, Rule, need, either, part, ok}
use Rattle.pict_rules.specs.Typing.{rule}
use Rattle.pict_rules.specs.Derivations.{Runs}

-- this rule asks this judgement in this environment, once the lines before it hold
pub data Asks : (s : Sort) → Rule s → (t : Sort) → Environment → Judgement t → Type 0 where
  this_part : {s t : Sort} {e : Environment} {j : Judgement t} {k : Result t → Rule s} → Asks s (part e j k) t e j
  past_part : {s t r : Sort} {e d : Environment} {j : Judgement t} {i : Judgement r} {k : Result t → Rule s} {x : Result t}
      → Runs (rule e j) (ok x) → Asks s (k x) r d i → Asks s (part e j k) r d i
  past_need : {s r : Sort} {d : Environment} {i : Judgement r} {q : Condition} {c : Code} {n : Span} {k : Rule s}
      → IsMet q → Asks s k r d i → Asks s (need q c n k) r d i
  past_yes : {s r : Sort} {d : Environment} {i : Judgement r} {q : Condition} {k l : Rule s} → IsMet q → Asks s k r d i → Asks s (either q k l) r d i
  past_no : {s r : Sort} {d : Environment} {i : Judgement r} {q : Condition} {k l : Rule s} → (IsMet q → ⊥) → Asks s l r d i → Asks s (either q k l) r d i

-- the judgements that the rules reach from a program, with their environments
pub data Reached (names : List (List ℕ)) (p : Decs) : (t : Sort) → Environment → Judgement t → Type 0 where
  whole : Reached names p environment_ (no_environment names) (declarations p)
  asked_by : {s t : Sort} {e d : Environment} {j : Judgement s} {i : Judgement t} → Reached names p s e j → Asks s (rule e j) t d i → Reached names p t d i
