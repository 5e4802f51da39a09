-- What a rule answers: a result, or the refusal of its first false line. And what is typed.
use Rattle.std.specs.Prelude.{◌≡◌, ℕ, List, None}
use Rattle.pict_syntax.specs.declared.code.Code.{Code}
use Rattle.pict_syntax.specs.declared.span.Span.{Span}
use Rattle.pict_syntax.specs.Trees.{Decs}
use Rattle.pict_scope.specs.Scopes.{scope_stop}
use Rattle.pict_rules.specs.Environments.{Environment, no_environment}
use Rattle.pict_rules.specs.Rules.{Sort, Result, Judgement, declarations, Condition, IsMet, Rule, give, refuse, need, either, part, Answer, ok, stuck}
use Rattle.pict_rules.specs.Typing.{rule}

pub data RunsTo : (s : Sort) → Rule s → Answer s → Type 0 where
  give_ : {s : Sort} {x : Result s} → RunsTo s (give x) (ok x)
  refuse_ : {s : Sort} {c : Code} {i : Span} → RunsTo s (refuse c i) (stuck c i)
  -- a condition that holds, and one that is false
  met : {s : Sort} {q : Condition} {c : Code} {i : Span} {r : Rule s} {a : Answer s} → IsMet q → RunsTo s r a → RunsTo s (need q c i r) a
  failed : {s : Sort} {q : Condition} {c : Code} {i : Span} {r : Rule s} → (IsMet q → ⊥) → RunsTo s (need q c i r) (stuck c i)
  -- one way, or the other
  yes : {s : Sort} {q : Condition} {r r' : Rule s} {a : Answer s} → IsMet q → RunsTo s r a → RunsTo s (either q r r') a
  no : {s : Sort} {q : Condition} {r r' : Rule s} {a : Answer s} → (IsMet q → ⊥) → RunsTo s r' a → RunsTo s (either q r r') a
  -- a part that has a result, and one that is refused
  part_ok : {s t : Sort} {e : Environment} {j : Judgement t} {k : Result t → Rule s} {x : Result t} {a : Answer s}
      → RunsTo t (rule e j) (ok x) → RunsTo s (k x) a → RunsTo s (part e j k) a
  part_stuck : {s t : Sort} {e : Environment} {j : Judgement t} {k : Result t → Rule s} {c : Code} {i : Span}
      → RunsTo t (rule e j) (stuck c i) → RunsTo s (part e j k) (stuck c i)

abbrev pub Runs : {s : Sort} → Rule s → Answer s → Type 0
Runs {s = s} r a = RunsTo s r a

-- the judgement holds, with this result
abbrev pub Holds : {s : Sort} → Environment → Judgement s → Result s → Type 0
Holds e j x = Runs (rule e j) (ok x)

-- the first line that is false has this code, and this is its place
abbrev pub IsStuck : {s : Sort} → Environment → Judgement s → Code → Span → Type 0
IsStuck e j c i = Runs (rule e j) (stuck c i)

-- no rule of scopes fails in the program, and its declarations are typed in order
abbrev pub IsTyped : List (List ℕ) → Decs → Type 0
IsTyped names p = (scope_stop names p ≡ None) × ((e : Environment) × Holds (no_environment names) (declarations p) e)

-- the declarations of the program are refused
abbrev pub IsStuckAt : List (List ℕ) → Decs → Code → Span → Type 0
IsStuckAt names p c i = IsStuck (no_environment names) (declarations p) c i
