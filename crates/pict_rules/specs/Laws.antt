-- The laws of the typing rules.
use Rattle.std.specs.Prelude.{◌≡◌, ℕ, List, Some, None, ◌⊎◌}
use Rattle.pict_syntax.specs.declared.code.Code.{Code}
use Rattle.pict_syntax.specs.declared.span.Span.{Span}
use Rattle.pict_syntax.specs.Trees.{Decs}
use Rattle.pict_scope.specs.Scopes.{scope_stop}
use Rattle.pict_rules.specs.Environments.{Environment}
use Rattle.pict_rules.specs.Rules.{Sort, Judgement, Answer}
use Rattle.pict_rules.specs.Typing.{rule}
use Rattle.pict_rules.specs.Derivations.{Runs, IsTyped, IsStuckAt}

-- a judgement has at most one answer
abbrev pub AtMostOneAnswer : Type 0
AtMostOneAnswer = (s : Sort) (e : Environment) (j : Judgement s) (a b : Answer s) → Runs (rule e j) a → Runs (rule e j) b → a ≡ b

-- and at least one
abbrev pub SomeAnswer : Type 0
SomeAnswer = (s : Sort) (e : Environment) (j : Judgement s) → (a : Answer s) × Runs (rule e j) a

-- a refusal of a program by the typing rules
pub record Refusal (names : List (List ℕ)) (p : Decs) : Type 0 where
  pub code : Code
  pub place : Span
  pub stuck : IsStuckAt names p code place

pub record IsTypedOrStuck (names : List (List ℕ)) (p : Decs) : Type 0 where
  pub one : IsTyped names p ⊎ Refusal names p
  pub never_both : IsTyped names p → Refusal names p → ⊥
  pub same_refusal : (a b : Refusal names p) → (a.code ≡ b.code) × (a.place ≡ b.place)

-- a program in which no rule of scopes fails is typed, or has exactly one refusal by the typing rules, never both
abbrev pub TypedOrStuck : Type 0
TypedOrStuck = (names : List (List ℕ)) (p : Decs) → scope_stop names p ≡ None → IsTypedOrStuck names p

-- the refusal of a program: the first rule of scopes that fails, or where none does, the first false line of the typing rules
abbrev pub IsRefusedAt : List (List ℕ) → Decs → Code → Span → Type 0
IsRefusedAt names p c i = (scope_stop names p ≡ Some (c, i)) ⊎ ((scope_stop names p ≡ None) × IsStuckAt names p c i)

pub record IsTypedOrRefused (names : List (List ℕ)) (p : Decs) : Type 0 where
  pub one : IsTyped names p ⊎ ((c : Code) × (i : Span) × IsRefusedAt names p c i)
  pub never_both : (c : Code) (i : Span) → IsTyped names p → IsRefusedAt names p c i → ⊥
  pub same_refusal : (c d : Code) (i j : Span) → IsRefusedAt names p c i → IsRefusedAt names p d j → (c ≡ d) × (i ≡ j)

-- every program is typed, or refused with exactly one code at exactly one place, never both
abbrev pub TypedOrRefused : Type 0
TypedOrRefused = (names : List (List ℕ)) (p : Decs) → IsTypedOrRefused names p
