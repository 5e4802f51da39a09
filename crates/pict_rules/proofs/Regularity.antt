-- Regularity from one step for each judgement: no derivation need be taken apart.
use Rattle.std.proofs.Common.{ℕ, nat_eq, if◌then◌else◌, Bool, true, false, List, Option, Some, None}
use Rattle.pict_types.specs.Types.{PlainType, PlainLabels, no_label, labels, type_at}
use Rattle.pict_types.specs.Kinds.{Kind, IsWellFormed, LabelsAreWellFormed}
use Rattle.pict_rules.specs.Environments.{Environment}
use Rattle.pict_rules.specs.Rules.{Sort, Result, Rule, Judgement}
use Rattle.pict_rules.specs.Clauses.{if_labelled}
use Rattle.pict_rules.specs.Typing.{rule}
use Rattle.pict_rules.specs.Regular.{IsRegular, IsAsked, IsGood}
use Rattle.pict_rules.proofs.Results.{Property, ResultProperty, Each, with_result}

-- what a rule asks is asked of what is well formed, in a regular environment
abbrev pub IsRightlyAsked : Property
IsRightlyAsked t e j = IsRegular e × IsAsked e j

abbrev pub IsGoodResult : ResultProperty
IsGoodResult t e j x = IsGood e j x

-- the step of a judgement: it asks rightly, and where what it asks gives what is well formed, so does it
abbrev pub Step : (s : Sort) (e : Environment) → Judgement s → Type 0
Step s e j = Each IsRightlyAsked (with_result IsGoodResult) s (IsGood e j) (rule e j)

-- a type, if there is one, is well formed
abbrev pub IfFormed : List (List ℕ) → List Kind → Option PlainType → Type 0
IfFormed ns ks None = Unit {0}
IfFormed ns ks (Some t) = IsWellFormed ns ks t

pub label_formed : (ns : List (List ℕ)) (ks : List Kind) (l : ℕ) (ms : PlainLabels) → LabelsAreWellFormed ns ks ms → IfFormed ns ks (type_at l ms)
label_formed ns ks l no_label h = tt
label_formed ns ks l (labels m t ms) h = go (nat_eq l m) (label_formed ns ks l ms h.1.1)
  where
    go : (b : Bool) → IfFormed ns ks (type_at l ms) → IfFormed ns ks (if b then Some t else type_at l ms)
    go true k = h.1.0
    go false k = k

pub labels_formed_at : {A : Property} {G : ResultProperty} {s : Sort} {P : Result s → Type 0} (ns : List (List ℕ)) (ks : List Kind) (o : Option PlainType) {k : PlainType → Rule s} {r : Rule s} → IfFormed ns ks o → ((t : PlainType) → IsWellFormed ns ks t → Each A G s P (k t)) → Each A G s P r → Each A G s P (if_labelled o k r)
labels_formed_at ns ks None w f h = h
labels_formed_at ns ks (Some t) w f h = f t w
