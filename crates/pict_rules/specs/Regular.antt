-- What is well formed where the rules judge, and what they give then.
use Rattle.std.specs.Prelude.{◌≡◌, ◌≤◌, ℕ, zero, suc, List, [], ◌∷◌, ◌++◌, map, length, Option, Some, None}
use Rattle.pict_syntax.specs.Trees.{Decs, LabelledPats, LabelledVals}
use Rattle.pict_types.specs.Types.{PlainType, PlainTypes, PlainLabels, no_label, labels, PlainBounds, no_bound, bounds, PlainArg, Plain, Op, count_bounds}
use Rattle.pict_types.specs.Kinds.{Kind, proper, operator_of, kinds, kinds_under, kind_by, IsWellFormed, AreWellFormed, LabelsAreWellFormed, BoundsAreWellFormed, ArgIsWellFormed}
use Rattle.pict_types.specs.Entries.{EntriesAreWellFormed}
use Rattle.pict_types.specs.Replacing.{IsOfKind, FitTheirFields}
use Rattle.pict_types.specs.Instances.{ArgsAreWellFormed}
use Rattle.pict_types.specs.AsMarked.{VaryAsMarked}
use Rattle.pict_normal.specs.Normal.{count_trees}
use Rattle.pict_scope.specs.DistinctLabels.{TypesHaveDistinctLabels, BindersHaveDistinctLabels, IsNewPattern, IsNewValue, PatHasDistinctLabels, FieldPatsHaveDistinctLabels, PatsHaveDistinctLabels, LabelledPatsAreDistinct, DecHasDistinctLabels, DecsHaveDistinctLabels, DefinitionsHaveDistinctLabels, AbsHasDistinctLabels, ChanHasDistinctLabels, ValHasDistinctLabels, ValsHaveDistinctLabels, FieldValsHaveDistinctLabels, LabelledValsAreDistinct, ProcHasDistinctLabels, ProcsHaveDistinctLabels}
use Rattle.pict_scope.specs.Scopes.{scope_stop}
use Rattle.pict_rules.specs.Counts.{count_binders}
use Rattle.pict_rules.specs.Found.{Slot, open_slot, filled, Found}
use Rattle.pict_rules.specs.Environments.{Environment, Extension, KnownValue, context_of, extended, bounds_of, only_types}
use Rattle.pict_rules.specs.Rules.{Sort, Result, Judgement, gives, has, is_condition, values_give, labelled_values_give, application, fields_fit, written_arguments, values_fit, labelled_values_fit, value_fits, given_fits, abstraction_gives, abstraction_against, pattern_gives, fields_give, binders_give, patterns_give, labelled_patterns_give, pattern_against, fields_against, binders_against, patterns_against, labelled_patterns_against, declaration, declarations, signatures, signature, bodies, body, process, processes, receives, Signature, Body, process_body, value_body, ok}
use Rattle.pict_rules.specs.Typing.{rule}
use Rattle.pict_rules.specs.Derivations.{Runs}
use Rattle.pict_rules.specs.Reached.{Reached}

abbrev pub kinds_in : Environment → List Kind
kinds_in e = kinds (context_of e)

-- the type is well formed in the variables of the environment
abbrev pub IsTypeIn : Environment → PlainType → Type 0
IsTypeIn e t = IsWellFormed e.names (kinds_in e) t

abbrev pub ValuesAreWellFormed : List (List ℕ) → List Kind → List KnownValue → Type 0
ValuesAreWellFormed ns ks [] = Unit {0}
ValuesAreWellFormed ns ks (v ∷ vs) = IsWellFormed ns ks v.has × ValuesAreWellFormed ns ks vs

-- all that is known is well formed
pub record IsRegular (e : Environment) : Type 0 where
  pub entries : EntriesAreWellFormed e.names e.context
  pub known : ValuesAreWellFormed e.names (kinds_in e) e.values

-- what is added leaves the environment regular
abbrev pub Adds : Environment → Extension → Type 0
Adds e x = IsRegular (extended e x)

-- what is judged has no label twice
abbrev pub BodyHasDistinctLabels : Body → Type 0
BodyHasDistinctLabels (process_body q) = ProcHasDistinctLabels q
BodyHasDistinctLabels (value_body v t) = ValHasDistinctLabels v

abbrev pub BodiesHaveDistinctLabels : List Signature → Type 0
BodiesHaveDistinctLabels [] = Unit {0}
BodiesHaveDistinctLabels (s ∷ ss) = BodyHasDistinctLabels s.body × BodiesHaveDistinctLabels ss

abbrev pub IsLabelledOnce : {s : Sort} → Judgement s → Type 0
IsLabelledOnce (gives v) = ValHasDistinctLabels v
IsLabelledOnce (has v t) = ValHasDistinctLabels v
IsLabelledOnce (is_condition v) = ValHasDistinctLabels v
IsLabelledOnce (values_give vs) = ValsHaveDistinctLabels vs
IsLabelledOnce (labelled_values_give ls) = LabelledValsAreDistinct ls
IsLabelledOnce (application s f vs t) = ValHasDistinctLabels f × FieldValsHaveDistinctLabels vs
IsLabelledOnce (fields_fit s f bs ps ls g) = FieldValsHaveDistinctLabels f
IsLabelledOnce (written_arguments s ts bs) = TypesHaveDistinctLabels ts
IsLabelledOnce (values_fit s vs ps g) = ValsHaveDistinctLabels vs
IsLabelledOnce (labelled_values_fit s ls ms g) = LabelledValsAreDistinct ls
IsLabelledOnce (value_fits s v t g) = ValHasDistinctLabels v
IsLabelledOnce (given_fits s v t u g) = Unit {0}
IsLabelledOnce (abstraction_gives a) = AbsHasDistinctLabels a
IsLabelledOnce (abstraction_against a t) = AbsHasDistinctLabels a
IsLabelledOnce (pattern_gives p) = PatHasDistinctLabels p
IsLabelledOnce (fields_give f) = FieldPatsHaveDistinctLabels f
IsLabelledOnce (binders_give bs) = BindersHaveDistinctLabels bs
IsLabelledOnce (patterns_give ps) = PatsHaveDistinctLabels ps
IsLabelledOnce (labelled_patterns_give ls) = LabelledPatsAreDistinct ls
IsLabelledOnce (pattern_against p t) = PatHasDistinctLabels p
IsLabelledOnce (fields_against s f bs ps ls) = FieldPatsHaveDistinctLabels f
IsLabelledOnce (binders_against bs rs) = BindersHaveDistinctLabels bs
IsLabelledOnce (patterns_against ps ts) = PatsHaveDistinctLabels ps
IsLabelledOnce (labelled_patterns_against ls ms) = LabelledPatsAreDistinct ls
IsLabelledOnce (declaration d) = DecHasDistinctLabels d
IsLabelledOnce (declarations ds) = DecsHaveDistinctLabels ds
IsLabelledOnce (signatures ds) = DefinitionsHaveDistinctLabels ds
IsLabelledOnce (signature x a) = AbsHasDistinctLabels a
IsLabelledOnce (bodies ss) = BodiesHaveDistinctLabels ss
IsLabelledOnce (body b) = BodyHasDistinctLabels b
IsLabelledOnce (process p) = ProcHasDistinctLabels p
IsLabelledOnce (processes ps) = ProcsHaveDistinctLabels ps
IsLabelledOnce (receives c a) = ChanHasDistinctLabels c × AbsHasDistinctLabels a

-- the kind of a type field, found or not
abbrev pub kind_of_slot : Slot → Kind
kind_of_slot (open_slot b) = kind_by b
kind_of_slot (filled (Plain t)) = proper
kind_of_slot (filled (Op n t)) = operator_of n

abbrev pub kinds_found : Found → List Kind
kinds_found f = map kind_of_slot f

-- under the type fields, the last one innermost
abbrev pub kinds_within : List Kind → Found → List Kind
kinds_within ks [] = ks
kinds_within ks (x ∷ f) = kinds_within (kind_of_slot x ∷ ks) f

-- what is found is written outside the type fields
abbrev pub SlotFits : Environment → Slot → Type 0
SlotFits e (open_slot b) = Unit {0}
SlotFits e (filled a) = ArgIsWellFormed e.names (kinds_in e) a

abbrev pub FoundFits : Environment → Found → Type 0
FoundFits e [] = Unit {0}
FoundFits e (x ∷ f) = SlotFits e x × FoundFits e f

-- no operator is found
abbrev pub IsNoOperator : Slot → Type 0
IsNoOperator (open_slot b) = Unit {0}
IsNoOperator (filled (Plain t)) = Unit {0}
IsNoOperator (filled (Op n t)) = ⊥

abbrev pub NoOperatorIsFound : Found → Type 0
NoOperatorIsFound [] = Unit {0}
NoOperatorIsFound (x ∷ f) = IsNoOperator x × NoOperatorIsFound f

-- fields of a record under its type fields
abbrev pub AreFieldsIn : Environment → PlainBounds → PlainTypes → PlainLabels → Type 0
AreFieldsIn e bs ps ls =
    BoundsAreWellFormed e.names (kinds_in e) bs
    × (AreWellFormed e.names (kinds_under (kinds_in e) bs) ps × LabelsAreWellFormed e.names (kinds_under (kinds_in e) bs) ls)

abbrev pub kinds_of_fields : PlainBounds → List Kind
kinds_of_fields no_bound = []
kinds_of_fields (bounds b bs) = kind_by b ∷ kinds_of_fields bs

-- the first of the type fields, as many as there are arguments
abbrev pub FitFirst : List PlainArg → PlainBounds → Type 0
FitFirst [] bs = Unit {0}
FitFirst (a ∷ args) no_bound = ⊥
FitFirst (a ∷ args) (bounds b bs) = IsOfKind a b × FitFirst args bs

abbrev pub IsExpected : Environment → Option PlainType → Type 0
IsExpected e None = Unit {0}
IsExpected e (Some t) = IsTypeIn e t

abbrev pub IsBodyIn : Environment → Body → Type 0
IsBodyIn e (process_body q) = Unit {0}
IsBodyIn e (value_body v t) = IsTypeIn e t

abbrev pub AreSignatures : Environment → List Signature → Type 0
AreSignatures e [] = Unit {0}
AreSignatures e (s ∷ ss) = IsTypeIn e s.has × (Adds e s.adds × (IsBodyIn (extended e s.adds) s.body × AreSignatures e ss))

-- the first n type fields
abbrev pub first_bounds : ℕ → PlainBounds → PlainBounds
first_bounds zero bs = no_bound
first_bounds (suc n) no_bound = no_bound
first_bounds (suc n) (bounds b bs) = bounds b (first_bounds n bs)

-- what a judgement is handed is well formed. The fields fit is asked with type fields that are of the kinds of what was found,
-- and no operator was
abbrev pub IsAsked : {s : Sort} → Environment → Judgement s → Type 0
IsAsked e (has v t) = IsTypeIn e t
IsAsked e (application s f vs t) = IsExpected e t
IsAsked e (fields_fit s f bs ps ls g) =
    AreFieldsIn e bs ps ls × ((kinds_found g ≡ kinds_of_fields bs) × (FoundFits e g × NoOperatorIsFound g))
IsAsked e (written_arguments s ts bs) = (count_trees ts ≤ count_bounds bs) × BoundsAreWellFormed e.names (kinds_in e) bs
IsAsked e (values_fit s vs ps g) = AreWellFormed e.names (kinds_within (kinds_in e) g) ps × FoundFits e g
IsAsked e (labelled_values_fit s ls ms g) = LabelsAreWellFormed e.names (kinds_within (kinds_in e) g) ms × FoundFits e g
IsAsked e (value_fits s v t g) = IsWellFormed e.names (kinds_within (kinds_in e) g) t × FoundFits e g
IsAsked e (given_fits s v t u g) = IsWellFormed e.names (kinds_within (kinds_in e) g) t × (IsTypeIn e u × FoundFits e g)
IsAsked e (abstraction_against a t) = IsTypeIn e t
IsAsked e (pattern_against p t) = IsTypeIn e t
IsAsked e (fields_against s f bs ps ls) = AreFieldsIn e bs ps ls
IsAsked e (binders_against bs rs) = (count_binders bs ≤ count_bounds rs) × BoundsAreWellFormed e.names (kinds_in e) rs
IsAsked e (patterns_against ps ts) = AreWellFormed e.names (kinds_in e) ts
IsAsked e (labelled_patterns_against ls ms) = LabelsAreWellFormed e.names (kinds_in e) ms
IsAsked e (bodies ss) = AreSignatures e ss
IsAsked e (body b) = IsBodyIn e b
IsAsked e _ = Unit {0}

-- an environment with more type variables
pub record GrowsFrom (e f : Environment) : Type 0 where
  pub texts : f.names ≡ e.names
  pub inner : List Kind
  pub kinds_ : kinds_in f ≡ inner ++ kinds_in e

-- the label stands at none of these
abbrev pub Lacks : PlainLabels → ℕ → Type 0
Lacks no_label l = Unit {0}
Lacks (labels m t ls) l = (l ≡ m → ⊥) × Lacks ls l

-- labels are those of values or of patterns that are written
abbrev pub AreOfValues : LabelledVals → PlainLabels → Type 0
AreOfValues ls ms = (l : ℕ) → IsNewValue l ls → Lacks ms l

abbrev pub AreOfPatterns : LabelledPats → PlainLabels → Type 0
AreOfPatterns ls ms = (l : ℕ) → IsNewPattern l ls → Lacks ms l

-- what it gives is well formed then
abbrev pub IsGood : {s : Sort} (e : Environment) (j : Judgement s) → Result s → Type 0
IsGood e (gives v) t = IsTypeIn e t
IsGood e (values_give vs) ts = AreWellFormed e.names (kinds_in e) ts
IsGood e (labelled_values_give ls) ms = LabelsAreWellFormed e.names (kinds_in e) ms × AreOfValues ls ms
IsGood e (application s f vs t) u = IsTypeIn e u
IsGood e (fields_fit s f bs ps ls g) args = ArgsAreWellFormed e.names (kinds_in e) args × FitTheirFields args bs
IsGood e (written_arguments s ts bs) args =
    ArgsAreWellFormed e.names (kinds_in e) args
    × (FitFirst args bs × ((length args ≡ count_trees ts) × VaryAsMarked (context_of e) args bs))
IsGood e (values_fit s vs ps g) h = (kinds_found h ≡ kinds_found g) × FoundFits e h
IsGood e (labelled_values_fit s ls ms g) h = (kinds_found h ≡ kinds_found g) × FoundFits e h
IsGood e (value_fits s v t g) h = (kinds_found h ≡ kinds_found g) × FoundFits e h
IsGood e (given_fits s v t u g) h = (kinds_found h ≡ kinds_found g) × FoundFits e h
IsGood e (abstraction_gives a) t = IsTypeIn e t
IsGood e (pattern_gives p) g = IsTypeIn e g.has × Adds e g.adds
IsGood e (fields_give f) g = AreFieldsIn e (bounds_of g.own) g.positional g.labelled × Adds (extended e (only_types g.own)) g.adds
IsGood e (binders_give bs) own = BoundsAreWellFormed e.names (kinds_in e) (bounds_of own)
IsGood e (patterns_give ps) g = AreWellFormed e.names (kinds_in e) g.have × Adds e g.adds
IsGood e (labelled_patterns_give ls) g = LabelsAreWellFormed e.names (kinds_in e) g.have × (AreOfPatterns ls g.have × Adds e g.adds)
IsGood e (pattern_against p t) x = Adds e x
IsGood e (fields_against s f bs ps ls) x = (bounds_of x.own ≡ bs) × Adds (extended e (only_types x.own)) x.adds
IsGood e (binders_against bs rs) own = bounds_of own ≡ first_bounds (count_binders bs) rs
IsGood e (patterns_against ps ts) x = Adds e x
IsGood e (labelled_patterns_against ls ms) x = Adds e x
IsGood e (declaration d) f = IsRegular f × GrowsFrom e f
IsGood e (declarations ds) f = IsRegular f × GrowsFrom e f
IsGood e (signatures ds) ss = AreSignatures e ss
IsGood e (signature x a) s = AreSignatures e (s ∷ [])
IsGood e _ x = Unit {0}

-- regularity: what is judged in a regular environment, with what is well formed and without a label twice, gives what is well
-- formed
abbrev pub Regularity : Type 0
Regularity =
    (s : Sort) (e : Environment) (j : Judgement s) (x : Result s) → IsLabelledOnce j → IsRegular e → IsAsked e j
    → Runs (rule e j) (ok x) → IsGood e j x

-- so in a program in which no rule of scopes fails: each judgement that the rules reach is made in a regular environment, of what
-- is well formed
abbrev pub ReachedIsRegular : Type 0
ReachedIsRegular =
    (names : List (List ℕ)) (p : Decs) (s : Sort) (e : Environment) (j : Judgement s) → scope_stop names p ≡ None
    → Reached names p s e j → IsLabelledOnce j × (IsRegular e × IsAsked e j)
