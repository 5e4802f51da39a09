-- The step of regularity of an abstraction against a type.
use Rattle.std.proofs.Common.{ℕ, List, Option, Some, None, sym, ◌∙◌, ap, subst}
use Rattle.pict_syntax.specs.declared.code.Code.{Code}
use Rattle.pict_syntax.specs.declared.span.Span.{Span}
use Rattle.pict_syntax.specs.Trees.{Abs, process_abs, function_abs}
use Rattle.pict_types.specs.Types.{Both, Read, Write, Respond, PlainType, Top, Int, Char, Str, Boolean, Var, Apply, Chan, Fields, Rec, PlainTypes, no_type, types, PlainLabels, PlainBounds, under}
use Rattle.pict_types.specs.Kinds.{Kind, kinds_under, IsWellFormed, AreWellFormed, LabelsAreWellFormed, BoundsAreWellFormed}
use Rattle.pict_normal.specs.Normal.{normal, kind_stop}
use Rattle.pict_sub.specs.Exposing.{exposure}
use Rattle.pict_rules.specs.Shapes.{put_first, split_last, Function, sendable, with_answer, with_last, function_by}
use Rattle.pict_rules.specs.Environments.{Environment, context_of}
use Rattle.pict_rules.specs.Rules.{Sort, nothing_, Rule, Result, abstraction_against}
use Rattle.pict_rules.specs.Clauses.{need_function, answering, with_own}
use Rattle.pict_rules.specs.Regular.{IsRegular, IsTypeIn, kinds_in, AreFieldsIn}
use Rattle.pict_rules.proofs.Results.{Property, ResultProperty, Each, gives_, refuses, needs, parts}
use Rattle.pict_rules.proofs.Regularity.{Step, IfFormed}
use Rattle.pict_sub.proofs.Followed.{exposure_formed}
use Rattle.pict_scope.specs.DistinctLabels.{AbsHasDistinctLabels}
use Rattle.pict_rules.proofs.RegularExpanded.{expands_well}
use Rattle.pict_rules.proofs.RegularValues.{unless_clear}
use Rattle.pict_rules.proofs.RegularPatterns.{within_adds}
use Rattle.pict_rules.proofs.RegularFields.{own_kinds, own_regular}
use Rattle.pict_rules.proofs.RegularDeclarations.{shifted_in}
use Rattle.pict_types.proofs.Contexts.{formed_under, kinds_under_is, entries_context}

sendable_formed : (ns : List (List ℕ)) (ks : List Kind) (t : PlainType) → IsWellFormed ns ks t → IfFormed ns ks (sendable t)
sendable_formed ns ks Top w = tt
sendable_formed ns ks Int w = tt
sendable_formed ns ks Char w = tt
sendable_formed ns ks Str w = tt
sendable_formed ns ks Boolean w = tt
sendable_formed ns ks (Var i) w = tt
sendable_formed ns ks (Apply i ts) w = tt
sendable_formed ns ks (Chan Respond t) w = w
sendable_formed ns ks (Chan Write t) w = w
sendable_formed ns ks (Chan Both t) w = w
sendable_formed ns ks (Chan Read t) w = tt
sendable_formed ns ks (Fields bs ps ls) w = tt
sendable_formed ns ks (Rec t) w = tt

abbrev SplitFormed : List (List ℕ) → List Kind → Option (PlainTypes × PlainType) → Type 0
SplitFormed ns ks None = Unit {0}
SplitFormed ns ks (Some x) = AreWellFormed ns ks x.0 × IsWellFormed ns ks x.1

first_formed : (ns : List (List ℕ)) (ks : List Kind) (t : PlainType) (o : Option (PlainTypes × PlainType)) → IsWellFormed ns ks t → SplitFormed ns ks o → SplitFormed ns ks (put_first t o)
first_formed ns ks t None w h = (tt, w)
first_formed ns ks t (Some x) w h = ((w, h.0), h.1)

split_formed : (ns : List (List ℕ)) (ks : List Kind) (ts : PlainTypes) → AreWellFormed ns ks ts → SplitFormed ns ks (split_last ts)
split_formed ns ks no_type w = tt
split_formed ns ks (types t ts) w = first_formed ns ks t (split_last ts) w.0 (split_formed ns ks ts w.1)

-- what is applied or answered is well formed
abbrev pub FunctionFormed : Environment → Option Function → Type 0
FunctionFormed e None = Unit {0}
FunctionFormed e (Some g) = AreFieldsIn e g.binders g.positional g.labelled × IsWellFormed e.names (kinds_under (kinds_in e) g.binders) g.answer

answer_formed : (e : Environment) (bs : PlainBounds) (ls : PlainLabels) (ps : PlainTypes) (o : Option PlainType) → AreFieldsIn e bs ps ls → IfFormed e.names (kinds_under (kinds_in e) bs) o → FunctionFormed e (with_answer bs ls ps o)
answer_formed e bs ls ps None w h = tt
answer_formed e bs ls ps (Some u) w h = (w, h)

last_formed : (e : Environment) (f : PlainType → Option PlainType) (bs : PlainBounds) (ls : PlainLabels) (o : Option (PlainTypes × PlainType)) → BoundsAreWellFormed e.names (kinds_in e) bs → LabelsAreWellFormed e.names (kinds_under (kinds_in e) bs) ls → SplitFormed e.names (kinds_under (kinds_in e) bs) o → ((t : PlainType) → IsWellFormed e.names (kinds_under (kinds_in e) bs) t → IfFormed e.names (kinds_under (kinds_in e) bs) (f t)) → FunctionFormed e (with_last f bs ls o)
last_formed e f bs ls None w l h k = tt
last_formed e f bs ls (Some x) w l h k = answer_formed e bs ls x.0 (f x.1) (w, (h.0, l)) (k x.1 h.1)

pub function_formed : (e : Environment) (f : PlainBounds → PlainType → Option PlainType) (t : PlainType) → IsTypeIn e t → ((bs : PlainBounds) (u : PlainType) → BoundsAreWellFormed e.names (kinds_in e) bs → IsWellFormed e.names (kinds_under (kinds_in e) bs) u → IfFormed e.names (kinds_under (kinds_in e) bs) (f bs u)) → FunctionFormed e (function_by f t)
function_formed e f Top w k = tt
function_formed e f Int w k = tt
function_formed e f Char w k = tt
function_formed e f Str w k = tt
function_formed e f Boolean w k = tt
function_formed e f (Var i) w k = tt
function_formed e f (Apply i ts) w k = tt
function_formed e f (Chan m t) w k = tt
function_formed e f (Rec t) w k = tt
function_formed e f (Fields bs ps ls) w k = last_formed e (f bs) bs ls (split_last ps) w.0 w.1.1 (split_formed e.names (kinds_under (kinds_in e) bs) ps w.1.0) (λ u h. k bs u w.0 h)

pub answering_formed : (e : Environment) (t : PlainType) → IsRegular e → IsTypeIn e t → FunctionFormed e (answering e t)
answering_formed e t r w =
    let c = entries_context e.names e.context r.entries in
    function_formed e (λ bs last. sendable (exposure (under (context_of e) bs) last)) (exposure (context_of e) t) (exposure_formed e.names (context_of e) t c w) (λ bs u h k.
    let ks = kinds_under_is (context_of e) bs in
    sendable_formed e.names (kinds_under (kinds_in e) bs) (exposure (under (context_of e) bs) u)
    (subst (λ z. IsWellFormed e.names z (exposure (under (context_of e) bs) u)) ks
    (exposure_formed e.names (under (context_of e) bs) u (formed_under e.names (context_of e) bs c h) (subst (λ z. IsWellFormed e.names z u) (sym ks) k))))

pub functions_formed : {A : Property} {G : ResultProperty} {s : Sort} {P : Result s → Type 0} (e : Environment) (o : Option Function) (c : Code) (i : Span) {k : Function → Rule s} → FunctionFormed e o → ((g : Function) → FunctionFormed e (Some g) → Each A G s P (k g)) → Each A G s P (need_function o c i k)
functions_formed e None c i w f = refuses
functions_formed e (Some g) c i w f = f g w

pub abstraction_against_regular : (e : Environment) (a : Abs) (t : PlainType) → AbsHasDistinctLabels a → IsRegular e → IsTypeIn e t → Step nothing_ e (abstraction_against a t)
abstraction_against_regular e (process_abs s p q) t i r w = parts (r, w) (λ x g. parts (g.1, tt) (λ y k. gives_ tt))
abstraction_against_regular e (function_abs s fs None v) t i r w =
    functions_formed e (answering e t) _ _ (answering_formed e t r w) (λ g h.
    parts (r, h.0) (λ x k.
    let o = own_kinds e x.own ∙ ap (λ z. kinds_under (kinds_in e) z) k.1.0 in
    parts (within_adds e x.own x.adds r k.1.1, shifted_in e x.own x.adds g.answer (subst (λ z. IsWellFormed e.names z g.answer) (sym o) h.1)) (λ y l. gives_ tt)))
abstraction_against_regular e (function_abs s fs (Some a) v) t i r w =
    functions_formed e (answering e t) _ _ (answering_formed e t r w) (λ g h.
    parts (r, h.0) (λ x k.
    let q = own_regular e x.own r (subst (λ z. BoundsAreWellFormed e.names (kinds_in e) z) (sym k.1.0) h.0.0) in
    unless_clear (kind_stop e.names (with_own e x.own).context a) (λ l.
    let m = expands_well e.names (with_own e x.own).context a q.entries i.1.0 l in
    needs (parts (within_adds e x.own x.adds r k.1.1, shifted_in e x.own x.adds (normal e.names (with_own e x.own).context a) m) (λ y n. gives_ tt)))))
