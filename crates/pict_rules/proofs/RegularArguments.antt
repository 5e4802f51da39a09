-- Steps of regularity: type arguments, the fields rule and applications.
use Rattle.std.proofs.Common.{◌≡◌, ◌≤◌, ℕ, suc, not, ◌||◌, nat_eq, if◌then◌else◌, Bool, true, false, List, [], ◌∷◌, ◌++◌, map, length, replicate, Option, Some, None, refl, sym, ◌∙◌, ap, subst, arith, eqb-true}
use Rattle.std.proofs.lemmas.List.{length-replicate}
use Rattle.pict_syntax.specs.declared.type_tree.Mark.TheVariants.{Plain as Unmarked}
use Rattle.pict_syntax.specs.declared.code.Code.TheVariants.{K1, K5, Y5, Y6, Y9, Y10}
use Rattle.pict_syntax.specs.declared.span.Span.{Span}
use Rattle.pict_syntax.specs.Trees.{TypeTrees, no_types, more_types, Val, Vals, FieldVals, field_vals, LabelledVals}
use Rattle.pict_syntax.specs.Grammar.{type_span}
use Rattle.pict_types.specs.AsMarked.{varies_as, VaryAsMarked}
use Rattle.pict_types.specs.Types.{Both, Read, Write, Respond, PlainType, Top, Int, Char, Str, Boolean, Var, Apply, Chan, Fields, Rec, PlainTypes, PlainLabels, PlainBound, Free, Below, Operator, PlainBounds, no_bound, bounds, PlainArg, Plain, Op, TypeContext, count_types, count_bounds}
use Rattle.pict_types.specs.Kinds.{Kind, operator_of, kind_by, kinds_under, IsWellFormed, AreWellFormed, LabelsAreWellFormed, BoundsAreWellFormed, ArgIsWellFormed}
use Rattle.pict_types.specs.Replacing.{IsOfKind, FitTheirFields, arguments, replace, instance_of}
use Rattle.pict_types.specs.Instances.{ArgsAreWellFormed}
use Rattle.pict_types.proofs.Formed.{arguments_keep, replace_formed}
use Rattle.pict_normal.specs.Normal.{count_trees, size_stop}
use Rattle.pict_normal.specs.WrittenArguments.{normal_arg, arg_stop}
use Rattle.pict_scope.specs.DistinctLabels.{TypesHaveDistinctLabels}
use Rattle.pict_sub.specs.Exposing.{exposure}
use Rattle.pict_rules.specs.Found.{Slot, open_slot, filled, Found, none_found, mentions_missing, argument_in, with_found, all_found, matched}
use Rattle.pict_rules.specs.Counts.{count_vals}
use Rattle.pict_rules.specs.Shapes.{nth_bound, none_written, all_written, applicable, respond_or_write, Function, function_by}
use Rattle.pict_rules.specs.Environments.{Environment, context_of}
use Rattle.pict_rules.specs.Rules.{Sort, type_, found_, arguments_, Rule, Result, application, fields_fit, written_arguments, value_fits}
use Rattle.pict_rules.specs.Clauses.{found_first, in_order, is_of_kind}
use Rattle.pict_rules.specs.Regular.{IsRegular, IsTypeIn, IsGood, IsExpected, AreFieldsIn, kinds_in, kind_of_slot, kinds_found, kinds_within, kinds_of_fields, FoundFits, NoOperatorIsFound, FitFirst}
use Rattle.pict_rules.proofs.Results.{Each, with_result, gives_, parts, splits, ensures, unless, expects, within_bound_, within_bounds_}
use Rattle.pict_rules.proofs.Regularity.{IsRightlyAsked, IsGoodResult, Step, IfFormed}
use Rattle.pict_rules.proofs.RegularExpanded.{argument_well}
use Rattle.pict_rules.proofs.RegularMatched.{head_same, tail_same, within_same, matched_in}
use Rattle.pict_rules.proofs.RegularProcesses.{exposed_formed}
use Rattle.pict_rules.proofs.RegularValues.{unless_clear, none_kinds, none_fits, none_no_operator}
use Rattle.pict_rules.proofs.RegularFields.{ensures_known}
use Rattle.pict_rules.proofs.RegularAbstractions.{FunctionFormed, function_formed, functions_formed}
use Rattle.pict_types.proofs.Contexts.{entries_context}

-- what is found as arguments: they fit type fields of their kinds
abbrev bound_of : Slot → PlainBound
bound_of (open_slot b) = b
bound_of (filled (Plain t)) = Free
bound_of (filled (Op n t)) = Operator (replicate n Unmarked)

abbrev bounds_found : Found → PlainBounds
bounds_found [] = no_bound
bounds_found (x ∷ f) = bounds (bound_of x) (bounds_found f)

bound_kind : (x : Slot) → kind_by (bound_of x) ≡ kind_of_slot x
bound_kind (open_slot b) = refl
bound_kind (filled (Plain t)) = refl
bound_kind (filled (Op n t)) = ap operator_of (length-replicate n Unmarked)

kinds_bound : (ks : List Kind) (f : Found) → kinds_under ks (bounds_found f) ≡ kinds_within ks f
kinds_bound ks [] = refl
kinds_bound ks (x ∷ f) = kinds_bound (kind_by (bound_of x) ∷ ks) f ∙ ap (λ k. kinds_within (k ∷ ks) f) (bound_kind x)

slot_of_kind : (x : Slot) → IsOfKind (argument_in x) (bound_of x)
slot_of_kind (open_slot Free) = tt
slot_of_kind (open_slot (Below t)) = tt
slot_of_kind (open_slot (Operator ms)) = refl
slot_of_kind (filled (Plain t)) = tt
slot_of_kind (filled (Op n t)) = sym (length-replicate n Unmarked)

found_fit : (f : Found) → FitTheirFields (map argument_in f) (bounds_found f)
found_fit [] = tt
found_fit (x ∷ f) = (slot_of_kind x, found_fit f)

slot_formed : (e : Environment) (x : Slot) → FoundFits e (x ∷ []) → ArgIsWellFormed e.names (kinds_in e) (argument_in x)
slot_formed e (open_slot Free) h = tt
slot_formed e (open_slot (Below t)) h = tt
slot_formed e (open_slot (Operator ms)) h = tt
slot_formed e (filled a) h = h.0

pub found_formed : (e : Environment) (f : Found) → FoundFits e f → ArgsAreWellFormed e.names (kinds_in e) (map argument_in f)
found_formed e [] h = tt
found_formed e (x ∷ f) h = (slot_formed e x (h.0, tt), found_formed e f h.1)

pub with_found_formed : (e : Environment) (f : Found) (t : PlainType) → FoundFits e f → IsWellFormed e.names (kinds_within (kinds_in e) f) t → IsTypeIn e (with_found f t)
with_found_formed e f t h w =
    replace_formed e.names t (arguments_keep e.names (kinds_in e) (map argument_in f) (bounds_found f) (found_fit f) (found_formed e f h)) (subst (λ ks. IsWellFormed e.names ks t) (sym (kinds_bound (kinds_in e) f)) w)

-- and they fit the record's type fields
of_its_kind : (x : Slot) (b : PlainBound) → kind_of_slot x ≡ kind_by b → IsOfKind (argument_in x) b
of_its_kind (open_slot Free) Free h = tt
of_its_kind (open_slot Free) (Below t) h = tt
of_its_kind (open_slot Free) (Operator ms) h = absurd cc
of_its_kind (open_slot (Below s)) Free h = tt
of_its_kind (open_slot (Below s)) (Below t) h = tt
of_its_kind (open_slot (Below s)) (Operator ms) h = absurd cc
of_its_kind (open_slot (Operator ns)) Free h = absurd cc
of_its_kind (open_slot (Operator ns)) (Below t) h = absurd cc
of_its_kind (open_slot (Operator ns)) (Operator ms) h = cc
of_its_kind (filled (Plain s)) Free h = tt
of_its_kind (filled (Plain s)) (Below t) h = tt
of_its_kind (filled (Plain s)) (Operator ms) h = absurd cc
of_its_kind (filled (Op m s)) Free h = absurd cc
of_its_kind (filled (Op m s)) (Below t) h = absurd cc
of_its_kind (filled (Op m s)) (Operator ms) h = cc

pub fit_fields : (f : Found) (bs : PlainBounds) → kinds_found f ≡ kinds_of_fields bs → FitTheirFields (map argument_in f) bs
fit_fields [] no_bound h = tt
fit_fields [] (bounds b bs) h = absurd cc
fit_fields (x ∷ f) no_bound h = absurd cc
fit_fields (x ∷ f) (bounds b bs) h = (of_its_kind x b (head_same h), fit_fields f bs (tail_same h))

-- under the record's type fields are the kinds of what is found
pub fields_kinds : (ks : List Kind) (f : Found) (bs : PlainBounds) → kinds_found f ≡ kinds_of_fields bs → kinds_under ks bs ≡ kinds_within ks f
fields_kinds ks [] no_bound h = refl
fields_kinds ks [] (bounds b bs) h = absurd cc
fields_kinds ks (x ∷ f) no_bound h = absurd cc
fields_kinds ks (x ∷ f) (bounds b bs) h = fields_kinds (kind_by b ∷ ks) f bs (tail_same h) ∙ ap (λ k. kinds_within (k ∷ ks) f) (sym (head_same h))

-- written arguments
arg_kind : (a : PlainArg) (b : PlainBound) → IsOfKind a b → kind_of_slot (filled a) ≡ kind_by b
arg_kind (Plain t) Free h = refl
arg_kind (Plain t) (Below s) h = refl
arg_kind (Plain t) (Operator ms) h = absurd h
arg_kind (Op m t) Free h = absurd h
arg_kind (Op m t) (Below s) h = absurd h
arg_kind (Op m t) (Operator ms) h = ap operator_of h

written_kinds : (args : List PlainArg) (bs : PlainBounds) → FitTheirFields args bs → kinds_found (map filled args) ≡ kinds_of_fields bs
written_kinds [] no_bound h = refl
written_kinds [] (bounds b bs) h = absurd h
written_kinds (a ∷ args) no_bound h = absurd h
written_kinds (a ∷ args) (bounds b bs) h = ap (λ k. k ∷ kinds_found (map filled args)) (arg_kind a b h.0) ∙ ap (λ ks. kind_by b ∷ ks) (written_kinds args bs h.1)

written_fits : (e : Environment) (args : List PlainArg) → ArgsAreWellFormed e.names (kinds_in e) args → FoundFits e (map filled args)
written_fits e [] h = tt
written_fits e (a ∷ args) h = (h.0, written_fits e args h.1)

pub all_fit : (args : List PlainArg) (bs : PlainBounds) → FitFirst args bs → length args ≡ count_bounds bs → FitTheirFields args bs
all_fit [] no_bound h n = tt
all_fit [] (bounds b bs) h n = absurd (omega (arith, n))
all_fit (a ∷ args) no_bound h n = absurd h
all_fit (a ∷ args) (bounds b bs) h n = (h.0, all_fit args bs h.1 (omega (arith, n)))

really_of_kind : (a : PlainArg) (b : PlainBound) → is_of_kind a b ≡ true → IsOfKind a b
really_of_kind (Plain t) Free h = tt
really_of_kind (Plain t) (Below s) h = tt
really_of_kind (Plain t) (Operator ms) h = absurd cc
really_of_kind (Op m t) Free h = absurd cc
really_of_kind (Op m t) (Below s) h = absurd cc
really_of_kind (Op m t) (Operator ms) h = eqb-true m (length ms) h

one_more_fits : (args : List PlainArg) (a : PlainArg) (bs : PlainBounds) → FitFirst args bs → suc (length args) ≤ count_bounds bs → IsOfKind a (nth_bound (length args) bs) → FitFirst (args ++ a ∷ []) bs
one_more_fits [] a no_bound h n k = absurd (omega (arith, n))
one_more_fits [] a (bounds b bs) h n k = (k, tt)
one_more_fits (x ∷ args) a no_bound h n k = absurd h
one_more_fits (x ∷ args) a (bounds b bs) h n k = (h.0, one_more_fits args a bs h.1 (omega (arith, n)) k)

one_more_formed : (ns : List (List ℕ)) (ks : List Kind) (args : List PlainArg) (a : PlainArg) → ArgsAreWellFormed ns ks args → ArgIsWellFormed ns ks a → ArgsAreWellFormed ns ks (args ++ a ∷ [])
one_more_formed ns ks [] a h k = (k, tt)
one_more_formed ns ks (x ∷ args) a h k = (h.0, one_more_formed ns ks args a h.1 k)

pub one_longer : (args : List PlainArg) (a : PlainArg) → length (args ++ a ∷ []) ≡ suc (length args)
one_longer [] a = refl
one_longer (x ∷ args) a = ap suc (one_longer args a)

one_more_varies : (c : TypeContext) (args : List PlainArg) (a : PlainArg) (bs : PlainBounds) → VaryAsMarked c args bs → varies_as c a (nth_bound (length args) bs) ≡ true → VaryAsMarked c (args ++ a ∷ []) bs
one_more_varies c [] a no_bound h k = tt
one_more_varies c [] a (bounds b bs) h k = (k, tt)
one_more_varies c (x ∷ args) a no_bound h k = tt
one_more_varies c (x ∷ args) a (bounds b bs) h k = (h.0, one_more_varies c args a bs h.1 k)

pub written_regular : (e : Environment) (s : Span) (ts : TypeTrees) (bs : PlainBounds) → TypesHaveDistinctLabels ts → IsRegular e → (count_trees ts ≤ count_bounds bs) × BoundsAreWellFormed e.names (kinds_in e) bs → Step arguments_ e (written_arguments s ts bs)
written_regular e s no_types bs d r w = gives_ (tt, (tt, (refl, tt)))
written_regular e s (more_types ts t) bs d r w =
    parts (r, (omega (arith, w.0), w.1)) (λ args h.
    unless_clear (arg_stop e.names e.context t) (λ k.
    ensures_known (is_of_kind (normal_arg e.names e.context t) (nth_bound (count_trees ts) bs)) K1 (type_span t) (λ q.
    ensures_known (varies_as (context_of e) (normal_arg e.names e.context t) (nth_bound (count_trees ts) bs)) K5 (type_span t) (λ z.
    within_bound_ e s (nth_bound (count_trees ts) bs) args (normal_arg e.names e.context t) Y9 (type_span t) (
    let n = h.1.1.1.0 in
    let fits : IsOfKind (normal_arg e.names e.context t) (nth_bound (length args) bs) = subst (λ m. IsOfKind (normal_arg e.names e.context t) (nth_bound m bs)) (sym n) (really_of_kind (normal_arg e.names e.context t) (nth_bound (count_trees ts) bs) q) in
    let goes : varies_as (context_of e) (normal_arg e.names e.context t) (nth_bound (length args) bs) ≡ true = ap (λ m. varies_as (context_of e) (normal_arg e.names e.context t) (nth_bound m bs)) n ∙ z in
    gives_ (
      one_more_formed e.names (kinds_in e) args (normal_arg e.names e.context t) h.1.0 (argument_well e.names e.context t r.entries d.1 k),
      (
        one_more_fits args (normal_arg e.names e.context t) bs h.1.1.0 (omega (arith, n, w.0)) fits,
        (one_longer args (normal_arg e.names e.context t) ∙ ap suc n, one_more_varies (context_of e) args (normal_arg e.names e.context t) bs h.1.1.1.1 goes),
      ),
    ))))))

-- a value in its field
pub value_regular : (e : Environment) (s : Span) (v : Val) (t : PlainType) (g : Found) → IsRegular e → IsWellFormed e.names (kinds_within (kinds_in e) g) t × FoundFits e g → Step found_ e (value_fits s v t g)
value_regular e s v t g r w =
    splits (mentions_missing g t)
    (parts (r, tt) (λ u h.
    let k = matched_in e (context_of e) t u g (entries_context e.names e.context r.entries) refl w.0 h.1 w.1 in
    parts (r, (subst (λ ks. IsWellFormed e.names ks t) (sym (within_same (kinds_in e) (matched (context_of e) 0 t u g) g k.kinds_)) w.0, (h.1, k.fits))) (λ x i.
    gives_ (i.1.0 ∙ k.kinds_, i.1.1))))
    (unless (size_stop e.context (with_found g t) s) (parts (r, with_found_formed e g t w.1 w.0) (λ x h. gives_ (refl, w.1))))

-- the fields rule
abbrev AreIn : Environment → Found → PlainTypes → PlainLabels → Type 0
AreIn e f ps ms = AreWellFormed e.names (kinds_within (kinds_in e) f) ps × LabelsAreWellFormed e.names (kinds_within (kinds_in e) f) ms

fields_in : (e : Environment) (f : Found) (bs : PlainBounds) (ps : PlainTypes) (ms : PlainLabels) → kinds_found f ≡ kinds_of_fields bs → AreFieldsIn e bs ps ms → AreIn e f ps ms
fields_in e f bs ps ms h w =
    let k = fields_kinds (kinds_in e) f bs h in
    (subst (λ ks. AreWellFormed e.names ks ps) k w.1.0, subst (λ ks. LabelsAreWellFormed e.names ks ms) k w.1.1)

ordered : {s : Sort} {P : Result s → Type 0} (e : Environment) (i : Span) (vs : Vals) (ls : LabelledVals) (ps : PlainTypes) (ms : PlainLabels) (f : Found) {k : Found → Rule s} → IsRegular e → AreIn e f ps ms → FoundFits e f → ((g : Found) → kinds_found g ≡ kinds_found f → FoundFits e g → Each IsRightlyAsked (with_result IsGoodResult) s P (k g)) → Each IsRightlyAsked (with_result IsGoodResult) s P (in_order e i vs ls ps ms f k)
ordered e i vs ls ps ms f r w h hk =
    parts (r, (w.0, h)) (λ g x.
    parts (r, (subst (λ ks. LabelsAreWellFormed e.names ks ms) (sym (within_same (kinds_in e) g f x.1.0)) w.1, x.1.1)) (λ z y.
    hk z (y.1.0 ∙ x.1.0) y.1.1))

either_way : (a b : Bool) → (a || b) ≡ true → not a ≡ true → b ≡ true
either_way true b h k = absurd cc
either_way false b h k = h

pub fields_fit_regular : (e : Environment) (s : Span) (f : FieldVals) (bs : PlainBounds) (ps : PlainTypes) (ms : PlainLabels) (g : Found) → IsRegular e → AreFieldsIn e bs ps ms × ((kinds_found g ≡ kinds_of_fields bs) × (FoundFits e g × NoOperatorIsFound g)) → Step arguments_ e (fields_fit s f bs ps ms g)
fields_fit_regular e s (field_vals ts vs ls) bs ps ms g r w =
    ensures_known (none_written ts || nat_eq (count_trees ts) (count_bounds bs)) Y5 s (λ q.
    ensures (nat_eq (count_vals vs) (count_types ps)) Y5 s (
    ensures (all_written ms ls) Y6 s (
    chosen (not (none_written ts)) (λ k.
    let n : count_trees ts ≡ count_bounds bs = eqb-true (count_trees ts) (count_bounds bs) (either_way (none_written ts) _ q k) in
    parts (r, (omega (arith, n), w.0.0)) (λ args h.
    let fits = all_fit args bs h.1.1.0 (h.1.1.1.0 ∙ n) in
    unless (size_stop e.context (instance_of args ps ms) s) (
    ordered e s vs ls ps ms (map filled args) r (fields_in e (map filled args) bs ps ms (written_kinds args bs fits) w.0) (written_fits e args h.1.0) (λ z x y. gives_ (h.1.0, fits)))))
    (ordered e s vs ls ps ms g r (fields_in e g bs ps ms w.1.0 w.0) w.1.1.0 (λ z x y.
    ensures (all_found z) Y10 s (
    within_bounds_ e s bs [] (map argument_in z) Y9 (
    gives_ (found_formed e z y, fit_fields z bs (x ∙ w.1.0)))))))))
  where
    chosen : (b : Bool) {x y : Rule arguments_} → (b ≡ true → Each IsRightlyAsked (with_result IsGoodResult) arguments_ (IsGood e (fields_fit s (field_vals ts vs ls) bs ps ms g)) x) → Each IsRightlyAsked (with_result IsGoodResult) arguments_ (IsGood e (fields_fit s (field_vals ts vs ls) bs ps ms g)) y → Each IsRightlyAsked (with_result IsGoodResult) arguments_ (IsGood e (fields_fit s (field_vals ts vs ls) bs ps ms g)) (if b then x else y)
    chosen true h k = h refl
    chosen false h k = k

-- applications
answer_taken : (ns : List (List ℕ)) (ks : List Kind) (t : PlainType) → IsWellFormed ns ks t → IfFormed ns ks (respond_or_write t)
answer_taken ns ks Top w = tt
answer_taken ns ks Int w = tt
answer_taken ns ks Char w = tt
answer_taken ns ks Str w = tt
answer_taken ns ks Boolean w = tt
answer_taken ns ks (Var i) w = tt
answer_taken ns ks (Apply i ts) w = tt
answer_taken ns ks (Chan Respond t) w = w
answer_taken ns ks (Chan Write t) w = w
answer_taken ns ks (Chan Both t) w = tt
answer_taken ns ks (Chan Read t) w = tt
answer_taken ns ks (Fields bs ps ls) w = tt
answer_taken ns ks (Rec t) w = tt

function_taken : (e : Environment) (r : PlainType) → IsTypeIn e r → FunctionFormed e (function_by (λ bs. respond_or_write) r)
function_taken e r w = function_formed e (λ bs. respond_or_write) r w (λ bs u h k. answer_taken e.names (kinds_under (kinds_in e) bs) u k)

pub applied_formed : (e : Environment) (t : PlainType) → IsTypeIn e t → FunctionFormed e (applicable t)
applied_formed e Top w = tt
applied_formed e Int w = tt
applied_formed e Char w = tt
applied_formed e Str w = tt
applied_formed e Boolean w = tt
applied_formed e (Var i) w = tt
applied_formed e (Apply i ts) w = tt
applied_formed e (Chan Both t) w = function_taken e t w
applied_formed e (Chan Write t) w = function_taken e t w
applied_formed e (Chan Respond t) w = function_taken e t w
applied_formed e (Chan Read t) w = tt
applied_formed e (Fields bs ps ls) w = tt
applied_formed e (Rec t) w = tt

record FoundBefore (e : Environment) (bs : PlainBounds) (f : Found) : Type 0 where
  kinds_ : kinds_found f ≡ kinds_of_fields bs
  fits : FoundFits e f
  no_operator : NoOperatorIsFound f

first_found : (e : Environment) (vs : FieldVals) (g : Function) (o : Option PlainType) → IsRegular e → IsExpected e o → FunctionFormed e (Some g) → FoundBefore e g.binders (found_first e vs g o)
first_found e (field_vals ts vs ls) g None r x w = record { kinds_ = none_kinds g.binders; fits = none_fits e g.binders; no_operator = none_no_operator g.binders }
first_found e (field_vals ts vs ls) g (Some t) r x w = go (none_written ts)
  where
    go : (b : Bool) → FoundBefore e g.binders (if b then matched (context_of e) 0 g.answer t (none_found g.binders) else none_found g.binders)
    go false = record { kinds_ = none_kinds g.binders; fits = none_fits e g.binders; no_operator = none_no_operator g.binders }
    go true =
        let k = matched_in e (context_of e) g.answer t (none_found g.binders) (entries_context e.names e.context r.entries) refl (subst (λ ks. IsWellFormed e.names ks g.answer) (fields_kinds (kinds_in e) (none_found g.binders) g.binders (none_kinds g.binders)) w.1) x (none_fits e g.binders) in
        record { kinds_ = k.kinds_ ∙ none_kinds g.binders; fits = k.fits; no_operator = k.no_operator (none_no_operator g.binders) }

pub application_regular : (e : Environment) (s : Span) (f : Val) (vs : FieldVals) (o : Option PlainType) → IsRegular e → IsExpected e o → Step type_ e (application s f vs o)
application_regular e s f vs o r x =
    parts (r, tt) (λ t h.
    functions_formed e (applicable (exposure (context_of e) t)) _ _ (applied_formed e (exposure (context_of e) t) (exposed_formed e t r h.1)) (λ g w.
    let b = first_found e vs g o r x w in
    parts (r, (w.0, (b.kinds_, (b.fits, b.no_operator)))) (λ args i.
    unless (size_stop e.context (replace (arguments args) g.answer) s) (expects e o (replace (arguments args) g.answer) _ s (
    gives_ (replace_formed e.names g.answer (arguments_keep e.names (kinds_in e) args g.binders i.1.1 i.1.0) w.1))))))
