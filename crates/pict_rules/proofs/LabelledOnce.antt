-- Each judgement that a rule asks is of a part without a label twice, where what the rule judges has none.
use Rattle.std.proofs.Common.{List, [], ◌∷◌, ◌++◌, map, not, ◌||◌, nat_eq, Option, Some, None, sym, subst}
use Rattle.pict_syntax.specs.declared.id.Id.{Id}
use Rattle.pict_syntax.specs.declared.span.Span.{Span}
use Rattle.pict_syntax.specs.declared.code.Code.{Code}
use Rattle.pict_syntax.specs.declared.code.Code.TheVariants.{K1, K5, Y5, Y6, Y9, Y10, Y14}
use Rattle.pict_syntax.specs.Trees.{TypeTrees, no_types, more_types, TypeBinders, no_binders, more_binders, Pat, bind_pat, any_pat, fields_pat, fold_pat, FieldPats, field_pats, Pats, no_pats, more_pats, LabelledPats, no_labelled_pats, more_labelled_pats, Dec, new_dec, run_dec, let_dec, def_dec, alias_dec, operator_dec, await_dec, Decs, no_decs, more_decs, Definitions, no_definitions, more_definitions, Abs, process_abs, function_abs, Chan, use_chan, fold_chan, block_chan, apply_chan, right_chan, left_chan, Val, of_chan, number_val, character_val, string_val, true_val, false_val, fields_val, if_val, lambda_val, Vals, no_vals, more_vals, FieldVals, field_vals, LabelledVals, no_labelled_vals, more_labelled_vals, Proc, send_proc, receive_proc, serve_proc, if_proc, inert_proc, group_proc, Procs, no_procs, more_procs}
use Rattle.pict_syntax.specs.Grammar.{type_span, val_span}
use Rattle.pict_types.specs.AsMarked.{varies_as}
use Rattle.pict_types.specs.Types.{Chan as Chan_, Respond, PlainType, PlainTypes, PlainLabels, PlainBounds, type_at, count_types, count_bounds}
use Rattle.pict_types.specs.Replacing.{instance_of}
use Rattle.pict_normal.specs.Normal.{normal, kind_stop, size_stop, count_trees}
use Rattle.pict_normal.specs.WrittenArguments.{arg_stop, normal_arg}
use Rattle.pict_scope.specs.DistinctLabels.{TypesHaveDistinctLabels, BindersHaveDistinctLabels, PatHasDistinctLabels, FieldPatsHaveDistinctLabels, PatsHaveDistinctLabels, LabelledPatsAreDistinct, DecHasDistinctLabels, DecsHaveDistinctLabels, DefinitionsHaveDistinctLabels, AbsHasDistinctLabels, ChanHasDistinctLabels, ValHasDistinctLabels, ValsHaveDistinctLabels, FieldValsHaveDistinctLabels, LabelledValsAreDistinct, ProcHasDistinctLabels, ProcsHaveDistinctLabels}
use Rattle.pict_sub.specs.Exposing.{exposure}
use Rattle.pict_rules.specs.Found.{Found, mentions_missing, all_found, filled, argument_in}
use Rattle.pict_rules.specs.Counts.{count_vals}
use Rattle.pict_rules.specs.Shapes.{all_written, none_written, nth_bound, applicable, written_bound, vals_onto, applied_to, right_nested, left_nested, from_first}
use Rattle.pict_rules.specs.Environments.{Environment, context_of, opened, opened_since}
use Rattle.pict_rules.specs.Complete.{is_complete}
use Rattle.pict_rules.specs.Rules.{Sort, nothing_, type_, types_, labels_, arguments_, found_, environment_, extension_, pattern_, patterns_, labelled_patterns_, binders_, fields_, opened_, signatures_, signature_, Judgement, gives, has, is_condition, values_give, labelled_values_give, application, fields_fit, written_arguments, values_fit, labelled_values_fit, value_fits, given_fits, abstraction_gives, abstraction_against, pattern_gives, fields_give, binders_give, patterns_give, labelled_patterns_give, pattern_against, fields_against, binders_against, patterns_against, labelled_patterns_against, declaration, declarations, signatures, signature, bodies, body, process, processes, receives, Signature, Body, process_body, value_body, Rule}
use Rattle.pict_rules.specs.Clauses.{gives_below, in_order, is_of_kind, with_own, argument_type, answering}
use Rattle.pict_rules.specs.Typing.{rule}
use Rattle.pict_rules.specs.Regular.{BodyHasDistinctLabels, BodiesHaveDistinctLabels, IsLabelledOnce}
use Rattle.pict_rules.proofs.Results.{Property, Each, IsResult, any_given, result_has, gives_, refuses, needs, chooses, parts, splits, ensures, unless, in_records, in_recursives, in_channels, in_sents, in_boths, in_functions, withouts, expects, within_bound_, within_bounds_, same_bounds, at_labels}
use Rattle.pict_rules.proofs.Declared.{AllFollow, FollowsAbs, signatures_follow}

abbrev pub is_labelled_once : Property
is_labelled_once t e j = IsLabelledOnce j

abbrev Steps : (s : Sort) → Rule s → Type 0
Steps s r = Each is_labelled_once IsResult s (any_given s) r

-- the nested applications that a form stands for
abbrev AllDistinct : List Val → Type 0
AllDistinct [] = Unit {0}
AllDistinct (v ∷ vs) = ValHasDistinctLabels v × AllDistinct vs

onto_distinct : (vs : Vals) (ws : List Val) → ValsHaveDistinctLabels vs → AllDistinct ws → AllDistinct (vals_onto vs ws)
onto_distinct no_vals ws h k = k
onto_distinct (more_vals vs v) ws h k = onto_distinct vs (v ∷ ws) h.0 (h.1, k)

applied_distinct : (s : Span) (f : Id) (v w : Val) → ValHasDistinctLabels v → ValHasDistinctLabels w → ValHasDistinctLabels (applied_to s f v w)
applied_distinct s f v w h k = (tt, (tt, (((tt, h), k), tt)))

right_distinct : (s : Span) (f : Id) (v : Val) (vs : List Val) → ValHasDistinctLabels v → AllDistinct vs → ValHasDistinctLabels (right_nested s f v vs)
right_distinct s f v [] h k = h
right_distinct s f v (w ∷ vs) h k = applied_distinct s f v (right_nested s f w vs) h (right_distinct s f w vs k.0 k.1)

left_distinct : (s : Span) (f : Id) (v : Val) (vs : List Val) → ValHasDistinctLabels v → AllDistinct vs → ValHasDistinctLabels (left_nested s f v vs)
left_distinct s f v [] h k = h
left_distinct s f v (w ∷ vs) h k = left_distinct s f (applied_to s f v w) vs (applied_distinct s f v w h k.0) k.1

first_right : (s : Span) (f : Id) (vs : List Val) → AllDistinct vs → ValHasDistinctLabels (from_first (right_nested s f) s vs)
first_right s f [] h = tt
first_right s f (v ∷ vs) h = right_distinct s f v vs h.0 h.1

first_left : (s : Span) (f : Id) (vs : List Val) → AllDistinct vs → ValHasDistinctLabels (from_first (left_nested s f) s vs)
first_left s f [] h = tt
first_left s f (v ∷ vs) h = left_distinct s f v vs h.0 h.1

has_below : (e : Environment) (v : Val) (t : PlainType) (c : Code) → ValHasDistinctLabels v → Steps nothing_ (gives_below e v t c)
has_below e v t c x = parts x (λ s h. needs (gives_ tt))

val_gives : (e : Environment) (v : Val) → ValHasDistinctLabels v → Steps type_ (rule e (gives v))
val_gives e (of_chan (use_chan s n)) x = gives_ tt
val_gives e (number_val s n) x = gives_ tt
val_gives e (character_val s b) x = gives_ tt
val_gives e (string_val s b) x = gives_ tt
val_gives e (true_val s) x = gives_ tt
val_gives e (false_val s) x = gives_ tt
val_gives e (fields_val s (field_vals ts vs ls)) x =
    ensures _ _ _ (parts x.1.0 (λ ps h. parts x.1.1 (λ ms k. unless _ (gives_ tt))))
val_gives e (if_val at c v w) x =
    parts x.0 (λ b h. parts x.1.0 (λ s i. parts x.1.1 (λ t k. chooses (gives_ tt) (chooses (gives_ tt) refuses))))
val_gives e (lambda_val s a) x = parts x (λ t h. unless _ (gives_ tt))
val_gives e (of_chan (fold_chan s None v)) x = refuses
val_gives e (of_chan (fold_chan s (Some a) v)) x =
    unless _ (in_recursives (normal e.names e.context a) _ _ (λ u. unless _ (parts x.1 (λ y h. gives_ tt))))
val_gives e (of_chan (block_chan s ds v)) x =
    parts x.0 (λ d h. parts x.1 (λ t i. withouts (opened_since e d) t _ _ (λ u. gives_ {x = u} tt)))
val_gives e (of_chan (apply_chan s f vs)) x = parts x (λ t h. gives_ tt)
val_gives e (of_chan (right_chan s f vs)) x = parts (first_right s f (vals_onto vs []) (onto_distinct vs [] x tt)) (λ t h. gives_ tt)
val_gives e (of_chan (left_chan s f vs)) x = parts (first_left s f (vals_onto vs []) (onto_distinct vs [] x tt)) (λ t h. gives_ tt)

val_has : (e : Environment) (v : Val) (t : PlainType) → ValHasDistinctLabels v → Steps nothing_ (rule e (has v t))
val_has e (of_chan (use_chan s n)) t x = has_below e _ t _ x
val_has e (number_val s n) t x = has_below e _ t _ x
val_has e (character_val s b) t x = has_below e _ t _ x
val_has e (string_val s b) t x = has_below e _ t _ x
val_has e (true_val s) t x = has_below e _ t _ x
val_has e (false_val s) t x = has_below e _ t _ x
val_has e (fields_val s f) t x = in_records t (λ bs ps ls. parts x (λ y h. gives_ tt)) (has_below e _ t _ x)
val_has e (if_val at c v w) t x = parts x.0 (λ b h. parts x.1.0 (λ s i. parts x.1.1 (λ z k. gives_ tt)))
val_has e (lambda_val s a) t x = in_sents t (λ u. parts x (λ y h. gives_ tt)) (has_below e _ t _ x)
val_has e (of_chan (fold_chan s None v)) t x = in_recursives t _ _ (λ u. unless _ (parts x.1 (λ y h. gives_ tt)))
val_has e (of_chan (fold_chan s (Some a) v)) t x = has_below e _ t _ x
val_has e (of_chan (block_chan s ds v)) t x = parts x.0 (λ d h. parts x.1 (λ y i. gives_ tt))
val_has e (of_chan (apply_chan s f vs)) t x = parts x (λ y h. gives_ tt)
val_has e (of_chan (right_chan s f vs)) t x = parts (first_right s f (vals_onto vs []) (onto_distinct vs [] x tt)) (λ y h. gives_ tt)
val_has e (of_chan (left_chan s f vs)) t x = parts (first_left s f (vals_onto vs []) (onto_distinct vs [] x tt)) (λ y h. gives_ tt)

all_give : (e : Environment) (vs : Vals) → ValsHaveDistinctLabels vs → Steps types_ (rule e (values_give vs))
all_give e no_vals x = gives_ tt
all_give e (more_vals vs v) x = parts x.0 (λ ts h. parts x.1 (λ t i. gives_ tt))

all_labelled_give : (e : Environment) (ls : LabelledVals) → LabelledValsAreDistinct ls → Steps labels_ (rule e (labelled_values_give ls))
all_labelled_give e no_labelled_vals x = gives_ tt
all_labelled_give e (more_labelled_vals ls l v) x = parts x.0 (λ ts h. parts x.1.1 (λ t i. gives_ tt))

applies : (e : Environment) (s : Span) (f : Val) (vs : FieldVals) (o : Option PlainType) → ValHasDistinctLabels f × FieldValsHaveDistinctLabels vs → Steps type_ (rule e (application s f vs o))
applies e s f vs o x =
    parts x.0 (λ t h. in_functions (applicable (exposure (context_of e) t)) _ _ (λ g. parts x.1 (λ args i. unless _ (expects e o _ _ s (gives_ tt)))))

ordered : {s : Sort} {e : Environment} (i : Span) (ts : TypeTrees) (vs : Vals) (ls : LabelledVals) (ps : PlainTypes) (ms : PlainLabels) (f : Found) {k : Found → Rule s} → FieldValsHaveDistinctLabels (field_vals ts vs ls) → ((g : Found) → Steps s (k g)) → Steps s (in_order e i vs ls ps ms f k)
ordered i ts vs ls ps ms f x hk = parts x.1.0 (λ g h. parts x.1.1 (λ z l. hk z))

fields_asked : (e : Environment) (s : Span) (f : FieldVals) (bs : PlainBounds) (ps : PlainTypes) (ms : PlainLabels) (g : Found) → FieldValsHaveDistinctLabels f → Steps arguments_ (rule e (fields_fit s f bs ps ms g))
fields_asked e s (field_vals ts vs ls) bs ps ms g x =
    ensures (none_written ts || nat_eq (count_trees ts) (count_bounds bs)) Y5 s (ensures (nat_eq (count_vals vs) (count_types ps)) Y5 s (ensures (all_written ms ls) Y6 s (splits (not (none_written ts))
    (parts x.0 (λ args h. unless (size_stop e.context (instance_of args ps ms) s) (ordered s ts vs ls ps ms (map filled args) x (λ y. gives_ tt))))
    (ordered s ts vs ls ps ms g x (λ y. ensures (all_found y) Y10 s (within_bounds_ e s bs [] (map argument_in y) Y9 (gives_ tt)))))))

arguments_asked : (e : Environment) (s : Span) (ts : TypeTrees) (bs : PlainBounds) → TypesHaveDistinctLabels ts → Steps arguments_ (rule e (written_arguments s ts bs))
arguments_asked e s no_types bs x = gives_ tt
arguments_asked e s (more_types ts t) bs x =
    parts x.0 (λ args h.
    unless (arg_stop e.names e.context t) (ensures (is_of_kind (normal_arg e.names e.context t) (nth_bound (count_trees ts) bs)) K1 (type_span t) (ensures (varies_as (context_of e) (normal_arg e.names e.context t) (nth_bound (count_trees ts) bs)) K5 (type_span t) (within_bound_ e s (nth_bound (count_trees ts) bs) args (normal_arg e.names e.context t) Y9 (type_span t) (gives_ tt)))))

positional_asked : (e : Environment) (s : Span) (vs : Vals) (ps : PlainTypes) (g : Found) → ValsHaveDistinctLabels vs → Steps found_ (rule e (values_fit s vs ps g))
positional_asked e s no_vals ps g x = gives_ tt
positional_asked e s (more_vals vs v) ps g x = parts x.0 (λ f h. parts x.1 (λ y i. gives_ tt))

labelled_asked : (e : Environment) (s : Span) (ls : LabelledVals) (ms : PlainLabels) (g : Found) → LabelledValsAreDistinct ls → Steps found_ (rule e (labelled_values_fit s ls ms g))
labelled_asked e s no_labelled_vals ms g x = gives_ tt
labelled_asked e s (more_labelled_vals ls l v) ms g x =
    parts x.0 (λ f h. at_labels (type_at l.name.0 ms) (λ t. parts x.1.1 (λ z i. gives_ tt)) (parts x.1.1 (λ z i. gives_ tt)))

field_asked : (e : Environment) (s : Span) (v : Val) (t : PlainType) (g : Found) → ValHasDistinctLabels v → Steps found_ (rule e (value_fits s v t g))
field_asked e s v t g x =
    splits (mentions_missing g t) (parts x (λ u h. parts tt (λ y i. gives_ tt))) (unless _ (parts x (λ y h. gives_ tt)))

abstraction_given : (e : Environment) (a : Abs) → AbsHasDistinctLabels a → Steps type_ (rule e (abstraction_gives a))
abstraction_given e (process_abs s p q) x = parts x.0 (λ g h. parts x.1 (λ y i. gives_ tt))
abstraction_given e (function_abs s f None v) x =
    parts x.0 (λ g h. parts x.1.1 (λ t i. withouts (opened g.adds) t Y14 (val_span v) (λ u. unless (size_stop e.context (argument_type g u) s) (gives_ {x = argument_type g u} tt))))
abstraction_given e (function_abs s f (Some a) v) x = parts x.0 (λ g h. unless _ (parts x.1.1 (λ y i. unless _ (gives_ tt))))

abstraction_asked : (e : Environment) (a : Abs) (t : PlainType) → AbsHasDistinctLabels a → Steps nothing_ (rule e (abstraction_against a t))
abstraction_asked e (process_abs s p q) t x = parts x.0 (λ g h. parts x.1 (λ y i. gives_ tt))
abstraction_asked e (function_abs s f None v) t x = in_functions (answering e t) _ _ (λ g. parts x.0 (λ y h. parts x.1.1 (λ z i. gives_ tt)))
abstraction_asked e (function_abs s f (Some a) v) t x = in_functions (answering e t) _ _ (λ g. parts x.0 (λ y h. unless _ (needs (parts x.1.1 (λ z i. gives_ tt)))))

pattern_given : (e : Environment) (p : Pat) → PatHasDistinctLabels p → Steps pattern_ (rule e (pattern_gives p))
pattern_given e (bind_pat s x None) r = refuses
pattern_given e (bind_pat s x (Some a)) r = unless _ (gives_ tt)
pattern_given e (any_pat s None) r = refuses
pattern_given e (any_pat s (Some a)) r = unless _ (gives_ tt)
pattern_given e (fields_pat s f) r = parts r (λ g h. unless _ (gives_ tt))
pattern_given e (fold_pat s None p) r = refuses
pattern_given e (fold_pat s (Some a) p) r = unless _ (in_recursives (normal e.names e.context a) _ _ (λ u. unless _ (parts r.1 (λ x h. gives_ tt))))

fields_given : (e : Environment) (f : FieldPats) → FieldPatsHaveDistinctLabels f → Steps fields_ (rule e (fields_give f))
fields_given e (field_pats bs ps ls) r = parts r.0 (λ own h. parts r.1.0 (λ g i. parts r.1.1 (λ y l. gives_ tt)))

binders_given : (e : Environment) (bs : TypeBinders) → BindersHaveDistinctLabels bs → Steps binders_ (rule e (binders_give bs))
binders_given e no_binders r = gives_ tt
binders_given e (more_binders bs b) r = parts r.0 (λ own h. unless _ (gives_ tt))

patterns_given : (e : Environment) (ps : Pats) → PatsHaveDistinctLabels ps → Steps patterns_ (rule e (patterns_give ps))
patterns_given e no_pats r = gives_ tt
patterns_given e (more_pats ps p) r = parts r.0 (λ g h. parts r.1 (λ x i. gives_ tt))

labels_given : (e : Environment) (ls : LabelledPats) → LabelledPatsAreDistinct ls → Steps labelled_patterns_ (rule e (labelled_patterns_give ls))
labels_given e no_labelled_pats r = gives_ tt
labels_given e (more_labelled_pats ls l p) r = parts r.0 (λ g h. parts r.1.1 (λ x i. gives_ tt))

pattern_asked : (e : Environment) (p : Pat) (t : PlainType) → PatHasDistinctLabels p → Steps extension_ (rule e (pattern_against p t))
pattern_asked e (bind_pat s x None) t r = gives_ tt
pattern_asked e (bind_pat s x (Some a)) t r = unless _ (needs (gives_ tt))
pattern_asked e (any_pat s None) t r = gives_ tt
pattern_asked e (any_pat s (Some a)) t r = unless _ (needs (gives_ tt))
pattern_asked e (fields_pat s f) t r = in_records (exposure (context_of e) t) (λ bs ps ls. parts r (λ x h. gives_ tt)) refuses
pattern_asked e (fold_pat s None p) t r = in_recursives (exposure (context_of e) t) _ _ (λ u. unless _ (parts r.1 (λ x h. gives_ tt)))
pattern_asked e (fold_pat s (Some a) p) t r = unless _ (in_recursives (normal e.names e.context a) _ _ (λ u. needs (unless _ (parts r.1 (λ x h. gives_ tt)))))

fields_asked_of : (e : Environment) (s : Span) (f : FieldPats) (rs : PlainBounds) (ts : PlainTypes) (ms : PlainLabels) → FieldPatsHaveDistinctLabels f → Steps opened_ (rule e (fields_against s f rs ts ms))
fields_asked_of e s (field_pats bs ps ls) rs ts ms r = ensures _ _ _ (ensures _ _ _ (parts r.0 (λ own h. parts r.1.0 (λ g i. parts r.1.1 (λ y l. gives_ tt)))))

binders_asked : (e : Environment) (bs : TypeBinders) (rs : PlainBounds) → BindersHaveDistinctLabels bs → Steps binders_ (rule e (binders_against bs rs))
binders_asked e no_binders rs r = gives_ tt
binders_asked e (more_binders bs b) rs r = parts r.0 (λ own h. unless _ (ensures _ _ _ (same_bounds (with_own e own) (written_bound b) _ _ _ (gives_ tt))))

patterns_asked : (e : Environment) (ps : Pats) (ts : PlainTypes) → PatsHaveDistinctLabels ps → Steps extension_ (rule e (patterns_against ps ts))
patterns_asked e no_pats ts r = gives_ tt
patterns_asked e (more_pats ps p) ts r = parts r.0 (λ g h. parts r.1 (λ x i. gives_ tt))

labels_asked : (e : Environment) (ls : LabelledPats) (ms : PlainLabels) → LabelledPatsAreDistinct ls → Steps extension_ (rule e (labelled_patterns_against ls ms))
labels_asked e no_labelled_pats ms r = gives_ tt
labels_asked e (more_labelled_pats ls l p) ms r = parts r.0 (λ g h. at_labels (type_at l.name.0 ms) (λ t. parts r.1.1 (λ x i. gives_ tt)) refuses)

-- the bodies of a `def` are those of its abstractions
body_distinct : (a : Abs) (x : Id) (s : Signature) → FollowsAbs x a s → AbsHasDistinctLabels a → BodyHasDistinctLabels s.body
body_distinct (process_abs i p q) x s w h = subst BodyHasDistinctLabels (sym w.body_) h.1
body_distinct (function_abs i f r v) x s w h = subst BodyHasDistinctLabels (sym w.body_.1) h.1.1

and_last : (rs : List Signature) (s : Signature) → BodiesHaveDistinctLabels rs → BodyHasDistinctLabels s.body → BodiesHaveDistinctLabels (rs ++ s ∷ [])
and_last [] s b c = (c, tt)
and_last (r ∷ rs) s b c = (b.0, and_last rs s b.1 c)

bodies_distinct : (ds : Definitions) (ss : List Signature) → AllFollow ds ss → DefinitionsHaveDistinctLabels ds → BodiesHaveDistinctLabels ss
bodies_distinct no_definitions ss h k = subst BodiesHaveDistinctLabels (sym h) tt
bodies_distinct (more_definitions ds x a) ss h k = subst BodiesHaveDistinctLabels (sym h.2) (and_last h.0 h.1 (bodies_distinct ds h.0 h.3 k.0) (body_distinct a x h.1 h.4 k.1))

dec_asked : (e : Environment) (d : Dec) → DecHasDistinctLabels d → Steps environment_ (rule e (declaration d))
dec_asked e (new_dec s x t) r = unless _ (in_boths _ _ _ (gives_ tt))
dec_asked e (run_dec s p) r = parts r (λ x h. gives_ tt)
dec_asked e (let_dec s p v) r =
    splits (is_complete e.names e.context p) (parts r.0 (λ g h. parts r.1 (λ x i. gives_ tt))) (parts r.1 (λ t h. parts r.0 (λ x i. gives_ tt)))
dec_asked e (def_dec s ds) r = parts r (λ ss h. parts (bodies_distinct ds ss (result_has (signatures_follow e ds) h) r) (λ x i. gives_ tt))
dec_asked e (alias_dec s x t) r = unless _ (gives_ tt)
dec_asked e (operator_dec s x xs t) r = unless _ (gives_ tt)
dec_asked e (await_dec s v) r = parts r (λ x h. gives_ tt)

decs_asked : (e : Environment) (ds : Decs) → DecsHaveDistinctLabels ds → Steps environment_ (rule e (declarations ds))
decs_asked e no_decs r = gives_ tt
decs_asked e (more_decs ds d) r = parts r.0 (λ f h. parts r.1 (λ x i. gives_ tt))

signatures_asked : (e : Environment) (ds : Definitions) → DefinitionsHaveDistinctLabels ds → Steps signatures_ (rule e (signatures ds))
signatures_asked e no_definitions r = gives_ tt
signatures_asked e (more_definitions ds x a) r = parts r.0 (λ ss h. parts r.1 (λ s i. gives_ tt))

signature_asked : (e : Environment) (x : Id) (a : Abs) → AbsHasDistinctLabels a → Steps signature_ (rule e (signature x a))
signature_asked e x (process_abs s p q) r = parts r.0 (λ g h. unless _ (gives_ tt))
signature_asked e x (function_abs s f None v) r = parts r.0 (λ g h. refuses)
signature_asked e x (function_abs s f (Some a) v) r =
    parts r.0 (λ g h.
    unless (kind_stop e.names (with_own e g.own).context a) (
    unless (size_stop e.context (argument_type g (normal e.names (with_own e g.own).context a)) s) (
    unless (size_stop e.context (Chan_ Respond (argument_type g (normal e.names (with_own e g.own).context a))) s) (gives_ tt))))

bodies_asked : (e : Environment) (ss : List Signature) → BodiesHaveDistinctLabels ss → Steps nothing_ (rule e (bodies ss))
bodies_asked e [] r = gives_ tt
bodies_asked e (s ∷ ss) r = parts r.0 (λ x h. parts r.1 (λ y i. gives_ tt))

body_asked : (e : Environment) (b : Body) → BodyHasDistinctLabels b → Steps nothing_ (rule e (body b))
body_asked e (process_body q) r = parts r (λ x h. gives_ tt)
body_asked e (value_body v t) r = parts r (λ x h. gives_ tt)

process_asked : (e : Environment) (p : Proc) → ProcHasDistinctLabels p → Steps nothing_ (rule e (process p))
process_asked e (send_proc s c v) x =
    parts x.0 (λ t h. in_channels (exposure (context_of e) t) _ _ (λ m u. ensures _ _ _ (parts x.1 (λ y i. gives_ tt))))
process_asked e (receive_proc s c a) x = parts x (λ y h. gives_ tt)
process_asked e (serve_proc s c a) x = parts x (λ y h. gives_ tt)
process_asked e (if_proc s c p q) x = parts x.0 (λ b h. parts x.1.0 (λ t i. parts x.1.1 (λ z k. gives_ tt)))
process_asked e (inert_proc s) x = gives_ tt
process_asked e (group_proc s ds ps) x = parts x.0 (λ d h. parts x.1 (λ y i. gives_ tt))

processes_asked : (e : Environment) (ps : Procs) → ProcsHaveDistinctLabels ps → Steps nothing_ (rule e (processes ps))
processes_asked e no_procs x = gives_ tt
processes_asked e (more_procs ps p) x = parts x.0 (λ y h. parts x.1 (λ z i. gives_ tt))

receives_asked : (e : Environment) (c : Chan) (a : Abs) → ChanHasDistinctLabels c × AbsHasDistinctLabels a → Steps nothing_ (rule e (receives c a))
receives_asked e c a x =
    parts x.0 (λ t h. in_channels (exposure (context_of e) t) _ _ (λ m u. ensures _ _ _ (parts x.1 (λ y i. gives_ tt))))

pub all_labelled_once : (s : Sort) (e : Environment) (j : Judgement s) → IsLabelledOnce j → Steps s (rule e j)
all_labelled_once s e (gives v) r = val_gives e v r
all_labelled_once s e (has v t) r = val_has e v t r
all_labelled_once s e (is_condition v) r = has_below e v _ _ r
all_labelled_once s e (values_give vs) r = all_give e vs r
all_labelled_once s e (labelled_values_give ls) r = all_labelled_give e ls r
all_labelled_once s e (application i f vs o) r = applies e i f vs o r
all_labelled_once s e (fields_fit i f bs ps ms g) r = fields_asked e i f bs ps ms g r
all_labelled_once s e (written_arguments i ts bs) r = arguments_asked e i ts bs r
all_labelled_once s e (values_fit i vs ps g) r = positional_asked e i vs ps g r
all_labelled_once s e (labelled_values_fit i ls ms g) r = labelled_asked e i ls ms g r
all_labelled_once s e (value_fits i v t g) r = field_asked e i v t g r
all_labelled_once s e (given_fits i v t u g) r = ensures _ _ _ (unless _ (needs (gives_ tt)))
all_labelled_once s e (abstraction_gives a) r = abstraction_given e a r
all_labelled_once s e (abstraction_against a t) r = abstraction_asked e a t r
all_labelled_once s e (pattern_gives p) r = pattern_given e p r
all_labelled_once s e (fields_give f) r = fields_given e f r
all_labelled_once s e (binders_give bs) r = binders_given e bs r
all_labelled_once s e (patterns_give ps) r = patterns_given e ps r
all_labelled_once s e (labelled_patterns_give ls) r = labels_given e ls r
all_labelled_once s e (pattern_against p t) r = pattern_asked e p t r
all_labelled_once s e (fields_against i f bs ps ls) r = fields_asked_of e i f bs ps ls r
all_labelled_once s e (binders_against bs rs) r = binders_asked e bs rs r
all_labelled_once s e (patterns_against ps ts) r = patterns_asked e ps ts r
all_labelled_once s e (labelled_patterns_against ls ms) r = labels_asked e ls ms r
all_labelled_once s e (declaration d) r = dec_asked e d r
all_labelled_once s e (declarations ds) r = decs_asked e ds r
all_labelled_once s e (signatures ds) r = signatures_asked e ds r
all_labelled_once s e (signature x a) r = signature_asked e x a r
all_labelled_once s e (bodies ss) r = bodies_asked e ss r
all_labelled_once s e (body b) r = body_asked e b r
all_labelled_once s e (process p) r = process_asked e p r
all_labelled_once s e (processes ps) r = processes_asked e ps r
all_labelled_once s e (receives c a) r = receives_asked e c a r
