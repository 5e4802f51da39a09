-- Each line of a rule that refuses has (inl refl) of the judgement's own codes.
use Rattle.std.proofs.Common.{List, [], ◌∷◌, ◌++◌, map, not, ◌||◌, nat_eq, Option, Some, None, inl, inr, refl}
use Rattle.pict_syntax.specs.declared.code.Code.{Code}
use Rattle.pict_syntax.specs.declared.code.Code.TheVariants.{K1, K4, K5, Y1, Y2, Y3, Y4, Y5, Y6, Y7, Y8, Y9, Y10, Y11, Y12, Y13, Y14, Y15, Y16}
use Rattle.pict_syntax.specs.declared.span.Span.{Span}
use Rattle.pict_syntax.specs.declared.id.Id.{Id}
use Rattle.pict_syntax.specs.Grammar.{type_span, val_span, chan_span}
use Rattle.pict_syntax.specs.Trees.{TypeTree, TypeTrees, no_types, more_types, TypeBinders, no_binders, more_binders, Pat, bind_pat, any_pat, fields_pat, fold_pat, FieldPats, field_pats, Pats, no_pats, more_pats, LabelledPats, no_labelled_pats, more_labelled_pats, Dec, new_dec, run_dec, let_dec, def_dec, alias_dec, operator_dec, await_dec, Decs, no_decs, more_decs, Definitions, no_definitions, more_definitions, Abs, process_abs, function_abs, use_chan, fold_chan, block_chan, apply_chan, right_chan, left_chan, Val, of_chan, number_val, character_val, string_val, true_val, false_val, fields_val, if_val, lambda_val, Vals, no_vals, more_vals, FieldVals, field_vals, LabelledVals, no_labelled_vals, more_labelled_vals, Proc, send_proc, receive_proc, serve_proc, if_proc, inert_proc, group_proc, Procs, no_procs, more_procs}
use Rattle.pict_syntax.specs.Stops.{Stop}
use Rattle.pict_types.specs.AsMarked.{varies_as}
use Rattle.pict_types.specs.Types.{Respond, PlainType, Fields, no_bound, Chan as ChanType, PlainTypes, PlainLabels, PlainBounds, type_at, count_types, count_bounds}
use Rattle.pict_types.specs.Replacing.{arguments, replace, instance_of}
use Rattle.pict_normal.specs.Normal.{normal, kind_stop, count_trees}
use Rattle.pict_normal.specs.WrittenArguments.{arg_stop, normal_arg}
use Rattle.pict_sub.specs.Exposing.{exposure}
use Rattle.pict_rules.specs.Found.{Found, mentions_missing, with_found, all_found, filled, argument_in}
use Rattle.pict_rules.specs.Counts.{count_vals, count_pats, count_binders}
use Rattle.pict_rules.specs.Shapes.{nth_bound, applicable, all_written, none_written, written_bound, kind_agrees}
use Rattle.pict_rules.specs.Environments.{Environment, context_of, opened, opened_since, bounds_of}
use Rattle.pict_rules.specs.Complete.{is_complete}
use Rattle.pict_rules.specs.Rules.{Sort, nothing_, type_, Judgement, gives, has, is_condition, values_give, labelled_values_give, application, fields_fit, written_arguments, values_fit, labelled_values_fit, value_fits, given_fits, abstraction_gives, abstraction_against, pattern_gives, fields_give, binders_give, patterns_give, labelled_patterns_give, pattern_against, fields_against, binders_against, patterns_against, labelled_patterns_against, declaration, declarations, signatures, signature, bodies, body, process, processes, receives, Signature, process_body, value_body, Rule, unless_stopped}
use Rattle.pict_rules.specs.Clauses.{gives_below, in_order, is_of_kind, with_own, with_parameters_in, argument_type, answering, stop_of_binder, binder_span, written_kind, may_send, may_receive}
use Rattle.pict_rules.specs.Typing.{rule}
use Rattle.pict_codes.specs.Codes.{IsOneOf, kind_codes, own_codes}
use Rattle.pict_codes.specs.Laws.{OwnCodes}
use Rattle.pict_codes.proofs.Lines.{Has, StopHas, code_has, gives_ as given, refuses, needs, chooses, parts, splits, ensures, unless, limited, in_records, in_recursives, in_channels, in_sents, in_boths, in_functions, withouts, expects, within_bound_, within_bounds_, same_bounds, at_labels}
use Rattle.pict_codes.proofs.Expanding.{OfKinds, type_stops, argument_stops, written_binder_stops}

-- a refusal with (inl refl) of these codes
abbrev pub Coded : List Code → Code → Span → Type 0
Coded ds c i = IsOneOf ds c

-- codes that begin with those of kinds
kinds_first : (ds : List Code) (c : Code) → IsOneOf kind_codes c → IsOneOf (kind_codes ++ ds) c
kinds_first ds c (inl e) = inl e
kinds_first ds c (inr (inl e)) = inr (inl e)
kinds_first ds c (inr (inr (inl e))) = inr (inr (inl e))
kinds_first ds c (inr (inr (inr (inl e)))) = inr (inr (inr (inl e)))
kinds_first ds c (inr (inr (inr (inr e)))) = absurd e

stop_of : (ds : List Code) (o : Option Stop) → StopHas OfKinds o → StopHas (Coded (kind_codes ++ ds)) o
stop_of ds None h = tt
stop_of ds (Some x) h = kinds_first ds x.0 h

-- a written type is expanded
expanded : (ds : List Code) {s : Sort} (e : Environment) (t : TypeTree) {r : Rule s} → Has (Coded (kind_codes ++ ds)) s r → Has (Coded (kind_codes ++ ds)) s (unless_stopped (kind_stop e.names e.context t) r)
expanded ds e t h = unless (kind_stop e.names e.context t) (stop_of ds (kind_stop e.names e.context t) (type_stops e.names e.context t)) h

abbrev Own : (s : Sort) → Environment → Judgement s → Type 0
Own s e j = Has (Coded (own_codes j)) s (rule e j)

-- values
below : (ds : List Code) (e : Environment) (v : Val) (t : PlainType) (c : Code) → IsOneOf ds c → Has (Coded ds) nothing_ (gives_below e v t c)
below ds e v t c p = parts (λ s. needs p given)

val_gives : (e : Environment) (v : Val) → Own type_ e (gives v)
val_gives e (of_chan (use_chan s n)) = given
val_gives e (number_val s n) = given
val_gives e (character_val s b) = given
val_gives e (string_val s b) = given
val_gives e (true_val s) = given
val_gives e (false_val s) = given
val_gives e (fields_val s (field_vals ts vs ls)) = ensures (none_written ts) Y7 s (inr (inr (inr (inr (inl refl))))) (parts (λ ps. parts (λ ms. limited e (Fields no_bound ps ms) s (inr (inr (inr (inl refl)))) given)))
val_gives e (if_val at c v w) = parts (λ x. parts (λ s. parts (λ t. chooses given (chooses given (refuses (inr (inr (inr (inr (inr (inl refl)))))))))))
val_gives e (lambda_val s a) = parts (λ r. limited e (ChanType Respond r) s (inr (inr (inr (inl refl)))) given)
val_gives e (of_chan (fold_chan s None v)) = refuses (inr (inr (inr (inr (inl refl)))))
val_gives e (of_chan (fold_chan s (Some a) v)) =
    expanded (Y7 ∷ Y11 ∷ Y13 ∷ Y14 ∷ []) e a (in_recursives (normal e.names e.context a) Y13 (type_span a) (inr (inr (inr (inr (inr (inr (inl refl))))))) (λ u. limited e u s (inr (inr (inr (inl refl)))) (parts (λ x. given))))
val_gives e (of_chan (block_chan s ds v)) = parts (λ d. parts (λ t. withouts (opened_since e d) t Y14 s (inr (inr (inr (inr (inr (inr (inr (inl refl)))))))) (λ u. given {x = u})))
val_gives e (of_chan (apply_chan s f vs)) = parts (λ t. given)
val_gives e (of_chan (right_chan s f vs)) = parts (λ t. given)
val_gives e (of_chan (left_chan s f vs)) = parts (λ t. given)

abbrev codes_of_has : List Code
codes_of_has = K4 ∷ Y4 ∷ Y13 ∷ []

val_has : (e : Environment) (v : Val) (t : PlainType) → Own nothing_ e (has v t)
val_has e (of_chan (use_chan s n)) t = below codes_of_has e _ t Y4 (inr (inl refl))
val_has e (number_val s n) t = below codes_of_has e _ t Y4 (inr (inl refl))
val_has e (character_val s b) t = below codes_of_has e _ t Y4 (inr (inl refl))
val_has e (string_val s b) t = below codes_of_has e _ t Y4 (inr (inl refl))
val_has e (true_val s) t = below codes_of_has e _ t Y4 (inr (inl refl))
val_has e (false_val s) t = below codes_of_has e _ t Y4 (inr (inl refl))
val_has e (fields_val s f) t = in_records t (λ bs ps ls. parts (λ x. given)) (below codes_of_has e (fields_val s f) t Y4 (inr (inl refl)))
val_has e (if_val at c v w) t = parts (λ x. parts (λ y. parts (λ z. given)))
val_has e (lambda_val s a) t = in_sents t (λ r. parts (λ x. given)) (below codes_of_has e (lambda_val s a) t Y4 (inr (inl refl)))
val_has e (of_chan (fold_chan s None v)) t = in_recursives t Y13 s (inr (inr (inl refl))) (λ u. limited e u s (inl refl) (parts (λ x. given)))
val_has e (of_chan (fold_chan s (Some a) v)) t = below codes_of_has e _ t Y4 (inr (inl refl))
val_has e (of_chan (block_chan s ds v)) t = parts (λ d. parts (λ x. given))
val_has e (of_chan (apply_chan s f vs)) t = parts (λ x. given)
val_has e (of_chan (right_chan s f vs)) t = parts (λ x. given)
val_has e (of_chan (left_chan s f vs)) t = parts (λ x. given)

all_give : (e : Environment) (vs : Vals) → Own _ e (values_give vs)
all_give e no_vals = given
all_give e (more_vals vs v) = parts (λ ts. parts (λ t. given))

all_labelled_give : (e : Environment) (ls : LabelledVals) → Own _ e (labelled_values_give ls)
all_labelled_give e no_labelled_vals = given
all_labelled_give e (more_labelled_vals ls l v) = parts (λ ts. parts (λ t. given))

applied : (e : Environment) (s : Span) (f : Val) (vs : FieldVals) (o : Option PlainType) → Own _ e (application s f vs o)
applied e s f vs o =
    parts (λ t. in_functions (applicable (exposure (context_of e) t)) Y8 (val_span f) (inr (inr (inl refl))) (λ r. parts (λ args.
    limited e (replace (arguments args) r.answer) s (inl refl) (expects e o (replace (arguments args) r.answer) Y4 s (inr (inl refl)) given))))

abbrev codes_of_fields : List Code
codes_of_fields = K4 ∷ Y5 ∷ Y6 ∷ Y9 ∷ Y10 ∷ []

ordered : {s : Sort} (e : Environment) (i : Span) (vs : Vals) (ls : LabelledVals) (ps : PlainTypes) (ms : PlainLabels) (f : Found) {k : Found → Rule s} → ((g : Found) → Has (Coded codes_of_fields) s (k g)) → Has (Coded codes_of_fields) s (in_order e i vs ls ps ms f k)
ordered e i vs ls ps ms f hk = parts (λ g. parts hk)

fields_of : (e : Environment) (s : Span) (f : FieldVals) (bs : PlainBounds) (ps : PlainTypes) (ms : PlainLabels) (g : Found) → Own _ e (fields_fit s f bs ps ms g)
fields_of e s (field_vals ts vs ls) bs ps ms g =
    ensures (none_written ts || nat_eq (count_trees ts) (count_bounds bs)) Y5 s (inr (inl refl)) (ensures (nat_eq (count_vals vs) (count_types ps)) Y5 s (inr (inl refl)) (ensures (all_written ms ls) Y6 s (inr (inr (inl refl))) (splits (not (none_written ts))
    (parts (λ args. limited e (instance_of args ps ms) s (inl refl) (ordered e s vs ls ps ms (map filled args) (λ x. given))))
    (ordered e s vs ls ps ms g (λ x. ensures (all_found x) Y10 s (inr (inr (inr (inr (inl refl))))) (within_bounds_ e s bs [] (map argument_in x) Y9 (inl refl) (inr (inr (inr (inl refl)))) given))))))

abbrev rest_of_arguments : List Code
rest_of_arguments = K5 ∷ Y9 ∷ []

arguments_of : (e : Environment) (s : Span) (ts : TypeTrees) (bs : PlainBounds) → Own _ e (written_arguments s ts bs)
arguments_of e s no_types bs = given
arguments_of e s (more_types ts t) bs =
    let a = normal_arg e.names e.context t in
    let b = nth_bound (count_trees ts) bs in
    parts (λ args. unless (arg_stop e.names e.context t) (stop_of rest_of_arguments (arg_stop e.names e.context t) (argument_stops e.names e.context t))
    (ensures (is_of_kind a b) K1 (type_span t) (inl refl) (ensures (varies_as (context_of e) a b) K5 (type_span t) (inr (inr (inr (inr (inl refl))))) (within_bound_ e s b args a Y9 (type_span t) (inr (inr (inr (inl refl)))) (inr (inr (inr (inr (inr (inl refl)))))) given))))

positional_of : (e : Environment) (s : Span) (vs : Vals) (ps : PlainTypes) (g : Found) → Own _ e (values_fit s vs ps g)
positional_of e s no_vals ps g = given
positional_of e s (more_vals vs v) ps g = parts (λ f. parts (λ x. given))

labelled_of : (e : Environment) (s : Span) (ls : LabelledVals) (ms : PlainLabels) (g : Found) → Own _ e (labelled_values_fit s ls ms g)
labelled_of e s no_labelled_vals ms g = given
labelled_of e s (more_labelled_vals ls l v) ms g = parts (λ f. at_labels (type_at l.name.0 ms) (λ t. parts (λ x. given)) (parts (λ x. given)))

field_of : (e : Environment) (s : Span) (v : Val) (t : PlainType) (g : Found) → Own _ e (value_fits s v t g)
field_of e s v t g = splits (mentions_missing g t) (parts (λ u. parts (λ x. given))) (limited e (with_found g t) s (inl refl) (parts (λ x. given)))

given_of : (e : Environment) (s : Span) (v : Val) (t u : PlainType) (g : Found) → Own _ e (given_fits s v t u g)
given_of e s v t u g = ensures (not (mentions_missing g t)) Y10 (val_span v) (inr (inr (inl refl))) (limited e (with_found g t) s (inl refl) (needs (inr (inl refl)) given))

-- abstractions
abstraction_of : (e : Environment) (f : Abs) → Own _ e (abstraction_gives f)
abstraction_of e (process_abs s p q) = parts (λ g. parts (λ x. given))
abstraction_of e (function_abs s f (Some a) v) =
    parts (λ g. expanded (Y14 ∷ []) (with_own e g.own) a (parts (λ x. limited e (argument_type g (normal e.names (with_own e g.own).context a)) s (inr (inr (inr (inl refl)))) given)))
abstraction_of e (function_abs s f None v) =
    parts (λ g. parts (λ t. withouts (opened g.adds) t Y14 (val_span v) (inr (inr (inr (inr (inl refl))))) (λ u. limited e (argument_type g u) s (inr (inr (inr (inl refl)))) (given {x = argument_type g u}))))

against_of : (e : Environment) (f : Abs) (t : PlainType) → Own _ e (abstraction_against f t)
against_of e (process_abs s p q) t = parts (λ x. parts (λ y. given))
against_of e (function_abs s f None v) t = in_functions (answering e t) Y8 s (inr (inr (inr (inr (inr (inl refl)))))) (λ g. parts (λ x. parts (λ y. given)))
against_of e (function_abs s f (Some a) v) t =
    in_functions (answering e t) Y8 s (inr (inr (inr (inr (inr (inl refl)))))) (λ g. parts (λ x. expanded (Y4 ∷ Y8 ∷ []) (with_own e x.own) a (needs (inr (inr (inr (inr (inl refl))))) (parts (λ y. given)))))

-- patterns
pattern_of : (e : Environment) (p : Pat) → Own _ e (pattern_gives p)
pattern_of e (bind_pat s x None) = refuses (inr (inr (inr (inr (inl refl)))))
pattern_of e (bind_pat s x (Some a)) = expanded (Y7 ∷ Y13 ∷ []) e a given
pattern_of e (any_pat s None) = refuses (inr (inr (inr (inr (inl refl)))))
pattern_of e (any_pat s (Some a)) = expanded (Y7 ∷ Y13 ∷ []) e a given
pattern_of e (fields_pat s f) = parts (λ g. limited e (Fields (bounds_of g.own) g.positional g.labelled) s (inr (inr (inr (inl refl)))) given)
pattern_of e (fold_pat s None p) = refuses (inr (inr (inr (inr (inl refl)))))
pattern_of e (fold_pat s (Some a) p) =
    expanded (Y7 ∷ Y13 ∷ []) e a (in_recursives (normal e.names e.context a) Y13 s (inr (inr (inr (inr (inr (inl refl)))))) (λ u. limited e u s (inr (inr (inr (inl refl)))) (parts (λ x. given))))

fields_given_of : (e : Environment) (f : FieldPats) → Own _ e (fields_give f)
fields_given_of e (field_pats bs ps ls) = parts (λ own. parts (λ g. parts (λ h. given)))

binder_stop_of : (ds : List Code) (e : Environment) (b : _) → StopHas (Coded (kind_codes ++ ds)) (stop_of_binder e b)
binder_stop_of ds e b = stop_of ds (stop_of_binder e b) (written_binder_stops e.names e.context b)

binders_of : (e : Environment) (bs : TypeBinders) → Own _ e (binders_give bs)
binders_of e no_binders = given
binders_of e (more_binders bs b) = parts (λ own. unless (stop_of_binder (with_own e own) b) (binder_stop_of [] (with_own e own) b) given)

patterns_of : (e : Environment) (ps : Pats) → Own _ e (patterns_give ps)
patterns_of e no_pats = given
patterns_of e (more_pats ps p) = parts (λ g. parts (λ h. given))

labels_of : (e : Environment) (ls : LabelledPats) → Own _ e (labelled_patterns_give ls)
labels_of e no_labelled_pats = given
labels_of e (more_labelled_pats ls l p) = parts (λ g. parts (λ h. given))

abbrev rest_of_against : List Code
rest_of_against = Y4 ∷ Y5 ∷ Y13 ∷ []

pattern_against_of : (e : Environment) (p : Pat) (t : PlainType) → Own _ e (pattern_against p t)
pattern_against_of e (bind_pat s x None) t = given
pattern_against_of e (bind_pat s x (Some a)) t = expanded rest_of_against e a (needs (inr (inr (inr (inr (inl refl))))) given)
pattern_against_of e (any_pat s None) t = given
pattern_against_of e (any_pat s (Some a)) t = expanded rest_of_against e a (needs (inr (inr (inr (inr (inl refl))))) given)
pattern_against_of e (fields_pat s f) t = in_records (exposure (context_of e) t) (λ bs ps ls. parts (λ x. given)) (refuses (inr (inr (inr (inr (inr (inl refl)))))))
pattern_against_of e (fold_pat s (Some a) p) t =
    expanded rest_of_against e a (in_recursives (normal e.names e.context a) Y13 s (inr (inr (inr (inr (inr (inr (inl refl))))))) (λ u. needs (inr (inr (inr (inr (inl refl))))) (limited e u s (inr (inr (inr (inl refl)))) (parts (λ x. given)))))
pattern_against_of e (fold_pat s None p) t = in_recursives (exposure (context_of e) t) Y13 s (inr (inr (inr (inr (inr (inr (inl refl))))))) (λ u. limited e u s (inr (inr (inr (inl refl)))) (parts (λ x. given)))

fields_against_of : (e : Environment) (s : Span) (f : FieldPats) (rs : PlainBounds) (ts : PlainTypes) (ms : PlainLabels) → Own _ e (fields_against s f rs ts ms)
fields_against_of e s (field_pats bs ps ls) rs ts ms =
    ensures (nat_eq (count_binders bs) (count_bounds rs)) Y5 s (inl refl) (ensures (nat_eq (count_pats ps) (count_types ts)) Y5 s (inl refl) (parts (λ own. parts (λ x. parts (λ y. given)))))

binders_against_of : (e : Environment) (bs : TypeBinders) (rs : PlainBounds) → Own _ e (binders_against bs rs)
binders_against_of e no_binders rs = given
binders_against_of e (more_binders bs b) rs =
    parts (λ own. unless (stop_of_binder (with_own e own) b) (binder_stop_of (Y16 ∷ []) (with_own e own) b)
    (ensures (kind_agrees (written_kind b) (nth_bound (count_binders bs) rs)) Y16 (binder_span b) (inr (inr (inr (inr (inl refl))))) (same_bounds (with_own e own) (written_bound b) (nth_bound (count_binders bs) rs) Y16 (binder_span b) (inr (inr (inr (inr (inl refl))))) given)))

patterns_against_of : (e : Environment) (ps : Pats) (ts : PlainTypes) → Own _ e (patterns_against ps ts)
patterns_against_of e no_pats ts = given
patterns_against_of e (more_pats ps p) ts = parts (λ x. parts (λ y. given))

labels_against_of : (e : Environment) (ls : LabelledPats) (ms : PlainLabels) → Own _ e (labelled_patterns_against ls ms)
labels_against_of e no_labelled_pats ms = given
labels_against_of e (more_labelled_pats ls l p) ms = parts (λ x. at_labels (type_at l.name.0 ms) (λ t. parts (λ y. given)) (refuses (inl refl)))

-- declarations
dec_of : (e : Environment) (d : Dec) → Own _ e (declaration d)
dec_of e (new_dec s x t) = expanded (Y15 ∷ []) e t (in_boths (normal e.names e.context t) Y15 (type_span t) (inr (inr (inr (inr (inl refl))))) given)
dec_of e (run_dec s p) = parts (λ x. given)
dec_of e (let_dec s p v) = splits (is_complete e.names e.context p) (parts (λ g. parts (λ x. given))) (parts (λ t. parts (λ x. given)))
dec_of e (await_dec s v) = parts (λ x. given)
dec_of e (def_dec s ds) = parts (λ ss. parts (λ x. given))
dec_of e (alias_dec s x t) = expanded (Y15 ∷ []) e t given
dec_of e (operator_dec s x xs t) = expanded (Y15 ∷ []) (with_parameters_in e xs) t given

decs_of : (e : Environment) (ds : Decs) → Own _ e (declarations ds)
decs_of e no_decs = given
decs_of e (more_decs ds d) = parts (λ f. parts (λ x. given))

signatures_of : (e : Environment) (ds : Definitions) → Own _ e (signatures ds)
signatures_of e no_definitions = given
signatures_of e (more_definitions ds x a) = parts (λ ss. parts (λ s. given))

signature_of : (e : Environment) (x : Id) (f : Abs) → Own _ e (signature x f)
signature_of e x (process_abs s p q) = parts (λ g. limited e (ChanType Respond g.has) s (inr (inr (inr (inl refl)))) given)
signature_of e x (function_abs s f None v) = parts (λ g. refuses (inr (inr (inr (inr (inl refl))))))
signature_of e x (function_abs s f (Some a) v) =
    parts (λ g. expanded (Y7 ∷ []) (with_own e g.own) a
    (limited e (argument_type g (normal e.names (with_own e g.own).context a)) s (inr (inr (inr (inl refl)))) (limited e (ChanType Respond (argument_type g (normal e.names (with_own e g.own).context a))) s (inr (inr (inr (inl refl)))) given)))

bodies_of : (e : Environment) (ss : List Signature) → Own _ e (bodies ss)
bodies_of e [] = given
bodies_of e (s ∷ ss) = parts (λ x. parts (λ y. given))

-- processes
process_of : (e : Environment) (p : Proc) → Own _ e (process p)
process_of e (send_proc s c v) = parts (λ t. in_channels (exposure (context_of e) t) Y1 (chan_span c) (inl refl) (λ m u. ensures (may_send m) Y2 (chan_span c) (inr (inl refl)) (parts (λ x. given))))
process_of e (receive_proc s c a) = parts (λ x. given)
process_of e (serve_proc s c a) = parts (λ x. given)
process_of e (if_proc s c p q) = parts (λ x. parts (λ y. parts (λ z. given)))
process_of e (inert_proc s) = given
process_of e (group_proc s ds ps) = parts (λ d. parts (λ x. given))

processes_of : (e : Environment) (ps : Procs) → Own _ e (processes ps)
processes_of e no_procs = given
processes_of e (more_procs ps p) = parts (λ x. parts (λ y. given))

pub all_own : {s : Sort} (e : Environment) (j : Judgement s) → Own s e j
all_own e (gives v) = val_gives e v
all_own e (has v t) = val_has e v t
all_own e (is_condition v) = below (Y12 ∷ []) e v _ Y12 (inl refl)
all_own e (values_give vs) = all_give e vs
all_own e (labelled_values_give ls) = all_labelled_give e ls
all_own e (application s f vs t) = applied e s f vs t
all_own e (fields_fit s f bs ps ls g) = fields_of e s f bs ps ls g
all_own e (written_arguments s ts bs) = arguments_of e s ts bs
all_own e (values_fit s vs ps g) = positional_of e s vs ps g
all_own e (labelled_values_fit s ls ms g) = labelled_of e s ls ms g
all_own e (value_fits s v t g) = field_of e s v t g
all_own e (given_fits s v t u g) = given_of e s v t u g
all_own e (abstraction_gives f) = abstraction_of e f
all_own e (abstraction_against f t) = against_of e f t
all_own e (pattern_gives p) = pattern_of e p
all_own e (fields_give f) = fields_given_of e f
all_own e (binders_give bs) = binders_of e bs
all_own e (patterns_give ps) = patterns_of e ps
all_own e (labelled_patterns_give ls) = labels_of e ls
all_own e (pattern_against p t) = pattern_against_of e p t
all_own e (fields_against s f bs ps ls) = fields_against_of e s f bs ps ls
all_own e (binders_against bs rs) = binders_against_of e bs rs
all_own e (patterns_against ps ts) = patterns_against_of e ps ts
all_own e (labelled_patterns_against ls ms) = labels_against_of e ls ms
all_own e (declaration d) = dec_of e d
all_own e (declarations ds) = decs_of e ds
all_own e (signatures ds) = signatures_of e ds
all_own e (signature x f) = signature_of e x f
all_own e (bodies ss) = bodies_of e ss
all_own e (body (process_body q)) = parts (λ x. given)
all_own e (body (value_body v t)) = parts (λ x. given)
all_own e (process p) = process_of e p
all_own e (processes ps) = processes_of e ps
all_own e (receives c f) = parts (λ t. in_channels (exposure (context_of e) t) Y1 (chan_span c) (inl refl) (λ m u. ensures (may_receive m) Y3 (chan_span c) (inr (inl refl)) (parts (λ x. given))))

pub own_codes_alone : OwnCodes
own_codes_alone s e j c i h = code_has (all_own e j) h
