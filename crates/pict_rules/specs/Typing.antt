-- The typing rules: one equation for each form of a phrase, under the sentence that it writes down.
--
-- The lines of an equation are tested in the order written, and the first that is false is the refusal. A code stands on
-- the line of its condition, with its place. `part e j` is a judgement j on a part, which may be refused itself.
use Rattle.std.specs.Prelude.{◌||◌, not, nat_eq, if◌then◌else◌, [], ◌∷◌, ◌++◌, map, length, Some, None}
use Rattle.pict_syntax.specs.declared.code.Code.TheVariants.{Y2, Y3, Y4, Y5, Y6, Y7, Y8, Y10, Y11, Y12, Y13, Y14, Y15, K1, K5, Y1, Y9, Y16}
use Rattle.pict_syntax.specs.Trees.{fields_pat, bind_pat, any_pat, fold_pat, no_binders, more_binders, field_pats, no_pats, more_pats, no_labelled_pats, more_labelled_pats, new_dec, run_dec, let_dec, def_dec, alias_dec, operator_dec, await_dec, no_decs, more_decs, no_definitions, more_definitions, process_abs, function_abs, use_chan, fold_chan, block_chan, apply_chan, right_chan, left_chan, of_chan, number_val, character_val, string_val, true_val, false_val, fields_val, if_val, lambda_val, no_vals, more_vals, field_vals, no_labelled_vals, more_labelled_vals, send_proc, receive_proc, serve_proc, if_proc, inert_proc, group_proc, no_procs, more_procs, no_types, more_types}
use Rattle.pict_types.specs.Types.{Respond, Int, Char, Str, Boolean, Chan, Fields, no_type, no_label, no_bound, Plain, Op, count_types, count_bounds, type_at}
use Rattle.pict_types.specs.Replacing.{arguments, replace, instance_of}
use Rattle.pict_types.specs.AsMarked.{varies_as}
use Rattle.pict_normal.specs.Normal.{and_type, with_labelled_type, count_trees}
use Rattle.pict_sub.specs.Exposing.{exposure}
use Rattle.pict_rules.specs.Found.{mentions_missing, with_found, all_found, matched, none_found, filled, argument_in}
use Rattle.pict_syntax.specs.Grammar.{chan_span, pat_span, type_span, val_span}
use Rattle.pict_rules.specs.Counts.{count_vals, count_pats, count_binders}
use Rattle.pict_rules.specs.Shapes.{nth_type, nth_bound, applicable, all_written, none_written, vals_onto, right_nested, left_nested, from_first, kind_agrees, written_bound}
use Rattle.pict_rules.specs.Environments.{Environment, context_of, opened, no_extension, one_value, joined_extensions, within, extended, defined, bounds_of, opened_since, type_of_use, shifted_by}
use Rattle.pict_rules.specs.Complete.{is_complete}
use Rattle.pict_rules.specs.Rules.{Sort, Judgement, gives, has, is_condition, values_give, labelled_values_give, application, fields_fit, written_arguments, values_fit, labelled_values_fit, value_fits, abstraction_gives, abstraction_against, pattern_gives, fields_give, binders_give, patterns_give, labelled_patterns_give, pattern_against, fields_against, binders_against, patterns_against, labelled_patterns_against, declaration, declarations, signatures, signature, bodies, body, process, processes, is_subtype, Rule, give, refuse, need, either, part, unless_stopped, ensure, expand, expand_argument, within_limits, given_fits, receives, process_body, value_body}
use Rattle.pict_rules.specs.Clauses.{done, check, if_record, need_recursive, need_channel, need_function, need_outside, expect, if_sent, stop_of_binder, gives_below, with_own, with_fields, found_first, within_bounds, in_order, if_labelled, binder_name, own_bound, argument_type, with_parameters_in, with_signatures, empty_record, may_send, may_receive, is_of_kind, within_bound, written_kind, binder_span, need_same_bound, need_both, answering}

abbrev pub rule : {s : Sort} → Environment → Judgement s → Rule s
-- VALUES GIVE A TYPE

-- A use gives the type of its nearest binder, and a name without binder that of the primitive.
rule e (gives (of_chan (use_chan s n))) = give (type_of_use e n.0)
-- A literal gives its base type.
rule e (gives (number_val s n)) = give Int
rule e (gives (character_val s b)) = give Char
rule e (gives (string_val s b)) = give Str
rule e (gives (true_val s)) = give Boolean
rule e (gives (false_val s)) = give Boolean
-- A record has no written type arguments (Y7 at it). It gives the record type of what its fields give, in written order,
-- which is within the limits (K4 at it).
rule e (gives (fields_val s (field_vals ts vs ls))) =
    ensure (none_written ts) Y7 s (
    part e (values_give vs) (λ ps.
    part e (labelled_values_give ls) (λ ms.
    within_limits e (Fields no_bound ps ms) s (
    give (Fields no_bound ps ms)))))
-- A conditional: its condition is a `Bool`; its branches give S and T. It gives T where S is a subtype of T, else S where
-- T is a subtype of S, else this is Y11 at it.
rule e (gives (if_val at c v w)) =
    check e (is_condition c) (
    part e (gives v) (λ s.
    part e (gives w) (λ t.
    either (is_subtype (context_of e) s t) (give t) (
    either (is_subtype (context_of e) t s) (give s) (
    refuse Y11 at)))))
-- A lambda gives `/R`, R being what its abstraction gives; `/R` is within the limits (K4 at the lambda).
rule e (gives (lambda_val s a)) =
    part e (abstraction_gives a) (λ r.
    within_limits e (Chan Respond r) s (
    give (Chan Respond r)))
-- A fold has an annotation (Y7 at it), which is expanded and is a recursive type (Y13 at the annotation's type). The
-- unfolding is within the limits (K4 at the fold), and the value has it. The annotation is given.
rule e (gives (of_chan (fold_chan s None v))) = refuse Y7 s
rule e (gives (of_chan (fold_chan s (Some a) v))) =
    expand e a (λ t.
    need_recursive t Y13 (type_span a) (λ u.
    within_limits e u s (
    check e (has v u) (
    give t))))
-- A block: its declarations, then what its body gives, which mentions no type variable that they opened (Y14 at the block).
rule e (gives (of_chan (block_chan s ds v))) =
    part e (declarations ds) (λ d.
    part d (gives v) (λ t.
    need_outside (opened_since e d) t Y14 s give))
-- An application, where no type is expected. `(f > a b ..)` and `(f < a b ..)` stand for nested applications of the name
-- to two values, each of which stands where the whole form does.
rule e (gives (of_chan (apply_chan s f vs))) = part e (application s f vs None) give
rule e (gives (of_chan (right_chan s f vs))) = part e (gives (from_first (right_nested s f) s (vals_onto vs []))) give
rule e (gives (of_chan (left_chan s f vs))) = part e (gives (from_first (left_nested s f) s (vals_onto vs []))) give
-- The positional fields of a record without a type to go by, in written order.
rule e (values_give no_vals) = give no_type
rule e (values_give (more_vals vs v)) =
    part e (values_give vs) (λ ts.
    part e (gives v) (λ t.
    give (and_type ts t)))
-- And its labelled fields, in written order; the type has them in the order of labels.
rule e (labelled_values_give no_labelled_vals) = give no_label
rule e (labelled_values_give (more_labelled_vals ls l v)) =
    part e (labelled_values_give ls) (λ ms.
    part e (gives v) (λ t.
    give (with_labelled_type e.names l.name.0 t ms)))
-- VALUES HAVE A TYPE, WHICH IS TAKEN AS IT IS, NOT EXPOSED

-- A record, where the type is a record type: the fields fit.
rule e (has (fields_val s f) t) =
    if_record t (λ bs ps ls. part e (fields_fit s f bs ps ls (none_found bs)) (λ _. done))
    (gives_below e (fields_val s f) t Y4)
-- A conditional: its condition is a `Bool`, and both branches have the type.
rule e (has (if_val at c v w) t) =
    check e (is_condition c) (
    check e (has v t) (
    check e (has w t) done))
-- A lambda, where the type is `/R` or `!R`: its abstraction goes against R.
rule e (has (lambda_val s a) t) =
    if_sent t (λ r. check e (abstraction_against a r) done)
    (gives_below e (lambda_val s a) t Y4)
-- A fold without annotation: the type is a recursive one (Y13 at the fold); its unfolding is within the limits (K4 at the
-- fold), and the value has it.
rule e (has (of_chan (fold_chan s None v)) t) =
    need_recursive t Y13 s (λ u.
    within_limits e u s (
    check e (has v u) done))
-- A block: its declarations, then its body has the type.
rule e (has (of_chan (block_chan s ds v)) t) =
    part e (declarations ds) (λ d.
    check d (has v (shifted_by (opened_since e d) t)) done)
-- An application, of which the type is expected; so with the forms that stand for nested ones.
rule e (has (of_chan (apply_chan s f vs)) t) = part e (application s f vs (Some t)) (λ _. done)
rule e (has (of_chan (right_chan s f vs)) t) = check e (has (from_first (right_nested s f) s (vals_onto vs [])) t) done
rule e (has (of_chan (left_chan s f vs)) t) = check e (has (from_first (left_nested s f) s (vals_onto vs [])) t) done
-- Everything else gives a subtype of the type (Y4 at the value).
rule e (has (of_chan (fold_chan s (Some a) v)) t) = gives_below e (of_chan (fold_chan s (Some a) v)) t Y4
rule e (has (of_chan (use_chan s n)) t) = gives_below e (of_chan (use_chan s n)) t Y4
rule e (has (number_val s n) t) = gives_below e (number_val s n) t Y4
rule e (has (character_val s b) t) = gives_below e (character_val s b) t Y4
rule e (has (string_val s b) t) = gives_below e (string_val s b) t Y4
rule e (has (true_val s) t) = gives_below e (true_val s) t Y4
rule e (has (false_val s) t) = gives_below e (false_val s) t Y4
-- A condition gives a subtype of `Bool` (Y12 at it).
rule e (is_condition v) = gives_below e v Boolean Y12
-- APPLICATIONS

-- The head gives a type, which exposes to `^R`, `!R` or `/R`; R is a record with a last positional field, which is `/U` or
-- `!U` as it stands (Y8 at the head). The values fit the other fields of R; where a type is expected and no type argument
-- is written, U is matched against the expected type before. The answer, U with the arguments put in, is within the limits
-- (K4 at the application), and a subtype of the type that is expected, if any (Y4 at the application). It is given.
rule e (application s f vs expected) =
    part e (gives f) (λ t.
    need_function (applicable (exposure (context_of e) t)) Y8 (val_span f) (λ r.
    part e (fields_fit s vs r.binders r.positional r.labelled (found_first e vs r expected)) (λ args.
    within_limits e (replace (arguments args) r.answer) s (
    expect e expected (replace (arguments args) r.answer) Y4 s (
    give (replace (arguments args) r.answer))))))
-- FIELDS FIT A RECORD TYPE; THE NODE IS THE RECORD OR THE APPLICATION THAT THEY STAND IN

-- Written type arguments are none, or as many as type fields (Y5 at the node). Positional values are as many as positional
-- fields (Y5 at the node). Each label of the type is written (Y6 at the node).
--   Where type arguments are written: they are taken in order, and the fields with them put in are within the limits (K4 at
-- the node). Then the values fit, in written order.
--   Else the values fit, in written order, and find the type arguments: all are found then (Y10 at the node), and each is
-- below its type field's bound (K4 and Y9 at the node).
rule e (fields_fit s (field_vals ts vs ls) bs ps ms found) =
    ensure (none_written ts || nat_eq (count_trees ts) (count_bounds bs)) Y5 s (
    ensure (nat_eq (count_vals vs) (count_types ps)) Y5 s (
    ensure (all_written ms ls) Y6 s (
    if not (none_written ts)
    then part e (written_arguments s ts bs) (λ args.
    within_limits e (instance_of args ps ms) s (
    in_order e s vs ls ps ms (map filled args) (λ _.
    give args)))
    else in_order e s vs ls ps ms found (λ g.
    ensure (all_found g) Y10 s (
    within_bounds e s bs [] (map argument_in g) Y9 (
    give (map argument_in g)))))))
-- Written type arguments, in order: each is expanded (K1 to K4 where they stand in it), is of its field's kind (K1 at the
-- argument's type), varies as the field's marks say (K5 at the argument's type), and is below the field's bound with the
-- earlier ones put in (K4 at the node, Y9 at the argument's type).
rule e (written_arguments s no_types bs) = give []
rule e (written_arguments s (more_types ts t) bs) =
    part e (written_arguments s ts bs) (λ args.
    expand_argument e t (λ a.
    ensure (is_of_kind a (nth_bound (count_trees ts) bs)) K1 (type_span t) (
    ensure (varies_as (context_of e) a (nth_bound (count_trees ts) bs)) K5 (type_span t) (
    within_bound e s (nth_bound (count_trees ts) bs) args a Y9 (type_span t) (
    give (args ++ a ∷ []))))))
-- The values of positional fields, in written order.
rule e (values_fit s no_vals ps found) = give found
rule e (values_fit s (more_vals vs v) ps found) =
    part e (values_fit s vs ps found) (λ g.
    part e (value_fits s v (nth_type (count_vals vs) ps) g) give)
-- The values of labelled fields, in written order. One whose label the type lacks gives any type.
rule e (labelled_values_fit s no_labelled_vals ms found) = give found
rule e (labelled_values_fit s (more_labelled_vals ls l v) ms found) =
    part e (labelled_values_fit s ls ms found) (λ g.
    if_labelled (type_at l.name.0 ms) (λ t. part e (value_fits s v t g) give) (
    part e (gives v) (λ _. give g)))
-- A value whose field's type mentions no type field that isn't found yet has that type with what is found put in, which is
-- within the limits (K4 at the node). Any other value gives a type, and the field's type is matched against it.
rule e (value_fits s v t found) =
    if mentions_missing found t
    then part e (gives v) (λ g.
    part e (given_fits s v t g (matched (context_of e) 0 t g found)) give)
    else within_limits e (with_found found t) s (
    check e (has v (with_found found t)) (
    give found))
-- After matching the field's type mentions no type field that isn't found (Y10 at the value); with what is found put in it
-- is within the limits (K4 at the node), and what the value gives is a subtype of it (Y4 at the value).
rule e (given_fits s v t g found) =
    ensure (not (mentions_missing found t)) Y10 (val_span v) (
    within_limits e (with_found found t) s (
    need (is_subtype (context_of e) g (with_found found t)) Y4 (val_span v) (
    give found)))
-- ABSTRACTIONS WITHOUT A TYPE TO GO BY GIVE THE TYPE OF THEIR ARGUMENT

-- A process abstraction: what its pattern gives; then its body.
rule e (abstraction_gives (process_abs s p q)) =
    part e (pattern_gives p) (λ g.
    check (extended e g.adds) (process q) (
    give g.has))
-- A function abstraction with a result type: the fields give; the result type is expanded under their own type binders; the
-- body has it. The record of the fields, with `/` and the result type as its last positional field, is within the limits
-- (K4 at the abstraction).
rule e (abstraction_gives (function_abs s f (Some a) v)) =
    part e (fields_give f) (λ g.
    expand (with_own e g.own) a (λ t.
    check (with_fields e g.own g.adds) (has v (shifted_by (opened g.adds) t)) (
    within_limits e (argument_type g t) s (
    give (argument_type g t)))))
-- A function abstraction without one: the result type is what the body gives, and mentions no type variable of a pattern
-- within the fields (Y14 at the body). The record is within the limits (K4 at the abstraction).
rule e (abstraction_gives (function_abs s f None v)) =
    part e (fields_give f) (λ g.
    part (with_fields e g.own g.adds) (gives v) (λ t.
    need_outside (opened g.adds) t Y14 (val_span v) (λ u.
    within_limits e (argument_type g u) s (
    give (argument_type g u)))))
-- ABSTRACTIONS AGAINST THE TYPE OF THEIR ARGUMENT

-- A process abstraction: its pattern against the type; then its body.
rule e (abstraction_against (process_abs s p q) r) =
    part e (pattern_against p r) (λ x.
    check (extended e x) (process q) done)
-- A function abstraction: the type exposes to a record whose last positional field exposes to `/U`, `!U` or `^U` (Y8 at the
-- abstraction). The fields go against the other fields of the record. Without a result type the body has U.
rule e (abstraction_against (function_abs s f None v) r) =
    need_function (answering e r) Y8 s (λ g.
    part e (fields_against s f g.binders g.positional g.labelled) (λ x.
    check (with_fields e x.own x.adds) (has v (shifted_by (opened x.adds) g.answer)) done))
-- With a result type: it is expanded under the fields' own type binders, it is a subtype of U (Y4 at it), and the body has it.
rule e (abstraction_against (function_abs s f (Some a) v) r) =
    need_function (answering e r) Y8 s (λ g.
    part e (fields_against s f g.binders g.positional g.labelled) (λ x.
    expand (with_own e x.own) a (λ t.
    need (is_subtype (context_of (with_own e x.own)) t g.answer) Y4 (type_span a) (
    check (with_fields e x.own x.adds) (has v (shifted_by (opened x.adds) t)) done))))
-- PATTERNS GIVE A TYPE

-- A variable and a wildcard have an annotation (Y7 at the pattern); it is expanded and given, and a variable has it.
rule e (pattern_gives (bind_pat s x None)) = refuse Y7 s
rule e (pattern_gives (bind_pat s x (Some a))) = expand e a (λ t. give (record { has = t; adds = one_value x t }))
rule e (pattern_gives (any_pat s None)) = refuse Y7 s
rule e (pattern_gives (any_pat s (Some a))) = expand e a (λ t. give (record { has = t; adds = no_extension }))
-- A record pattern gives the record type of its fields, which is within the limits (K4 at the pattern).
rule e (pattern_gives (fields_pat s f)) =
    part e (fields_give f) (λ g.
    within_limits e (Fields (bounds_of g.own) g.positional g.labelled) s (
    give (record { has = Fields (bounds_of g.own) g.positional g.labelled; adds = within g.own g.adds })))
-- A fold has an annotation (Y7 at the pattern), which is expanded and is a recursive type (Y13 at the pattern). The unfolding
-- is within the limits (K4 at the pattern), and the inner pattern goes against it. The annotation is given.
rule e (pattern_gives (fold_pat s None p)) = refuse Y7 s
rule e (pattern_gives (fold_pat s (Some a) p)) =
    expand e a (λ t.
    need_recursive t Y13 s (λ u.
    within_limits e u s (
    part e (pattern_against p u) (λ x.
    give (record { has = t; adds = x })))))
-- The fields of a record pattern or of a function: the type binders, each under those before it; then the positional and the
-- labelled fields in written order, each under the type binders, and under those of no pattern beside it.
rule e (fields_give (field_pats bs ps ls)) =
    part e (binders_give bs) (λ own.
    part (with_own e own) (patterns_give ps) (λ g.
    part (with_own e own) (labelled_patterns_give ls) (λ h.
    give (record { own = own; positional = g.have; labelled = h.have; adds = joined_extensions g.adds h.adds }))))
-- A type binder has the kind or the bound that is written (K1 to K4 where they stand in the bound), and none where none is.
rule e (binders_give no_binders) = give []
rule e (binders_give (more_binders bs b)) =
    part e (binders_give bs) (λ own.
    unless_stopped (stop_of_binder (with_own e own) b) (
    give (record { name = binder_name b; bound = own_bound (with_own e own) b } ∷ own)))
rule e (patterns_give no_pats) = give (record { have = no_type; adds = no_extension })
rule e (patterns_give (more_pats ps p)) =
    part e (patterns_give ps) (λ g.
    part e (pattern_gives p) (λ h.
    give (record { have = and_type g.have h.has; adds = joined_extensions g.adds h.adds })))
rule e (labelled_patterns_give no_labelled_pats) = give (record { have = no_label; adds = no_extension })
rule e (labelled_patterns_give (more_labelled_pats ls l p)) =
    part e (labelled_patterns_give ls) (λ g.
    part e (pattern_gives p) (λ h.
    give (record { have = with_labelled_type e.names l.name.0 h.has g.have; adds = joined_extensions g.adds h.adds })))
-- PATTERNS AGAINST A TYPE

-- A variable without annotation has the type. With one, the annotation is expanded, the type is a subtype of it (Y4 at the
-- pattern), and the variable has the annotation. So with a wildcard, which binds nothing.
rule e (pattern_against (bind_pat s x None) t) = give (one_value x t)
rule e (pattern_against (bind_pat s x (Some a)) t) =
    expand e a (λ u.
    need (is_subtype (context_of e) t u) Y4 s (
    give (one_value x u)))
rule e (pattern_against (any_pat s None) t) = give no_extension
rule e (pattern_against (any_pat s (Some a)) t) =
    expand e a (λ u.
    need (is_subtype (context_of e) t u) Y4 s (
    give no_extension))
-- A record pattern: the type exposes to a record (Y5 at the pattern); the fields go against it.
rule e (pattern_against (fields_pat s f) t) =
    if_record (exposure (context_of e) t) (λ bs ps ls.
    part e (fields_against s f bs ps ls) (λ x.
    give (within x.own x.adds)))
    (refuse Y5 s)
-- A fold with an annotation: it is expanded and is a recursive type (Y13 at the pattern), the type is a subtype of it (Y4 at
-- the pattern), its unfolding is within the limits (K4 at the pattern), and the inner pattern goes against that.
rule e (pattern_against (fold_pat s (Some a) p) t) =
    expand e a (λ r.
    need_recursive r Y13 s (λ u.
    need (is_subtype (context_of e) t r) Y4 s (
    within_limits e u s (
    part e (pattern_against p u) give))))
-- A fold without one: the type exposes to a recursive type (Y13 at the pattern), the unfolding is within the limits (K4 at
-- the pattern), and the inner pattern goes against it.
rule e (pattern_against (fold_pat s None p) t) =
    need_recursive (exposure (context_of e) t) Y13 s (λ u.
    within_limits e u s (
    part e (pattern_against p u) give))
-- The fields of a record pattern or of a function, which stands at s: as many type binders and as many positional patterns as
-- the record has (Y5 at s); then the type binders; then the fields in written order, each against its field's type.
rule e (fields_against s (field_pats bs ps ls) rs ts ms) =
    ensure (nat_eq (count_binders bs) (count_bounds rs)) Y5 s (
    ensure (nat_eq (count_pats ps) (count_types ts)) Y5 s (
    part e (binders_against bs rs) (λ own.
    part (with_own e own) (patterns_against ps ts) (λ x.
    part (with_own e own) (labelled_patterns_against ls ms) (λ y.
    give (record { own = own; adds = joined_extensions x y }))))))
-- A type binder: its bound is expanded (K1 to K4 where they stand in it); a kind that is written is the record's, and so is a
-- bound, where it isn't `Top` (Y16 at the type binder). It takes what the record has.
rule e (binders_against no_binders rs) = give []
rule e (binders_against (more_binders bs b) rs) =
    part e (binders_against bs rs) (λ own.
    unless_stopped (stop_of_binder (with_own e own) b) (
    ensure (kind_agrees (written_kind b) (nth_bound (count_binders bs) rs)) Y16 (binder_span b) (
    need_same_bound (with_own e own) (written_bound b) (nth_bound (count_binders bs) rs) Y16 (binder_span b) (
    give (record { name = binder_name b; bound = nth_bound (count_binders bs) rs } ∷ own)))))
rule e (patterns_against no_pats ts) = give no_extension
rule e (patterns_against (more_pats ps p) ts) =
    part e (patterns_against ps ts) (λ x.
    part e (pattern_against p (nth_type (count_pats ps) ts)) (λ y.
    give (joined_extensions x y)))
-- A label that the record lacks is Y6 at its pattern.
rule e (labelled_patterns_against no_labelled_pats ms) = give no_extension
rule e (labelled_patterns_against (more_labelled_pats ls l p) ms) =
    part e (labelled_patterns_against ls ms) (λ x.
    if_labelled (type_at l.name.0 ms) (λ t.
    part e (pattern_against p t) (λ y.
    give (joined_extensions x y)))
    (refuse Y6 (pat_span p)))
-- DECLARATIONS, EACH IN WHAT THOSE BEFORE IT LEAVE

-- `new x:T`: T is expanded and is `^S` (Y15 at T); x has it.
rule e (declaration (new_dec s x t)) =
    expand e t (λ u.
    need_both u Y15 (type_span t) (
    give (extended e (one_value x u))))
-- `run P`: P.
rule e (declaration (run_dec s p)) = check e (process p) (give e)
-- `val p = v`: where p is complete it gives a type, and v has that. Else v gives a type, and p goes against that.
rule e (declaration (let_dec s p v)) =
    if is_complete e.names e.context p
    then part e (pattern_gives p) (λ g.
    check e (has v g.has) (
    give (extended e g.adds)))
    else part e (gives v) (λ t.
    part e (pattern_against p t) (λ x.
    give (extended e x)))
-- `v;` is `val [] = v`.
rule e (declaration (await_dec s v)) = check e (has v empty_record) (give e)
-- `def`: the types of all names, then all bodies, where the names are known.
rule e (declaration (def_dec s ds)) =
    part e (signatures ds) (λ ss.
    check (with_signatures e ss) (bodies ss) (
    give (with_signatures e ss)))
-- `type`: the type is expanded, under the parameters of an operator.
rule e (declaration (alias_dec s x t)) = expand e t (λ u. give (defined e x (Plain u)))
rule e (declaration (operator_dec s x xs t)) = expand (with_parameters_in e xs) t (λ u. give (defined e x (Op (length xs) u)))
rule e (declarations no_decs) = give e
rule e (declarations (more_decs ds d)) = part e (declarations ds) (λ f. part f (declaration d) give)
-- The abstractions of a `def`, in order, each finished before the next is looked at. A process abstraction: its pattern gives R,
-- and its name has `/R`, which is within the limits (K4 at the abstraction).
rule e (signatures no_definitions) = give []
rule e (signatures (more_definitions ds x a)) =
    part e (signatures ds) (λ ss.
    part e (signature x a) (λ s.
    give (ss ++ s ∷ [])))
rule e (signature x (process_abs s p q)) =
    part e (pattern_gives p) (λ g.
    within_limits e (Chan Respond g.has) s (
    give (record { name = x; has = Chan Respond g.has; adds = g.adds; body = process_body q })))
-- A function abstraction: its fields give; its result type is written (Y7 at the abstraction) and is expanded under their own
-- type binders. The record R of the fields and the result, and then `/R`, are within the limits (K4 at the abstraction).
rule e (signature x (function_abs s f None v)) = part e (fields_give f) (λ g. refuse Y7 s)
rule e (signature x (function_abs s f (Some a) v)) =
    part e (fields_give f) (λ g.
    expand (with_own e g.own) a (λ t.
    within_limits e (argument_type g t) s (
    within_limits e (Chan Respond (argument_type g t)) s (
    give (record { name = x; has = Chan Respond (argument_type g t); adds = within g.own g.adds; body = value_body v (shifted_by (opened g.adds) t) })))))
-- The bodies of a `def`, in order, each in what its pattern adds: a process; or a value, which has the result type.
rule e (bodies []) = done
rule e (bodies (s ∷ ss)) =
    check (extended e s.adds) (body s.body) (
    check e (bodies ss) done)
rule e (body (process_body q)) = check e (process q) done
rule e (body (value_body v t)) = check e (has v t) done
-- PROCESSES

-- A send: the channel gives a type, which exposes to a channel type (Y1 at the channel) but for `?T` (Y2 at the channel); the
-- message has the type that it carries.
rule e (process (send_proc s c v)) =
    part e (gives (of_chan c)) (λ t.
    need_channel (exposure (context_of e) t) Y1 (chan_span c) (λ m u.
    ensure (may_send m) Y2 (chan_span c) (
    check e (has v u) done)))
-- A receive and a serve: the channel gives a type, which exposes to a channel type (Y1 at the channel), to `^T` or `?T` (Y3 at
-- the channel); the abstraction goes against T.
rule e (process (receive_proc s c a)) = check e (receives c a) done
rule e (process (serve_proc s c a)) = check e (receives c a) done
rule e (receives c a) =
    part e (gives (of_chan c)) (λ t.
    need_channel (exposure (context_of e) t) Y1 (chan_span c) (λ m u.
    ensure (may_receive m) Y3 (chan_span c) (
    check e (abstraction_against a u) done)))
-- A conditional: its condition is a `Bool`; then both branches.
rule e (process (if_proc s c p q)) =
    check e (is_condition c) (
    check e (process p) (
    check e (process q) done))
rule e (process (inert_proc s)) = done
-- A group: its declarations, then its processes.
rule e (process (group_proc s ds ps)) =
    part e (declarations ds) (λ d.
    check d (processes ps) done)
rule e (processes no_procs) = done
rule e (processes (more_procs ps p)) =
    check e (processes ps) (
    check e (process p) done)
