-- Each state but `stop` can be finished: some tokens lead on to the end of declarations.
use Rattle.std.proofs.Common.{◌≡◌, List, [], ◌∷◌, ◌++◌, refl, None, Some}
use Rattle.pict_syntax.specs.declared.name.Name.{Name}
use Rattle.pict_syntax.specs.declared.span.Span.{Span}
use Rattle.pict_syntax.specs.declared.id.Id.{Id}
use Rattle.pict_syntax.specs.declared.type_tree.Mark.{Mark}
use Rattle.pict_syntax.specs.declared.type_tree.Mark.TheVariants as mark
use Rattle.pict_syntax.specs.declared.token.Token.{Token}
use Rattle.pict_syntax.specs.declared.token.TokenKind.{TokenKind}
use Rattle.pict_syntax.specs.declared.token.TokenKind.TheVariants.{Identifier, Keyword, Character, Sign}
use Rattle.pict_syntax.specs.declared.token.Keyword.TheVariants.{Else, Rec, Then, TopType, TypeKind}
use Rattle.pict_syntax.specs.declared.token.Sign.TheVariants.{Bang, Equals, OpenParen, CloseParen, CloseBracket, Colon, Semicolon, Less, Underscore, Arrow}
use Rattle.pict_syntax.specs.Trees.{KindTree, plain_kind, operator_kind, TypeTree, top_type, fields_type, apply_type, rec_type, TypeBinder, type_binder, bound, TypeTrees, no_types, more_types, TypeBinders, no_binders, more_binders, no_labelled_types, more_labelled_types, Pat, bind_pat, any_pat, fields_pat, fold_pat, FieldPats, field_pats, Pats, no_pats, more_pats, LabelledPats, no_labelled_pats, more_labelled_pats, Dec, new_dec, run_dec, let_dec, def_dec, alias_dec, operator_dec, await_dec, Decs, no_decs, more_decs, Definitions, more_definitions, Abs, process_abs, function_abs, Chan, use_chan, fold_chan, block_chan, apply_chan, Val, of_chan, character_val, fields_val, if_val, lambda_val, Vals, no_vals, more_vals, field_vals, LabelledVals, no_labelled_vals, more_labelled_vals, Proc, send_proc, receive_proc, serve_proc, if_proc, inert_proc, group_proc, no_procs, more_procs}
use Rattle.pict_syntax.specs.Phrases.{token, join}
use Rattle.pict_syntax.specs.Grammar.{type_span, pat_span, abs_span, chan_span, val_span, proc_span}
use Rattle.pict_automaton.specs.Places.{Side, side_channel, asks_once, asks_always, prefixed, ValuePlace, in_let, in_function, in_send, in_side, in_field, in_label, in_fold, in_else, waiting, Wait, at_top, in_test, in_then, in_paren, ProcessPlace, in_run, in_process, in_else_process, in_bar, in_then_process, EitherPlace, in_paren_either, in_then_either, ProcessPlaces, process_only, process_either, ValuePlaces, value_only, value_either, Place, for_value, for_process, for_either, DeclarationPlace, top_declarations, paren_declarations, AbstractionPlace, in_definition, in_lambda, in_input, FieldsPlace, in_record, in_apply, PatternPlace, in_let_pattern, in_abstraction_pattern, in_fold_pattern, in_field_pattern, in_label_pattern, FieldPatternsPlace, in_pattern_record, in_parameters, TypePlace, in_new, in_alias, in_operator, in_bind, in_any, in_result, in_pattern_fold_type, in_fold_type, in_bound, in_prefix, in_type_field, in_type_label, in_type_apply, in_rec, in_argument, BinderPlace, of_patterns, of_types, State, stop, need, fresh_name, arguments, have_channel, have_value, have_either, have_process, have_processes, new_keyword, new_name, let_pattern, definition_keyword, have_definition, type_keyword, alias_name, operator_open, operator_parameters, operator_closed, need_abstraction, abstraction_open, abstraction_pattern, abstraction_parameters, abstraction_result, need_pattern, pattern_open, pattern_rec, pattern_folded, have_bind, have_any, after_binders, after_patterns, pattern_name, after_pattern_labels, pattern_label, binder_hash, binder_name, need_kind, kind_arguments, kind_mark, kind_arrow, kind_result, binder_kind, need_type, type_open, rec_keyword, rec_name, rec_body, operator_arguments, after_type_binders, after_types, type_name, after_type_labels, type_label, fold_keyword, fold_body, after_arguments, after_values, value_name, after_labels, value_label}
use Rattle.pict_automaton.specs.Machine.{id, then_place, put_declaration, put_abstraction, put_process, put_processes, put_value, put_values, put_channel, put_pattern, put_binder, put_type, close_paren, step, run, ended}

-- some tokens lead to the end of declarations
pub record Finishes (x : State) : Type 0 where
  pub rest : List Token
  pub program : Decs
  pub ends : ended (run x rest) ≡ Some program

here : Span
here = record { text = 0; start = 0; end = 0 }

abbrev then_token : {x : State} (k : TokenKind) → Finishes (step k here x) → Finishes x
then_token k f = record { rest = token k here ∷ f.rest; program = f.program; ends = f.ends }

a_name : Name
a_name = record { 0 = 0 }

-- `'\x00'`, `( )`
abbrev some_value : Val
some_value = character_val here 0

abbrev some_process : Proc
some_process = inert_proc (join here here)

abbrev then_value : {x : State} → Finishes (step (Character 0) here x) → Finishes x
then_value f = then_token (Character 0) f

abbrev then_process : {x : State} → Finishes (step (Sign CloseParen) here (step (Sign OpenParen) here x)) → Finishes x
then_process f = then_token (Sign OpenParen) (then_token (Sign CloseParen) f)

finish_send : (q : ProcessPlaces) (c : Chan) → ((r : Proc) → Finishes (put_processes r q)) → Finishes (have_channel c q)
finish_send q c f = then_token (Sign Bang) (then_value (f (send_proc (join (chan_span c) here) c some_value)))

finish_else : (q : ValuePlaces) (i : Span) (a b : Val) → ((v : Val) → Finishes (put_values v q)) → Finishes (need (for_value (in_else i a b q)))
finish_else q i a b f = then_value (f (if_val (join i here) a b some_value))

finish_else_process : (q : ProcessPlaces) (i : Span) (a : Val) (r : Proc) → ((r : Proc) → Finishes (put_processes r q)) → Finishes (need (for_process (in_else_process i a r q)))
finish_else_process q i a r f = then_process (f (if_proc (join i here) a r some_process))

finish_paren : (o : Span) (ds : Decs) (v : Val) (q : Place) → ((c : Chan) → Finishes (put_channel c q)) → Finishes (close_paren here v o ds q)
finish_paren o no_decs v q f = f (apply_chan (join o here) v (field_vals no_types no_vals no_labelled_vals))
finish_paren o (more_decs ds d) v q f = f (block_chan (join o here) (more_decs ds d) v)

finish_side : (d : Side) (o : Span) (x : Id) (vs : Vals) (v : Val) (q : Place) → ((c : Chan) → Finishes (put_channel c q)) → Finishes (arguments d o x (more_vals vs v) q)
finish_side d o x vs v q f = then_value (then_token (Sign CloseParen) (f (side_channel d (join o here) x (more_vals (more_vals vs v) some_value))))

-- `then` and what follows it
finish_then_value : (p : ValuePlace) (i : Span) (a : Val) → ((v : Val) → Finishes (put_value v p)) → Finishes (need (for_value (waiting (in_then i a p))))
finish_then_value p i a f = then_value (then_token (Keyword Else) (finish_else (value_only p) i a some_value f))

finish_then_process : (q : ProcessPlace) (i : Span) (a : Val) → ((r : Proc) → Finishes (put_process r q)) → Finishes (need (for_process (in_then_process i a q)))
finish_then_process q i a f = then_process (then_token (Keyword Else) (finish_else_process (process_only q) i a some_process f))

finish_then_either : (p : EitherPlace) (i : Span) (a : Val) → ((v : Val) → Finishes (have_either v p)) → Finishes (need (for_either (in_then_either i a p)))
finish_then_either p i a f = then_value (then_token (Keyword Else) (finish_else (value_either p) i a some_value f))

mutual
  finish_value : (p : ValuePlace) (v : Val) → Finishes (put_value v p)
  finish_value (in_let i r p) v = finish_declaration p (let_dec (join i (val_span v)) r v)
  finish_value (in_function o f r p) v = finish_abstraction p (function_abs (join o (val_span v)) f r v)
  finish_value (in_send c p) v = finish_processes p (send_proc (join (chan_span c) (val_span v)) c v)
  finish_value (in_side d o x vs q) v = finish_side d o x vs v q (λ c. finish_channel q c)
  finish_value (in_field p ts vs) v = finish_values p ts (more_vals vs v)
  finish_value (in_label p ts vs ls x) v = finish_labels p ts vs (more_labelled_vals ls x v)
  finish_value (in_fold o r q) v = then_token (Sign CloseParen) (finish_channel q (fold_chan (join o here) r v))
  finish_value (in_else i a b p) v = finish_item p (if_val (join i (val_span v)) a b v)
  finish_value (waiting w) v = finish_wait w v

  finish_item : (p : ValuePlaces) (v : Val) → Finishes (put_values v p)
  finish_item (value_only p) v = finish_value p v
  finish_item (value_either p) v = finish_either p v

  finish_wait : (w : Wait) (v : Val) → Finishes (have_value v w)
  finish_wait (at_top ds) v = then_token (Sign Semicolon) (record { rest = []; program = more_decs ds (await_dec (join (val_span v) here) v); ends = refl })
  finish_wait (in_test i q) v = then_token (Keyword Then) (finish_then q i v)
  finish_wait (in_then i a p) v = then_token (Keyword Else) (finish_else (value_only p) i a v (λ w. finish_value p w))
  finish_wait (in_paren o ds p) v = then_token (Sign CloseParen) (finish_paren o ds v (for_value p) (λ c. finish_value p (of_chan c)))

  finish_then : (q : Place) (i : Span) (a : Val) → Finishes (need (then_place i a q))
  finish_then (for_value p) i a = finish_then_value p i a (λ v. finish_value p v)
  finish_then (for_process p) i a = finish_then_process p i a (λ r. finish_one_process p r)
  finish_then (for_either p) i a = finish_then_either p i a (λ v. finish_either p v)

  finish_either : (p : EitherPlace) (v : Val) → Finishes (have_either v p)
  finish_either (in_paren_either o ds (process_only p)) v = then_token (Sign CloseParen) (finish_paren o ds v (for_process p) (λ c. finish_send (process_only p) c (λ r. finish_one_process p r)))
  finish_either (in_paren_either o ds (process_either p)) v = then_token (Sign CloseParen) (finish_paren o ds v (for_either p) (λ c. finish_send (process_either p) c (λ r. finish_either_process p r)))
  finish_either (in_then_either i a p) v = then_token (Keyword Else) (finish_else (value_either p) i a v (λ w. finish_either p w))

  finish_either_process : (p : EitherPlace) (r : Proc) → Finishes (put_processes r (process_either p))
  finish_either_process (in_paren_either o ds q) r = then_token (Sign CloseParen) (finish_processes q (group_proc (join o here) ds (more_procs no_procs r)))
  finish_either_process (in_then_either i a p) r = then_token (Keyword Else) (finish_else_process (process_either p) i a r (λ s. finish_either_process p s))

  finish_one_process : (p : ProcessPlace) (r : Proc) → Finishes (put_process r p)
  finish_one_process (in_run i p) r = finish_declaration p (run_dec (join i (proc_span r)) r)
  finish_one_process (in_process q p) r = finish_abstraction p (process_abs (join (pat_span q) (proc_span r)) q r)
  finish_one_process (in_else_process i a q p) r = finish_processes p (if_proc (join i (proc_span r)) a q r)
  finish_one_process (in_bar o ds rs p) r = then_token (Sign CloseParen) (finish_processes p (group_proc (join o here) ds (more_procs rs r)))
  finish_one_process (in_then_process i a p) r = then_token (Keyword Else) (finish_else_process (process_only p) i a r (λ s. finish_one_process p s))

  finish_processes : (q : ProcessPlaces) (r : Proc) → Finishes (put_processes r q)
  finish_processes (process_only p) r = finish_one_process p r
  finish_processes (process_either p) r = finish_either_process p r

  finish_channel : (q : Place) (c : Chan) → Finishes (put_channel c q)
  finish_channel (for_value p) c = finish_value p (of_chan c)
  finish_channel (for_process p) c = finish_send (process_only p) c (λ r. finish_one_process p r)
  finish_channel (for_either p) c = finish_send (process_either p) c (λ r. finish_either_process p r)

  finish_declaration : (p : DeclarationPlace) (d : Dec) → Finishes (put_declaration d p)
  finish_declaration (top_declarations ds) d = record { rest = []; program = more_decs ds d; ends = refl }
  finish_declaration (paren_declarations o ds (for_value p)) d = then_value (then_token (Sign CloseParen) (finish_value p (of_chan (block_chan (join o here) (more_decs ds d) some_value))))
  finish_declaration (paren_declarations o ds (for_process p)) d = then_value (then_token (Sign CloseParen) (finish_send (process_only p) (block_chan (join o here) (more_decs ds d) some_value) (λ r. finish_one_process p r)))
  finish_declaration (paren_declarations o ds (for_either p)) d = then_value (then_token (Sign CloseParen) (finish_send (process_either p) (block_chan (join o here) (more_decs ds d) some_value) (λ r. finish_either_process p r)))

  finish_definition : (p : DeclarationPlace) (i : Span) (ds : Definitions) (x : Id) (a : Abs) → Finishes (have_definition i ds x a p)
  finish_definition (top_declarations es) i ds x a = record { rest = []; program = more_decs es (def_dec (join i (abs_span a)) (more_definitions ds x a)); ends = refl }
  finish_definition (paren_declarations o es (for_value p)) i ds x a = then_value (then_token (Sign CloseParen) (finish_value p (of_chan (block_chan (join o here) (more_decs es (def_dec (join i (abs_span a)) (more_definitions ds x a))) some_value))))
  finish_definition (paren_declarations o es (for_process p)) i ds x a = then_value (then_token (Sign CloseParen) (finish_send (process_only p) (block_chan (join o here) (more_decs es (def_dec (join i (abs_span a)) (more_definitions ds x a))) some_value) (λ r. finish_one_process p r)))
  finish_definition (paren_declarations o es (for_either p)) i ds x a = then_value (then_token (Sign CloseParen) (finish_send (process_either p) (block_chan (join o here) (more_decs es (def_dec (join i (abs_span a)) (more_definitions ds x a))) some_value) (λ r. finish_either_process p r)))

  finish_abstraction : (p : AbstractionPlace) (a : Abs) → Finishes (put_abstraction a p)
  finish_abstraction (in_definition i ds x p) a = finish_definition p i ds x a
  finish_abstraction (in_lambda i p) a = finish_item p (lambda_val (join i (abs_span a)) a)
  finish_abstraction (in_input asks_once c p) a = finish_processes p (receive_proc (join (chan_span c) (abs_span a)) c a)
  finish_abstraction (in_input asks_always c p) a = finish_processes p (serve_proc (join (chan_span c) (abs_span a)) c a)

  finish_values : (p : FieldsPlace) (ts : TypeTrees) (vs : Vals) → Finishes (after_values p ts vs)
  finish_values (in_record o p) ts vs = then_token (Sign CloseBracket) (finish_item p (fields_val (join o here) (field_vals ts vs no_labelled_vals)))
  finish_values (in_apply o v q) ts vs = then_token (Sign CloseParen) (finish_channel q (apply_chan (join o here) v (field_vals ts vs no_labelled_vals)))

  finish_labels : (p : FieldsPlace) (ts : TypeTrees) (vs : Vals) (ls : LabelledVals) → Finishes (after_labels p ts vs ls)
  finish_labels (in_record o p) ts vs ls = then_token (Sign CloseBracket) (finish_item p (fields_val (join o here) (field_vals ts vs ls)))
  finish_labels (in_apply o v q) ts vs ls = then_token (Sign CloseParen) (finish_channel q (apply_chan (join o here) v (field_vals ts vs ls)))

finish_arguments : (p : FieldsPlace) (ts : TypeTrees) → Finishes (after_arguments p ts)
finish_arguments (in_record o p) ts = then_token (Sign CloseBracket) (finish_item p (fields_val (join o here) (field_vals ts no_vals no_labelled_vals)))
finish_arguments (in_apply o v q) ts = then_token (Sign CloseParen) (finish_channel q (apply_chan (join o here) v (field_vals ts no_vals no_labelled_vals)))

finish_value_name : (p : FieldsPlace) (ts : TypeTrees) (vs : Vals) (x : Id) → Finishes (value_name p ts vs x)
finish_value_name p ts vs x = then_token (Sign Equals) (then_value (finish_labels p ts vs (more_labelled_vals no_labelled_vals x some_value)))

finish_parameters : (o : Span) (f : FieldPats) (p : AbstractionPlace) → Finishes (abstraction_parameters o f p)
finish_parameters o f p = then_token (Sign Equals) (then_value (finish_abstraction p (function_abs (join o here) f None some_value)))

finish_result : (o : Span) (f : FieldPats) (t : TypeTree) (p : AbstractionPlace) → Finishes (abstraction_result o f t p)
finish_result o f t p = then_token (Sign Equals) (then_value (finish_abstraction p (function_abs (join o here) f (Some t) some_value)))

finish_let : (i : Span) (q : Pat) (p : DeclarationPlace) → Finishes (let_pattern i q p)
finish_let i q p = then_token (Sign Equals) (then_value (finish_declaration p (let_dec (join i here) q some_value)))

finish_process : (q : Pat) (p : AbstractionPlace) → Finishes (abstraction_pattern q p)
finish_process q p = then_token (Sign Equals) (then_process (finish_abstraction p (process_abs (join (pat_span q) here) q some_process)))

-- patterns
mutual
  finish_pattern : (p : PatternPlace) (q : Pat) → Finishes (put_pattern q p)
  finish_pattern (in_let_pattern i p) q = finish_let i q p
  finish_pattern (in_abstraction_pattern p) q = finish_process q p
  finish_pattern (in_fold_pattern o r p) q = then_token (Sign CloseParen) (finish_pattern p (fold_pat (join o here) r q))
  finish_pattern (in_field_pattern p bs ps) q = finish_patterns p bs (more_pats ps q)
  finish_pattern (in_label_pattern p bs ps ls x) q = finish_pattern_labels p bs ps (more_labelled_pats ls x q)

  finish_patterns : (p : FieldPatternsPlace) (bs : TypeBinders) (ps : Pats) → Finishes (after_patterns p bs ps)
  finish_patterns (in_pattern_record o p) bs ps = then_token (Sign CloseBracket) (finish_pattern p (fields_pat (join o here) (field_pats bs ps no_labelled_pats)))
  finish_patterns (in_parameters o p) bs ps = then_token (Sign CloseParen) (finish_parameters o (field_pats bs ps no_labelled_pats) p)

  finish_pattern_labels : (p : FieldPatternsPlace) (bs : TypeBinders) (ps : Pats) (ls : LabelledPats) → Finishes (after_pattern_labels p bs ps ls)
  finish_pattern_labels (in_pattern_record o p) bs ps ls = then_token (Sign CloseBracket) (finish_pattern p (fields_pat (join o here) (field_pats bs ps ls)))
  finish_pattern_labels (in_parameters o p) bs ps ls = then_token (Sign CloseParen) (finish_parameters o (field_pats bs ps ls) p)

finish_binders : (p : FieldPatternsPlace) (bs : TypeBinders) → Finishes (after_binders p bs)
finish_binders (in_pattern_record o p) bs = then_token (Sign CloseBracket) (finish_pattern p (fields_pat (join o here) (field_pats bs no_pats no_labelled_pats)))
finish_binders (in_parameters o p) bs = then_token (Sign CloseParen) (finish_parameters o (field_pats bs no_pats no_labelled_pats) p)

-- behind `_`
finish_any : (p : PatternPlace) (j : Span) → Finishes (have_any j p)
finish_any (in_let_pattern i p) j = then_token (Sign Equals) (then_value (finish_declaration p (let_dec (join i here) (any_pat j None) some_value)))
finish_any (in_abstraction_pattern p) j = then_token (Sign Equals) (then_process (finish_abstraction p (process_abs (join j here) (any_pat j None) some_process)))
finish_any (in_fold_pattern o r p) j = then_token (Sign CloseParen) (finish_pattern p (fold_pat (join o here) r (any_pat j None)))
finish_any (in_field_pattern (in_pattern_record o p) bs ps) j = then_token (Sign CloseBracket) (finish_pattern p (fields_pat (join o here) (field_pats bs (more_pats ps (any_pat j None)) no_labelled_pats)))
finish_any (in_field_pattern (in_parameters o p) bs ps) j = then_token (Sign CloseParen) (finish_parameters o (field_pats bs (more_pats ps (any_pat j None)) no_labelled_pats) p)
finish_any (in_label_pattern (in_pattern_record o p) bs ps ls x) j = then_token (Sign CloseBracket) (finish_pattern p (fields_pat (join o here) (field_pats bs ps (more_labelled_pats ls x (any_pat j None)))))
finish_any (in_label_pattern (in_parameters o p) bs ps ls x) j = then_token (Sign CloseParen) (finish_parameters o (field_pats bs ps (more_labelled_pats ls x (any_pat j None))) p)

-- types
mutual
  finish_type : (p : TypePlace) (t : TypeTree) → Finishes (put_type t p)
  finish_type (in_new i x p) t = finish_declaration p (new_dec (join i (type_span t)) x t)
  finish_type (in_alias i x p) t = finish_declaration p (alias_dec (join i (type_span t)) x t)
  finish_type (in_operator i x ys p) t = finish_declaration p (operator_dec (join i (type_span t)) x ys t)
  finish_type (in_bind x p) t = finish_pattern p (bind_pat (join x.span (type_span t)) x (Some t))
  finish_type (in_any i p) t = finish_pattern p (any_pat (join i (type_span t)) (Some t))
  finish_type (in_result o f p) t = finish_result o f t p
  finish_type (in_pattern_fold_type o p) t = then_token (Sign Underscore) (finish_any (in_fold_pattern o (Some t) p) here)
  finish_type (in_fold_type o q) t = then_value (then_token (Sign CloseParen) (finish_channel q (fold_chan (join o here) (Some t) some_value)))
  finish_type (in_bound h x k p) t = finish_binder p (type_binder (join h (type_span t)) x k (bound t))
  finish_type (in_prefix m i p) t = finish_type p (prefixed m (join i (type_span t)) t)
  finish_type (in_type_field o bs ts p) t = then_token (Sign CloseBracket) (finish_type p (fields_type (join o here) bs (more_types ts t) no_labelled_types))
  finish_type (in_type_label o bs ts ls x p) t = then_token (Sign CloseBracket) (finish_type p (fields_type (join o here) bs ts (more_labelled_types ls x t)))
  finish_type (in_type_apply o x ts p) t = then_token (Sign CloseParen) (finish_type p (apply_type (join o here) x (more_types ts t)))
  finish_type (in_rec o x p) t = then_token (Sign CloseParen) (finish_type p (rec_type (join o here) x t))
  finish_type (in_argument p ts) t = finish_arguments p (more_types ts t)

  finish_binder : (p : BinderPlace) (b : TypeBinder) → Finishes (put_binder b p)
  finish_binder (of_patterns p bs) b = finish_binders p (more_binders bs b)
  finish_binder (of_types o bs p) b = then_token (Sign CloseBracket) (finish_type p (fields_type (join o here) (more_binders bs b) no_types no_labelled_types))

-- `Top`, where a type is to come
finish_need_type : (p : TypePlace) → Finishes (need_type p)
finish_need_type p = then_token (Keyword TopType) (finish_type p (top_type here))

-- behind a kind, `< Top`
finish_kind : (h : Span) (x : Id) (c : KindTree) (j : Span) (p : BinderPlace) → Finishes (binder_kind h x c j p)
finish_kind h x c j p = then_token (Sign Less) (finish_need_type (in_bound h x (Some c) p))

finish_kind_arrow : (h : Span) (x : Id) (ms : List Mark) (p : BinderPlace) → Finishes (kind_arrow h x ms p)
finish_kind_arrow h x ms p = then_token (Keyword TypeKind) (then_token (Sign CloseParen) (finish_kind h x (operator_kind ms) here p))

finish_kind_arguments : (h : Span) (x : Id) (ms : List Mark) (p : BinderPlace) → Finishes (kind_arguments h x ms p)
finish_kind_arguments h x [] p = then_token (Keyword TypeKind) (then_token (Sign Arrow) (finish_kind_arrow h x (mark.Plain ∷ []) p))
finish_kind_arguments h x (m ∷ ms) p = then_token (Sign Arrow) (finish_kind_arrow h x (m ∷ ms) p)

finish_need : (q : Place) → Finishes (need q)
finish_need (for_value p) = then_value (finish_value p some_value)
finish_need (for_process p) = then_process (finish_one_process p some_process)
finish_need (for_either p) = then_value (finish_either p some_value)

finish_fresh : (o : Span) (x : Id) (q : Place) → Finishes (fresh_name o x q)
finish_fresh o x (for_value p) = then_token (Sign CloseParen) (finish_channel (for_value p) (apply_chan (join o here) (of_chan (use_chan x.span x.name)) (field_vals no_types no_vals no_labelled_vals)))
finish_fresh o x (for_process p) = then_token (Sign CloseParen) (finish_channel (for_process p) (apply_chan (join o here) (of_chan (use_chan x.span x.name)) (field_vals no_types no_vals no_labelled_vals)))
finish_fresh o x (for_either p) = then_token (Sign CloseParen) (finish_channel (for_either p) (apply_chan (join o here) (of_chan (use_chan x.span x.name)) (field_vals no_types no_vals no_labelled_vals)))

finish_need_pattern : (p : PatternPlace) → Finishes (need_pattern p)
finish_need_pattern p = then_token (Sign Underscore) (finish_any p here)

finish_need_abstraction : (p : AbstractionPlace) → Finishes (need_abstraction p)
finish_need_abstraction p = then_token (Sign Underscore) (finish_any (in_abstraction_pattern p) here)

finish_definition_keyword : (i : Span) (ds : Definitions) (p : DeclarationPlace) → Finishes (definition_keyword i ds p)
finish_definition_keyword i ds p = then_token (Identifier a_name) (finish_need_abstraction (in_definition i ds (id a_name here) p))

-- the machine goes on
abbrev pub Going : State → Type 0
Going stop = ⊥
Going _ = Unit {0}

pub finishes : (x : State) → Going x → Finishes x
finishes stop g = absurd g
finishes (need q) g = finish_need q
finishes (fresh_name o x q) g = finish_fresh o x q
finishes (arguments d o x vs q) g = then_value (finish_side d o x vs some_value q (λ c. finish_channel q c))
finishes (have_channel c q) g = finish_send q c (λ r. finish_processes q r)
finishes (have_value v w) g = finish_wait w v
finishes (have_either v p) g = finish_either p v
finishes (have_process r i a q) g = then_token (Keyword Else) (finish_else_process q i a r (λ s. finish_processes q s))
finishes (have_processes o ds rs r q) g = then_token (Sign CloseParen) (finish_processes q (group_proc (join o here) ds (more_procs rs r)))
finishes (new_keyword i p) g = then_token (Identifier a_name) (then_token (Sign Colon) (finish_need_type (in_new i (id a_name here) p)))
finishes (new_name i x p) g = then_token (Sign Colon) (finish_need_type (in_new i x p))
finishes (let_pattern i q p) g = finish_let i q p
finishes (definition_keyword i ds p) g = finish_definition_keyword i ds p
finishes (have_definition i ds x a p) g = finish_definition p i ds x a
finishes (type_keyword i p) g = then_token (Identifier a_name) (then_token (Sign Equals) (finish_need_type (in_alias i (id a_name here) p)))
finishes (alias_name i x p) g = then_token (Sign Equals) (finish_need_type (in_alias i x p))
finishes (operator_open i p) g = then_token (Identifier a_name) (then_token (Identifier a_name) (then_token (Sign CloseParen) (then_token (Sign Equals) (finish_need_type (in_operator i (id a_name here) (id a_name here ∷ []) p)))))
finishes (operator_parameters i x [] p) g = then_token (Identifier a_name) (then_token (Sign CloseParen) (then_token (Sign Equals) (finish_need_type (in_operator i x (id a_name here ∷ []) p))))
finishes (operator_parameters i x (y ∷ ys) p) g = then_token (Sign CloseParen) (then_token (Sign Equals) (finish_need_type (in_operator i x (y ∷ ys) p)))
finishes (operator_closed i x ys p) g = then_token (Sign Equals) (finish_need_type (in_operator i x ys p))
finishes (need_abstraction p) g = finish_need_abstraction p
finishes (abstraction_open o p) g = then_token (Sign CloseParen) (finish_parameters o (field_pats no_binders no_pats no_labelled_pats) p)
finishes (abstraction_pattern q p) g = finish_process q p
finishes (abstraction_parameters o f p) g = finish_parameters o f p
finishes (abstraction_result o f t p) g = finish_result o f t p
finishes (need_pattern p) g = finish_need_pattern p
finishes (pattern_open o p) g = then_token (Keyword Rec) (then_token (Sign Underscore) (finish_any (in_fold_pattern o None p) here))
finishes (pattern_rec o p) g = then_token (Sign Underscore) (finish_any (in_fold_pattern o None p) here)
finishes (pattern_folded o r q p) g = then_token (Sign CloseParen) (finish_pattern p (fold_pat (join o here) r q))
finishes (have_bind x p) g = then_token (Sign Colon) (finish_need_type (in_bind x p))
finishes (have_any j p) g = finish_any p j
finishes (after_binders p bs) g = finish_binders p bs
finishes (after_patterns p bs ps) g = finish_patterns p bs ps
finishes (pattern_name p bs ps x) g = then_token (Sign Colon) (finish_need_type (in_bind x (in_field_pattern p bs ps)))
finishes (after_pattern_labels p bs ps ls) g = finish_pattern_labels p bs ps ls
finishes (pattern_label p bs ps ls x) g = then_token (Sign Equals) (finish_need_pattern (in_label_pattern p bs ps ls x))
finishes (binder_hash h p) g = then_token (Identifier a_name) (then_token (Sign Less) (finish_need_type (in_bound h (id a_name here) None p)))
finishes (binder_name h x p) g = then_token (Sign Less) (finish_need_type (in_bound h x None p))
finishes (need_kind h x p) g = then_token (Keyword TypeKind) (finish_kind h x plain_kind here p)
finishes (kind_arguments h x ms p) g = finish_kind_arguments h x ms p
finishes (kind_mark h x ms m p) g = then_token (Keyword TypeKind) (finish_kind_arguments h x (ms ++ m ∷ []) p)
finishes (kind_arrow h x ms p) g = finish_kind_arrow h x ms p
finishes (kind_result h x ms p) g = then_token (Sign CloseParen) (finish_kind h x (operator_kind ms) here p)
finishes (binder_kind h x c j p) g = finish_kind h x c j p
finishes (need_type p) g = finish_need_type p
finishes (type_open o p) g = then_token (Identifier a_name) (then_token (Keyword TopType) (then_token (Sign CloseParen) (finish_type p (apply_type (join o here) (id a_name here) (more_types no_types (top_type here))))))
finishes (rec_keyword o p) g = then_token (Identifier a_name) (then_token (Sign Equals) (finish_need_type (in_rec o (id a_name here) p)))
finishes (rec_name o x p) g = then_token (Sign Equals) (finish_need_type (in_rec o x p))
finishes (rec_body o x t p) g = then_token (Sign CloseParen) (finish_type p (rec_type (join o here) x t))
finishes (operator_arguments o x ts p) g = then_token (Keyword TopType) (then_token (Sign CloseParen) (finish_type p (apply_type (join o here) x (more_types ts (top_type here)))))
finishes (after_type_binders o bs p) g = then_token (Sign CloseBracket) (finish_type p (fields_type (join o here) bs no_types no_labelled_types))
finishes (after_types o bs ts p) g = then_token (Sign CloseBracket) (finish_type p (fields_type (join o here) bs ts no_labelled_types))
finishes (type_name o bs ts x p) g = then_token (Sign Equals) (finish_need_type (in_type_label o bs ts no_labelled_types x p))
finishes (after_type_labels o bs ts ls p) g = then_token (Sign CloseBracket) (finish_type p (fields_type (join o here) bs ts ls))
finishes (type_label o bs ts ls x p) g = then_token (Sign Equals) (finish_need_type (in_type_label o bs ts ls x p))
finishes (fold_keyword o q) g = then_value (then_token (Sign CloseParen) (finish_channel q (fold_chan (join o here) None some_value)))
finishes (fold_body o r v q) g = then_token (Sign CloseParen) (finish_channel q (fold_chan (join o here) r v))
finishes (after_arguments p ts) g = finish_arguments p ts
finishes (after_values p ts vs) g = finish_values p ts vs
finishes (value_name p ts vs x) g = finish_value_name p ts vs x
finishes (after_labels p ts vs ls) g = finish_labels p ts vs ls
finishes (value_label p ts vs ls x) g = then_token (Sign Equals) (then_value (finish_labels p ts vs (more_labelled_vals ls x some_value)))
