-- Behind each state of the parser a token may stand wherever another one of its kind may.
use Rattle.std.proofs.Common.{List, None}
use Rattle.pict_syntax.specs.declared.name.Name.{Name}
use Rattle.pict_syntax.specs.declared.span.Span.{Span}
use Rattle.pict_syntax.specs.declared.id.Id.{Id}
use Rattle.pict_syntax.specs.declared.token.TokenKind.{TokenKind}
use Rattle.pict_syntax.specs.declared.token.TokenKind.TheVariants.{Identifier, Symbol, Keyword, Number, Character, String, Sign}
use Rattle.pict_syntax.specs.declared.token.Keyword.{Keyword as AnyKeyword}
use Rattle.pict_syntax.specs.declared.token.Keyword.TheVariants.{And, Def, Else, False, If, New, Rec, Run, Then, True, TypeDefinition, Val as ValKeyword}
use Rattle.pict_syntax.specs.declared.token.Sign.{Sign as AnySign}
use Rattle.pict_syntax.specs.declared.token.Sign.TheVariants.{Bang, Question, QuestionStar, Equals, Bar, OpenParen, CloseParen, OpenBracket, CloseBracket, Colon, Semicolon, Less, Greater, Backslash, Hash}
use Rattle.pict_syntax.specs.Trees.{TypeTree, TypeTrees, no_types, no_binders, RType, FieldPats, def_dec, Decs, no_decs, more_decs, Definitions, more_definitions, Abs, Chan, use_chan, fold_chan, block_chan, apply_chan, Val, of_chan, number_val, character_val, string_val, true_val, false_val, fields_val, Vals, no_vals, more_vals, FieldVals, field_vals, LabelledVals, no_labelled_vals, Proc, inert_proc, group_proc, Procs, more_procs}
use Rattle.pict_syntax.specs.Phrases.{join}
use Rattle.pict_syntax.specs.Grammar.{abs_span}
use Rattle.pict_automaton.specs.Places.{Side, side_channel, ValuePlace, in_side, in_field, in_fold, waiting, Wait, at_top, in_test, in_then, in_paren, ProcessPlace, EitherPlace, in_paren_either, in_then_either, ProcessPlaces, process_only, process_either, ValuePlaces, value_only, value_either, Place, for_value, for_process, for_either, DeclarationPlace, top_declarations, paren_declarations, AbstractionPlace, FieldsPlace, in_record, in_apply, in_abstraction_pattern, in_parameters, State, stop, need, fresh_name, arguments, have_channel, have_value, have_either, have_process, have_processes, new_keyword, new_name, let_pattern, definition_keyword, have_definition, type_keyword, alias_name, operator_open, operator_parameters, operator_closed, need_abstraction, abstraction_open, abstraction_pattern, abstraction_parameters, abstraction_result, need_pattern, pattern_open, pattern_rec, pattern_folded, have_bind, have_any, after_binders, after_patterns, pattern_name, after_pattern_labels, pattern_label, binder_hash, binder_name, need_kind, kind_arguments, kind_mark, kind_arrow, kind_result, binder_kind, need_type, type_open, rec_keyword, rec_name, rec_body, operator_arguments, after_type_binders, after_types, type_name, after_type_labels, type_label, fold_keyword, fold_body, after_arguments, after_values, value_name, after_labels, value_label}
use Rattle.pict_automaton.specs.Machine.{of_processes, after_declaration, begin_declaration, begin_first, step_new_keyword, step_new_name, step_definition_keyword, step_type_keyword, step_alias_name, step_operator_open, step_operator_parameters, step_operator_closed, step_need_abstraction, step_abstraction_open, step_abstraction_parameters, step_abstraction_result, name_value, declaration_value, keyword_value, sign_value, begin_value, begin_process, name_either, declaration_either, keyword_either, close_inert, sign_either, begin_either, step_need, step_have_definition, close_values, step_values, step_value_name, step_labels, step_value_label, step_arguments_of, step_fold_keyword, step_fold_body, close_side, step_side, close_paren, step_first, step_paren, step_top, step_test, step_then, step_wait, step_either, step_channel_value, step_channel, step_used, step_fresh_name, step_process, step_processes, step}
use Rattle.pict_follow.proofs.Goes.{put_processes_goes, put_value_goes, put_values_goes, put_channel_goes}
use Rattle.pict_follow.proofs.Said.{Said, saying, Keeps}
use Rattle.pict_follow.proofs.KeepsTypes.{begin_type_keeps, step_type_open_keeps, step_rec_keyword_keeps, step_rec_name_keeps, step_rec_body_keeps, step_operator_arguments_keeps, step_types_keeps, step_type_name_keeps, step_type_labels_keeps, step_type_label_keeps, step_type_binders_keeps, begin_pattern_keeps, step_pattern_open_keeps, step_pattern_rec_keeps, step_pattern_folded_keeps, step_patterns_keeps, step_pattern_labels_keeps, step_pattern_label_keeps, step_binders_keeps, step_let_pattern_keeps, step_abstraction_pattern_keeps, step_bind_keeps, step_any_keeps, step_pattern_name_keeps, step_hash_keeps, step_binder_name_keeps, step_need_kind_keeps, step_kind_arguments_keeps, step_kind_mark_keeps, step_kind_arrow_keeps, step_kind_result_keeps, step_binder_kind_keeps}

module _ (w : Said) (here there : Span) where
  begin_declaration_keeps : (k : AnyKeyword) (p : DeclarationPlace) → Keeps (begin_declaration k here p) (begin_declaration k there p)
  begin_declaration_keeps New p g = g
  begin_declaration_keeps Run p g = g
  begin_declaration_keeps ValKeyword p g = g
  begin_declaration_keeps Def p g = g
  begin_declaration_keeps TypeDefinition p g = g
  begin_declaration_keeps _ p g = g

  begin_first_keeps : (k : AnyKeyword) (o : Span) (q : Place) (p : DeclarationPlace) → Keeps (begin_first k here o q p) (begin_first k there o q p)
  begin_first_keeps Rec o q p g = g
  begin_first_keeps k o q p g = begin_declaration_keeps k p g

  step_new_keyword_keeps : (k : TokenKind) (j : Span) (p : DeclarationPlace) → Keeps (step_new_keyword k here j p) (step_new_keyword (saying w k) there j p)
  step_new_keyword_keeps (Identifier n) j p g = g
  step_new_keyword_keeps _ j p g = g

  step_new_name_keeps : (k : TokenKind) (j : Span) (x : Id) (p : DeclarationPlace) → Keeps (step_new_name k here j x p) (step_new_name (saying w k) there j x p)
  step_new_name_keeps (Sign Colon) j x p g = g
  step_new_name_keeps _ j x p g = g

  step_definition_keyword_keeps : (k : TokenKind) (j : Span) (ds : Definitions) (p : DeclarationPlace) → Keeps (step_definition_keyword k here j ds p) (step_definition_keyword (saying w k) there j ds p)
  step_definition_keyword_keeps (Identifier n) j ds p g = g
  step_definition_keyword_keeps _ j ds p g = g

  step_type_keyword_keeps : (k : TokenKind) (j : Span) (p : DeclarationPlace) → Keeps (step_type_keyword k here j p) (step_type_keyword (saying w k) there j p)
  step_type_keyword_keeps (Identifier n) j p g = g
  step_type_keyword_keeps (Sign OpenParen) j p g = g
  step_type_keyword_keeps _ j p g = g

  step_alias_name_keeps : (k : TokenKind) (j : Span) (x : Id) (p : DeclarationPlace) → Keeps (step_alias_name k here j x p) (step_alias_name (saying w k) there j x p)
  step_alias_name_keeps (Sign Equals) j x p g = g
  step_alias_name_keeps _ j x p g = g

  step_operator_open_keeps : (k : TokenKind) (j : Span) (p : DeclarationPlace) → Keeps (step_operator_open k here j p) (step_operator_open (saying w k) there j p)
  step_operator_open_keeps (Identifier n) j p g = g
  step_operator_open_keeps _ j p g = g

  step_operator_parameters_keeps : (k : TokenKind) (j : Span) (x : Id) (ys : List Id) (p : DeclarationPlace) → Keeps (step_operator_parameters k here j x ys p) (step_operator_parameters (saying w k) there j x ys p)
  step_operator_parameters_keeps (Identifier n) j x ys p g = g
  step_operator_parameters_keeps (Sign CloseParen) j x ys p g = g
  step_operator_parameters_keeps _ j x ys p g = g

  step_operator_closed_keeps : (k : TokenKind) (j : Span) (x : Id) (ys : List Id) (p : DeclarationPlace) → Keeps (step_operator_closed k here j x ys p) (step_operator_closed (saying w k) there j x ys p)
  step_operator_closed_keeps (Sign Equals) j x ys p g = g
  step_operator_closed_keeps _ j x ys p g = g

  step_need_abstraction_keeps : (k : TokenKind) (p : AbstractionPlace) → Keeps (step_need_abstraction k here p) (step_need_abstraction (saying w k) there p)
  step_need_abstraction_keeps (Sign OpenParen) p g = g
  step_need_abstraction_keeps k p g = begin_pattern_keeps w here there k (in_abstraction_pattern p) g

  step_abstraction_open_keeps : (k : TokenKind) (o : Span) (p : AbstractionPlace) → Keeps (step_abstraction_open k here o p) (step_abstraction_open (saying w k) there o p)
  step_abstraction_open_keeps (Keyword Rec) o p g = g
  step_abstraction_open_keeps k o p g = step_binders_keeps w here there k (in_parameters o p) no_binders g

  step_abstraction_parameters_keeps : (k : TokenKind) (o : Span) (f : FieldPats) (p : AbstractionPlace) → Keeps (step_abstraction_parameters k here o f p) (step_abstraction_parameters (saying w k) there o f p)
  step_abstraction_parameters_keeps (Sign Colon) o f p g = g
  step_abstraction_parameters_keeps (Sign Equals) o f p g = g
  step_abstraction_parameters_keeps _ o f p g = g

  step_abstraction_result_keeps : (k : TokenKind) (o : Span) (f : FieldPats) (t : TypeTree) (p : AbstractionPlace) → Keeps (step_abstraction_result k here o f t p) (step_abstraction_result (saying w k) there o f t p)
  step_abstraction_result_keeps (Sign Equals) o f t p g = g
  step_abstraction_result_keeps _ o f t p g = g

  name_value_keeps : (n m : Name) (p : ValuePlace) → Keeps (name_value n here p) (name_value m there p)
  name_value_keeps n m (waiting (in_paren o no_decs p)) g = g
  name_value_keeps n m p g = put_value_goes p (of_chan (use_chan there m))

  declaration_value_keeps : (k : AnyKeyword) (p : ValuePlace) → Keeps (declaration_value k here p) (declaration_value k there p)
  declaration_value_keeps k (waiting (at_top ds)) g = begin_declaration_keeps k (top_declarations ds) g
  declaration_value_keeps k (waiting (in_paren o no_decs p)) g = begin_first_keeps k o (for_value p) (paren_declarations o no_decs (for_value p)) g
  declaration_value_keeps k (waiting (in_paren o (more_decs ds d) p)) g = begin_declaration_keeps k (paren_declarations o (more_decs ds d) (for_value p)) g
  declaration_value_keeps k p g = g

  keyword_value_keeps : (k : AnyKeyword) (p : ValuePlace) → Keeps (keyword_value k here p) (keyword_value k there p)
  keyword_value_keeps True p g = put_value_goes p (true_val there)
  keyword_value_keeps False p g = put_value_goes p (false_val there)
  keyword_value_keeps If p g = g
  keyword_value_keeps k p g = declaration_value_keeps k p g

  sign_value_keeps : (m : AnySign) (p : ValuePlace) → Keeps (sign_value m here p) (sign_value m there p)
  sign_value_keeps OpenParen p g = g
  sign_value_keeps OpenBracket p g = g
  sign_value_keeps Backslash p g = g
  sign_value_keeps _ p g = g

  begin_value_keeps : (k : TokenKind) (p : ValuePlace) → Keeps (begin_value k here p) (begin_value (saying w k) there p)
  begin_value_keeps (Identifier n) p g = name_value_keeps n w.name p g
  begin_value_keeps (Symbol y n) p g = name_value_keeps n w.name p g
  begin_value_keeps (Number n) p g = put_value_goes p (number_val there w.number)
  begin_value_keeps (Character b) p g = put_value_goes p (character_val there w.byte)
  begin_value_keeps (String b) p g = put_value_goes p (string_val there w.text)
  begin_value_keeps (Keyword k) p g = keyword_value_keeps k p g
  begin_value_keeps (Sign m) p g = sign_value_keeps m p g

  begin_process_keeps : (k : TokenKind) (p : ProcessPlace) → Keeps (begin_process k here p) (begin_process (saying w k) there p)
  begin_process_keeps (Identifier n) p g = g
  begin_process_keeps (Symbol y n) p g = g
  begin_process_keeps (Keyword If) p g = g
  begin_process_keeps (Sign OpenParen) p g = g
  begin_process_keeps _ p g = g

  name_either_keeps : (n m : Name) (p : EitherPlace) → Keeps (name_either n here p) (name_either m there p)
  name_either_keeps n m (in_paren_either o no_decs p) g = g
  name_either_keeps n m p g = g

  declaration_either_keeps : (k : AnyKeyword) (p : EitherPlace) → Keeps (declaration_either k here p) (declaration_either k there p)
  declaration_either_keeps k (in_paren_either o no_decs p) g = begin_first_keeps k o (of_processes p) (paren_declarations o no_decs (of_processes p)) g
  declaration_either_keeps k (in_paren_either o (more_decs ds d) p) g = begin_declaration_keeps k (paren_declarations o (more_decs ds d) (of_processes p)) g
  declaration_either_keeps k p g = g

  keyword_either_keeps : (k : AnyKeyword) (p : EitherPlace) → Keeps (keyword_either k here p) (keyword_either k there p)
  keyword_either_keeps True p g = g
  keyword_either_keeps False p g = g
  keyword_either_keeps If p g = g
  keyword_either_keeps k p g = declaration_either_keeps k p g

  close_inert_keeps : (p : EitherPlace) → Keeps (close_inert here p) (close_inert there p)
  close_inert_keeps (in_paren_either o no_decs p) g = put_processes_goes p (inert_proc (join o there))
  close_inert_keeps p g = g

  sign_either_keeps : (m : AnySign) (p : EitherPlace) → Keeps (sign_either m here p) (sign_either m there p)
  sign_either_keeps OpenParen p g = g
  sign_either_keeps OpenBracket p g = g
  sign_either_keeps Backslash p g = g
  sign_either_keeps CloseParen p g = close_inert_keeps p g
  sign_either_keeps _ p g = g

  begin_either_keeps : (k : TokenKind) (p : EitherPlace) → Keeps (begin_either k here p) (begin_either (saying w k) there p)
  begin_either_keeps (Identifier n) p g = name_either_keeps n w.name p g
  begin_either_keeps (Symbol y n) p g = name_either_keeps n w.name p g
  begin_either_keeps (Number n) p g = g
  begin_either_keeps (Character b) p g = g
  begin_either_keeps (String b) p g = g
  begin_either_keeps (Keyword k) p g = keyword_either_keeps k p g
  begin_either_keeps (Sign m) p g = sign_either_keeps m p g

  step_need_keeps : (k : TokenKind) (q : Place) → Keeps (step_need k here q) (step_need (saying w k) there q)
  step_need_keeps k (for_value p) g = begin_value_keeps k p g
  step_need_keeps k (for_process p) g = begin_process_keeps k p g
  step_need_keeps k (for_either p) g = begin_either_keeps k p g

  step_have_definition_keeps : (k : TokenKind) (j : Span) (ds : Definitions) (x : Id) (a : Abs) (p : DeclarationPlace) → Keeps (step_have_definition k here j ds x a p) (step_have_definition (saying w k) there j ds x a p)
  step_have_definition_keeps (Keyword And) j ds x a p g = g
  step_have_definition_keeps k j ds x a p g = step_need_keeps k (after_declaration (def_dec (join j (abs_span a)) (more_definitions ds x a)) p) g

  close_values_keeps : (m : AnySign) (p : FieldsPlace) (f : FieldVals) → Keeps (close_values m here p f) (close_values m there p f)
  close_values_keeps CloseBracket (in_record o p) f g = put_values_goes p (fields_val (join o there) f)
  close_values_keeps CloseParen (in_apply o v p) f g = put_channel_goes p (apply_chan (join o there) v f)
  close_values_keeps _ p f g = g

  step_values_keeps : (k : TokenKind) (p : FieldsPlace) (ts : TypeTrees) (vs : Vals) → Keeps (step_values k here p ts vs) (step_values (saying w k) there p ts vs)
  step_values_keeps (Sign CloseBracket) p ts vs g = close_values_keeps CloseBracket p (field_vals ts vs no_labelled_vals) g
  step_values_keeps (Sign CloseParen) p ts vs g = close_values_keeps CloseParen p (field_vals ts vs no_labelled_vals) g
  step_values_keeps (Identifier n) p ts vs g = g
  step_values_keeps k p ts vs g = begin_value_keeps k (in_field p ts vs) g

  step_value_name_keeps : (k : TokenKind) (p : FieldsPlace) (ts : TypeTrees) (vs : Vals) (x : Id) → Keeps (step_value_name k here p ts vs x) (step_value_name (saying w k) there p ts vs x)
  step_value_name_keeps (Sign Equals) p ts vs x g = g
  step_value_name_keeps k p ts vs x g = step_values_keeps k p ts (more_vals vs (of_chan (use_chan x.span x.name))) g

  step_labels_keeps : (k : TokenKind) (p : FieldsPlace) (ts : TypeTrees) (vs : Vals) (ls : LabelledVals) → Keeps (step_labels k here p ts vs ls) (step_labels (saying w k) there p ts vs ls)
  step_labels_keeps (Sign CloseBracket) p ts vs ls g = close_values_keeps CloseBracket p (field_vals ts vs ls) g
  step_labels_keeps (Sign CloseParen) p ts vs ls g = close_values_keeps CloseParen p (field_vals ts vs ls) g
  step_labels_keeps (Identifier n) p ts vs ls g = g
  step_labels_keeps _ p ts vs ls g = g

  step_value_label_keeps : (k : TokenKind) (p : FieldsPlace) (ts : TypeTrees) (vs : Vals) (ls : LabelledVals) (x : Id) → Keeps (step_value_label k here p ts vs ls x) (step_value_label (saying w k) there p ts vs ls x)
  step_value_label_keeps (Sign Equals) p ts vs ls x g = g
  step_value_label_keeps _ p ts vs ls x g = g

  step_arguments_of_keeps : (k : TokenKind) (p : FieldsPlace) (ts : TypeTrees) → Keeps (step_arguments_of k here p ts) (step_arguments_of (saying w k) there p ts)
  step_arguments_of_keeps (Sign Hash) p ts g = g
  step_arguments_of_keeps k p ts g = step_values_keeps k p ts no_vals g

  step_fold_keyword_keeps : (k : TokenKind) (o : Span) (p : Place) → Keeps (step_fold_keyword k here o p) (step_fold_keyword (saying w k) there o p)
  step_fold_keyword_keeps (Sign Colon) o p g = g
  step_fold_keyword_keeps k o p g = begin_value_keeps k (in_fold o None p) g

  step_fold_body_keeps : (k : TokenKind) (o : Span) (r : RType) (v : Val) (p : Place) → Keeps (step_fold_body k here o r v p) (step_fold_body (saying w k) there o r v p)
  step_fold_body_keeps (Sign CloseParen) o r v p g = put_channel_goes p (fold_chan (join o there) r v)
  step_fold_body_keeps _ o r v p g = g

  close_side_keeps : (d : Side) (o : Span) (x : Id) (vs : Vals) (p : Place) → Keeps (close_side here d o x vs p) (close_side there d o x vs p)
  close_side_keeps d o x (more_vals (more_vals vs v) w) p g = put_channel_goes p (side_channel d (join o there) x (more_vals (more_vals vs v) w))
  close_side_keeps d o x _ p g = g

  step_side_keeps : (k : TokenKind) (d : Side) (o : Span) (x : Id) (vs : Vals) (p : Place) → Keeps (step_side k here d o x vs p) (step_side (saying w k) there d o x vs p)
  step_side_keeps (Sign CloseParen) d o x vs p g = close_side_keeps d o x vs p g
  step_side_keeps k d o x vs p g = begin_value_keeps k (in_side d o x vs p) g

  close_paren_keeps : (v : Val) (o : Span) (ds : Decs) (p : Place) → Keeps (close_paren here v o ds p) (close_paren there v o ds p)
  close_paren_keeps v o no_decs p g = put_channel_goes p (apply_chan (join o there) v (field_vals no_types no_vals no_labelled_vals))
  close_paren_keeps v o (more_decs ds d) p g = put_channel_goes p (block_chan (join o there) (more_decs ds d) v)

  step_first_keeps : (k : TokenKind) (v : Val) (o : Span) (ds : Decs) (p : Place) → Keeps (step_first k here v o ds p) (step_first (saying w k) there v o ds p)
  step_first_keeps k v o no_decs p g = step_arguments_of_keeps k (in_apply o v p) no_types g
  step_first_keeps k v o (more_decs ds d) p g = g

  step_paren_keeps : (k : TokenKind) (v : Val) (o : Span) (ds : Decs) (p : Place) → Keeps (step_paren k here v o ds p) (step_paren (saying w k) there v o ds p)
  step_paren_keeps (Sign Semicolon) v o ds p g = g
  step_paren_keeps (Sign CloseParen) v o ds p g = close_paren_keeps v o ds p g
  step_paren_keeps k v o ds p g = step_first_keeps k v o ds p g

  step_top_keeps : (k : TokenKind) (v : Val) (ds : Decs) → Keeps (step_top k here v ds) (step_top (saying w k) there v ds)
  step_top_keeps (Sign Semicolon) v ds g = g
  step_top_keeps _ v ds g = g

  step_test_keeps : (k : TokenKind) (v : Val) (j : Span) (p : Place) → Keeps (step_test k v j p) (step_test (saying w k) v j p)
  step_test_keeps (Keyword Then) v j p g = g
  step_test_keeps _ v j p g = g

  step_then_keeps : (k : TokenKind) (v : Val) (j : Span) (a : Val) (p : ValuePlaces) → Keeps (step_then k v j a p) (step_then (saying w k) v j a p)
  step_then_keeps (Keyword Else) v j a p g = g
  step_then_keeps _ v j a p g = g

  step_wait_keeps : (k : TokenKind) (v : Val) (u : Wait) → Keeps (step_wait k here v u) (step_wait (saying w k) there v u)
  step_wait_keeps k v (at_top ds) g = step_top_keeps k v ds g
  step_wait_keeps k v (in_test j p) g = step_test_keeps k v j p g
  step_wait_keeps k v (in_then j a p) g = step_then_keeps k v j a (value_only p) g
  step_wait_keeps k v (in_paren o ds p) g = step_paren_keeps k v o ds (for_value p) g

  step_either_keeps : (k : TokenKind) (v : Val) (p : EitherPlace) → Keeps (step_either k here v p) (step_either (saying w k) there v p)
  step_either_keeps k v (in_paren_either o ds p) g = step_paren_keeps k v o ds (of_processes p) g
  step_either_keeps k v (in_then_either j a p) g = step_then_keeps k v j a (value_either p) g

  step_channel_value_keeps : (k : TokenKind) (c : Chan) (p : ProcessPlaces) → Keeps (step_channel_value k here c p) (step_channel_value (saying w k) there c p)
  step_channel_value_keeps k c (process_only p) g = g
  step_channel_value_keeps k c (process_either p) g = step_either_keeps k (of_chan c) p g

  step_channel_keeps : (k : TokenKind) (c : Chan) (p : ProcessPlaces) → Keeps (step_channel k here c p) (step_channel (saying w k) there c p)
  step_channel_keeps (Sign Bang) c p g = g
  step_channel_keeps (Sign Question) c p g = g
  step_channel_keeps (Sign QuestionStar) c p g = g
  step_channel_keeps k c p g = step_channel_value_keeps k c p g

  step_used_keeps : (k : TokenKind) (o : Span) (x : Id) (q : Place) → Keeps (step_used k here o x q) (step_used (saying w k) there o x q)
  step_used_keeps k o x (for_value p) g = step_wait_keeps k (of_chan (use_chan x.span x.name)) (in_paren o no_decs p) g
  step_used_keeps k o x (for_process p) g = step_channel_keeps k (use_chan x.span x.name) (process_either (in_paren_either o no_decs (process_only p))) g
  step_used_keeps k o x (for_either p) g = step_channel_keeps k (use_chan x.span x.name) (process_either (in_paren_either o no_decs (process_either p))) g

  step_fresh_name_keeps : (k : TokenKind) (o : Span) (x : Id) (p : Place) → Keeps (step_fresh_name k here o x p) (step_fresh_name (saying w k) there o x p)
  step_fresh_name_keeps (Sign Greater) o x p g = g
  step_fresh_name_keeps (Sign Less) o x p g = g
  step_fresh_name_keeps k o x p g = step_used_keeps k o x p g

  step_process_keeps : (k : TokenKind) (q : Proc) (j : Span) (a : Val) (p : ProcessPlaces) → Keeps (step_process k q j a p) (step_process (saying w k) q j a p)
  step_process_keeps (Keyword Else) q j a p g = g
  step_process_keeps _ q j a p g = g

  step_processes_keeps : (k : TokenKind) (o : Span) (ds : Decs) (rs : Procs) (q : Proc) (p : ProcessPlaces) → Keeps (step_processes k here o ds rs q p) (step_processes (saying w k) there o ds rs q p)
  step_processes_keeps (Sign Bar) o ds rs q p g = g
  step_processes_keeps (Sign CloseParen) o ds rs q p g = put_processes_goes p (group_proc (join o there) ds (more_procs rs q))
  step_processes_keeps _ o ds rs q p g = g

  pub step_keeps : (k : TokenKind) (x : State) → Keeps (step k here x) (step (saying w k) there x)
  step_keeps k stop g = g
  step_keeps k (need p) g = step_need_keeps k p g
  step_keeps k (fresh_name o x p) g = step_fresh_name_keeps k o x p g
  step_keeps k (arguments d o x vs p) g = step_side_keeps k d o x vs p g
  step_keeps k (have_channel c p) g = step_channel_keeps k c p g
  step_keeps k (have_value v p) g = step_wait_keeps k v p g
  step_keeps k (have_either v p) g = step_either_keeps k v p g
  step_keeps k (have_process q j a p) g = step_process_keeps k q j a p g
  step_keeps k (have_processes o ds rs q p) g = step_processes_keeps k o ds rs q p g
  step_keeps k (new_keyword j p) g = step_new_keyword_keeps k j p g
  step_keeps k (new_name j x p) g = step_new_name_keeps k j x p g
  step_keeps k (let_pattern j q p) g = step_let_pattern_keeps w here there k j q p g
  step_keeps k (definition_keyword j ds p) g = step_definition_keyword_keeps k j ds p g
  step_keeps k (have_definition j ds x a p) g = step_have_definition_keeps k j ds x a p g
  step_keeps k (type_keyword j p) g = step_type_keyword_keeps k j p g
  step_keeps k (alias_name j x p) g = step_alias_name_keeps k j x p g
  step_keeps k (operator_open j p) g = step_operator_open_keeps k j p g
  step_keeps k (operator_parameters j x ys p) g = step_operator_parameters_keeps k j x ys p g
  step_keeps k (operator_closed j x ys p) g = step_operator_closed_keeps k j x ys p g
  step_keeps k (need_abstraction p) g = step_need_abstraction_keeps k p g
  step_keeps k (abstraction_open o p) g = step_abstraction_open_keeps k o p g
  step_keeps k (abstraction_pattern q p) g = step_abstraction_pattern_keeps w here there k q p g
  step_keeps k (abstraction_parameters o f p) g = step_abstraction_parameters_keeps k o f p g
  step_keeps k (abstraction_result o f t p) g = step_abstraction_result_keeps k o f t p g
  step_keeps k (need_pattern p) g = begin_pattern_keeps w here there k p g
  step_keeps k (pattern_open o p) g = step_pattern_open_keeps w here there k o p g
  step_keeps k (pattern_rec o p) g = step_pattern_rec_keeps w here there k o p g
  step_keeps k (pattern_folded o r q p) g = step_pattern_folded_keeps w here there k o r q p g
  step_keeps k (have_bind x p) g = step_bind_keeps w here there k x p g
  step_keeps k (have_any j p) g = step_any_keeps w here there k j p g
  step_keeps k (after_binders p bs) g = step_binders_keeps w here there k p bs g
  step_keeps k (after_patterns p bs ps) g = step_patterns_keeps w here there k p bs ps g
  step_keeps k (pattern_name p bs ps x) g = step_pattern_name_keeps w here there k p bs ps x g
  step_keeps k (after_pattern_labels p bs ps ls) g = step_pattern_labels_keeps w here there k p bs ps ls g
  step_keeps k (pattern_label p bs ps ls x) g = step_pattern_label_keeps w here there k p bs ps ls x g
  step_keeps k (binder_hash h p) g = step_hash_keeps w here there k h p g
  step_keeps k (binder_name h x p) g = step_binder_name_keeps w here there k h x p g
  step_keeps k (need_kind h x p) g = step_need_kind_keeps w here there k h x p g
  step_keeps k (kind_arguments h x ms p) g = step_kind_arguments_keeps w here there k h x ms p g
  step_keeps k (kind_mark h x ms m p) g = step_kind_mark_keeps w here there k h x ms m p g
  step_keeps k (kind_arrow h x ms p) g = step_kind_arrow_keeps w here there k h x ms p g
  step_keeps k (kind_result h x ms p) g = step_kind_result_keeps w here there k h x ms p g
  step_keeps k (binder_kind h x c j p) g = step_binder_kind_keeps w here there k h x c j p g
  step_keeps k (need_type p) g = begin_type_keeps w here there k p g
  step_keeps k (type_open o p) g = step_type_open_keeps w here there k o p g
  step_keeps k (rec_keyword o p) g = step_rec_keyword_keeps w here there k o p g
  step_keeps k (rec_name o x p) g = step_rec_name_keeps w here there k o x p g
  step_keeps k (rec_body o x t p) g = step_rec_body_keeps w here there k o x t p g
  step_keeps k (operator_arguments o x ts p) g = step_operator_arguments_keeps w here there k o x ts p g
  step_keeps k (after_type_binders o bs p) g = step_type_binders_keeps w here there k o bs p g
  step_keeps k (after_types o bs ts p) g = step_types_keeps w here there k o bs ts p g
  step_keeps k (type_name o bs ts x p) g = step_type_name_keeps w here there k o bs ts x p g
  step_keeps k (after_type_labels o bs ts ls p) g = step_type_labels_keeps w here there k o bs ts ls p g
  step_keeps k (type_label o bs ts ls x p) g = step_type_label_keeps w here there k o bs ts ls x p g
  step_keeps k (fold_keyword o p) g = step_fold_keyword_keeps k o p g
  step_keeps k (fold_body o r v p) g = step_fold_body_keeps k o r v p g
  step_keeps k (after_arguments p ts) g = step_arguments_of_keeps k p ts g
  step_keeps k (after_values p ts vs) g = step_values_keeps k p ts vs g
  step_keeps k (value_name p ts vs x) g = step_value_name_keeps k p ts vs x g
  step_keeps k (after_labels p ts vs ls) g = step_labels_keeps k p ts vs ls g
  step_keeps k (value_label p ts vs ls x) g = step_value_label_keeps k p ts vs ls x g
