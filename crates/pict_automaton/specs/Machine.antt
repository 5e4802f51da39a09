-- The parser of declarations as a function on states: what each token leads to. Above each step stand the lines of the grammar
-- that it is in the middle of, with a dot before what is read next.
use Rattle.std.specs.Prelude.{List, [], ◌∷◌, ◌++◌, Option, None, Some}
use Rattle.pict_syntax.specs.declared.name.Name.{Name}
use Rattle.pict_syntax.specs.declared.span.Span.{Span}
use Rattle.pict_syntax.specs.declared.id.Id.{Id}
use Rattle.pict_syntax.specs.declared.type_tree.Mark.{Mark}
use Rattle.pict_syntax.specs.declared.type_tree.Mark.TheVariants as mark
use Rattle.pict_syntax.specs.declared.token.SymbolName.TheVariants as symbol_name
use Rattle.pict_syntax.specs.declared.token.Token.{Token}
use Rattle.pict_syntax.specs.declared.token.TokenKind.{TokenKind}
use Rattle.pict_syntax.specs.declared.token.TokenKind.TheVariants.{Identifier, Symbol, Keyword, Number, Character, String, Sign}
use Rattle.pict_syntax.specs.declared.token.Keyword.{Keyword as AnyKeyword}
use Rattle.pict_syntax.specs.declared.token.Keyword.TheVariants.{And, Def, Else, False, If, New, Rec, Run, Then, True, TypeDefinition, Val as ValKeyword, BoolType, CharType, IntType, StringType, TopType, TypeKind}
use Rattle.pict_syntax.specs.declared.token.Sign.{Sign as AnySign}
use Rattle.pict_syntax.specs.declared.token.Sign.TheVariants.{Bang, Question, QuestionStar, Equals, Bar, OpenParen, CloseParen, OpenBracket, CloseBracket, Colon, Semicolon, Less, Greater, Backslash, Caret, Slash, Hash, Underscore, Arrow}
use Rattle.pict_syntax.specs.Trees.{KindTree, plain_kind, operator_kind, TypeTree, top_type, int_type, char_type, string_type, bool_type, use_type, fields_type, apply_type, rec_type, TypeBinder, type_binder, unbounded, bound, TypeTrees, no_types, more_types, TypeBinders, no_binders, more_binders, LabelledTypes, no_labelled_types, more_labelled_types, RType, Pat, bind_pat, any_pat, fields_pat, fold_pat, FieldPats, field_pats, Pats, no_pats, more_pats, LabelledPats, no_labelled_pats, more_labelled_pats, Dec, new_dec, run_dec, let_dec, def_dec, alias_dec, operator_dec, await_dec, Decs, no_decs, more_decs, Definitions, no_definitions, more_definitions, Abs, process_abs, function_abs, Chan, use_chan, fold_chan, block_chan, apply_chan, Val, of_chan, number_val, character_val, string_val, true_val, false_val, fields_val, if_val, lambda_val, Vals, no_vals, more_vals, FieldVals, field_vals, LabelledVals, no_labelled_vals, more_labelled_vals, Proc, send_proc, receive_proc, serve_proc, if_proc, inert_proc, group_proc, Procs, no_procs, more_procs}
use Rattle.pict_syntax.specs.Phrases.{join}
use Rattle.pict_syntax.specs.Grammar.{type_span, pat_span, abs_span, chan_span, val_span, proc_span}
use Rattle.pict_automaton.specs.Places.{Side, rightward, leftward, side_channel, asks_once, asks_always, both, read, write, respond, prefixed, ValuePlace, in_let, in_function, in_send, in_side, in_field, in_label, in_fold, in_else, waiting, Wait, at_top, in_test, in_then, in_paren, ProcessPlace, in_run, in_process, in_else_process, in_bar, in_then_process, EitherPlace, in_paren_either, in_then_either, ProcessPlaces, process_only, process_either, ValuePlaces, value_only, value_either, Place, for_value, for_process, for_either, DeclarationPlace, top_declarations, paren_declarations, AbstractionPlace, in_definition, in_lambda, in_input, FieldsPlace, in_record, in_apply, PatternPlace, in_let_pattern, in_abstraction_pattern, in_fold_pattern, in_field_pattern, in_label_pattern, FieldPatternsPlace, in_pattern_record, in_parameters, TypePlace, in_new, in_alias, in_operator, in_bind, in_any, in_result, in_pattern_fold_type, in_fold_type, in_bound, in_prefix, in_type_field, in_type_label, in_type_apply, in_rec, in_argument, BinderPlace, of_patterns, of_types, State, stop, need, fresh_name, arguments, have_channel, have_value, have_either, have_process, have_processes, new_keyword, new_name, let_pattern, definition_keyword, have_definition, type_keyword, alias_name, operator_open, operator_parameters, operator_closed, need_abstraction, abstraction_open, abstraction_pattern, abstraction_parameters, abstraction_result, need_pattern, pattern_open, pattern_rec, pattern_folded, have_bind, have_any, after_binders, after_patterns, pattern_name, after_pattern_labels, pattern_label, binder_hash, binder_name, need_kind, kind_arguments, kind_mark, kind_arrow, kind_result, binder_kind, need_type, type_open, rec_keyword, rec_name, rec_body, operator_arguments, after_type_binders, after_types, type_name, after_type_labels, type_label, fold_keyword, fold_body, after_arguments, after_values, value_name, after_labels, value_label}

abbrev pub id : Name → Span → Id
id n i = record { name = n; span = i }

-- the places as places of all kinds
abbrev pub of_processes : ProcessPlaces → Place
of_processes (process_only p) = for_process p
of_processes (process_either p) = for_either p

abbrev pub of_values : ValuePlaces → Place
of_values (value_only p) = for_value p
of_values (value_either p) = for_either p

-- the place in parentheses that stand at a place, behind declarations
abbrev pub paren_values : Span → Decs → Place → ValuePlaces
paren_values o ds (for_value p) = value_only (waiting (in_paren o ds p))
paren_values o ds (for_process p) = value_either (in_paren_either o ds (process_only p))
paren_values o ds (for_either p) = value_either (in_paren_either o ds (process_either p))

abbrev pub parens : Span → Decs → Place → Place
parens o ds p = of_values (paren_values o ds p)

-- the place behind `then`
abbrev pub then_place : Span → Val → Place → Place
then_place i a (for_value p) = for_value (waiting (in_then i a p))
then_place i a (for_process p) = for_process (in_then_process i a p)
then_place i a (for_either p) = for_either (in_then_either i a p)

-- the place behind a declaration
abbrev pub after_declaration : Dec → DeclarationPlace → Place
after_declaration d (top_declarations ds) = for_value (waiting (at_top (more_decs ds d)))
after_declaration d (paren_declarations o ds p) = parens o (more_decs ds d) p

abbrev pub put_declaration : Dec → DeclarationPlace → State
put_declaration d p = need (after_declaration d p)

-- a whole phrase is put at its place
abbrev mutual
  pub put_abstraction : Abs → AbstractionPlace → State
  put_abstraction a (in_definition i ds x p) = have_definition i ds x a p
  put_abstraction a (in_lambda i p) = put_values (lambda_val (join i (abs_span a)) a) p
  put_abstraction a (in_input asks_once c p) = put_processes (receive_proc (join (chan_span c) (abs_span a)) c a) p
  put_abstraction a (in_input asks_always c p) = put_processes (serve_proc (join (chan_span c) (abs_span a)) c a) p

  pub put_process : Proc → ProcessPlace → State
  put_process q (in_run i p) = put_declaration (run_dec (join i (proc_span q)) q) p
  put_process q (in_process r p) = put_abstraction (process_abs (join (pat_span r) (proc_span q)) r q) p
  put_process q (in_else_process i a r p) = put_processes (if_proc (join i (proc_span q)) a r q) p
  put_process q (in_bar o ds rs p) = have_processes o ds rs q p
  put_process q (in_then_process i a p) = have_process q i a (process_only p)

  pub put_processes : Proc → ProcessPlaces → State
  put_processes q (process_only p) = put_process q p
  put_processes q (process_either (in_paren_either o ds p)) = have_processes o ds no_procs q p
  put_processes q (process_either (in_then_either i a p)) = have_process q i a (process_either p)

  pub put_value : Val → ValuePlace → State
  put_value v (in_let i r p) = put_declaration (let_dec (join i (val_span v)) r v) p
  put_value v (in_function o f r p) = put_abstraction (function_abs (join o (val_span v)) f r v) p
  put_value v (in_send c p) = put_processes (send_proc (join (chan_span c) (val_span v)) c v) p
  put_value v (in_side d o x vs p) = arguments d o x (more_vals vs v) p
  put_value v (in_field p ts vs) = after_values p ts (more_vals vs v)
  put_value v (in_label p ts vs ls x) = after_labels p ts vs (more_labelled_vals ls x v)
  put_value v (in_fold o r p) = fold_body o r v p
  put_value v (in_else i a b p) = put_values (if_val (join i (val_span v)) a b v) p
  put_value v (waiting w) = have_value v w

  pub put_values : Val → ValuePlaces → State
  put_values v (value_only p) = put_value v p
  put_values v (value_either p) = have_either v p

abbrev pub put_channel : Chan → Place → State
put_channel c (for_value p) = put_value (of_chan c) p
put_channel c (for_process p) = have_channel c (process_only p)
put_channel c (for_either p) = have_channel c (process_either p)

abbrev pub put_pattern : Pat → PatternPlace → State
put_pattern q (in_let_pattern i p) = let_pattern i q p
put_pattern q (in_abstraction_pattern p) = abstraction_pattern q p
put_pattern q (in_fold_pattern o r p) = pattern_folded o r q p
put_pattern q (in_field_pattern p bs ps) = after_patterns p bs (more_pats ps q)
put_pattern q (in_label_pattern p bs ps ls x) = after_pattern_labels p bs ps (more_labelled_pats ls x q)

abbrev pub put_binder : TypeBinder → BinderPlace → State
put_binder b (of_patterns p bs) = after_binders p (more_binders bs b)
put_binder b (of_types o bs p) = after_type_binders o (more_binders bs b) p

abbrev pub put_type : TypeTree → TypePlace → State
put_type t (in_new i x p) = put_declaration (new_dec (join i (type_span t)) x t) p
put_type t (in_alias i x p) = put_declaration (alias_dec (join i (type_span t)) x t) p
put_type t (in_operator i x ys p) = put_declaration (operator_dec (join i (type_span t)) x ys t) p
put_type t (in_bind x p) = put_pattern (bind_pat (join x.span (type_span t)) x (Some t)) p
put_type t (in_any i p) = put_pattern (any_pat (join i (type_span t)) (Some t)) p
put_type t (in_result o f p) = abstraction_result o f t p
put_type t (in_pattern_fold_type o p) = need_pattern (in_fold_pattern o (Some t) p)
put_type t (in_fold_type o p) = need (for_value (in_fold o (Some t) p))
put_type t (in_bound h x k p) = put_binder (type_binder (join h (type_span t)) x k (bound t)) p
put_type t (in_prefix m i p) = put_type (prefixed m (join i (type_span t)) t) p
put_type t (in_type_field o bs ts p) = after_types o bs (more_types ts t) p
put_type t (in_type_label o bs ts ls x p) = after_type_labels o bs ts (more_labelled_types ls x t) p
put_type t (in_type_apply o x ts p) = operator_arguments o x (more_types ts t) p
put_type t (in_rec o x p) = rec_body o x t p
put_type t (in_argument p ts) = after_arguments p (more_types ts t)

-- a token that begins a type
abbrev pub begin_type_keyword : AnyKeyword → Span → TypePlace → State
begin_type_keyword TopType i p = put_type (top_type i) p
begin_type_keyword IntType i p = put_type (int_type i) p
begin_type_keyword CharType i p = put_type (char_type i) p
begin_type_keyword StringType i p = put_type (string_type i) p
begin_type_keyword BoolType i p = put_type (bool_type i) p
begin_type_keyword _ i p = stop

abbrev pub begin_type_sign : AnySign → Span → TypePlace → State
begin_type_sign Caret i p = need_type (in_prefix both i p)
begin_type_sign Question i p = need_type (in_prefix read i p)
begin_type_sign Bang i p = need_type (in_prefix write i p)
begin_type_sign Slash i p = need_type (in_prefix respond i p)
begin_type_sign OpenBracket i p = after_type_binders i no_binders p
begin_type_sign OpenParen i p = type_open i p
begin_type_sign _ i p = stop

-- `. Type`
abbrev pub begin_type : TokenKind → Span → TypePlace → State
begin_type (Keyword k) i p = begin_type_keyword k i p
begin_type (Sign m) i p = begin_type_sign m i p
begin_type (Identifier n) i p = put_type (use_type i n) p
begin_type _ i p = stop

-- `( . Id Type+ )`, `( . rec Id = Type )`
abbrev pub step_type_open : TokenKind → Span → Span → TypePlace → State
step_type_open (Keyword Rec) i o p = rec_keyword o p
step_type_open (Identifier n) i o p = operator_arguments o (id n i) no_types p
step_type_open _ i o p = stop

-- `( rec . Id = Type )`
abbrev pub step_rec_keyword : TokenKind → Span → Span → TypePlace → State
step_rec_keyword (Identifier n) i o p = rec_name o (id n i) p
step_rec_keyword _ i o p = stop

-- `( rec Id . = Type )`
abbrev pub step_rec_name : TokenKind → Span → Span → Id → TypePlace → State
step_rec_name (Sign Equals) i o x p = need_type (in_rec o x p)
step_rec_name _ i o x p = stop

-- `( rec Id = Type . )`
abbrev pub step_rec_body : TokenKind → Span → Span → Id → TypeTree → TypePlace → State
step_rec_body (Sign CloseParen) i o x t p = put_type (rec_type (join o i) x t) p
step_rec_body _ i o x t p = stop

-- `( Id Type+ )`
abbrev pub close_operator_arguments : Span → Span → Id → TypeTrees → TypePlace → State
close_operator_arguments i o x no_types p = stop
close_operator_arguments i o x (more_types ts t) p = put_type (apply_type (join o i) x (more_types ts t)) p

-- `( Id Type* . Type* )`
abbrev pub step_operator_arguments : TokenKind → Span → Span → Id → TypeTrees → TypePlace → State
step_operator_arguments (Sign CloseParen) i o x ts p = close_operator_arguments i o x ts p
step_operator_arguments k i o x ts p = begin_type k i (in_type_apply o x ts p)

-- `[ TypeBinder* Type* . Type* ( Id = Type )* ]`
abbrev pub step_types : TokenKind → Span → Span → TypeBinders → TypeTrees → TypePlace → State
step_types (Sign CloseBracket) i o bs ts p = put_type (fields_type (join o i) bs ts no_labelled_types) p
step_types (Identifier n) i o bs ts p = type_name o bs ts (id n i) p
step_types k i o bs ts p = begin_type k i (in_type_field o bs ts p)

-- `[ TypeBinder* Type* Id . = Type ( Id = Type )* ]`, `[ TypeBinder* Type* Id . Type* ( Id = Type )* ]`
abbrev pub step_type_name : TokenKind → Span → Span → TypeBinders → TypeTrees → Id → TypePlace → State
step_type_name (Sign Equals) i o bs ts x p = need_type (in_type_label o bs ts no_labelled_types x p)
step_type_name k i o bs ts x p = step_types k i o bs (more_types ts (use_type x.span x.name)) p

-- `[ TypeBinder* Type* ( Id = Type )* . ( Id = Type )* ]`
abbrev pub step_type_labels : TokenKind → Span → Span → TypeBinders → TypeTrees → LabelledTypes → TypePlace → State
step_type_labels (Sign CloseBracket) i o bs ts ls p = put_type (fields_type (join o i) bs ts ls) p
step_type_labels (Identifier n) i o bs ts ls p = type_label o bs ts ls (id n i) p
step_type_labels _ i o bs ts ls p = stop

-- `[ TypeBinder* Type* ( Id = Type )* Id . = Type ( Id = Type )* ]`
abbrev pub step_type_label : TokenKind → Span → Span → TypeBinders → TypeTrees → LabelledTypes → Id → TypePlace → State
step_type_label (Sign Equals) i o bs ts ls x p = need_type (in_type_label o bs ts ls x p)
step_type_label _ i o bs ts ls x p = stop

-- `[ TypeBinder* . TypeBinder* Type* ( Id = Type )* ]`
abbrev pub step_type_binders : TokenKind → Span → Span → TypeBinders → TypePlace → State
step_type_binders (Sign Hash) i o bs p = binder_hash i (of_types o bs p)
step_type_binders k i o bs p = step_types k i o bs no_types p

-- patterns
-- `. Pat`
abbrev pub begin_pattern : TokenKind → Span → PatternPlace → State
begin_pattern (Identifier n) i p = have_bind (id n i) p
begin_pattern (Sign Underscore) i p = have_any i p
begin_pattern (Sign OpenBracket) i p = after_binders (in_pattern_record i p) no_binders
begin_pattern (Sign OpenParen) i p = pattern_open i p
begin_pattern _ i p = stop

-- `( . rec RType Pat )`
abbrev pub step_pattern_open : TokenKind → Span → Span → PatternPlace → State
step_pattern_open (Keyword Rec) i o p = pattern_rec o p
step_pattern_open _ i o p = stop

-- `( rec . RType Pat )`
abbrev pub step_pattern_rec : TokenKind → Span → Span → PatternPlace → State
step_pattern_rec (Sign Colon) i o p = need_type (in_pattern_fold_type o p)
step_pattern_rec k i o p = begin_pattern k i (in_fold_pattern o None p)

-- `( rec RType Pat . )`
abbrev pub step_pattern_folded : TokenKind → Span → Span → RType → Pat → PatternPlace → State
step_pattern_folded (Sign CloseParen) i o r q p = put_pattern (fold_pat (join o i) r q) p
step_pattern_folded _ i o r q p = stop

-- `[ FieldPats ]`, `( FieldPats )`
abbrev pub close_patterns : AnySign → Span → FieldPatternsPlace → FieldPats → State
close_patterns CloseBracket i (in_pattern_record o p) f = put_pattern (fields_pat (join o i) f) p
close_patterns CloseParen i (in_parameters o p) f = abstraction_parameters o f p
close_patterns _ i p f = stop

-- `TypeBinder* Pat* . Pat* ( Id = Pat )*`
abbrev pub step_patterns : TokenKind → Span → FieldPatternsPlace → TypeBinders → Pats → State
step_patterns (Sign CloseBracket) i p bs ps = close_patterns CloseBracket i p (field_pats bs ps no_labelled_pats)
step_patterns (Sign CloseParen) i p bs ps = close_patterns CloseParen i p (field_pats bs ps no_labelled_pats)
step_patterns (Identifier n) i p bs ps = pattern_name p bs ps (id n i)
step_patterns k i p bs ps = begin_pattern k i (in_field_pattern p bs ps)

-- `TypeBinder* Pat* ( Id = Pat )* . ( Id = Pat )*`
abbrev pub step_pattern_labels : TokenKind → Span → FieldPatternsPlace → TypeBinders → Pats → LabelledPats → State
step_pattern_labels (Sign CloseBracket) i p bs ps ls = close_patterns CloseBracket i p (field_pats bs ps ls)
step_pattern_labels (Sign CloseParen) i p bs ps ls = close_patterns CloseParen i p (field_pats bs ps ls)
step_pattern_labels (Identifier n) i p bs ps ls = pattern_label p bs ps ls (id n i)
step_pattern_labels _ i p bs ps ls = stop

-- `TypeBinder* Pat* ( Id = Pat )* Id . = Pat ( Id = Pat )*`
abbrev pub step_pattern_label : TokenKind → Span → FieldPatternsPlace → TypeBinders → Pats → LabelledPats → Id → State
step_pattern_label (Sign Equals) i p bs ps ls x = need_pattern (in_label_pattern p bs ps ls x)
step_pattern_label _ i p bs ps ls x = stop

-- `TypeBinder* . TypeBinder* Pat* ( Id = Pat )*`
abbrev pub step_binders : TokenKind → Span → FieldPatternsPlace → TypeBinders → State
step_binders (Sign Hash) i p bs = binder_hash i (of_patterns p bs)
step_binders k i p bs = step_patterns k i p bs no_pats

-- `val Pat . = Val`
abbrev pub step_let_pattern : TokenKind → Span → Span → Pat → DeclarationPlace → State
step_let_pattern (Sign Equals) i j q p = need (for_value (in_let j q p))
step_let_pattern _ i j q p = stop

-- `Pat . = Proc`
abbrev pub step_abstraction_pattern : TokenKind → Span → Pat → AbstractionPlace → State
step_abstraction_pattern (Sign Equals) i q p = need (for_process (in_process q p))
step_abstraction_pattern _ i q p = stop

-- the token behind a whole pattern
abbrev pub step_pattern : TokenKind → Span → Pat → PatternPlace → State
step_pattern k i q (in_let_pattern j p) = step_let_pattern k i j q p
step_pattern k i q (in_abstraction_pattern p) = step_abstraction_pattern k i q p
step_pattern k i q (in_fold_pattern o r p) = step_pattern_folded k i o r q p
step_pattern k i q (in_field_pattern p bs ps) = step_patterns k i p bs (more_pats ps q)
step_pattern k i q (in_label_pattern p bs ps ls x) = step_pattern_labels k i p bs ps (more_labelled_pats ls x q)

-- `Id . RType`
abbrev pub step_bind : TokenKind → Span → Id → PatternPlace → State
step_bind (Sign Colon) i x p = need_type (in_bind x p)
step_bind k i x p = step_pattern k i (bind_pat x.span x None) p

-- `_ . RType`
abbrev pub step_any : TokenKind → Span → Span → PatternPlace → State
step_any (Sign Colon) i j p = need_type (in_any j p)
step_any k i j p = step_pattern k i (any_pat j None) p

-- `TypeBinder* Pat* Id . = Pat ( Id = Pat )*`, `TypeBinder* Pat* Id . RType Pat* ( Id = Pat )*`
abbrev pub step_pattern_name : TokenKind → Span → FieldPatternsPlace → TypeBinders → Pats → Id → State
step_pattern_name (Sign Equals) i p bs ps x = need_pattern (in_label_pattern p bs ps no_labelled_pats x)
step_pattern_name k i p bs ps x = step_bind k i x (in_field_pattern p bs ps)

-- type binders
abbrev pub step_binder : TokenKind → Span → TypeBinder → BinderPlace → State
step_binder k i b (of_patterns p bs) = step_binders k i p (more_binders bs b)
step_binder k i b (of_types o bs p) = step_type_binders k i o (more_binders bs b) p

-- `# . Id : Kind < Type`
abbrev pub step_hash : TokenKind → Span → Span → BinderPlace → State
step_hash (Identifier n) i h p = binder_name h (id n i) p
step_hash _ i h p = stop

-- `# Id . : Kind < Type`, `# Id . < Type`
abbrev pub step_binder_name : TokenKind → Span → Span → Id → BinderPlace → State
step_binder_name (Sign Colon) i h x p = need_kind h x p
step_binder_name (Sign Less) i h x p = need_type (in_bound h x None p)
step_binder_name k i h x p = step_binder k i (type_binder (join h x.span) x None unbounded) p

-- `# Id : . Kind < Type`
abbrev pub step_need_kind : TokenKind → Span → Span → Id → BinderPlace → State
step_need_kind (Keyword TypeKind) i h x p = binder_kind h x plain_kind i p
step_need_kind (Sign OpenParen) i h x p = kind_arguments h x [] p
step_need_kind _ i h x p = stop

-- `( Mark+ -> . Type )`
abbrev pub kind_arrow_at : Span → Id → List Mark → BinderPlace → State
kind_arrow_at h x [] p = stop
kind_arrow_at h x (m ∷ ms) p = kind_arrow h x (m ∷ ms) p

-- `( Mark* . Mark* -> Type )`
abbrev pub step_kind_arguments : TokenKind → Span → Span → Id → List Mark → BinderPlace → State
step_kind_arguments (Keyword TypeKind) i h x ms p = kind_arguments h x (ms ++ mark.Plain ∷ []) p
step_kind_arguments (Symbol symbol_name.Plus n) i h x ms p = kind_mark h x ms mark.Plus p
step_kind_arguments (Symbol symbol_name.Minus n) i h x ms p = kind_mark h x ms mark.Minus p
step_kind_arguments (Sign Arrow) i h x ms p = kind_arrow_at h x ms p
step_kind_arguments _ i h x ms p = stop

-- `( Mark* + . Type Mark* -> Type )`, `( Mark* - . Type Mark* -> Type )`
abbrev pub step_kind_mark : TokenKind → Span → Span → Id → List Mark → Mark → BinderPlace → State
step_kind_mark (Keyword TypeKind) i h x ms m p = kind_arguments h x (ms ++ m ∷ []) p
step_kind_mark _ i h x ms m p = stop

-- `( Mark+ -> . Type )`
abbrev pub step_kind_arrow : TokenKind → Span → Span → Id → List Mark → BinderPlace → State
step_kind_arrow (Keyword TypeKind) i h x ms p = kind_result h x ms p
step_kind_arrow _ i h x ms p = stop

-- `( Mark+ -> Type . )`
abbrev pub step_kind_result : TokenKind → Span → Span → Id → List Mark → BinderPlace → State
step_kind_result (Sign CloseParen) i h x ms p = binder_kind h x (operator_kind ms) i p
step_kind_result _ i h x ms p = stop

-- `# Id : Kind . < Type`
abbrev pub step_binder_kind : TokenKind → Span → Span → Id → KindTree → Span → BinderPlace → State
step_binder_kind (Sign Less) i h x k j p = need_type (in_bound h x (Some k) p)
step_binder_kind c i h x k j p = step_binder c i (type_binder (join h j) x (Some k) unbounded) p

-- declarations
-- `. Dec`
abbrev pub begin_declaration : AnyKeyword → Span → DeclarationPlace → State
begin_declaration New i p = new_keyword i p
begin_declaration Run i p = need (for_process (in_run i p))
begin_declaration ValKeyword i p = need_pattern (in_let_pattern i p)
begin_declaration Def i p = definition_keyword i no_definitions p
begin_declaration TypeDefinition i p = type_keyword i p
begin_declaration _ i p = stop

-- right behind `(`
-- `( . rec RType Val )`, `( . Dec`
abbrev pub begin_first : AnyKeyword → Span → Span → Place → DeclarationPlace → State
begin_first Rec i o q p = fold_keyword o q
begin_first k i o q p = begin_declaration k i p

-- `new . Id : Type`
abbrev pub step_new_keyword : TokenKind → Span → Span → DeclarationPlace → State
step_new_keyword (Identifier n) i j p = new_name j (id n i) p
step_new_keyword _ i j p = stop

-- `new Id . : Type`
abbrev pub step_new_name : TokenKind → Span → Span → Id → DeclarationPlace → State
step_new_name (Sign Colon) i j x p = need_type (in_new j x p)
step_new_name _ i j x p = stop

-- `def ( Id Abs and )* . Id Abs ( and Id Abs )*`
abbrev pub step_definition_keyword : TokenKind → Span → Span → Definitions → DeclarationPlace → State
step_definition_keyword (Identifier n) i j ds p = need_abstraction (in_definition j ds (id n i) p)
step_definition_keyword _ i j ds p = stop

-- `type . Id = Type`, `type . ( Id Id+ ) = Type`
abbrev pub step_type_keyword : TokenKind → Span → Span → DeclarationPlace → State
step_type_keyword (Identifier n) i j p = alias_name j (id n i) p
step_type_keyword (Sign OpenParen) i j p = operator_open j p
step_type_keyword _ i j p = stop

-- `type Id . = Type`
abbrev pub step_alias_name : TokenKind → Span → Span → Id → DeclarationPlace → State
step_alias_name (Sign Equals) i j x p = need_type (in_alias j x p)
step_alias_name _ i j x p = stop

-- `type ( . Id Id+ ) = Type`
abbrev pub step_operator_open : TokenKind → Span → Span → DeclarationPlace → State
step_operator_open (Identifier n) i j p = operator_parameters j (id n i) [] p
step_operator_open _ i j p = stop

-- `type ( Id Id+ ) . = Type`
abbrev pub close_operator : Span → Id → List Id → DeclarationPlace → State
close_operator j x [] p = stop
close_operator j x (y ∷ ys) p = operator_closed j x (y ∷ ys) p

-- `type ( Id Id* . Id* ) = Type`
abbrev pub step_operator_parameters : TokenKind → Span → Span → Id → List Id → DeclarationPlace → State
step_operator_parameters (Identifier n) i j x ys p = operator_parameters j x (ys ++ id n i ∷ []) p
step_operator_parameters (Sign CloseParen) i j x ys p = close_operator j x ys p
step_operator_parameters _ i j x ys p = stop

-- `type ( Id Id+ ) . = Type`
abbrev pub step_operator_closed : TokenKind → Span → Span → Id → List Id → DeclarationPlace → State
step_operator_closed (Sign Equals) i j x ys p = need_type (in_operator j x ys p)
step_operator_closed _ i j x ys p = stop

-- abstractions
-- `. Abs`
abbrev pub step_need_abstraction : TokenKind → Span → AbstractionPlace → State
step_need_abstraction (Sign OpenParen) i p = abstraction_open i p
step_need_abstraction k i p = begin_pattern k i (in_abstraction_pattern p)

-- `( . FieldPats ) RType = Val`, `( . rec RType Pat ) = Proc`
abbrev pub step_abstraction_open : TokenKind → Span → Span → AbstractionPlace → State
step_abstraction_open (Keyword Rec) i o p = pattern_rec o (in_abstraction_pattern p)
step_abstraction_open k i o p = step_binders k i (in_parameters o p) no_binders

-- `( FieldPats ) . RType = Val`
abbrev pub step_abstraction_parameters : TokenKind → Span → Span → FieldPats → AbstractionPlace → State
step_abstraction_parameters (Sign Colon) i o f p = need_type (in_result o f p)
step_abstraction_parameters (Sign Equals) i o f p = need (for_value (in_function o f None p))
step_abstraction_parameters _ i o f p = stop

-- `( FieldPats ) : Type . = Val`
abbrev pub step_abstraction_result : TokenKind → Span → Span → FieldPats → TypeTree → AbstractionPlace → State
step_abstraction_result (Sign Equals) i o f t p = need (for_value (in_function o f (Some t) p))
step_abstraction_result _ i o f t p = stop

-- values
-- `Name`, `( Name . > Val Val+ )`
abbrev pub name_value : Name → Span → ValuePlace → State
name_value n i (waiting (in_paren o no_decs p)) = fresh_name o (id n i) (for_value p)
name_value n i p = put_value (of_chan (use_chan i n)) p

-- `Dec* . Dec`, `( Dec* . Dec`
abbrev pub declaration_value : AnyKeyword → Span → ValuePlace → State
declaration_value k i (waiting (at_top ds)) = begin_declaration k i (top_declarations ds)
declaration_value k i (waiting (in_paren o no_decs p)) = begin_first k i o (for_value p) (paren_declarations o no_decs (for_value p))
declaration_value k i (waiting (in_paren o (more_decs ds d) p)) = begin_declaration k i (paren_declarations o (more_decs ds d) (for_value p))
declaration_value k i p = stop

-- `true | false | if . Val then Val else Val`
abbrev pub keyword_value : AnyKeyword → Span → ValuePlace → State
keyword_value True i p = put_value (true_val i) p
keyword_value False i p = put_value (false_val i) p
keyword_value If i p = need (for_value (waiting (in_test i (for_value p))))
keyword_value k i p = declaration_value k i p

-- `( . Val`, `[ . FieldVals ]`, `\ . Abs`
abbrev pub sign_value : AnySign → Span → ValuePlace → State
sign_value OpenParen i p = need (parens i no_decs (for_value p))
sign_value OpenBracket i p = after_arguments (in_record i (value_only p)) no_types
sign_value Backslash i p = need_abstraction (in_lambda i (value_only p))
sign_value _ i p = stop

-- `. Val`
abbrev pub begin_value : TokenKind → Span → ValuePlace → State
begin_value (Identifier n) i p = name_value n i p
begin_value (Symbol y n) i p = name_value n i p
begin_value (Number n) i p = put_value (number_val i n) p
begin_value (Character b) i p = put_value (character_val i b) p
begin_value (String b) i p = put_value (string_val i b) p
begin_value (Keyword k) i p = keyword_value k i p
begin_value (Sign m) i p = sign_value m i p

-- processes
-- `. Proc`
abbrev pub begin_process : TokenKind → Span → ProcessPlace → State
begin_process (Identifier n) i p = have_channel (use_chan i n) (process_only p)
begin_process (Symbol y n) i p = have_channel (use_chan i n) (process_only p)
begin_process (Keyword If) i p = need (for_value (waiting (in_test i (for_process p))))
begin_process (Sign OpenParen) i p = need (parens i no_decs (for_process p))
begin_process _ i p = stop

-- values or processes
-- `Name`, `( Name . > Val Val+ )`
abbrev pub name_either : Name → Span → EitherPlace → State
name_either n i (in_paren_either o no_decs p) = fresh_name o (id n i) (of_processes p)
name_either n i p = have_channel (use_chan i n) (process_either p)

-- `( Dec* . Dec`
abbrev pub declaration_either : AnyKeyword → Span → EitherPlace → State
declaration_either k i (in_paren_either o no_decs p) = begin_first k i o (of_processes p) (paren_declarations o no_decs (of_processes p))
declaration_either k i (in_paren_either o (more_decs ds d) p) = begin_declaration k i (paren_declarations o (more_decs ds d) (of_processes p))
declaration_either k i p = stop

abbrev pub keyword_either : AnyKeyword → Span → EitherPlace → State
keyword_either True i p = have_either (true_val i) p
keyword_either False i p = have_either (false_val i) p
keyword_either If i p = need (for_value (waiting (in_test i (for_either p))))
keyword_either k i p = declaration_either k i p

-- `( )`
abbrev pub close_inert : Span → EitherPlace → State
close_inert i (in_paren_either o no_decs p) = put_processes (inert_proc (join o i)) p
close_inert i p = stop

-- `( . Val`, `[ . FieldVals ]`, `\ . Abs`, `( )`
abbrev pub sign_either : AnySign → Span → EitherPlace → State
sign_either OpenParen i p = need (parens i no_decs (for_either p))
sign_either OpenBracket i p = after_arguments (in_record i (value_either p)) no_types
sign_either Backslash i p = need_abstraction (in_lambda i (value_either p))
sign_either CloseParen i p = close_inert i p
sign_either _ i p = stop

-- `. Val`, `. Proc`
abbrev pub begin_either : TokenKind → Span → EitherPlace → State
begin_either (Identifier n) i p = name_either n i p
begin_either (Symbol y n) i p = name_either n i p
begin_either (Number n) i p = have_either (number_val i n) p
begin_either (Character b) i p = have_either (character_val i b) p
begin_either (String b) i p = have_either (string_val i b) p
begin_either (Keyword k) i p = keyword_either k i p
begin_either (Sign m) i p = sign_either m i p

-- `. Val`, `. Proc`, `. Dec`
abbrev pub step_need : TokenKind → Span → Place → State
step_need k i (for_value p) = begin_value k i p
step_need k i (for_process p) = begin_process k i p
step_need k i (for_either p) = begin_either k i p

-- `def Id Abs ( and Id Abs )* . ( and Id Abs )*`
abbrev pub step_have_definition : TokenKind → Span → Span → Definitions → Id → Abs → DeclarationPlace → State
step_have_definition (Keyword And) i j ds x a p = definition_keyword j (more_definitions ds x a) p
step_have_definition k i j ds x a p = step_need k i (after_declaration (def_dec (join j (abs_span a)) (more_definitions ds x a)) p)

-- the fields of records and applications
-- `[ FieldVals ]`, `( Val FieldVals )`
abbrev pub close_values : AnySign → Span → FieldsPlace → FieldVals → State
close_values CloseBracket i (in_record o p) f = put_values (fields_val (join o i) f) p
close_values CloseParen i (in_apply o v p) f = put_channel (apply_chan (join o i) v f) p
close_values _ i p f = stop

-- `( # Type )* Val* . Val* ( Id = Val )*`
abbrev pub step_values : TokenKind → Span → FieldsPlace → TypeTrees → Vals → State
step_values (Sign CloseBracket) i p ts vs = close_values CloseBracket i p (field_vals ts vs no_labelled_vals)
step_values (Sign CloseParen) i p ts vs = close_values CloseParen i p (field_vals ts vs no_labelled_vals)
step_values (Identifier n) i p ts vs = value_name p ts vs (id n i)
step_values k i p ts vs = begin_value k i (in_field p ts vs)

-- `( # Type )* Val* Id . = Val ( Id = Val )*`, `( # Type )* Val* Id . Val* ( Id = Val )*`
abbrev pub step_value_name : TokenKind → Span → FieldsPlace → TypeTrees → Vals → Id → State
step_value_name (Sign Equals) i p ts vs x = need (for_value (in_label p ts vs no_labelled_vals x))
step_value_name k i p ts vs x = step_values k i p ts (more_vals vs (of_chan (use_chan x.span x.name)))

-- `( # Type )* Val* ( Id = Val )* . ( Id = Val )*`
abbrev pub step_labels : TokenKind → Span → FieldsPlace → TypeTrees → Vals → LabelledVals → State
step_labels (Sign CloseBracket) i p ts vs ls = close_values CloseBracket i p (field_vals ts vs ls)
step_labels (Sign CloseParen) i p ts vs ls = close_values CloseParen i p (field_vals ts vs ls)
step_labels (Identifier n) i p ts vs ls = value_label p ts vs ls (id n i)
step_labels _ i p ts vs ls = stop

-- `( # Type )* Val* ( Id = Val )* Id . = Val ( Id = Val )*`
abbrev pub step_value_label : TokenKind → Span → FieldsPlace → TypeTrees → Vals → LabelledVals → Id → State
step_value_label (Sign Equals) i p ts vs ls x = need (for_value (in_label p ts vs ls x))
step_value_label _ i p ts vs ls x = stop

-- `( # Type )* . ( # Type )* Val* ( Id = Val )*`
abbrev pub step_arguments_of : TokenKind → Span → FieldsPlace → TypeTrees → State
step_arguments_of (Sign Hash) i p ts = need_type (in_argument p ts)
step_arguments_of k i p ts = step_values k i p ts no_vals

-- `( rec . RType Val )`
abbrev pub step_fold_keyword : TokenKind → Span → Span → Place → State
step_fold_keyword (Sign Colon) i o p = need_type (in_fold_type o p)
step_fold_keyword k i o p = begin_value k i (in_fold o None p)

-- `( rec RType Val . )`
abbrev pub step_fold_body : TokenKind → Span → Span → RType → Val → Place → State
step_fold_body (Sign CloseParen) i o r v p = put_channel (fold_chan (join o i) r v) p
step_fold_body _ i o r v p = stop

-- `( Name > Val Val+ )`, `( Name < Val Val+ )`
abbrev pub close_side : Span → Side → Span → Id → Vals → Place → State
close_side i d o x (more_vals (more_vals vs v) w) p = put_channel (side_channel d (join o i) x (more_vals (more_vals vs v) w)) p
close_side i d o x _ p = stop

-- `( Name > Val* . Val* )`, `( Name < Val* . Val* )`
abbrev pub step_side : TokenKind → Span → Side → Span → Id → Vals → Place → State
step_side (Sign CloseParen) i d o x vs p = close_side i d o x vs p
step_side k i d o x vs p = begin_value k i (in_side d o x vs p)

-- the token behind a value in parentheses
-- `( Val )`, `( Dec+ Val )`
abbrev pub close_paren : Span → Val → Span → Decs → Place → State
close_paren i v o no_decs p = put_channel (apply_chan (join o i) v (field_vals no_types no_vals no_labelled_vals)) p
close_paren i v o (more_decs ds d) p = put_channel (block_chan (join o i) (more_decs ds d) v) p

-- `( Val . FieldVals )`
abbrev pub step_first : TokenKind → Span → Val → Span → Decs → Place → State
step_first k i v o no_decs p = step_arguments_of k i (in_apply o v p) no_types
step_first k i v o (more_decs ds d) p = stop

-- `( Dec* Val . ;`, `( Dec+ Val . )`, `( Val . FieldVals )`
abbrev pub step_paren : TokenKind → Span → Val → Span → Decs → Place → State
step_paren (Sign Semicolon) i v o ds p = need (parens o (more_decs ds (await_dec (join (val_span v) i) v)) p)
step_paren (Sign CloseParen) i v o ds p = close_paren i v o ds p
step_paren k i v o ds p = step_first k i v o ds p

-- `Dec* Val . ;`
abbrev pub step_top : TokenKind → Span → Val → Decs → State
step_top (Sign Semicolon) i v ds = need (for_value (waiting (at_top (more_decs ds (await_dec (join (val_span v) i) v)))))
step_top _ i v ds = stop

-- `if Val . then`
abbrev pub step_test : TokenKind → Val → Span → Place → State
step_test (Keyword Then) v j p = need (then_place j v p)
step_test _ v j p = stop

-- `if Val then Val . else Val`
abbrev pub step_then : TokenKind → Val → Span → Val → ValuePlaces → State
step_then (Keyword Else) v j a p = need (for_value (in_else j a v p))
step_then _ v j a p = stop

-- `Val . ;`, `if Val . then`, `if Val then Val . else Val`, `( Val . FieldVals )`, `( Dec+ Val . )`
abbrev pub step_wait : TokenKind → Span → Val → Wait → State
step_wait k i v (at_top ds) = step_top k i v ds
step_wait k i v (in_test j p) = step_test k v j p
step_wait k i v (in_then j a p) = step_then k v j a (value_only p)
step_wait k i v (in_paren o ds p) = step_paren k i v o ds (for_value p)

-- `Val . ;`, `if Val then Val . else Val`, `( Val . FieldVals )`, `( Dec+ Val . )`
abbrev pub step_either : TokenKind → Span → Val → EitherPlace → State
step_either k i v (in_paren_either o ds p) = step_paren k i v o ds (of_processes p)
step_either k i v (in_then_either j a p) = step_then k v j a (value_either p)

-- `Chan . ! Val`, `( Dec+ Val . )`
abbrev pub step_channel_value : TokenKind → Span → Chan → ProcessPlaces → State
step_channel_value k i c (process_only p) = stop
step_channel_value k i c (process_either p) = step_either k i (of_chan c) p

-- `Chan . ! Val`, `Chan . ? Abs`, `Chan . ?* Abs`
abbrev pub step_channel : TokenKind → Span → Chan → ProcessPlaces → State
step_channel (Sign Bang) i c p = need (for_value (in_send c p))
step_channel (Sign Question) i c p = need_abstraction (in_input asks_once c p)
step_channel (Sign QuestionStar) i c p = need_abstraction (in_input asks_always c p)
step_channel k i c p = step_channel_value k i c p

-- `( Name . FieldVals )`, `( Name . ! Val`
abbrev pub step_used : TokenKind → Span → Span → Id → Place → State
step_used k i o x (for_value p) = step_wait k i (of_chan (use_chan x.span x.name)) (in_paren o no_decs p)
step_used k i o x (for_process p) = step_channel k i (use_chan x.span x.name) (process_either (in_paren_either o no_decs (process_only p)))
step_used k i o x (for_either p) = step_channel k i (use_chan x.span x.name) (process_either (in_paren_either o no_decs (process_either p)))

-- `( Name . > Val Val+ )`, `( Name . < Val Val+ )`
abbrev pub step_fresh_name : TokenKind → Span → Span → Id → Place → State
step_fresh_name (Sign Greater) i o x p = arguments rightward o x no_vals p
step_fresh_name (Sign Less) i o x p = arguments leftward o x no_vals p
step_fresh_name k i o x p = step_used k i o x p

-- `if Val then Proc . else Proc`
abbrev pub step_process : TokenKind → Proc → Span → Val → ProcessPlaces → State
step_process (Keyword Else) q j a p = need (for_process (in_else_process j a q p))
step_process _ q j a p = stop

-- `( Dec* Proc ( | Proc )* . ( | Proc )* )`
abbrev pub step_processes : TokenKind → Span → Span → Decs → Procs → Proc → ProcessPlaces → State
step_processes (Sign Bar) i o ds rs q p = need (for_process (in_bar o ds (more_procs rs q) p))
step_processes (Sign CloseParen) i o ds rs q p = put_processes (group_proc (join o i) ds (more_procs rs q)) p
step_processes _ i o ds rs q p = stop

-- one token is read
abbrev pub step : TokenKind → Span → State → State
step k i stop = stop
step k i (need p) = step_need k i p
step k i (fresh_name o x p) = step_fresh_name k i o x p
step k i (arguments d o x vs p) = step_side k i d o x vs p
step k i (have_channel c p) = step_channel k i c p
step k i (have_value v p) = step_wait k i v p
step k i (have_either v p) = step_either k i v p
step k i (have_process q j a p) = step_process k q j a p
step k i (have_processes o ds rs q p) = step_processes k i o ds rs q p
step k i (new_keyword j p) = step_new_keyword k i j p
step k i (new_name j x p) = step_new_name k i j x p
step k i (let_pattern j q p) = step_let_pattern k i j q p
step k i (definition_keyword j ds p) = step_definition_keyword k i j ds p
step k i (have_definition j ds x a p) = step_have_definition k i j ds x a p
step k i (type_keyword j p) = step_type_keyword k i j p
step k i (alias_name j x p) = step_alias_name k i j x p
step k i (operator_open j p) = step_operator_open k i j p
step k i (operator_parameters j x ys p) = step_operator_parameters k i j x ys p
step k i (operator_closed j x ys p) = step_operator_closed k i j x ys p
step k i (need_abstraction p) = step_need_abstraction k i p
step k i (abstraction_open o p) = step_abstraction_open k i o p
step k i (abstraction_pattern q p) = step_abstraction_pattern k i q p
step k i (abstraction_parameters o f p) = step_abstraction_parameters k i o f p
step k i (abstraction_result o f t p) = step_abstraction_result k i o f t p
step k i (need_pattern p) = begin_pattern k i p
step k i (pattern_open o p) = step_pattern_open k i o p
step k i (pattern_rec o p) = step_pattern_rec k i o p
step k i (pattern_folded o r q p) = step_pattern_folded k i o r q p
step k i (have_bind x p) = step_bind k i x p
step k i (have_any j p) = step_any k i j p
step k i (after_binders p bs) = step_binders k i p bs
step k i (after_patterns p bs ps) = step_patterns k i p bs ps
step k i (pattern_name p bs ps x) = step_pattern_name k i p bs ps x
step k i (after_pattern_labels p bs ps ls) = step_pattern_labels k i p bs ps ls
step k i (pattern_label p bs ps ls x) = step_pattern_label k i p bs ps ls x
step k i (binder_hash h p) = step_hash k i h p
step k i (binder_name h x p) = step_binder_name k i h x p
step k i (need_kind h x p) = step_need_kind k i h x p
step k i (kind_arguments h x ms p) = step_kind_arguments k i h x ms p
step k i (kind_mark h x ms m p) = step_kind_mark k i h x ms m p
step k i (kind_arrow h x ms p) = step_kind_arrow k i h x ms p
step k i (kind_result h x ms p) = step_kind_result k i h x ms p
step k i (binder_kind h x c j p) = step_binder_kind k i h x c j p
step k i (need_type p) = begin_type k i p
step k i (type_open o p) = step_type_open k i o p
step k i (rec_keyword o p) = step_rec_keyword k i o p
step k i (rec_name o x p) = step_rec_name k i o x p
step k i (rec_body o x t p) = step_rec_body k i o x t p
step k i (operator_arguments o x ts p) = step_operator_arguments k i o x ts p
step k i (after_type_binders o bs p) = step_type_binders k i o bs p
step k i (after_types o bs ts p) = step_types k i o bs ts p
step k i (type_name o bs ts x p) = step_type_name k i o bs ts x p
step k i (after_type_labels o bs ts ls p) = step_type_labels k i o bs ts ls p
step k i (type_label o bs ts ls x p) = step_type_label k i o bs ts ls x p
step k i (fold_keyword o p) = step_fold_keyword k i o p
step k i (fold_body o r v p) = step_fold_body k i o r v p
step k i (after_arguments p ts) = step_arguments_of k i p ts
step k i (after_values p ts vs) = step_values k i p ts vs
step k i (value_name p ts vs x) = step_value_name k i p ts vs x
step k i (after_labels p ts vs ls) = step_labels k i p ts vs ls
step k i (value_label p ts vs ls x) = step_value_label k i p ts vs ls x

-- the tokens, one by one
abbrev pub run : State → List Token → State
run x [] = x
run x (t ∷ ts) = run (step t.kind t.span x) ts

abbrev pub start : State
start = need (for_value (waiting (at_top no_decs)))

-- the declarations that have been read where a text may end
abbrev pub ended : State → Option Decs
ended (need (for_value (waiting (at_top ds)))) = Some ds
ended (have_definition j ds x a (top_declarations es)) = Some (more_decs es (def_dec (join j (abs_span a)) (more_definitions ds x a)))
ended _ = None
