-- Behind a type and a pattern a token may stand wherever another one of its kind may.
use Rattle.std.proofs.Common.{List, None, Some}
use Rattle.pict_syntax.specs.declared.span.Span.{Span}
use Rattle.pict_syntax.specs.declared.id.Id.{Id}
use Rattle.pict_syntax.specs.declared.type_tree.Mark.{Mark}
use Rattle.pict_syntax.specs.declared.token.SymbolName.TheVariants as symbol_name
use Rattle.pict_syntax.specs.declared.token.TokenKind.{TokenKind}
use Rattle.pict_syntax.specs.declared.token.TokenKind.TheVariants.{Identifier, Symbol, Keyword, Sign}
use Rattle.pict_syntax.specs.declared.token.Keyword.{Keyword as AnyKeyword}
use Rattle.pict_syntax.specs.declared.token.Keyword.TheVariants.{Rec, BoolType, CharType, IntType, StringType, TopType, TypeKind}
use Rattle.pict_syntax.specs.declared.token.Sign.{Sign as AnySign}
use Rattle.pict_syntax.specs.declared.token.Sign.TheVariants.{Bang, Question, Equals, OpenParen, CloseParen, OpenBracket, CloseBracket, Colon, Less, Caret, Slash, Hash, Underscore, Arrow}
use Rattle.pict_syntax.specs.Trees.{KindTree, TypeTree, top_type, int_type, char_type, string_type, bool_type, use_type, fields_type, apply_type, rec_type, TypeBinder, type_binder, unbounded, TypeTrees, no_types, more_types, TypeBinders, more_binders, LabelledTypes, no_labelled_types, RType, Pat, bind_pat, any_pat, fields_pat, fold_pat, FieldPats, field_pats, Pats, no_pats, more_pats, LabelledPats, no_labelled_pats, more_labelled_pats}
use Rattle.pict_syntax.specs.Phrases.{join}
use Rattle.pict_automaton.specs.Places.{DeclarationPlace, AbstractionPlace, PatternPlace, in_let_pattern, in_abstraction_pattern, in_fold_pattern, in_field_pattern, in_label_pattern, FieldPatternsPlace, in_pattern_record, in_parameters, TypePlace, in_type_field, in_type_apply, BinderPlace, of_patterns, of_types}
use Rattle.pict_automaton.specs.Machine.{begin_type_keyword, begin_type_sign, begin_type, step_type_open, step_rec_keyword, step_rec_name, step_rec_body, close_operator_arguments, step_operator_arguments, step_types, step_type_name, step_type_labels, step_type_label, step_type_binders, begin_pattern, step_pattern_open, step_pattern_rec, step_pattern_folded, close_patterns, step_patterns, step_pattern_labels, step_pattern_label, step_binders, step_let_pattern, step_abstraction_pattern, step_pattern, step_bind, step_any, step_pattern_name, step_binder, step_hash, step_binder_name, step_need_kind, step_kind_arguments, step_kind_mark, step_kind_arrow, step_kind_result, step_binder_kind}
use Rattle.pict_follow.proofs.Goes.{put_pattern_goes, put_type_goes}
use Rattle.pict_follow.proofs.Said.{Said, saying, Keeps}

module _ (w : Said) (here there : Span) where
  begin_type_keyword_keeps : (k : AnyKeyword) (p : TypePlace) → Keeps (begin_type_keyword k here p) (begin_type_keyword k there p)
  begin_type_keyword_keeps TopType p g = put_type_goes p (top_type there)
  begin_type_keyword_keeps IntType p g = put_type_goes p (int_type there)
  begin_type_keyword_keeps CharType p g = put_type_goes p (char_type there)
  begin_type_keyword_keeps StringType p g = put_type_goes p (string_type there)
  begin_type_keyword_keeps BoolType p g = put_type_goes p (bool_type there)
  begin_type_keyword_keeps _ p g = g

  begin_type_sign_keeps : (m : AnySign) (p : TypePlace) → Keeps (begin_type_sign m here p) (begin_type_sign m there p)
  begin_type_sign_keeps Caret p g = g
  begin_type_sign_keeps Question p g = g
  begin_type_sign_keeps Bang p g = g
  begin_type_sign_keeps Slash p g = g
  begin_type_sign_keeps OpenBracket p g = g
  begin_type_sign_keeps OpenParen p g = g
  begin_type_sign_keeps _ p g = g

  pub begin_type_keeps : (k : TokenKind) (p : TypePlace) → Keeps (begin_type k here p) (begin_type (saying w k) there p)
  begin_type_keeps (Keyword k) p g = begin_type_keyword_keeps k p g
  begin_type_keeps (Sign m) p g = begin_type_sign_keeps m p g
  begin_type_keeps (Identifier n) p g = put_type_goes p (use_type there w.name)
  begin_type_keeps _ p g = g

  pub step_type_open_keeps : (k : TokenKind) (o : Span) (p : TypePlace) → Keeps (step_type_open k here o p) (step_type_open (saying w k) there o p)
  step_type_open_keeps (Keyword Rec) o p g = g
  step_type_open_keeps (Identifier n) o p g = g
  step_type_open_keeps _ o p g = g

  pub step_rec_keyword_keeps : (k : TokenKind) (o : Span) (p : TypePlace) → Keeps (step_rec_keyword k here o p) (step_rec_keyword (saying w k) there o p)
  step_rec_keyword_keeps (Identifier n) o p g = g
  step_rec_keyword_keeps _ o p g = g

  pub step_rec_name_keeps : (k : TokenKind) (o : Span) (x : Id) (p : TypePlace) → Keeps (step_rec_name k here o x p) (step_rec_name (saying w k) there o x p)
  step_rec_name_keeps (Sign Equals) o x p g = g
  step_rec_name_keeps _ o x p g = g

  pub step_rec_body_keeps : (k : TokenKind) (o : Span) (x : Id) (t : TypeTree) (p : TypePlace) → Keeps (step_rec_body k here o x t p) (step_rec_body (saying w k) there o x t p)
  step_rec_body_keeps (Sign CloseParen) o x t p g = put_type_goes p (rec_type (join o there) x t)
  step_rec_body_keeps _ o x t p g = g

  close_operator_arguments_keeps : (o : Span) (x : Id) (ts : TypeTrees) (p : TypePlace) → Keeps (close_operator_arguments here o x ts p) (close_operator_arguments there o x ts p)
  close_operator_arguments_keeps o x no_types p g = g
  close_operator_arguments_keeps o x (more_types ts t) p g = put_type_goes p (apply_type (join o there) x (more_types ts t))

  pub step_operator_arguments_keeps : (k : TokenKind) (o : Span) (x : Id) (ts : TypeTrees) (p : TypePlace) → Keeps (step_operator_arguments k here o x ts p) (step_operator_arguments (saying w k) there o x ts p)
  step_operator_arguments_keeps (Sign CloseParen) o x ts p g = close_operator_arguments_keeps o x ts p g
  step_operator_arguments_keeps k o x ts p g = begin_type_keeps k (in_type_apply o x ts p) g

  pub step_types_keeps : (k : TokenKind) (o : Span) (bs : TypeBinders) (ts : TypeTrees) (p : TypePlace) → Keeps (step_types k here o bs ts p) (step_types (saying w k) there o bs ts p)
  step_types_keeps (Sign CloseBracket) o bs ts p g = put_type_goes p (fields_type (join o there) bs ts no_labelled_types)
  step_types_keeps (Identifier n) o bs ts p g = g
  step_types_keeps k o bs ts p g = begin_type_keeps k (in_type_field o bs ts p) g

  pub step_type_name_keeps : (k : TokenKind) (o : Span) (bs : TypeBinders) (ts : TypeTrees) (x : Id) (p : TypePlace) → Keeps (step_type_name k here o bs ts x p) (step_type_name (saying w k) there o bs ts x p)
  step_type_name_keeps (Sign Equals) o bs ts x p g = g
  step_type_name_keeps k o bs ts x p g = step_types_keeps k o bs (more_types ts (use_type x.span x.name)) p g

  pub step_type_labels_keeps : (k : TokenKind) (o : Span) (bs : TypeBinders) (ts : TypeTrees) (ls : LabelledTypes) (p : TypePlace) → Keeps (step_type_labels k here o bs ts ls p) (step_type_labels (saying w k) there o bs ts ls p)
  step_type_labels_keeps (Sign CloseBracket) o bs ts ls p g = put_type_goes p (fields_type (join o there) bs ts ls)
  step_type_labels_keeps (Identifier n) o bs ts ls p g = g
  step_type_labels_keeps _ o bs ts ls p g = g

  pub step_type_label_keeps : (k : TokenKind) (o : Span) (bs : TypeBinders) (ts : TypeTrees) (ls : LabelledTypes) (x : Id) (p : TypePlace) → Keeps (step_type_label k here o bs ts ls x p) (step_type_label (saying w k) there o bs ts ls x p)
  step_type_label_keeps (Sign Equals) o bs ts ls x p g = g
  step_type_label_keeps _ o bs ts ls x p g = g

  pub step_type_binders_keeps : (k : TokenKind) (o : Span) (bs : TypeBinders) (p : TypePlace) → Keeps (step_type_binders k here o bs p) (step_type_binders (saying w k) there o bs p)
  step_type_binders_keeps (Sign Hash) o bs p g = g
  step_type_binders_keeps k o bs p g = step_types_keeps k o bs no_types p g

  pub begin_pattern_keeps : (k : TokenKind) (p : PatternPlace) → Keeps (begin_pattern k here p) (begin_pattern (saying w k) there p)
  begin_pattern_keeps (Identifier n) p g = g
  begin_pattern_keeps (Sign Underscore) p g = g
  begin_pattern_keeps (Sign OpenBracket) p g = g
  begin_pattern_keeps (Sign OpenParen) p g = g
  begin_pattern_keeps _ p g = g

  pub step_pattern_open_keeps : (k : TokenKind) (o : Span) (p : PatternPlace) → Keeps (step_pattern_open k here o p) (step_pattern_open (saying w k) there o p)
  step_pattern_open_keeps (Keyword Rec) o p g = g
  step_pattern_open_keeps _ o p g = g

  pub step_pattern_rec_keeps : (k : TokenKind) (o : Span) (p : PatternPlace) → Keeps (step_pattern_rec k here o p) (step_pattern_rec (saying w k) there o p)
  step_pattern_rec_keeps (Sign Colon) o p g = g
  step_pattern_rec_keeps k o p g = begin_pattern_keeps k (in_fold_pattern o None p) g

  pub step_pattern_folded_keeps : (k : TokenKind) (o : Span) (r : RType) (q : Pat) (p : PatternPlace) → Keeps (step_pattern_folded k here o r q p) (step_pattern_folded (saying w k) there o r q p)
  step_pattern_folded_keeps (Sign CloseParen) o r q p g = put_pattern_goes p (fold_pat (join o there) r q)
  step_pattern_folded_keeps _ o r q p g = g

  close_patterns_keeps : (m : AnySign) (p : FieldPatternsPlace) (f : FieldPats) → Keeps (close_patterns m here p f) (close_patterns m there p f)
  close_patterns_keeps CloseBracket (in_pattern_record o p) f g = put_pattern_goes p (fields_pat (join o there) f)
  close_patterns_keeps CloseParen (in_parameters o p) f g = g
  close_patterns_keeps _ p f g = g

  pub step_patterns_keeps : (k : TokenKind) (p : FieldPatternsPlace) (bs : TypeBinders) (ps : Pats) → Keeps (step_patterns k here p bs ps) (step_patterns (saying w k) there p bs ps)
  step_patterns_keeps (Sign CloseBracket) p bs ps g = close_patterns_keeps CloseBracket p (field_pats bs ps no_labelled_pats) g
  step_patterns_keeps (Sign CloseParen) p bs ps g = close_patterns_keeps CloseParen p (field_pats bs ps no_labelled_pats) g
  step_patterns_keeps (Identifier n) p bs ps g = g
  step_patterns_keeps k p bs ps g = begin_pattern_keeps k (in_field_pattern p bs ps) g

  pub step_pattern_labels_keeps : (k : TokenKind) (p : FieldPatternsPlace) (bs : TypeBinders) (ps : Pats) (ls : LabelledPats) → Keeps (step_pattern_labels k here p bs ps ls) (step_pattern_labels (saying w k) there p bs ps ls)
  step_pattern_labels_keeps (Sign CloseBracket) p bs ps ls g = close_patterns_keeps CloseBracket p (field_pats bs ps ls) g
  step_pattern_labels_keeps (Sign CloseParen) p bs ps ls g = close_patterns_keeps CloseParen p (field_pats bs ps ls) g
  step_pattern_labels_keeps (Identifier n) p bs ps ls g = g
  step_pattern_labels_keeps _ p bs ps ls g = g

  pub step_pattern_label_keeps : (k : TokenKind) (p : FieldPatternsPlace) (bs : TypeBinders) (ps : Pats) (ls : LabelledPats) (x : Id) → Keeps (step_pattern_label k here p bs ps ls x) (step_pattern_label (saying w k) there p bs ps ls x)
  step_pattern_label_keeps (Sign Equals) p bs ps ls x g = g
  step_pattern_label_keeps _ p bs ps ls x g = g

  pub step_binders_keeps : (k : TokenKind) (p : FieldPatternsPlace) (bs : TypeBinders) → Keeps (step_binders k here p bs) (step_binders (saying w k) there p bs)
  step_binders_keeps (Sign Hash) p bs g = g
  step_binders_keeps k p bs g = step_patterns_keeps k p bs no_pats g

  pub step_let_pattern_keeps : (k : TokenKind) (j : Span) (q : Pat) (p : DeclarationPlace) → Keeps (step_let_pattern k here j q p) (step_let_pattern (saying w k) there j q p)
  step_let_pattern_keeps (Sign Equals) j q p g = g
  step_let_pattern_keeps _ j q p g = g

  pub step_abstraction_pattern_keeps : (k : TokenKind) (q : Pat) (p : AbstractionPlace) → Keeps (step_abstraction_pattern k here q p) (step_abstraction_pattern (saying w k) there q p)
  step_abstraction_pattern_keeps (Sign Equals) q p g = g
  step_abstraction_pattern_keeps _ q p g = g

  step_pattern_keeps : (k : TokenKind) (q : Pat) (p : PatternPlace) → Keeps (step_pattern k here q p) (step_pattern (saying w k) there q p)
  step_pattern_keeps k q (in_let_pattern j p) g = step_let_pattern_keeps k j q p g
  step_pattern_keeps k q (in_abstraction_pattern p) g = step_abstraction_pattern_keeps k q p g
  step_pattern_keeps k q (in_fold_pattern o r p) g = step_pattern_folded_keeps k o r q p g
  step_pattern_keeps k q (in_field_pattern p bs ps) g = step_patterns_keeps k p bs (more_pats ps q) g
  step_pattern_keeps k q (in_label_pattern p bs ps ls x) g = step_pattern_labels_keeps k p bs ps (more_labelled_pats ls x q) g

  pub step_bind_keeps : (k : TokenKind) (x : Id) (p : PatternPlace) → Keeps (step_bind k here x p) (step_bind (saying w k) there x p)
  step_bind_keeps (Sign Colon) x p g = g
  step_bind_keeps k x p g = step_pattern_keeps k (bind_pat x.span x None) p g

  pub step_any_keeps : (k : TokenKind) (j : Span) (p : PatternPlace) → Keeps (step_any k here j p) (step_any (saying w k) there j p)
  step_any_keeps (Sign Colon) j p g = g
  step_any_keeps k j p g = step_pattern_keeps k (any_pat j None) p g

  pub step_pattern_name_keeps : (k : TokenKind) (p : FieldPatternsPlace) (bs : TypeBinders) (ps : Pats) (x : Id) → Keeps (step_pattern_name k here p bs ps x) (step_pattern_name (saying w k) there p bs ps x)
  step_pattern_name_keeps (Sign Equals) p bs ps x g = g
  step_pattern_name_keeps k p bs ps x g = step_bind_keeps k x (in_field_pattern p bs ps) g

  step_binder_keeps : (k : TokenKind) (b : TypeBinder) (p : BinderPlace) → Keeps (step_binder k here b p) (step_binder (saying w k) there b p)
  step_binder_keeps k b (of_patterns p bs) g = step_binders_keeps k p (more_binders bs b) g
  step_binder_keeps k b (of_types o bs p) g = step_type_binders_keeps k o (more_binders bs b) p g

  pub step_hash_keeps : (k : TokenKind) (h : Span) (p : BinderPlace) → Keeps (step_hash k here h p) (step_hash (saying w k) there h p)
  step_hash_keeps (Identifier n) h p g = g
  step_hash_keeps _ h p g = g

  pub step_binder_name_keeps : (k : TokenKind) (h : Span) (x : Id) (p : BinderPlace) → Keeps (step_binder_name k here h x p) (step_binder_name (saying w k) there h x p)
  step_binder_name_keeps (Sign Colon) h x p g = g
  step_binder_name_keeps (Sign Less) h x p g = g
  step_binder_name_keeps k h x p g = step_binder_keeps k (type_binder (join h x.span) x None unbounded) p g

  pub step_need_kind_keeps : (k : TokenKind) (h : Span) (x : Id) (p : BinderPlace) → Keeps (step_need_kind k here h x p) (step_need_kind (saying w k) there h x p)
  step_need_kind_keeps (Keyword TypeKind) h x p g = g
  step_need_kind_keeps (Sign OpenParen) h x p g = g
  step_need_kind_keeps _ h x p g = g

  pub step_kind_arguments_keeps : (k : TokenKind) (h : Span) (x : Id) (ms : List Mark) (p : BinderPlace) → Keeps (step_kind_arguments k here h x ms p) (step_kind_arguments (saying w k) there h x ms p)
  step_kind_arguments_keeps (Keyword TypeKind) h x ms p g = g
  step_kind_arguments_keeps (Symbol symbol_name.Plus n) h x ms p g = g
  step_kind_arguments_keeps (Symbol symbol_name.Minus n) h x ms p g = g
  step_kind_arguments_keeps (Sign Arrow) h x ms p g = g
  step_kind_arguments_keeps _ h x ms p g = g

  pub step_kind_mark_keeps : (k : TokenKind) (h : Span) (x : Id) (ms : List Mark) (m : Mark) (p : BinderPlace) → Keeps (step_kind_mark k here h x ms m p) (step_kind_mark (saying w k) there h x ms m p)
  step_kind_mark_keeps (Keyword TypeKind) h x ms m p g = g
  step_kind_mark_keeps _ h x ms m p g = g

  pub step_kind_arrow_keeps : (k : TokenKind) (h : Span) (x : Id) (ms : List Mark) (p : BinderPlace) → Keeps (step_kind_arrow k here h x ms p) (step_kind_arrow (saying w k) there h x ms p)
  step_kind_arrow_keeps (Keyword TypeKind) h x ms p g = g
  step_kind_arrow_keeps _ h x ms p g = g

  pub step_kind_result_keeps : (k : TokenKind) (h : Span) (x : Id) (ms : List Mark) (p : BinderPlace) → Keeps (step_kind_result k here h x ms p) (step_kind_result (saying w k) there h x ms p)
  step_kind_result_keeps (Sign CloseParen) h x ms p g = g
  step_kind_result_keeps _ h x ms p g = g

  pub step_binder_kind_keeps : (k : TokenKind) (h : Span) (x : Id) (c : KindTree) (j : Span) (p : BinderPlace) → Keeps (step_binder_kind k here h x c j p) (step_binder_kind (saying w k) there h x c j p)
  step_binder_kind_keeps (Sign Less) h x c j p g = g
  step_binder_kind_keeps k h x c j p g = step_binder_keeps k (type_binder (join h j) x (Some c) unbounded) p g
