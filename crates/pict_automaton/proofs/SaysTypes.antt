-- A token that is read has been read behind what was read: types, type binders and patterns.
use Rattle.std.proofs.Common.{List, [], ◌∷◌, ◌++◌, refl, None, Some}
use Rattle.pict_syntax.specs.declared.span.Span.{Span}
use Rattle.pict_syntax.specs.declared.id.Id.{Id}
use Rattle.pict_syntax.specs.declared.type_tree.Mark.{Mark}
use Rattle.pict_syntax.specs.declared.type_tree.Mark.TheVariants as mark
use Rattle.pict_syntax.specs.declared.token.SymbolName.TheVariants as symbol_name
use Rattle.pict_syntax.specs.declared.token.TokenKind.{TokenKind}
use Rattle.pict_syntax.specs.declared.token.TokenKind.TheVariants.{Identifier, Symbol, Keyword, Sign}
use Rattle.pict_syntax.specs.declared.token.Keyword.{Keyword as AnyKeyword}
use Rattle.pict_syntax.specs.declared.token.Keyword.TheVariants.{Rec, BoolType, CharType, IntType, StringType, TopType, TypeKind}
use Rattle.pict_syntax.specs.declared.token.Sign.{Sign as AnySign}
use Rattle.pict_syntax.specs.declared.token.Sign.TheVariants.{Bang, Question, Equals, OpenParen, CloseParen, OpenBracket, CloseBracket, Colon, Less, Caret, Slash, Hash, Underscore, Arrow}
use Rattle.pict_syntax.specs.Trees.{KindTree, operator_kind, TypeTree, top_type, int_type, char_type, string_type, bool_type, use_type, fields_type, apply_type, rec_type, TypeBinder, type_binder, unbounded, TypeTrees, no_types, more_types, TypeBinders, more_binders, LabelledTypes, no_labelled_types, RType, Pat, bind_pat, any_pat, fields_pat, fold_pat, FieldPats, field_pats, Pats, no_pats, more_pats, LabelledPats, no_labelled_pats, more_labelled_pats}
use Rattle.pict_syntax.specs.Phrases.{◌▸◌, at, keyword, sign, ident, join}
use Rattle.pict_syntax.specs.Grammar.{IsMark, AreMarks, IsKind, SomeKind, IsType, IsBinder, IsPat, AreFieldPats}
use Rattle.pict_automaton.specs.Places.{DeclarationPlace, AbstractionPlace, PatternPlace, in_let_pattern, in_abstraction_pattern, in_fold_pattern, in_field_pattern, in_label_pattern, FieldPatternsPlace, in_pattern_record, in_parameters, TypePlace, in_type_field, in_type_apply, BinderPlace, of_patterns, of_types, let_pattern, abstraction_pattern, pattern_open, pattern_rec, pattern_folded, have_bind, have_any, after_binders, after_patterns, pattern_name, after_pattern_labels, pattern_label, binder_hash, binder_name, need_kind, kind_arguments, kind_mark, kind_arrow, kind_result, binder_kind, rec_keyword, rec_name, rec_body, operator_arguments, after_type_binders, after_types, type_name, after_type_labels, type_label}
use Rattle.pict_automaton.specs.Machine.{begin_type_keyword, begin_type_sign, begin_type, step_type_open, step_rec_keyword, step_rec_name, step_rec_body, close_operator_arguments, step_operator_arguments, step_types, step_type_name, step_type_labels, step_type_label, step_type_binders, begin_pattern, step_pattern_open, step_pattern_rec, step_pattern_folded, close_patterns, step_patterns, step_pattern_labels, step_pattern_label, step_binders, step_let_pattern, step_abstraction_pattern, step_pattern, step_bind, step_any, step_pattern_name, step_binder, step_hash, step_binder_name, step_need_kind, kind_arrow_at, step_kind_arguments, step_kind_mark, step_kind_arrow, step_kind_result, step_binder_kind}
use Rattle.pict_automaton.proofs.Inclusions.{Sub, same, then, assoc, under, over, apart2, join1, join2, join3, join4, join5, a_keyword, a_sign, some_symbol, add_nothing, from_nothing, drop_nothing, never_first, gone, a_led, closing}
use Rattle.pict_automaton.proofs.Says.{mark_symbol, pattern_says, patterns_says, type_says, binder_says, state_says}
use Rattle.pict_automaton.proofs.SaysPuts.{any_bare, bind_bare, put_pattern_says, put_binder_says, put_type_says}

begin_type_keyword_says : (k : AnyKeyword) (i : Span) (p : TypePlace) → Sub (type_says p ▸ at (Keyword k) i) (state_says (begin_type_keyword k i p))
unfolding IsType
begin_type_keyword_says TopType i p = put_type_says p (top_type i)
begin_type_keyword_says IntType i p = put_type_says p (int_type i)
begin_type_keyword_says CharType i p = put_type_says p (char_type i)
begin_type_keyword_says StringType i p = put_type_says p (string_type i)
begin_type_keyword_says BoolType i p = put_type_says p (bool_type i)
begin_type_keyword_says _ i p = gone

begin_type_sign_says : (m : AnySign) (i : Span) (p : TypePlace) → Sub (type_says p ▸ at (Sign m) i) (state_says (begin_type_sign m i p))
unfolding IsType
begin_type_sign_says Caret i p = same
begin_type_sign_says Question i p = same
begin_type_sign_says Bang i p = same
begin_type_sign_says Slash i p = same
begin_type_sign_says OpenBracket i p = under add_nothing
begin_type_sign_says OpenParen i p = same
begin_type_sign_says _ i p = gone

pub begin_type_says : (k : TokenKind) (i : Span) (p : TypePlace) → Sub (type_says p ▸ at k i) (state_says (begin_type k i p))
unfolding IsType
begin_type_says (Keyword k) i p = begin_type_keyword_says k i p
begin_type_says (Sign m) i p = begin_type_sign_says m i p
begin_type_says (Identifier n) i p = put_type_says p (use_type i n)
begin_type_says _ i p = gone

pub step_type_open_says : (k : TokenKind) (i o : Span) (p : TypePlace) → Sub ((type_says p ▸ at (Sign OpenParen) o) ▸ at k i) (state_says (step_type_open k i o p))
unfolding IsType
step_type_open_says (Keyword Rec) i o p = join1 (under a_keyword)
step_type_open_says (Identifier n) i o p = join1 (under add_nothing)
step_type_open_says _ i o p = gone

pub step_rec_keyword_says : (k : TokenKind) (i o : Span) (p : TypePlace) → Sub (state_says (rec_keyword o p) ▸ at k i) (state_says (step_rec_keyword k i o p))
step_rec_keyword_says (Identifier n) i o p = join2 same
step_rec_keyword_says _ i o p = gone

pub step_rec_name_says : (k : TokenKind) (i o : Span) (x : Id) (p : TypePlace) → Sub (state_says (rec_name o x p) ▸ at k i) (state_says (step_rec_name k i o x p))
step_rec_name_says (Sign Equals) i o x p = join3 (under a_sign)
step_rec_name_says _ i o x p = gone

pub step_rec_body_says : (k : TokenKind) (i o : Span) (x : Id) (t : TypeTree) (p : TypePlace) → Sub (state_says (rec_body o x t p) ▸ at k i) (state_says (step_rec_body k i o x t p))
unfolding IsType
step_rec_body_says (Sign CloseParen) i o x t p = then (join1 closing) (put_type_says p (rec_type (join o i) x t))
step_rec_body_says _ i o x t p = gone

close_operator_arguments_says : (i o : Span) (x : Id) (ts : TypeTrees) (p : TypePlace) → Sub (state_says (operator_arguments o x ts p) ▸ at (Sign CloseParen) i) (state_says (close_operator_arguments i o x ts p))
unfolding IsType
close_operator_arguments_says i o x no_types p = gone
close_operator_arguments_says i o x (more_types ts t) p = then (join1 closing) (put_type_says p (apply_type (join o i) x (more_types ts t)))

pub step_operator_arguments_says : (k : TokenKind) (i o : Span) (x : Id) (ts : TypeTrees) (p : TypePlace) → Sub (state_says (operator_arguments o x ts p) ▸ at k i) (state_says (step_operator_arguments k i o x ts p))
step_operator_arguments_says (Sign CloseParen) i o x ts p = close_operator_arguments_says i o x ts p
step_operator_arguments_says k i o x ts p = begin_type_says k i (in_type_apply o x ts p)

pub step_types_says : (k : TokenKind) (i o : Span) (bs : TypeBinders) (ts : TypeTrees) (p : TypePlace) → Sub (state_says (after_types o bs ts p) ▸ at k i) (state_says (step_types k i o bs ts p))
unfolding IsType
step_types_says (Sign CloseBracket) i o bs ts p = then (over (under (under (under add_nothing)))) (then (join1 closing) (put_type_says p (fields_type (join o i) bs ts no_labelled_types)))
step_types_says (Identifier n) i o bs ts p = join3 same
step_types_says k i o bs ts p = begin_type_says k i (in_type_field o bs ts p)

pub step_type_name_says : (k : TokenKind) (i o : Span) (bs : TypeBinders) (ts : TypeTrees) (x : Id) (p : TypePlace) → Sub (state_says (type_name o bs ts x p) ▸ at k i) (state_says (step_type_name k i o bs ts x p))
unfolding IsType
step_type_name_says (Sign Equals) i o bs ts x p = join4 (then (under a_sign) from_nothing)
step_type_name_says k i o bs ts x p = step_types_says k i o bs (more_types ts (use_type x.span x.name)) p

pub step_type_labels_says : (k : TokenKind) (i o : Span) (bs : TypeBinders) (ts : TypeTrees) (ls : LabelledTypes) (p : TypePlace) → Sub (state_says (after_type_labels o bs ts ls p) ▸ at k i) (state_says (step_type_labels k i o bs ts ls p))
unfolding IsType
step_type_labels_says (Sign CloseBracket) i o bs ts ls p = then (join1 closing) (put_type_says p (fields_type (join o i) bs ts ls))
step_type_labels_says (Identifier n) i o bs ts ls p = join4 same
step_type_labels_says _ i o bs ts ls p = gone

pub step_type_label_says : (k : TokenKind) (i o : Span) (bs : TypeBinders) (ts : TypeTrees) (ls : LabelledTypes) (x : Id) (p : TypePlace) → Sub (state_says (type_label o bs ts ls x p) ▸ at k i) (state_says (step_type_label k i o bs ts ls x p))
step_type_label_says (Sign Equals) i o bs ts ls x p = join5 (under a_sign)
step_type_label_says _ i o bs ts ls x p = gone

pub step_type_binders_says : (k : TokenKind) (i o : Span) (bs : TypeBinders) (p : TypePlace) → Sub (state_says (after_type_binders o bs p) ▸ at k i) (state_says (step_type_binders k i o bs p))
unfolding IsType
step_type_binders_says (Sign Hash) i o bs p = same
step_type_binders_says k i o bs p = then (over (under (under add_nothing))) (step_types_says k i o bs no_types p)

-- patterns
pub begin_pattern_says : (k : TokenKind) (i : Span) (p : PatternPlace) → Sub (pattern_says p ▸ at k i) (state_says (begin_pattern k i p))
unfolding IsType
begin_pattern_says (Identifier n) i p = same
begin_pattern_says (Sign Underscore) i p = same
begin_pattern_says (Sign OpenBracket) i p = add_nothing
begin_pattern_says (Sign OpenParen) i p = same
begin_pattern_says _ i p = gone

pub step_pattern_open_says : (k : TokenKind) (i o : Span) (p : PatternPlace) → Sub (state_says (pattern_open o p) ▸ at k i) (state_says (step_pattern_open k i o p))
step_pattern_open_says (Keyword Rec) i o p = join1 (under a_keyword)
step_pattern_open_says _ i o p = gone

pub step_pattern_rec_says : (k : TokenKind) (i o : Span) (p : PatternPlace) → Sub (state_says (pattern_rec o p) ▸ at k i) (state_says (step_pattern_rec k i o p))
step_pattern_rec_says (Sign Colon) i o p = join2 (under a_sign)
step_pattern_rec_says k i o p = then (over (under (under add_nothing))) (begin_pattern_says k i (in_fold_pattern o None p))

pub step_pattern_folded_says : (k : TokenKind) (i o : Span) (r : RType) (q : Pat) (p : PatternPlace) → Sub (state_says (pattern_folded o r q p) ▸ at k i) (state_says (step_pattern_folded k i o r q p))
unfolding IsPat
step_pattern_folded_says (Sign CloseParen) i o r q p = then (join1 closing) (put_pattern_says (fold_pat (join o i) r q) p)
step_pattern_folded_says _ i o r q p = gone

close_patterns_says : (m : AnySign) (i : Span) (p : FieldPatternsPlace) (f : FieldPats) → Sub ((patterns_says p ▸ AreFieldPats f) ▸ at (Sign m) i) (state_says (close_patterns m i p f))
unfolding IsPat
close_patterns_says CloseBracket i (in_pattern_record o p) f = then (over assoc) (then (join1 closing) (put_pattern_says (fields_pat (join o i) f) p))
close_patterns_says CloseParen i (in_parameters o p) f = then (over assoc) (join2 (under a_sign))
close_patterns_says _ i p f = gone

pub step_patterns_says : (k : TokenKind) (i : Span) (p : FieldPatternsPlace) (bs : TypeBinders) (ps : Pats) → Sub (state_says (after_patterns p bs ps) ▸ at k i) (state_says (step_patterns k i p bs ps))
unfolding IsPat
step_patterns_says (Sign CloseBracket) i p bs ps = then (over (under (under add_nothing))) (close_patterns_says CloseBracket i p (field_pats bs ps no_labelled_pats))
step_patterns_says (Sign CloseParen) i p bs ps = then (over (under (under add_nothing))) (close_patterns_says CloseParen i p (field_pats bs ps no_labelled_pats))
step_patterns_says (Identifier n) i p bs ps = join2 same
step_patterns_says k i p bs ps = begin_pattern_says k i (in_field_pattern p bs ps)

pub step_pattern_labels_says : (k : TokenKind) (i : Span) (p : FieldPatternsPlace) (bs : TypeBinders) (ps : Pats) (ls : LabelledPats) → Sub (state_says (after_pattern_labels p bs ps ls) ▸ at k i) (state_says (step_pattern_labels k i p bs ps ls))
unfolding IsPat
step_pattern_labels_says (Sign CloseBracket) i p bs ps ls = close_patterns_says CloseBracket i p (field_pats bs ps ls)
step_pattern_labels_says (Sign CloseParen) i p bs ps ls = close_patterns_says CloseParen i p (field_pats bs ps ls)
step_pattern_labels_says (Identifier n) i p bs ps ls = join3 same
step_pattern_labels_says _ i p bs ps ls = gone

pub step_pattern_label_says : (k : TokenKind) (i : Span) (p : FieldPatternsPlace) (bs : TypeBinders) (ps : Pats) (ls : LabelledPats) (x : Id) → Sub (state_says (pattern_label p bs ps ls x) ▸ at k i) (state_says (step_pattern_label k i p bs ps ls x))
step_pattern_label_says (Sign Equals) i p bs ps ls x = join4 (under a_sign)
step_pattern_label_says _ i p bs ps ls x = gone

pub step_binders_says : (k : TokenKind) (i : Span) (p : FieldPatternsPlace) (bs : TypeBinders) → Sub (state_says (after_binders p bs) ▸ at k i) (state_says (step_binders k i p bs))
unfolding IsPat
step_binders_says (Sign Hash) i p bs = same
step_binders_says k i p bs = then (over (under add_nothing)) (step_patterns_says k i p bs no_pats)

pub step_let_pattern_says : (k : TokenKind) (i j : Span) (q : Pat) (p : DeclarationPlace) → Sub (state_says (let_pattern j q p) ▸ at k i) (state_says (step_let_pattern k i j q p))
step_let_pattern_says (Sign Equals) i j q p = join2 (under a_sign)
step_let_pattern_says _ i j q p = gone

pub step_abstraction_pattern_says : (k : TokenKind) (i : Span) (q : Pat) (p : AbstractionPlace) → Sub (state_says (abstraction_pattern q p) ▸ at k i) (state_says (step_abstraction_pattern k i q p))
step_abstraction_pattern_says (Sign Equals) i q p = join1 (under a_sign)
step_abstraction_pattern_says _ i q p = gone

step_pattern_says : (k : TokenKind) (i : Span) (q : Pat) (p : PatternPlace) → Sub ((pattern_says p ▸ IsPat q) ▸ at k i) (state_says (step_pattern k i q p))
step_pattern_says k i q (in_let_pattern j p) = then (over (put_pattern_says q (in_let_pattern j p))) (step_let_pattern_says k i j q p)
step_pattern_says k i q (in_abstraction_pattern p) = then (over (put_pattern_says q (in_abstraction_pattern p))) (step_abstraction_pattern_says k i q p)
step_pattern_says k i q (in_fold_pattern o r p) = then (over (put_pattern_says q (in_fold_pattern o r p))) (step_pattern_folded_says k i o r q p)
step_pattern_says k i q (in_field_pattern p bs ps) = then (over (put_pattern_says q (in_field_pattern p bs ps))) (step_patterns_says k i p bs (more_pats ps q))
step_pattern_says k i q (in_label_pattern p bs ps ls x) = then (over (put_pattern_says q (in_label_pattern p bs ps ls x))) (step_pattern_labels_says k i p bs ps (more_labelled_pats ls x q))

pub step_bind_says : (k : TokenKind) (i : Span) (x : Id) (p : PatternPlace) → Sub (state_says (have_bind x p) ▸ at k i) (state_says (step_bind k i x p))
step_bind_says (Sign Colon) i x p = join1 (under a_sign)
step_bind_says k i x p = then (over (under (bind_bare x))) (step_pattern_says k i (bind_pat x.span x None) p)

pub step_any_says : (k : TokenKind) (i j : Span) (p : PatternPlace) → Sub (state_says (have_any j p) ▸ at k i) (state_says (step_any k i j p))
step_any_says (Sign Colon) i j p = join1 (under a_sign)
step_any_says k i j p = then (over (under any_bare)) (step_pattern_says k i (any_pat j None) p)

pub step_pattern_name_says : (k : TokenKind) (i : Span) (p : FieldPatternsPlace) (bs : TypeBinders) (ps : Pats) (x : Id) → Sub (state_says (pattern_name p bs ps x) ▸ at k i) (state_says (step_pattern_name k i p bs ps x))
unfolding IsPat
step_pattern_name_says (Sign Equals) i p bs ps x = join3 (then (under a_sign) from_nothing)
step_pattern_name_says k i p bs ps x = then (over apart2) (step_bind_says k i x (in_field_pattern p bs ps))

-- type binders
step_binder_says : (k : TokenKind) (i : Span) (b : TypeBinder) (p : BinderPlace) → Sub ((binder_says p ▸ IsBinder b) ▸ at k i) (state_says (step_binder k i b p))
step_binder_says k i b (of_patterns p bs) = then (over (put_binder_says b (of_patterns p bs))) (step_binders_says k i p (more_binders bs b))
step_binder_says k i b (of_types o bs p) = then (over (put_binder_says b (of_types o bs p))) (step_type_binders_says k i o (more_binders bs b) p)

pub step_hash_says : (k : TokenKind) (i h : Span) (p : BinderPlace) → Sub (state_says (binder_hash h p) ▸ at k i) (state_says (step_hash k i h p))
step_hash_says (Identifier n) i h p = join1 same
step_hash_says _ i h p = gone

pub step_binder_name_says : (k : TokenKind) (i h : Span) (x : Id) (p : BinderPlace) → Sub (state_says (binder_name h x p) ▸ at k i) (state_says (step_binder_name k i h x p))
unfolding IsType
step_binder_name_says (Sign Colon) i h x p = join2 (under a_sign)
step_binder_name_says (Sign Less) i h x p = join2 (under a_sign)
step_binder_name_says k i h x p = then (over (under (a_led x.span))) (step_binder_says k i (type_binder (join h x.span) x None unbounded) p)

pub step_need_kind_says : (k : TokenKind) (i h : Span) (x : Id) (p : BinderPlace) → Sub (state_says (need_kind h x p) ▸ at k i) (state_says (step_need_kind k i h x p))
unfolding AreMarks
step_need_kind_says (Keyword TypeKind) i h x p = join3 same
step_need_kind_says (Sign OpenParen) i h x p = join3 (under (then a_sign add_nothing))
step_need_kind_says _ i h x p = gone

mark_whole : (m : Mark) → Sub (mark_symbol m ▸ keyword TypeKind) (IsMark m)
mark_whole mark.Plain = drop_nothing
mark_whole mark.Plus = same
mark_whole mark.Minus = same

marks_more : (ms : List Mark) (m : Mark) → Sub (AreMarks ms ▸ IsMark m) (AreMarks (ms ++ m ∷ []))
unfolding AreMarks
marks_more [] m = then drop_nothing add_nothing
marks_more (n ∷ ms) m = then assoc (under (marks_more ms m))

kind_arrow_says : (i h : Span) (x : Id) (ms : List Mark) (p : BinderPlace) → Sub (state_says (kind_arguments h x ms p) ▸ at (Sign Arrow) i) (state_says (kind_arrow_at h x ms p))
kind_arrow_says i h x [] p = gone
kind_arrow_says i h x (m ∷ ms) p = join4 (join1 (under a_sign))

pub step_kind_arguments_says : (k : TokenKind) (i h : Span) (x : Id) (ms : List Mark) (p : BinderPlace) → Sub (state_says (kind_arguments h x ms p) ▸ at k i) (state_says (step_kind_arguments k i h x ms p))
step_kind_arguments_says (Keyword TypeKind) i h x ms p = join4 (join1 (then (under a_keyword) (marks_more ms mark.Plain)))
step_kind_arguments_says (Symbol symbol_name.Plus n) i h x ms p = join4 (join1 (under some_symbol))
step_kind_arguments_says (Symbol symbol_name.Minus n) i h x ms p = join4 (join1 (under some_symbol))
step_kind_arguments_says (Sign Arrow) i h x ms p = kind_arrow_says i h x ms p
step_kind_arguments_says _ i h x ms p = gone

pub step_kind_mark_says : (k : TokenKind) (i h : Span) (x : Id) (ms : List Mark) (m : Mark) (p : BinderPlace) → Sub (state_says (kind_mark h x ms m p) ▸ at k i) (state_says (step_kind_mark k i h x ms m p))
step_kind_mark_says (Keyword TypeKind) i h x ms m p = join4 (join1 (then assoc (then (under (then (under a_keyword) (mark_whole m))) (marks_more ms m))))
step_kind_mark_says _ i h x ms m p = gone

kind_result_says : (i h : Span) (x : Id) (ms : List Mark) (p : BinderPlace) → Sub (state_says (kind_arrow h x ms p) ▸ at (Keyword TypeKind) i) (state_says (kind_result h x ms p))
kind_result_says i h x [] p = join4 never_first
kind_result_says i h x (m ∷ ms) p = join4 (join2 (under a_keyword))

pub step_kind_arrow_says : (k : TokenKind) (i h : Span) (x : Id) (ms : List Mark) (p : BinderPlace) → Sub (state_says (kind_arrow h x ms p) ▸ at k i) (state_says (step_kind_arrow k i h x ms p))
step_kind_arrow_says (Keyword TypeKind) i h x ms p = kind_result_says i h x ms p
step_kind_arrow_says _ i h x ms p = gone

kind_end_says : (i h : Span) (x : Id) (ms : List Mark) (p : BinderPlace) → Sub (state_says (kind_result h x ms p) ▸ at (Sign CloseParen) i) (state_says (binder_kind h x (operator_kind ms) i p))
kind_end_says i h x [] p = join4 never_first
kind_end_says i h x (m ∷ ms) p = join4 (join3 same)

pub step_kind_result_says : (k : TokenKind) (i h : Span) (x : Id) (ms : List Mark) (p : BinderPlace) → Sub (state_says (kind_result h x ms p) ▸ at k i) (state_says (step_kind_result k i h x ms p))
step_kind_result_says (Sign CloseParen) i h x ms p = kind_end_says i h x ms p
step_kind_result_says _ i h x ms p = gone

a_kind : (c : KindTree) (j : Span) → Sub (IsKind c j) (SomeKind c)
a_kind c j = record { «in» = λ ts h. (j, h) }

kind_node : (h : Span) (x : Id) (c : KindTree) (j : Span) → Sub (at (Sign Hash) h ▸ (ident x ▸ (sign Colon ▸ IsKind c j))) (IsBinder (type_binder (join h j) x (Some c) unbounded))
unfolding IsType
kind_node h x c j = record { «in» = λ ts d. (j, (h, refl, d)) }

pub step_binder_kind_says : (k : TokenKind) (i h : Span) (x : Id) (c : KindTree) (j : Span) (p : BinderPlace) → Sub (state_says (binder_kind h x c j p) ▸ at k i) (state_says (step_binder_kind k i h x c j p))
step_binder_kind_says (Sign Less) i h x c j p = join4 (then (over (a_kind c j)) (under a_sign))
step_binder_kind_says k i h x c j p = then (over (under (kind_node h x c j))) (step_binder_says k i (type_binder (join h j) x (Some c) unbounded) p)
