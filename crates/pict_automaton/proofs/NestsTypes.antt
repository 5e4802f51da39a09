-- A token adds its nesting: types, type binders and patterns.
use Rattle.std.proofs.Common.{ℕ, suc, List, [], ◌∷◌, ◌++◌, ◌≡◌, refl, ap, append_assoc, append-nil, None, Some}
use Rattle.pict_syntax.specs.declared.span.Span.{Span}
use Rattle.pict_syntax.specs.declared.id.Id.{Id}
use Rattle.pict_syntax.specs.declared.type_tree.Mark.{Mark}
use Rattle.pict_syntax.specs.declared.type_tree.Mark.TheVariants as mark
use Rattle.pict_syntax.specs.declared.token.SymbolName.TheVariants as symbol_name
use Rattle.pict_syntax.specs.declared.token.TokenKind.{TokenKind}
use Rattle.pict_syntax.specs.declared.token.TokenKind.TheVariants.{Identifier, Symbol, Keyword, Sign}
use Rattle.pict_syntax.specs.declared.token.Keyword.{Keyword as AnyKeyword}
use Rattle.pict_syntax.specs.declared.token.Keyword.TheVariants.{Rec, BoolType, CharType, IntType, StringType, TopType, TypeKind}
use Rattle.pict_syntax.specs.declared.token.Sign.{Sign as AnySign}
use Rattle.pict_syntax.specs.declared.token.Sign.TheVariants.{Bang, Question, Equals, OpenParen, CloseParen, OpenBracket, CloseBracket, Colon, Less, Caret, Slash, Hash, Underscore, Arrow}
use Rattle.pict_syntax.specs.Trees.{KindTree, TypeTree, top_type, int_type, char_type, string_type, bool_type, use_type, fields_type, apply_type, rec_type, TypeBinder, type_binder, unbounded, TypeTrees, no_types, more_types, TypeBinders, more_binders, LabelledTypes, no_labelled_types, RType, Pat, bind_pat, any_pat, fields_pat, fold_pat, FieldPats, field_pats, Pats, no_pats, more_pats, LabelledPats, no_labelled_pats, more_labelled_pats}
use Rattle.pict_syntax.specs.Phrases.{join}
use Rattle.pict_automaton.specs.Places.{DeclarationPlace, AbstractionPlace, PatternPlace, in_let_pattern, in_abstraction_pattern, in_fold_pattern, in_field_pattern, in_label_pattern, FieldPatternsPlace, in_pattern_record, in_parameters, TypePlace, in_type_field, in_type_apply, BinderPlace, of_patterns, of_types, let_pattern, abstraction_pattern, pattern_open, pattern_rec, pattern_folded, have_bind, have_any, after_binders, after_patterns, pattern_name, after_pattern_labels, pattern_label, binder_hash, binder_name, need_kind, kind_arguments, kind_mark, kind_arrow, kind_result, binder_kind, type_open, rec_keyword, rec_name, rec_body, operator_arguments, after_type_binders, after_types, type_name, after_type_labels, type_label}
use Rattle.pict_syntax.specs.Nesting.{marks_nest, type_nest, binder_nest, pat_nest, field_pats_nest}
use Rattle.pict_automaton.specs.Depth.{pattern_depth, patterns_depth, type_depth, binder_depth, depth}
use Rattle.pict_automaton.proofs.Nests.{mark_nests, pattern_nests, patterns_nests, type_nests, binder_nests, state_nests}
use Rattle.pict_automaton.proofs.NestsPuts.{put_pattern_nests, put_binder_nests, put_type_nests}
use Rattle.pict_automaton.proofs.NestsAdds.{Adds, stopped, stays, opens, shuts, ends, closes, behind}
use Rattle.pict_automaton.specs.Machine.{begin_type_keyword, begin_type_sign, begin_type, step_type_open, step_rec_keyword, step_rec_name, step_rec_body, close_operator_arguments, step_operator_arguments, step_types, step_type_name, step_type_labels, step_type_label, step_type_binders, begin_pattern, step_pattern_open, step_pattern_rec, step_pattern_folded, close_patterns, step_patterns, step_pattern_labels, step_pattern_label, step_binders, step_let_pattern, step_abstraction_pattern, step_pattern, step_bind, step_any, step_pattern_name, step_binder, step_hash, step_binder_name, step_need_kind, kind_arrow_at, step_kind_arguments, step_kind_mark, step_kind_arrow, step_kind_result, step_binder_kind}

begin_type_keyword_nests : (k : AnyKeyword) (i : Span) (p : TypePlace) → Adds (type_depth p) (type_nests p) (begin_type_keyword k i p)
unfolding type_nest
begin_type_keyword_nests TopType i p = ends (put_type_nests p (top_type i)) (λ ns. refl)
begin_type_keyword_nests IntType i p = ends (put_type_nests p (int_type i)) (λ ns. refl)
begin_type_keyword_nests CharType i p = ends (put_type_nests p (char_type i)) (λ ns. refl)
begin_type_keyword_nests StringType i p = ends (put_type_nests p (string_type i)) (λ ns. refl)
begin_type_keyword_nests BoolType i p = ends (put_type_nests p (bool_type i)) (λ ns. refl)
begin_type_keyword_nests _ i p = stopped

begin_type_sign_nests : (m : AnySign) (i : Span) (p : TypePlace) → Adds (type_depth p) (type_nests p) (begin_type_sign m i p)
unfolding type_nest
begin_type_sign_nests Caret i p = opens refl (λ ns. refl)
begin_type_sign_nests Question i p = opens refl (λ ns. refl)
begin_type_sign_nests Bang i p = opens refl (λ ns. refl)
begin_type_sign_nests Slash i p = opens refl (λ ns. refl)
begin_type_sign_nests OpenBracket i p = opens refl (λ ns. refl)
begin_type_sign_nests OpenParen i p = opens refl (λ ns. refl)
begin_type_sign_nests _ i p = stopped

pub begin_type_nests : (k : TokenKind) (i : Span) (p : TypePlace) → Adds (type_depth p) (type_nests p) (begin_type k i p)
unfolding type_nest
begin_type_nests (Keyword k) i p = begin_type_keyword_nests k i p
begin_type_nests (Sign m) i p = begin_type_sign_nests m i p
begin_type_nests (Identifier n) i p = ends (put_type_nests p (use_type i n)) (λ ns. refl)
begin_type_nests _ i p = stopped

pub step_type_open_nests : (k : TokenKind) (i o : Span) (p : TypePlace) → Adds (depth (type_open o p)) (state_nests (type_open o p)) (step_type_open k i o p)
unfolding type_nest
step_type_open_nests (Keyword Rec) i o p = stays (λ ns. refl)
step_type_open_nests (Identifier n) i o p = stays (λ ns. refl)
step_type_open_nests _ i o p = stopped

pub step_rec_keyword_nests : (k : TokenKind) (i o : Span) (p : TypePlace) → Adds (depth (rec_keyword o p)) (state_nests (rec_keyword o p)) (step_rec_keyword k i o p)
step_rec_keyword_nests (Identifier n) i o p = stays (λ ns. refl)
step_rec_keyword_nests _ i o p = stopped

pub step_rec_name_nests : (k : TokenKind) (i o : Span) (x : Id) (p : TypePlace) → Adds (depth (rec_name o x p)) (state_nests (rec_name o x p)) (step_rec_name k i o x p)
step_rec_name_nests (Sign Equals) i o x p = stays (λ ns. refl)
step_rec_name_nests _ i o x p = stopped

pub step_rec_body_nests : (k : TokenKind) (i o : Span) (x : Id) (t : TypeTree) (p : TypePlace) → Adds (depth (rec_body o x t p)) (state_nests (rec_body o x t p)) (step_rec_body k i o x t p)
unfolding type_nest
step_rec_body_nests (Sign CloseParen) i o x t p = closes (put_type_nests p (rec_type (join o i) x t)) (λ ns. simp append_assoc refl)
step_rec_body_nests _ i o x t p = stopped

close_operator_arguments_nests : (i o : Span) (x : Id) (ts : TypeTrees) (p : TypePlace) → Adds (depth (operator_arguments o x ts p)) (state_nests (operator_arguments o x ts p)) (close_operator_arguments i o x ts p)
unfolding type_nest
close_operator_arguments_nests i o x no_types p = stopped
close_operator_arguments_nests i o x (more_types ts t) p = closes (put_type_nests p (apply_type (join o i) x (more_types ts t))) (λ ns. simp append_assoc refl)

pub step_operator_arguments_nests : (k : TokenKind) (i o : Span) (x : Id) (ts : TypeTrees) (p : TypePlace) → Adds (depth (operator_arguments o x ts p)) (state_nests (operator_arguments o x ts p)) (step_operator_arguments k i o x ts p)
step_operator_arguments_nests (Sign CloseParen) i o x ts p = close_operator_arguments_nests i o x ts p
step_operator_arguments_nests k i o x ts p = begin_type_nests k i (in_type_apply o x ts p)

pub step_types_nests : (k : TokenKind) (i o : Span) (bs : TypeBinders) (ts : TypeTrees) (p : TypePlace) → Adds (depth (after_types o bs ts p)) (state_nests (after_types o bs ts p)) (step_types k i o bs ts p)
unfolding type_nest
step_types_nests (Sign CloseBracket) i o bs ts p = closes (put_type_nests p (fields_type (join o i) bs ts no_labelled_types)) (λ ns. simp append_assoc refl)
step_types_nests (Identifier n) i o bs ts p = stays (λ ns. refl)
step_types_nests k i o bs ts p = begin_type_nests k i (in_type_field o bs ts p)

pub step_type_name_nests : (k : TokenKind) (i o : Span) (bs : TypeBinders) (ts : TypeTrees) (x : Id) (p : TypePlace) → Adds (depth (type_name o bs ts x p)) (state_nests (type_name o bs ts x p)) (step_type_name k i o bs ts x p)
unfolding type_nest
step_type_name_nests (Sign Equals) i o bs ts x p = stays (λ ns. refl)
step_type_name_nests k i o bs ts x p = behind (λ ns. simp append_assoc refl) (step_types_nests k i o bs (more_types ts (use_type x.span x.name)) p)

pub step_type_labels_nests : (k : TokenKind) (i o : Span) (bs : TypeBinders) (ts : TypeTrees) (ls : LabelledTypes) (p : TypePlace) → Adds (depth (after_type_labels o bs ts ls p)) (state_nests (after_type_labels o bs ts ls p)) (step_type_labels k i o bs ts ls p)
unfolding type_nest
step_type_labels_nests (Sign CloseBracket) i o bs ts ls p = closes (put_type_nests p (fields_type (join o i) bs ts ls)) (λ ns. simp append_assoc refl)
step_type_labels_nests (Identifier n) i o bs ts ls p = stays (λ ns. refl)
step_type_labels_nests _ i o bs ts ls p = stopped

pub step_type_label_nests : (k : TokenKind) (i o : Span) (bs : TypeBinders) (ts : TypeTrees) (ls : LabelledTypes) (x : Id) (p : TypePlace) → Adds (depth (type_label o bs ts ls x p)) (state_nests (type_label o bs ts ls x p)) (step_type_label k i o bs ts ls x p)
step_type_label_nests (Sign Equals) i o bs ts ls x p = stays (λ ns. refl)
step_type_label_nests _ i o bs ts ls x p = stopped

pub step_type_binders_nests : (k : TokenKind) (i o : Span) (bs : TypeBinders) (p : TypePlace) → Adds (depth (after_type_binders o bs p)) (state_nests (after_type_binders o bs p)) (step_type_binders k i o bs p)
unfolding type_nest
step_type_binders_nests (Sign Hash) i o bs p = stays (λ ns. refl)
step_type_binders_nests k i o bs p = step_types_nests k i o bs no_types p

-- patterns
pub begin_pattern_nests : (k : TokenKind) (i : Span) (p : PatternPlace) → Adds (pattern_depth p) (pattern_nests p) (begin_pattern k i p)
unfolding type_nest
begin_pattern_nests (Identifier n) i p = stays (λ ns. refl)
begin_pattern_nests (Sign Underscore) i p = stays (λ ns. refl)
begin_pattern_nests (Sign OpenBracket) i p = opens refl (λ ns. refl)
begin_pattern_nests (Sign OpenParen) i p = opens refl (λ ns. refl)
begin_pattern_nests _ i p = stopped

pub step_pattern_open_nests : (k : TokenKind) (i o : Span) (p : PatternPlace) → Adds (depth (pattern_open o p)) (state_nests (pattern_open o p)) (step_pattern_open k i o p)
step_pattern_open_nests (Keyword Rec) i o p = stays (λ ns. refl)
step_pattern_open_nests _ i o p = stopped

pub step_pattern_rec_nests : (k : TokenKind) (i o : Span) (p : PatternPlace) → Adds (depth (pattern_rec o p)) (state_nests (pattern_rec o p)) (step_pattern_rec k i o p)
step_pattern_rec_nests (Sign Colon) i o p = stays (λ ns. refl)
step_pattern_rec_nests k i o p = begin_pattern_nests k i (in_fold_pattern o None p)

pub step_pattern_folded_nests : (k : TokenKind) (i o : Span) (r : RType) (q : Pat) (p : PatternPlace) → Adds (depth (pattern_folded o r q p)) (state_nests (pattern_folded o r q p)) (step_pattern_folded k i o r q p)
unfolding pat_nest
step_pattern_folded_nests (Sign CloseParen) i o r q p = closes (put_pattern_nests (fold_pat (join o i) r q) p) (λ ns. simp append_assoc refl)
step_pattern_folded_nests _ i o r q p = stopped

close_patterns_nests : (m : AnySign) (i : Span) (p : FieldPatternsPlace) (f : FieldPats) → Adds (patterns_depth p) (λ ns. patterns_nests p (field_pats_nest (patterns_depth p) f ++ ns)) (close_patterns m i p f)
unfolding pat_nest
close_patterns_nests CloseBracket i (in_pattern_record o p) f = closes (put_pattern_nests (fields_pat (join o i) f) p) (λ ns. simp append_assoc refl)
close_patterns_nests CloseParen i (in_parameters o p) f = shuts (λ ns. refl)
close_patterns_nests _ i p f = stopped

pub step_patterns_nests : (k : TokenKind) (i : Span) (p : FieldPatternsPlace) (bs : TypeBinders) (ps : Pats) → Adds (depth (after_patterns p bs ps)) (state_nests (after_patterns p bs ps)) (step_patterns k i p bs ps)
unfolding pat_nest
step_patterns_nests (Sign CloseBracket) i p bs ps = behind (λ ns. simp (append_assoc, append-nil) refl) (close_patterns_nests CloseBracket i p (field_pats bs ps no_labelled_pats))
step_patterns_nests (Sign CloseParen) i p bs ps = behind (λ ns. simp (append_assoc, append-nil) refl) (close_patterns_nests CloseParen i p (field_pats bs ps no_labelled_pats))
step_patterns_nests (Identifier n) i p bs ps = stays (λ ns. refl)
step_patterns_nests k i p bs ps = begin_pattern_nests k i (in_field_pattern p bs ps)

pub step_pattern_labels_nests : (k : TokenKind) (i : Span) (p : FieldPatternsPlace) (bs : TypeBinders) (ps : Pats) (ls : LabelledPats) → Adds (depth (after_pattern_labels p bs ps ls)) (state_nests (after_pattern_labels p bs ps ls)) (step_pattern_labels k i p bs ps ls)
unfolding pat_nest
step_pattern_labels_nests (Sign CloseBracket) i p bs ps ls = behind (λ ns. simp append_assoc refl) (close_patterns_nests CloseBracket i p (field_pats bs ps ls))
step_pattern_labels_nests (Sign CloseParen) i p bs ps ls = behind (λ ns. simp append_assoc refl) (close_patterns_nests CloseParen i p (field_pats bs ps ls))
step_pattern_labels_nests (Identifier n) i p bs ps ls = stays (λ ns. refl)
step_pattern_labels_nests _ i p bs ps ls = stopped

pub step_pattern_label_nests : (k : TokenKind) (i : Span) (p : FieldPatternsPlace) (bs : TypeBinders) (ps : Pats) (ls : LabelledPats) (x : Id) → Adds (depth (pattern_label p bs ps ls x)) (state_nests (pattern_label p bs ps ls x)) (step_pattern_label k i p bs ps ls x)
step_pattern_label_nests (Sign Equals) i p bs ps ls x = stays (λ ns. refl)
step_pattern_label_nests _ i p bs ps ls x = stopped

pub step_binders_nests : (k : TokenKind) (i : Span) (p : FieldPatternsPlace) (bs : TypeBinders) → Adds (depth (after_binders p bs)) (state_nests (after_binders p bs)) (step_binders k i p bs)
unfolding pat_nest
step_binders_nests (Sign Hash) i p bs = stays (λ ns. refl)
step_binders_nests k i p bs = step_patterns_nests k i p bs no_pats

pub step_let_pattern_nests : (k : TokenKind) (i j : Span) (q : Pat) (p : DeclarationPlace) → Adds (depth (let_pattern j q p)) (state_nests (let_pattern j q p)) (step_let_pattern k i j q p)
step_let_pattern_nests (Sign Equals) i j q p = stays (λ ns. refl)
step_let_pattern_nests _ i j q p = stopped

pub step_abstraction_pattern_nests : (k : TokenKind) (i : Span) (q : Pat) (p : AbstractionPlace) → Adds (depth (abstraction_pattern q p)) (state_nests (abstraction_pattern q p)) (step_abstraction_pattern k i q p)
step_abstraction_pattern_nests (Sign Equals) i q p = stays (λ ns. refl)
step_abstraction_pattern_nests _ i q p = stopped

step_pattern_nests : (k : TokenKind) (i : Span) (q : Pat) (p : PatternPlace) → Adds (pattern_depth p) (λ ns. pattern_nests p (pat_nest (pattern_depth p) q ++ ns)) (step_pattern k i q p)
step_pattern_nests k i q (in_let_pattern j p) = behind (put_pattern_nests q (in_let_pattern j p)).joins (step_let_pattern_nests k i j q p)
step_pattern_nests k i q (in_abstraction_pattern p) = behind (put_pattern_nests q (in_abstraction_pattern p)).joins (step_abstraction_pattern_nests k i q p)
step_pattern_nests k i q (in_fold_pattern o r p) = behind (put_pattern_nests q (in_fold_pattern o r p)).joins (step_pattern_folded_nests k i o r q p)
step_pattern_nests k i q (in_field_pattern p bs ps) = behind (put_pattern_nests q (in_field_pattern p bs ps)).joins (step_patterns_nests k i p bs (more_pats ps q))
step_pattern_nests k i q (in_label_pattern p bs ps ls x) = behind (put_pattern_nests q (in_label_pattern p bs ps ls x)).joins (step_pattern_labels_nests k i p bs ps (more_labelled_pats ls x q))

pub step_bind_nests : (k : TokenKind) (i : Span) (x : Id) (p : PatternPlace) → Adds (depth (have_bind x p)) (state_nests (have_bind x p)) (step_bind k i x p)
unfolding pat_nest
step_bind_nests (Sign Colon) i x p = stays (λ ns. refl)
step_bind_nests k i x p = step_pattern_nests k i (bind_pat x.span x None) p

pub step_any_nests : (k : TokenKind) (i j : Span) (p : PatternPlace) → Adds (depth (have_any j p)) (state_nests (have_any j p)) (step_any k i j p)
unfolding pat_nest
step_any_nests (Sign Colon) i j p = stays (λ ns. refl)
step_any_nests k i j p = step_pattern_nests k i (any_pat j None) p

pub step_pattern_name_nests : (k : TokenKind) (i : Span) (p : FieldPatternsPlace) (bs : TypeBinders) (ps : Pats) (x : Id) → Adds (depth (pattern_name p bs ps x)) (state_nests (pattern_name p bs ps x)) (step_pattern_name k i p bs ps x)
unfolding pat_nest
step_pattern_name_nests (Sign Equals) i p bs ps x = stays (λ ns. refl)
step_pattern_name_nests k i p bs ps x = step_bind_nests k i x (in_field_pattern p bs ps)

-- type binders
step_binder_nests : (k : TokenKind) (i : Span) (b : TypeBinder) (p : BinderPlace) → Adds (binder_depth p) (λ ns. binder_nests p (binder_nest (binder_depth p) b ++ ns)) (step_binder k i b p)
step_binder_nests k i b (of_patterns p bs) = behind (put_binder_nests b (of_patterns p bs)).joins (step_binders_nests k i p (more_binders bs b))
step_binder_nests k i b (of_types o bs p) = behind (put_binder_nests b (of_types o bs p)).joins (step_type_binders_nests k i o (more_binders bs b) p)

pub step_hash_nests : (k : TokenKind) (i h : Span) (p : BinderPlace) → Adds (depth (binder_hash h p)) (state_nests (binder_hash h p)) (step_hash k i h p)
step_hash_nests (Identifier n) i h p = stays (λ ns. refl)
step_hash_nests _ i h p = stopped

pub step_binder_name_nests : (k : TokenKind) (i h : Span) (x : Id) (p : BinderPlace) → Adds (depth (binder_name h x p)) (state_nests (binder_name h x p)) (step_binder_name k i h x p)
unfolding type_nest
step_binder_name_nests (Sign Colon) i h x p = stays (λ ns. refl)
step_binder_name_nests (Sign Less) i h x p = stays (λ ns. refl)
step_binder_name_nests k i h x p = step_binder_nests k i (type_binder (join h x.span) x None unbounded) p

pub step_need_kind_nests : (k : TokenKind) (i h : Span) (x : Id) (p : BinderPlace) → Adds (depth (need_kind h x p)) (state_nests (need_kind h x p)) (step_need_kind k i h x p)
unfolding marks_nest
step_need_kind_nests (Keyword TypeKind) i h x p = stays (λ ns. refl)
step_need_kind_nests (Sign OpenParen) i h x p = opens refl (λ ns. refl)
step_need_kind_nests _ i h x p = stopped

-- a mark is put behind others
marks_more : (d : ℕ) (ms : List Mark) (m : Mark) (ns : List ℕ) → marks_nest d (ms ++ m ∷ []) ++ ns ≡ marks_nest d ms ++ mark_nests d m (d ∷ ns)
unfolding marks_nest
marks_more d [] mark.Plain ns = refl
marks_more d [] mark.Plus ns = refl
marks_more d [] mark.Minus ns = refl
marks_more d (mark.Plain ∷ ms) m ns = ap (λ l. d ∷ l) (marks_more d ms m ns)
marks_more d (mark.Plus ∷ ms) m ns = ap (λ l. d ∷ d ∷ l) (marks_more d ms m ns)
marks_more d (mark.Minus ∷ ms) m ns = ap (λ l. d ∷ d ∷ l) (marks_more d ms m ns)

mark_put : (h : Span) (x : Id) (ms : List Mark) (m : Mark) (p : BinderPlace) (ns : List ℕ) → state_nests (kind_arguments h x (ms ++ m ∷ []) p) ns ≡ state_nests (kind_mark h x ms m p) (suc (binder_depth p) ∷ ns)
mark_put h x ms m p ns = ap (λ l. binder_nests p (binder_depth p ∷ (binder_depth p ∷ (binder_depth p ∷ (suc (binder_depth p) ∷ l))))) (marks_more (suc (binder_depth p)) ms m ns)

kind_arrow_nests : (h : Span) (x : Id) (ms : List Mark) (p : BinderPlace) → Adds (depth (kind_arguments h x ms p)) (state_nests (kind_arguments h x ms p)) (kind_arrow_at h x ms p)
kind_arrow_nests h x [] p = stopped
kind_arrow_nests h x (m ∷ ms) p = stays (λ ns. refl)

pub step_kind_arguments_nests : (k : TokenKind) (i h : Span) (x : Id) (ms : List Mark) (p : BinderPlace) → Adds (depth (kind_arguments h x ms p)) (state_nests (kind_arguments h x ms p)) (step_kind_arguments k i h x ms p)
step_kind_arguments_nests (Keyword TypeKind) i h x ms p = stays (λ ns. mark_put h x ms mark.Plain p ns)
step_kind_arguments_nests (Symbol symbol_name.Plus n) i h x ms p = stays (λ ns. refl)
step_kind_arguments_nests (Symbol symbol_name.Minus n) i h x ms p = stays (λ ns. refl)
step_kind_arguments_nests (Sign Arrow) i h x ms p = kind_arrow_nests h x ms p
step_kind_arguments_nests _ i h x ms p = stopped

pub step_kind_mark_nests : (k : TokenKind) (i h : Span) (x : Id) (ms : List Mark) (m : Mark) (p : BinderPlace) → Adds (depth (kind_mark h x ms m p)) (state_nests (kind_mark h x ms m p)) (step_kind_mark k i h x ms m p)
step_kind_mark_nests (Keyword TypeKind) i h x ms m p = stays (λ ns. mark_put h x ms m p ns)
step_kind_mark_nests _ i h x ms m p = stopped

pub step_kind_arrow_nests : (k : TokenKind) (i h : Span) (x : Id) (ms : List Mark) (p : BinderPlace) → Adds (depth (kind_arrow h x ms p)) (state_nests (kind_arrow h x ms p)) (step_kind_arrow k i h x ms p)
step_kind_arrow_nests (Keyword TypeKind) i h x ms p = stays (λ ns. refl)
step_kind_arrow_nests _ i h x ms p = stopped

pub step_kind_result_nests : (k : TokenKind) (i h : Span) (x : Id) (ms : List Mark) (p : BinderPlace) → Adds (depth (kind_result h x ms p)) (state_nests (kind_result h x ms p)) (step_kind_result k i h x ms p)
step_kind_result_nests (Sign CloseParen) i h x ms p = shuts (λ ns. simp append_assoc refl)
step_kind_result_nests _ i h x ms p = stopped

pub step_binder_kind_nests : (k : TokenKind) (i h : Span) (x : Id) (c : KindTree) (j : Span) (p : BinderPlace) → Adds (depth (binder_kind h x c j p)) (state_nests (binder_kind h x c j p)) (step_binder_kind k i h x c j p)
unfolding type_nest
step_binder_kind_nests (Sign Less) i h x c j p = stays (λ ns. refl)
step_binder_kind_nests k i h x c j p = behind (λ ns. simp append-nil refl) (step_binder_nests k i (type_binder (join h j) x (Some c) unbounded) p)
