-- The places of a tree lie where its tokens do: each begins with the first of its tokens and ends with the last.
use Rattle.std.proofs.Common.{◌≡◌, ℕ, ◌≤◌, List, [], ◌∷◌, ◌++◌, Some, None, inl, inr, sym, subst, arith}
use Rattle.pict_syntax.specs.declared.id.Id.{Id}
use Rattle.pict_syntax.specs.declared.name.Name.{Name}
use Rattle.pict_syntax.specs.declared.span.Span.{Span}
use Rattle.pict_syntax.specs.declared.token.Token.{Token}
use Rattle.pict_syntax.specs.declared.token.TokenKind.{TokenKind}
use Rattle.pict_syntax.specs.declared.token.TokenKind.TheVariants.{Identifier, Symbol, Keyword, Number, Character, String, Sign}
use Rattle.pict_syntax.specs.declared.token.Keyword.{Keyword as AnyKeyword}
use Rattle.pict_syntax.specs.declared.token.Keyword.TheVariants.{And, Def, Else, False, If, New, Rec, Run, Then, True, TypeDefinition, Val as ValKeyword, BoolType, CharType, IntType, StringType, TopType, TypeKind}
use Rattle.pict_syntax.specs.declared.token.Sign.{Sign as AnySign}
use Rattle.pict_syntax.specs.declared.token.Sign.TheVariants.{Bang, Question, QuestionStar, Equals, Bar, OpenParen, CloseParen, OpenBracket, CloseBracket, Colon, Semicolon, Less, Greater, Backslash, Caret, Slash, Hash, Underscore, Arrow}
use Rattle.pict_syntax.specs.declared.token.SymbolName.{SymbolName}
use Rattle.pict_syntax.specs.declared.token.SymbolName.TheVariants as symbol_name
use Rattle.pict_syntax.specs.declared.type_tree.Mark.{Mark}
use Rattle.pict_syntax.specs.declared.type_tree.Mark.TheVariants as mark
use Rattle.pict_syntax.specs.Phrases.{Phrase, nothing, ◌▸◌, at, keyword, sign, symbol, ident, name, idents, join, led, between, closed, spanning}
use Rattle.pict_syntax.specs.Grammar.{type_span, pat_span, abs_span, chan_span, val_span, proc_span, annotated_end, IsMark, AreMarks, IsKind, SomeKind, IsType, AreTypes, AreLabelledTypes, IsBinder, AreBinders, IsRType, IsPat, AreFieldPats, ArePats, AreLabelledPats, AreTypeArguments, IsDec, AreDecs, AreDefinitionsAnd, IsAbs, IsChan, IsVal, AreFieldVals, AreVals, AreLabelledVals, IsProc, AreProcsBar}
use Rattle.pict_syntax.specs.Trees.{KindTree, plain_kind, operator_kind, TypeTree, top_type, int_type, char_type, string_type, bool_type, use_type, both_type, read_type, write_type, respond_type, fields_type, apply_type, rec_type, TypeBinder, type_binder, unbounded, bound, TypeTrees, no_types, more_types, TypeBinders, no_binders, more_binders, LabelledTypes, no_labelled_types, more_labelled_types, RType, Pat, bind_pat, any_pat, fields_pat, fold_pat, FieldPats, field_pats, Pats, no_pats, more_pats, LabelledPats, no_labelled_pats, more_labelled_pats, Dec, new_dec, run_dec, let_dec, def_dec, alias_dec, operator_dec, await_dec, Decs, no_decs, more_decs, Definitions, no_definitions, more_definitions, Abs, process_abs, function_abs, Chan, use_chan, fold_chan, block_chan, apply_chan, right_chan, left_chan, Val, of_chan, number_val, character_val, string_val, true_val, false_val, fields_val, if_val, lambda_val, Vals, no_vals, more_vals, FieldVals, field_vals, LabelledVals, no_labelled_vals, more_labelled_vals, Proc, send_proc, receive_proc, serve_proc, if_proc, inert_proc, group_proc, Procs, no_procs, more_procs}
use Rattle.pict_front.proofs.Standing.{TypeStands, TypesStand, LabelledTypesStand, BinderStands, BindersStand, AnnotationStands, PatStands, FieldPatsStand, PatsStand, LabelledPatsStand, IdsStand, DecStands, DecsStand, DefinitionsStand, AbsStands, ChanStands, ValStands, ValsStand, FieldValsStand, LabelledValsStand, ProcStands, ProcsStand}

-- the place lies in the text with number n that ends at `finish`, from `low` on and up to `high`
pub record Lies (n finish low high : ℕ) (s : Span) : Type 0 where
  pub named : s.text ≡ n
  pub from : low ≤ s.start
  pub ordered : s.start ≤ s.end
  pub to : s.end ≤ high
  pub within : s.end ≤ finish

module _ (n finish : ℕ) (P : Span → Type 0) (stands : (s : Span) → s.text ≡ n → s.start ≤ s.end → s.end ≤ finish → P s) where
  abbrev In : ℕ → ℕ → Span → Type 0
  In low high s = Lies n finish low high s

  -- the tokens lie there one after the other
  abbrev pub Ascend : ℕ → ℕ → List Token → Type 0
  Ascend low high [] = low ≤ high
  Ascend low high (t ∷ ts) = In low t.span.end t.span × Ascend t.span.end high ts

  -- what the tokens of a phrase say wherever they lie
  abbrev Says : Phrase → (ℕ → ℕ → Type 0) → Type 0
  Says L X = (low high : ℕ) (ts : List Token) → L ts → Ascend low high ts → X low high

  abbrev Next : (ℕ → ℕ → Type 0) → (ℕ → ℕ → Type 0) → ℕ → ℕ → Type 0
  Next X Y low high = (mid : ℕ) × X low mid × Y mid high

  abbrev Spanned : ℕ → ℕ → Type 0
  Spanned low high = low ≤ high

  -- one place, and what is said beside it
  abbrev Stood : Span → Type 0 → ℕ → ℕ → Type 0
  Stood s Y low high = In low high s × (P s × Y)

  abbrev Lists : Type 0 → ℕ → ℕ → Type 0
  Lists Y low high = (low ≤ high) × Y

  found : (low high : ℕ) (s : Span) → In low high s → P s
  found low high s l = stands s l.named l.ordered l.within

  wider : (lower low high : ℕ) (s : Span) → lower ≤ low → In low high s → In lower high s
  wider lower low high s le l = record { named = l.named; from = omega arith; ordered = l.ordered; to = l.to; within = l.within }

  over : (low mid high : ℕ) (i e : Span) → In low mid i → In mid high e → In low high (join i e)
  over low mid high i e a b =
      record { named = a.named; from = a.from; ordered = omega (arith, a.ordered, a.to, b.from, b.ordered); to = b.to; within = b.within }

  spans : (low high : ℕ) (s : Span) → In low high s → low ≤ high
  spans low high s l = omega (arith, l.from, l.ordered, l.to)

  pub split : (low high : ℕ) (us vs : List Token) → Ascend low high (us ++ vs) → (mid : ℕ) × Ascend low mid us × Ascend mid high vs
  split low high [] vs a = (low, omega arith, a)
  split low high (u ∷ us) vs a = let r = split u.span.end high us vs a.1 in (r.0, (a.0, r.1), r.2)

  both : {X Y : ℕ → ℕ → Type 0} (L M : Phrase) → Says L X → Says M Y → Says (L ▸ M) (Next X Y)
  both L M f g low high ts (us, vs, is, l, m) a =
      let parts = split low high us vs (subst (Ascend low high) (sym is) a) in (parts.0, f low parts.0 us l parts.1, g parts.0 high vs m parts.2)

  empty : Says nothing Spanned
  empty low high ts is a = subst (Ascend low high) is a

  one : (k : TokenKind) (i : Span) → Says (at k i) (λ low high. In low high i)
  one k i low high ts is a =
      let b : In low i.end i × (i.end ≤ high) = subst (Ascend low high) is a in
      record { named = b.0.named; from = b.0.from; ordered = b.0.ordered; to = b.1; within = b.0.within }

  alone : (k : TokenKind) (s : Span) → Says (at k s) (λ low high. In low high s × P s)
  alone k s low high ts is a = let l = one k s low high ts is a in (l, found low high s l)

  keyworded : (k : AnyKeyword) → Says (keyword k) Spanned
  keyworded k low high ts (i, is) a = spans low high i (one (Keyword k) i low high ts is a)

  signed : (m : AnySign) → Says (sign m) Spanned
  signed m low high ts (i, is) a = spans low high i (one (Sign m) i low high ts is a)

  symboled : (y : SymbolName) → Says (symbol y) Spanned
  symboled y low high ts (m, i, is) a = spans low high i (one (Symbol y m) i low high ts is a)

  identified : (x : Id) → Says (ident x) (λ low high. In low high x.span × P x.span)
  identified x = alone (Identifier x.name) x.span

  named : (m : Name) (s : Span) → Says (name m s) (λ low high. In low high s × P s)
  named m s low high ts (inl is) a = alone (Identifier m) s low high ts is a
  named m s low high ts (inr (y, is)) a = alone (Symbol y m) s low high ts is a

  ids_stand : (xs : List Id) → Says (idents xs) (Lists (IdsStand P xs))
  unfolding idents
  ids_stand [] low high ts is a = (empty low high ts is a, tt)
  ids_stand (x ∷ xs) low high ts is a =
      let r = both (ident x) (idents xs) (identified x) (ids_stand xs) low high ts is a in
      let l : low ≤ r.0 = spans low r.0 x.span r.1.0 in
      (omega (arith, l, r.2.0), (r.1.1, r.2.1))

  -- ---- what stands in brackets, or begins or ends with a token

  led_stands : (s : Span) (k : TokenKind) (L : Phrase) (e : Span) {X : ℕ → ℕ → Type 0} {Y : Type 0} → Says L X → ((low high : ℕ) → X low high → In low high e × Y) → Says (led s k L e) (Stood s Y)
  led_stands s k L e f g low high ts (i, is, inner) a =
      let r = both (at k i) L (one k i) f low high ts inner a in
      let h = g r.0 high r.2 in
      let l : In low high s = subst (In low high) (sym is) (over low r.0 high i e r.1 h.0) in
      (l, (found low high s l, h.1))

  between_stands : (s : Span) (o : AnySign) (L : Phrase) (c : AnySign) {X : ℕ → ℕ → Type 0} {Y : Type 0} → Says L X → ((low high : ℕ) → X low high → (low ≤ high) × Y) → Says (between s o L c) (Stood s Y)
  between_stands s o L c f g low high ts (i, j, is, inner) a =
      let r = both (at (Sign o) i) (L ▸ at (Sign c) j) (one (Sign o) i) (both L (at (Sign c) j) f (one (Sign c) j)) low high ts inner a in
      let h = g r.0 r.2.0 r.2.1 in
      let l : In low high s = subst (In low high) (sym is) (over low r.0 high i j r.1 (wider r.0 r.2.0 high j h.0 r.2.2)) in
      (l, (found low high s l, h.1))

  closed_stands : (s b : Span) (L : Phrase) (k : TokenKind) {X : ℕ → ℕ → Type 0} {Y : Type 0} → Says L X → ((low high : ℕ) → X low high → In low high b × Y) → Says (closed s b L k) (Stood s Y)
  closed_stands s b L k f g low high ts (j, is, inner) a =
      let r = both L (at k j) f (one k j) low high ts inner a in
      let h = g low r.0 r.1 in
      let l : In low high s = subst (In low high) (sym is) (over low r.0 high b j h.0 r.2) in
      (l, (found low high s l, h.1))

  joined_stands : (s b e : Span) (L : Phrase) {X : ℕ → ℕ → Type 0} {Y : Type 0} → Says L X → ((low high : ℕ) → X low high → In low high (join b e) × Y) → Says (spanning s b e L) (Stood s Y)
  joined_stands s b e L f g low high ts (is, inner) a =
      let h = g low high (f low high ts inner a) in
      let l : In low high s = subst (In low high) (sym is) h.0 in
      (l, (found low high s l, h.1))

  -- a part behind a token or more: what it says, and where it lies
  past : {Y : Type 0} (low mid high : ℕ) (s : Span) → low ≤ mid → In mid high s × Y → In low high s × Y
  past low mid high s le h = (wider low mid high s le h.0, h.1)

  -- ---- kinds

  -- a mark is of one token, or of two
  marked : (y : SymbolName) → Says (symbol y ▸ keyword TypeKind) Spanned
  marked y low high ts is a = let r = both (symbol y) (keyword TypeKind) (symboled y) (keyworded TypeKind) low high ts is a in omega (arith, r.1, r.2)

  mark_span : (m : Mark) → Says (IsMark m) Spanned
  mark_span mark.Plain = keyworded TypeKind
  mark_span mark.Plus = marked symbol_name.Plus
  mark_span mark.Minus = marked symbol_name.Minus

  marks_span : (ms : List Mark) → Says (AreMarks ms) Spanned
  unfolding AreMarks
  marks_span [] low high ts is a = empty low high ts is a
  marks_span (m ∷ ms) low high ts is a = let r = both (IsMark m) (AreMarks ms) (mark_span m) (marks_span ms) low high ts is a in omega (arith, r.1, r.2)

  kind_stands : (k : KindTree) (j : Span) → Says (IsKind k j) (λ low high. In low high j)
  kind_stands plain_kind j = one (Keyword TypeKind) j
  kind_stands (operator_kind []) j = λ low high us is a. absurd is
  kind_stands (operator_kind (m ∷ ms)) j = λ low high us is a.
      let (p, o, (q, t, (u, w, (v, z, l)))) =
      both (sign OpenParen) _ (signed OpenParen) (both (AreMarks (m ∷ ms)) _ (marks_span (m ∷ ms)) (both (sign Arrow) _ (signed Arrow) (both (keyword TypeKind) _ (keyworded TypeKind) (one (Sign CloseParen) j)))) low high us is a in
      wider low v high j (omega (arith, o, t, w, z)) l

  some_kind : (k : KindTree) → Says (SomeKind k) Spanned
  some_kind k low high us (j, is) a = spans low high j (kind_stands k j low high us is a)

  -- ---- types

  mutual
    unfolding IsType AreTypes AreLabelledTypes IsBinder AreBinders

    type_stands : (t : TypeTree) → Says (IsType t) (λ low high. In low high (type_span t) × TypeStands P t)
    type_stands (top_type s) = alone (Keyword TopType) s
    type_stands (int_type s) = alone (Keyword IntType) s
    type_stands (char_type s) = alone (Keyword CharType) s
    type_stands (string_type s) = alone (Keyword StringType) s
    type_stands (bool_type s) = alone (Keyword BoolType) s
    type_stands (use_type s m) = alone (Identifier m) s
    type_stands (both_type s t) = led_stands s (Sign Caret) (IsType t) (type_span t) (type_stands t) (λ low high x. x)
    type_stands (read_type s t) = led_stands s (Sign Question) (IsType t) (type_span t) (type_stands t) (λ low high x. x)
    type_stands (write_type s t) = led_stands s (Sign Bang) (IsType t) (type_span t) (type_stands t) (λ low high x. x)
    type_stands (respond_type s t) = led_stands s (Sign Slash) (IsType t) (type_span t) (type_stands t) (λ low high x. x)
    type_stands (fields_type s bs ts ls) =
        between_stands s OpenBracket (AreBinders bs ▸ (AreTypes ts ▸ AreLabelledTypes ls)) CloseBracket
        (both _ _ (binders_stand bs) (both _ _ (types_stand ts) (labelled_types_stand ls)))
        (λ low high (m, b, (k, t, l)). (omega (arith, b.0, t.0, l.0), (b.1, (t.1, l.1))))
    type_stands (apply_type s x no_types) = λ low high ts is a. absurd is
    type_stands (apply_type s x (more_types ts t)) =
        between_stands s OpenParen (ident x ▸ (AreTypes ts ▸ IsType t)) CloseParen
        (both _ _ (identified x) (both _ _ (types_stand ts) (type_stands t)))
        (λ low high (m, i, (k, t', l)).
        let a : low ≤ m = spans low m x.span i.0 in
        let c : k ≤ high = spans k high (type_span t) l.0 in
        (omega (arith, a, t'.0, c), (i.1, (t'.1, l.1))))
    type_stands (rec_type s x t) =
        between_stands s OpenParen (keyword Rec ▸ (ident x ▸ (sign Equals ▸ IsType t))) CloseParen
        (both _ _ (keyworded Rec) (both _ _ (identified x) (both _ _ (signed Equals) (type_stands t))))
        (λ low high (m, r, (k, i, (j, q, l))).
        let a : m ≤ k = spans m k x.span i.0 in
        let c : j ≤ high = spans j high (type_span t) l.0 in
        (omega (arith, r, a, q, c), (i.1, l.1)))

    types_stand : (ts : TypeTrees) → Says (AreTypes ts) (Lists (TypesStand P ts))
    types_stand no_types low high us is a = (empty low high us is a, tt)
    types_stand (more_types ts t) low high us is a =
        let r = both (AreTypes ts) (IsType t) (types_stand ts) (type_stands t) low high us is a in
        let l = spans r.0 high (type_span t) r.2.0 in
        (omega (arith, r.1.0, l), (r.1.1, r.2.1))

    labelled_types_stand : (ls : LabelledTypes) → Says (AreLabelledTypes ls) (Lists (LabelledTypesStand P ls))
    labelled_types_stand no_labelled_types low high us is a = (empty low high us is a, tt)
    labelled_types_stand (more_labelled_types ls x t) low high us is a =
        let (m, r, (k, i, (j, q, l))) = both (AreLabelledTypes ls) (ident x ▸ (sign Equals ▸ IsType t)) (labelled_types_stand ls) (both _ _ (identified x) (both _ _ (signed Equals) (type_stands t))) low high us is a in
        let b : m ≤ k = spans m k x.span i.0 in
        let c : j ≤ high = spans j high (type_span t) l.0 in
        (omega (arith, r.0, b, q, c), (r.1, (i.1, l.1)))

    binder_stands : (b : TypeBinder) → Says (IsBinder b) (Lists (BinderStands P b))
    binder_stands (type_binder s x None unbounded) low high us is a =
        let r = led_stands s (Sign Hash) (ident x) x.span (identified x) (λ l h i. i) low high us is a in
        (spans low high s r.0, (r.1.0, (r.1.1, tt)))
    binder_stands (type_binder s x None (bound t)) low high us is a =
        let r = led_stands s (Sign Hash) (ident x ▸ (sign Less ▸ IsType t)) (type_span t) (both _ _ (identified x) (both _ _ (signed Less) (type_stands t)))
        (λ l h (m, i, (k, q, y)). let b : l ≤ m = spans l m x.span i.0 in (wider l k h (type_span t) (omega (arith, b, q)) y.0, (i.1, y.1))) low high us is a in
        (spans low high s r.0, (r.1.0, r.1.1))
    binder_stands (type_binder s x (Some kind) unbounded) low high us (j, is) a =
        let r = led_stands s (Sign Hash) (ident x ▸ (sign Colon ▸ IsKind kind j)) j (both _ _ (identified x) (both _ _ (signed Colon) (kind_stands kind j)))
        (λ l h (m, i, (k, q, y)). let b : l ≤ m = spans l m x.span i.0 in (wider l k h j (omega (arith, b, q)) y, i.1)) low high us is a in
        (spans low high s r.0, (r.1.0, (r.1.1, tt)))
    binder_stands (type_binder s x (Some kind) (bound t)) low high us is a =
        let r = led_stands s (Sign Hash) (ident x ▸ (sign Colon ▸ (SomeKind kind ▸ (sign Less ▸ IsType t)))) (type_span t)
        (both _ _ (identified x) (both _ _ (signed Colon) (both _ _ (some_kind kind) (both _ _ (signed Less) (type_stands t)))))
        (λ l h (m, i, (k, q, (o, d, (w, z, y)))). let b : l ≤ m = spans l m x.span i.0 in (wider l w h (type_span t) (omega (arith, b, q, d, z)) y.0, (i.1, y.1))) low high us is a in
        (spans low high s r.0, (r.1.0, r.1.1))

    binders_stand : (bs : TypeBinders) → Says (AreBinders bs) (Lists (BindersStand P bs))
    binders_stand no_binders low high us is a = (empty low high us is a, tt)
    binders_stand (more_binders bs b) low high us is a =
        let r = both (AreBinders bs) (IsBinder b) (binders_stand bs) (binder_stands b) low high us is a in (omega (arith, r.1.0, r.2.0), (r.1.1, r.2.1))

  type_arguments_stand : (ts : TypeTrees) → Says (AreTypeArguments ts) (Lists (TypesStand P ts))
  unfolding AreTypeArguments
  type_arguments_stand no_types low high us is a = (empty low high us is a, tt)
  type_arguments_stand (more_types ts t) low high us is a =
      let (m, r, (k, q, l)) = both (AreTypeArguments ts) (sign Hash ▸ IsType t) (type_arguments_stand ts) (both _ _ (signed Hash) (type_stands t)) low high us is a in
      let c : k ≤ high = spans k high (type_span t) l.0 in
      (omega (arith, r.0, q, c), (r.1, l.1))

  annotation_stands : (r : RType) → Says (IsRType r) (Lists (AnnotationStands P r))
  annotation_stands None low high us is a = (empty low high us is a, tt)
  annotation_stands (Some t) low high us is a =
      let (m, q, l) = both (sign Colon) (IsType t) (signed Colon) (type_stands t) low high us is a in
      let c : m ≤ high = spans m high (type_span t) l.0 in
      (omega (arith, q, c), l.1)

  -- what is annotated, up to its annotation's end
  annotated_stands : (i : Span) (r : RType) (low mid : ℕ) → In low mid i → (high : ℕ) (ts : List Token) → IsRType r ts → Ascend mid high ts → In low high (join i (annotated_end i r)) × AnnotationStands P r
  annotated_stands i None low mid h high ts is a =
      let le : mid ≤ high = empty mid high ts is a in
      (record { named = h.named; from = h.from; ordered = h.ordered; to = omega (arith, h.to, le); within = h.within }, tt)
  annotated_stands i (Some t) low mid h high ts is a =
      let (m, q, l) = both (sign Colon) (IsType t) (signed Colon) (type_stands t) mid high ts is a in
      (over low mid high i (type_span t) h (wider mid m high (type_span t) q l.0), l.1)

  -- ---- patterns

  mutual
    unfolding IsPat AreFieldPats ArePats AreLabelledPats

    pat_stands : (p : Pat) → Says (IsPat p) (λ low high. In low high (pat_span p) × PatStands P p)
    pat_stands (bind_pat s x r) low high ts (is, (us, vs, e, l, m)) a =
        let parts = split low high us vs (subst (Ascend low high) (sym e) a) in
        let i = identified x low parts.0 us l parts.1 in
        let h = annotated_stands x.span r low parts.0 i.0 high vs m parts.2 in
        let s' : In low high s = subst (In low high) (sym is) h.0 in
        (s', (found low high s s', (i.1, h.1)))
    pat_stands (any_pat s r) low high ts (j, (is, (us, vs, e, l, m))) a =
        let parts = split low high us vs (subst (Ascend low high) (sym e) a) in
        let i = one (Sign Underscore) j low parts.0 us l parts.1 in
        let h = annotated_stands j r low parts.0 i high vs m parts.2 in
        let s' : In low high s = subst (In low high) (sym is) h.0 in
        (s', (found low high s s', h.1))
    pat_stands (fields_pat s f) low high ts is a = between_stands s OpenBracket (AreFieldPats f) CloseBracket (field_pats_stand f) (λ l h x. x) low high ts is a
    pat_stands (fold_pat s r p) low high ts is a =
        between_stands s OpenParen (keyword Rec ▸ (IsRType r ▸ IsPat p)) CloseParen (both _ _ (keyworded Rec) (both _ _ (annotation_stands r) (pat_stands p)))
        (λ l h (m, k, (j, q, y)). let c : j ≤ h = spans j h (pat_span p) y.0 in (omega (arith, k, q.0, c), (q.1, y.1))) low high ts is a

    field_pats_stand : (f : FieldPats) → Says (AreFieldPats f) (Lists (FieldPatsStand P f))
    field_pats_stand (field_pats bs ps ls) low high ts is a =
        let (m, b, (k, p, l)) = both (AreBinders bs) (ArePats ps ▸ AreLabelledPats ls) (binders_stand bs) (both _ _ (pats_stand ps) (labelled_pats_stand ls)) low high ts is a in
        (omega (arith, b.0, p.0, l.0), (b.1, (p.1, l.1)))

    pats_stand : (ps : Pats) → Says (ArePats ps) (Lists (PatsStand P ps))
    pats_stand no_pats low high us is a = (empty low high us is a, tt)
    pats_stand (more_pats ps p) low high us is a =
        let r = both (ArePats ps) (IsPat p) (pats_stand ps) (pat_stands p) low high us is a in
        let c = spans r.0 high (pat_span p) r.2.0 in
        (omega (arith, r.1.0, c), (r.1.1, r.2.1))

    labelled_pats_stand : (ls : LabelledPats) → Says (AreLabelledPats ls) (Lists (LabelledPatsStand P ls))
    labelled_pats_stand no_labelled_pats low high us is a = (empty low high us is a, tt)
    labelled_pats_stand (more_labelled_pats ls x p) low high us is a =
        let (m, r, (k, i, (j, q, l))) = both (AreLabelledPats ls) (ident x ▸ (sign Equals ▸ IsPat p)) (labelled_pats_stand ls) (both _ _ (identified x) (both _ _ (signed Equals) (pat_stands p))) low high us is a in
        let b : m ≤ k = spans m k x.span i.0 in
        let c : j ≤ high = spans j high (pat_span p) l.0 in
        (omega (arith, r.0, b, q, c), (r.1, (i.1, l.1)))

  -- ---- declarations, abstractions, values and processes

  -- what begins with a name and goes on with values
  chained : (s : Span) (x : Id) (o : AnySign) (vs : Vals) (v w : Val) → Says (AreVals vs) (Lists (ValsStand P vs)) → Says (IsVal v) (λ low high. In low high (val_span v) × ValStands P v)
      → Says (IsVal w) (λ low high. In low high (val_span w) × ValStands P w)
      → Says (between s OpenParen (name x.name x.span ▸ (sign o ▸ (AreVals vs ▸ (IsVal v ▸ IsVal w)))) CloseParen) (Stood s (P x.span × ((ValsStand P vs × ValStands P v) × ValStands P w)))
  chained s x o vs v w first second third =
      between_stands s OpenParen (name x.name x.span ▸ (sign o ▸ (AreVals vs ▸ (IsVal v ▸ IsVal w)))) CloseParen
      (both _ _ (named x.name x.span) (both _ _ (signed o) (both _ _ first (both _ _ second third))))
      (λ l h (m, i, (k, g, (j, u, (z, y, q)))).
      let b : l ≤ m = spans l m x.span i.0 in
      let c : j ≤ z = spans j z (val_span v) y.0 in
      let d : z ≤ h = spans z h (val_span w) q.0 in
      (omega (arith, b, g, u.0, c, d), (i.1, ((u.1, y.1), q.1))))

  -- a channel, and an abstraction of what is received
  received : (s : Span) (c : Chan) (o : AnySign) (f : Abs) → Says (IsChan c) (λ low high. In low high (chan_span c) × ChanStands P c) → Says (IsAbs f) (λ low high. In low high (abs_span f) × AbsStands P f)
      → Says (spanning s (chan_span c) (abs_span f) (IsChan c ▸ (sign o ▸ IsAbs f))) (Stood s (ChanStands P c × AbsStands P f))
  received s c o f first second =
      joined_stands s (chan_span c) (abs_span f) (IsChan c ▸ (sign o ▸ IsAbs f)) (both _ _ first (both _ _ (signed o) second))
      (λ l h (m, i, (k, e, y)). (over l m h (chan_span c) (abs_span f) i.0 (wider m k h (abs_span f) e y.0), (i.1, y.1)))

  mutual
    unfolding IsDec AreDecs AreDefinitionsAnd IsAbs IsChan IsVal AreFieldVals AreVals AreLabelledVals IsProc AreProcsBar

    dec_stands : (d : Dec) → Says (IsDec d) (Lists (DecStands P d))
    dec_stands (new_dec s x t) low high ts is a =
        let r = led_stands s (Keyword New) (ident x ▸ (sign Colon ▸ IsType t)) (type_span t) (both _ _ (identified x) (both _ _ (signed Colon) (type_stands t)))
        (λ l h (m, i, (k, q, y)). let b : l ≤ m = spans l m x.span i.0 in (wider l k h (type_span t) (omega (arith, b, q)) y.0, (i.1, y.1))) low high ts is a in
        (spans low high s r.0, r.1)
    dec_stands (run_dec s p) low high ts is a =
        let r = led_stands s (Keyword Run) (IsProc p) (proc_span p) (proc_stands p) (λ l h x. x) low high ts is a in (spans low high s r.0, r.1)
    dec_stands (let_dec s p v) low high ts is a =
        let r = led_stands s (Keyword ValKeyword) (IsPat p ▸ (sign Equals ▸ IsVal v)) (val_span v) (both _ _ (pat_stands p) (both _ _ (signed Equals) (val_stands v)))
        (λ l h (m, i, (k, q, y)). let b : l ≤ m = spans l m (pat_span p) i.0 in (wider l k h (val_span v) (omega (arith, b, q)) y.0, (i.1, y.1))) low high ts is a in
        (spans low high s r.0, r.1)
    dec_stands (def_dec s no_definitions) low high ts is a = absurd is
    dec_stands (def_dec s (more_definitions ds x f)) low high ts is a =
        let r = led_stands s (Keyword Def) (AreDefinitionsAnd ds ▸ (ident x ▸ IsAbs f)) (abs_span f) (both _ _ (definitions_stand ds) (both _ _ (identified x) (abs_stands f)))
        (λ l h (m, d, (k, i, y)). let b : m ≤ k = spans m k x.span i.0 in (wider l k h (abs_span f) (omega (arith, d.0, b)) y.0, (d.1, (i.1, y.1)))) low high ts is a in
        (spans low high s r.0, r.1)
    dec_stands (alias_dec s x t) low high ts is a =
        let r = led_stands s (Keyword TypeDefinition) (ident x ▸ (sign Equals ▸ IsType t)) (type_span t) (both _ _ (identified x) (both _ _ (signed Equals) (type_stands t)))
        (λ l h (m, i, (k, q, y)). let b : l ≤ m = spans l m x.span i.0 in (wider l k h (type_span t) (omega (arith, b, q)) y.0, (i.1, y.1))) low high ts is a in
        (spans low high s r.0, r.1)
    dec_stands (operator_dec s x [] t) low high ts is a = absurd is
    dec_stands (operator_dec s x (y ∷ ys) t) low high ts is a =
        let r = led_stands s (Keyword TypeDefinition) (sign OpenParen ▸ (ident x ▸ (ident y ▸ (idents ys ▸ (sign CloseParen ▸ (sign Equals ▸ IsType t)))))) (type_span t)
        (both _ _ (signed OpenParen) (both _ _ (identified x) (both _ _ (identified y) (both _ _ (ids_stand ys) (both _ _ (signed CloseParen) (both _ _ (signed Equals) (type_stands t)))))))
        (λ l h (m, o, (k, i, (j, u, (w, v, (z, q, (c, g, f)))))).
        let b : m ≤ k = spans m k x.span i.0 in
        let d : k ≤ j = spans k j y.span u.0 in
        (wider l c h (type_span t) (omega (arith, o, b, d, v.0, q, g)) f.0, (i.1, ((u.1, v.1), f.1)))) low high ts is a in
        (spans low high s r.0, r.1)
    dec_stands (await_dec s v) low high ts is a =
        let r = closed_stands s (val_span v) (IsVal v) (Sign Semicolon) (val_stands v) (λ l h x. x) low high ts is a in (spans low high s r.0, r.1)

    pub decs_stand : (ds : Decs) → Says (AreDecs ds) (Lists (DecsStand P ds))
    decs_stand no_decs low high us is a = (empty low high us is a, tt)
    decs_stand (more_decs ds d) low high us is a =
        let r = both (AreDecs ds) (IsDec d) (decs_stand ds) (dec_stands d) low high us is a in (omega (arith, r.1.0, r.2.0), (r.1.1, r.2.1))

    definitions_stand : (ds : Definitions) → Says (AreDefinitionsAnd ds) (Lists (DefinitionsStand P ds))
    definitions_stand no_definitions low high us is a = (empty low high us is a, tt)
    definitions_stand (more_definitions ds x f) low high us is a =
        let (m, r, (k, i, (j, l, q))) = both (AreDefinitionsAnd ds) (ident x ▸ (IsAbs f ▸ keyword And)) (definitions_stand ds) (both _ _ (identified x) (both _ _ (abs_stands f) (keyworded And))) low high us is a in
        let b : m ≤ k = spans m k x.span i.0 in
        let c : k ≤ j = spans k j (abs_span f) l.0 in
        (omega (arith, r.0, b, c, q), (r.1, (i.1, l.1)))

    abs_stands : (f : Abs) → Says (IsAbs f) (λ low high. In low high (abs_span f) × AbsStands P f)
    abs_stands (process_abs s p q) low high ts is a =
        joined_stands s (pat_span p) (proc_span q) (IsPat p ▸ (sign Equals ▸ IsProc q)) (both _ _ (pat_stands p) (both _ _ (signed Equals) (proc_stands q)))
        (λ l h (m, i, (k, e, y)). (over l m h (pat_span p) (proc_span q) i.0 (wider m k h (proc_span q) e y.0), (i.1, y.1))) low high ts is a
    abs_stands (function_abs s f r v) low high ts is a =
        led_stands s (Sign OpenParen) (AreFieldPats f ▸ (sign CloseParen ▸ (IsRType r ▸ (sign Equals ▸ IsVal v)))) (val_span v)
        (both _ _ (field_pats_stand f) (both _ _ (signed CloseParen) (both _ _ (annotation_stands r) (both _ _ (signed Equals) (val_stands v)))))
        (λ l h (m, i, (k, c, (j, n', (w, e, y)))). (wider l w h (val_span v) (omega (arith, i.0, c, n'.0, e)) y.0, (i.1, (n'.1, y.1)))) low high ts is a

    chan_stands : (c : Chan) → Says (IsChan c) (λ low high. In low high (chan_span c) × ChanStands P c)
    chan_stands (use_chan s m) low high ts is a = named m s low high ts is a
    chan_stands (fold_chan s r v) low high ts is a =
        between_stands s OpenParen (keyword Rec ▸ (IsRType r ▸ IsVal v)) CloseParen (both _ _ (keyworded Rec) (both _ _ (annotation_stands r) (val_stands v)))
        (λ l h (m, k, (j, q, y)). let c : j ≤ h = spans j h (val_span v) y.0 in (omega (arith, k, q.0, c), (q.1, y.1))) low high ts is a
    chan_stands (block_chan s no_decs v) low high ts is a = absurd is
    chan_stands (block_chan s (more_decs ds d) v) low high ts is a =
        between_stands s OpenParen (AreDecs ds ▸ (IsDec d ▸ IsVal v)) CloseParen (both _ _ (decs_stand ds) (both _ _ (dec_stands d) (val_stands v)))
        (λ l h (m, k, (j, q, y)). let c : j ≤ h = spans j h (val_span v) y.0 in (omega (arith, k.0, q.0, c), ((k.1, q.1), y.1))) low high ts is a
    chan_stands (apply_chan s v f) low high ts is a =
        between_stands s OpenParen (IsVal v ▸ AreFieldVals f) CloseParen (both _ _ (val_stands v) (field_vals_stand f))
        (λ l h (m, k, y). let c : l ≤ m = spans l m (val_span v) k.0 in (omega (arith, c, y.0), (k.1, y.1))) low high ts is a
    chan_stands (right_chan s x no_vals) low high ts is a = absurd is
    chan_stands (right_chan s x (more_vals no_vals w)) low high ts is a = absurd is
    chan_stands (right_chan s x (more_vals (more_vals vs v) w)) low high ts is a = chained s x Greater vs v w (vals_stand vs) (val_stands v) (val_stands w) low high ts is a
    chan_stands (left_chan s x no_vals) low high ts is a = absurd is
    chan_stands (left_chan s x (more_vals no_vals w)) low high ts is a = absurd is
    chan_stands (left_chan s x (more_vals (more_vals vs v) w)) low high ts is a = chained s x Less vs v w (vals_stand vs) (val_stands v) (val_stands w) low high ts is a

    val_stands : (v : Val) → Says (IsVal v) (λ low high. In low high (val_span v) × ValStands P v)
    val_stands (of_chan c) low high ts is a = chan_stands c low high ts is a
    val_stands (number_val s i) low high ts is a = alone (Number i) s low high ts is a
    val_stands (character_val s b) low high ts is a = alone (Character b) s low high ts is a
    val_stands (string_val s b) low high ts is a = alone (String b) s low high ts is a
    val_stands (true_val s) low high ts is a = alone (Keyword True) s low high ts is a
    val_stands (false_val s) low high ts is a = alone (Keyword False) s low high ts is a
    val_stands (fields_val s f) low high ts is a = between_stands s OpenBracket (AreFieldVals f) CloseBracket (field_vals_stand f) (λ l h x. x) low high ts is a
    val_stands (if_val s b c d) low high ts is a =
        led_stands s (Keyword If) (IsVal b ▸ (keyword Then ▸ (IsVal c ▸ (keyword Else ▸ IsVal d)))) (val_span d)
        (both _ _ (val_stands b) (both _ _ (keyworded Then) (both _ _ (val_stands c) (both _ _ (keyworded Else) (val_stands d)))))
        (λ l h (m, i, (k, g, (j, u, (z, y, q)))).
        let p : l ≤ m = spans l m (val_span b) i.0 in
        let r : k ≤ j = spans k j (val_span c) u.0 in
        (wider l z h (val_span d) (omega (arith, p, g, r, y)) q.0, (i.1, (u.1, q.1)))) low high ts is a
    val_stands (lambda_val s f) low high ts is a = led_stands s (Sign Backslash) (IsAbs f) (abs_span f) (abs_stands f) (λ l h x. x) low high ts is a

    field_vals_stand : (f : FieldVals) → Says (AreFieldVals f) (Lists (FieldValsStand P f))
    field_vals_stand (field_vals us vs ls) low high ts is a =
        let (m, b, (k, p, l)) = both (AreTypeArguments us) (AreVals vs ▸ AreLabelledVals ls) (type_arguments_stand us) (both _ _ (vals_stand vs) (labelled_vals_stand ls)) low high ts is a in
        (omega (arith, b.0, p.0, l.0), (b.1, (p.1, l.1)))

    vals_stand : (vs : Vals) → Says (AreVals vs) (Lists (ValsStand P vs))
    vals_stand no_vals low high us is a = (empty low high us is a, tt)
    vals_stand (more_vals vs v) low high us is a =
        let r = both (AreVals vs) (IsVal v) (vals_stand vs) (val_stands v) low high us is a in
        let c = spans r.0 high (val_span v) r.2.0 in
        (omega (arith, r.1.0, c), (r.1.1, r.2.1))

    labelled_vals_stand : (ls : LabelledVals) → Says (AreLabelledVals ls) (Lists (LabelledValsStand P ls))
    labelled_vals_stand no_labelled_vals low high us is a = (empty low high us is a, tt)
    labelled_vals_stand (more_labelled_vals ls x v) low high us is a =
        let (m, r, (k, i, (j, q, l))) = both (AreLabelledVals ls) (ident x ▸ (sign Equals ▸ IsVal v)) (labelled_vals_stand ls) (both _ _ (identified x) (both _ _ (signed Equals) (val_stands v))) low high us is a in
        let b : m ≤ k = spans m k x.span i.0 in
        let c : j ≤ high = spans j high (val_span v) l.0 in
        (omega (arith, r.0, b, q, c), (r.1, (i.1, l.1)))

    proc_stands : (p : Proc) → Says (IsProc p) (λ low high. In low high (proc_span p) × ProcStands P p)
    proc_stands (send_proc s c v) low high ts is a =
        joined_stands s (chan_span c) (val_span v) (IsChan c ▸ (sign Bang ▸ IsVal v)) (both _ _ (chan_stands c) (both _ _ (signed Bang) (val_stands v)))
        (λ l h (m, i, (k, e, y)). (over l m h (chan_span c) (val_span v) i.0 (wider m k h (val_span v) e y.0), (i.1, y.1))) low high ts is a
    proc_stands (receive_proc s c f) low high ts is a = received s c Question f (chan_stands c) (abs_stands f) low high ts is a
    proc_stands (serve_proc s c f) low high ts is a = received s c QuestionStar f (chan_stands c) (abs_stands f) low high ts is a
    proc_stands (if_proc s b p q) low high ts is a =
        led_stands s (Keyword If) (IsVal b ▸ (keyword Then ▸ (IsProc p ▸ (keyword Else ▸ IsProc q)))) (proc_span q)
        (both _ _ (val_stands b) (both _ _ (keyworded Then) (both _ _ (proc_stands p) (both _ _ (keyworded Else) (proc_stands q)))))
        (λ l h (m, i, (k, g, (j, u, (z, y, w)))).
        let c : l ≤ m = spans l m (val_span b) i.0 in
        let r : k ≤ j = spans k j (proc_span p) u.0 in
        (wider l z h (proc_span q) (omega (arith, c, g, r, y)) w.0, (i.1, (u.1, w.1)))) low high ts is a
    proc_stands (inert_proc s) low high ts is a =
        let r = between_stands s OpenParen nothing CloseParen {Y = Unit {0}} empty (λ l h x. (x, tt)) low high ts is a in (r.0, r.1.0)
    proc_stands (group_proc s ds no_procs) low high ts is a = absurd is
    proc_stands (group_proc s ds (more_procs ps p)) low high ts is a =
        between_stands s OpenParen (AreDecs ds ▸ (AreProcsBar ps ▸ IsProc p)) CloseParen (both _ _ (decs_stand ds) (both _ _ (procs_stand ps) (proc_stands p)))
        (λ l h (m, k, (j, q, y)). let c : j ≤ h = spans j h (proc_span p) y.0 in (omega (arith, k.0, q.0, c), (k.1, (q.1, y.1)))) low high ts is a

    procs_stand : (ps : Procs) → Says (AreProcsBar ps) (Lists (ProcsStand P ps))
    procs_stand no_procs low high us is a = (empty low high us is a, tt)
    procs_stand (more_procs ps p) low high us is a =
        let (m, r, (k, l, q)) = both (AreProcsBar ps) (IsProc p ▸ sign Bar) (procs_stand ps) (both _ _ (proc_stands p) (signed Bar)) low high us is a in
        let c : m ≤ k = spans m k (proc_span p) l.0 in
        (omega (arith, r.0, c, q), (r.1, l.1))
